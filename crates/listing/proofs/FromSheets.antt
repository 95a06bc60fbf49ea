-- The listing of a sheet by its refusal table: after the reader. Assumes nothing.
use Prim.Native.Nat.{ℕ, ◌≤◌}
use mathlib.Core.Path.{◌≡◌, refl, sym, ap, ap₂, ◌∙◌}
use mathlib.Core.List.{List}
use native.Mathlib.Omega.{arith}
use lib.ListN.{length, take}
use Rattle.std.specs.Prelude.{Ok, Err}
use Rattle.words.specs.Pieces.{write}
use Rattle.words.specs.Rows.{Weighed, clear, refused, weigh, settle}
use Rattle.words.proofs.Rows.{weigh-append, weigh-front, weigh-passed, weigh-none, weigh-clear-front, refused-not-clear}
use Rattle.request.specs.declared.Refusal.{Refusal}
use Rattle.request.specs.Request.{asked}
use Rattle.request.proofs.Tests.{lt-fails}
use Rattle.request.specs.Refusal.{number_of, place_of, answer}
use Rattle.request.proofs.Named.{refusal-of}
use Rattle.sheet.specs.declared.Reading.{Reading}
use Rattle.sheet.specs.Grammar.{sheet_of}
use Rattle.sheet.specs.Reader as reader
use Rattle.sheet.proofs.Clear.{told-clear}
use Rattle.sheet.proofs.Told.{read_told, read-refused-told}
use Rattle.listing.specs.List.{asks, listing_of, request_rows, list_rows, request_listed, request_after, listed_of, listing_after}
use Rattle.listing.proofs.Rooms.{words-few}

module _ (s buffer : List ℕ) (room : length buffer ≡ 2560) where
  -- the reader's 13 does not hold
  form-decides : weigh (reader.form_rows s) ≡ clear → weigh (reader.reader_rows s (length buffer)) ≡ clear
  form-decides e =
      let w : length (reader.words_of (sheet_of s)) ≤ length buffer = omega (arith, words-few s) in
      weigh-append (reader.form_rows s) _ e ∙ weigh-passed _ _ (lt-fails w) ∙ weigh-none

  -- so its refusals are those of the form
  form-refused : (n p : ℕ) → weigh (reader.reader_rows s (length buffer)) ≡ refused n p → weigh (reader.form_rows s) ≡ refused n p
  form-refused n p e = go (weigh (reader.form_rows s)) refl
    where
      go : (w : Weighed) → weigh (reader.form_rows s) ≡ w → weigh (reader.form_rows s) ≡ refused n p
      go clear f = absurd (refused-not-clear n p (sym e ∙ form-decides f))
      go (refused m q) f = f ∙ sym (weigh-front (reader.form_rows s) _ m q f) ∙ e

  module _ (bytes : List ℕ) where
    -- a refusal of the reader is the answer, and the bytes are as they came
    pub sheet-refused : (r : Refusal) → reader.said (Err r) ≡ reader.read_says s (length buffer) → (Err r ≡ listed_of s (length bytes)) × (bytes ≡ listing_after s bytes)
    unfolding listed_of listing_after list_rows
    sheet-refused r e =
        let w : weigh (list_rows s (length bytes)) ≡ refused (number_of r) (place_of r) =
        weigh-front (reader.form_rows s) (request_rows (asks s) (length bytes)) (number_of r) (place_of r) (form-refused (number_of r) (place_of r) (read-refused-told s buffer r e).0) in
        (ap Err (sym (refusal-of r)) ∙ sym (ap (λ (x : Weighed). answer x (length (listing_of (asks s)))) w), sym (ap (λ (x : Weighed). settle x (write bytes 0 (listing_of (asks s))) bytes) w))

    module _ (r : Reading) (e : reader.said (Ok r) ≡ reader.read_says s (length buffer)) where
      -- a sheet that was read has a good form
      form-clear : weigh (reader.form_rows s) ≡ clear
      unfolding reader.read_says
      form-clear = weigh-clear-front (reader.form_rows s) _ (told-clear (weigh (reader.reader_rows s (length buffer))) (length (reader.words_of (sheet_of s))) r.words (sym e)).0

      -- its request decides
      pub sheet-listed : request_listed (asks s) (length bytes) ≡ listed_of s (length bytes)
      unfolding request_listed listed_of list_rows
      sheet-listed = sym (ap (λ (x : Weighed). answer x (length (listing_of (asks s)))) (weigh-append (reader.form_rows s) (request_rows (asks s) (length bytes)) form-clear))

      -- so do its bytes
      pub sheet-after : request_after (asks s) bytes ≡ listing_after s bytes
      unfolding request_after listing_after list_rows
      sheet-after = sym (ap (λ (x : Weighed). settle x (write bytes 0 (listing_of (asks s))) bytes) (weigh-append (reader.form_rows s) (request_rows (asks s) (length bytes)) form-clear))

      -- and what was read is that request
      pub sheet-asks : (arcs : List ℕ) → r.request ≡ reader.read_request s (length buffer) → arcs ≡ reader.arcs_after s buffer → asked r.request (take r.words arcs) ≡ asks s
      unfolding asks
      sheet-asks arcs f g =
          let t = read_told s buffer r.words e in
          ap₂ asked (f ∙ t.request ∙ sym (ap reader.request_of t.sheet.so)) (ap (take r.words) g ∙ t.stored ∙ sym (ap reader.words_of t.sheet.so))

      -- as many words as there are
      pub sheet-words : r.words ≤ 2560
      sheet-words = let t = read_told s buffer r.words e in omega (arith, t.count, t.sheet.fits)
