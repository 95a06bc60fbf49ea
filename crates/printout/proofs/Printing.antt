-- A text that is short enough is printed whole. Assumes nothing.
use Prim.Native.Nat.{ℕ, ◌*◌, ◌≤◌, ◌<◌}
use mathlib.Core.Path.{◌≡◌, refl, sym, ap, ◌∙◌}
use mathlib.Core.List.{List, [], ◌∷◌, ◌++◌, append_assoc}
use native.Mathlib.Omega.{arith}
use lib.ListN.{length}
use lib.Dec.{ltb, nltb→le}
use Rattle.std.specs.Prelude.{Some, Result, Ok, Err}
use Rattle.words.specs.Pieces.{write}
use Rattle.words.specs.Rows.{Row, Weighed, clear, refused, weigh, settle}
use Rattle.words.proofs.Rows.{weigh-front, weigh-clear-front, weigh-clear-back, clear-cons}
use Rattle.request.specs.Request.{width}
use Rattle.request.specs.Shape.{label_count}
use Rattle.request.specs.Rows.{rows}
use Rattle.request.specs.Accepted.{Accepted}
use Rattle.request.specs.Refusal.{number_of, place_of, refusal_of, Named, answer}
use Rattle.request.specs.declared.Refusal.{Refusal}
use Rattle.request.specs.declared.Refusal.TheVariants.{Room}
use Rattle.request.proofs.Named.{NamedRows, named-says, named-none, named-row, named-++, named-of, named-rows}
use Rattle.sheet.proofs.Named.{form-named}
use Rattle.sheet.specs.Grammar.{sheet_of}
use Rattle.sheet.specs.Reader.{words_of, request_of, form_rows}
use Rattle.listing.specs.List.{asks, listing_of, request_rows, list_rows, listed_of, listing_after}
use Rattle.listing.proofs.Suffices.{listing-few, bytes-suffice}
use Rattle.printout.specs.Printout.{printout_rows, printed, printout_of}
use Rattle.listing.specs.Listing.{refusal_line}
use Rattle.listing.specs.Print.{printed_of, bytes_after}
use Rattle.listing.proofs.Prints.{prints-text}

-- a text that has room is printed, so many bytes of it
pub printed-bytes : (text bytes : List ℕ) → length text ≤ length bytes → printed_of text (length bytes) ≡ Some (length text)
printed-bytes text bytes room = sym (prints-text text bytes room).answer

-- and stands at the front
pub printed-text : (text bytes : List ℕ) → length text ≤ length bytes → bytes_after text bytes ≡ write bytes 0 text
printed-text text bytes room = sym (prints-text text bytes room).left

-- ---- the listing of a sheet, with 53,000 bytes and more

-- a listing that no row refuses is shorter
listing-fits : (s : List ℕ) → weigh (printout_rows s) ≡ clear → length (listing_of (asks s)) < 53000
unfolding printout_rows Accepted asks
listing-fits s e =
    let back = weigh-clear-back (form_rows s) _ e in
    let words = clear-cons _ _ (weigh-clear-back (rows (asks s)) _ back) in
    listing-few (request_of (sheet_of s)) (words_of (sheet_of s)) (weigh-clear-front (rows (asks s)) _ back) (nltb→le 12288 (label_count (asks s) * width (asks s)) words.0)

module _ (s : List ℕ) (room : ℕ) (enough : 53000 ≤ room) where
  -- "its 13 has place 2 for those and 3 for a listing longer than the byte buffer"
  words_row : Row
  words_row = record { number = 13; holds = ltb 12288 (label_count (asks s) * width (asks s)); place = 2 }

  bytes-row : Row
  bytes-row = record { number = 13; holds = ltb room (length (listing_of (asks s))); place = 3 }

  -- the C call has one row more
  rows_are : list_rows s room ≡ printout_rows s ++ bytes-row ∷ []
  unfolding list_rows request_rows printout_rows words_row bytes-row
  rows_are =
      ap (λ (rs : List Row). form_rows s ++ rs) (sym (append_assoc (rows (asks s)) (words_row ∷ []) (bytes-row ∷ [])))
      ∙ sym (append_assoc (form_rows s) (rows (asks s) ++ words_row ∷ []) (bytes-row ∷ []))

  -- which does not hold
  same-weight : weigh (list_rows s room) ≡ weigh (printout_rows s)
  unfolding printout_rows Accepted
  same-weight = go (weigh (printout_rows s)) refl
    where
      go : (w : Weighed) → weigh (printout_rows s) ≡ w → weigh (list_rows s room) ≡ w
      go clear e =
          let back = weigh-clear-back (form_rows s) _ e in
          let words = clear-cons _ _ (weigh-clear-back (rows (asks s)) _ back) in
          bytes-suffice s room enough (weigh-clear-front (form_rows s) _ e) (weigh-clear-front (rows (asks s)) _ back) (nltb→le 12288 (label_count (asks s) * width (asks s)) words.0)
      go (refused n p) e = ap weigh rows_are ∙ weigh-front (printout_rows s) (bytes-row ∷ []) n p e

-- ---- an answer of the C call, and what is printed for it

-- what a sheet is refused with is a refusal's number and place
refusals-named : (s : List ℕ) → NamedRows (printout_rows s)
unfolding printout_rows
refusals-named s =
    named-++ _ _ (form-named s)
    (named-++ _ _ (named-rows (asks s)) (named-row _ _ (λ _. named-of (Room 2)) named-none))

by-listing : (w : Weighed) (text bytes : List ℕ) (n : ℕ) → ◌≡◌ {A = Result ℕ Refusal} (Ok n) (answer w (length text))
    → (n ≡ length (printed w text)) × (w ≡ clear) × (settle w (write bytes 0 text) bytes ≡ write bytes 0 (printed w text))
by-listing clear text bytes n e = (cc, refl, refl)
by-listing (refused m p) text bytes n e = let z : ◌≡◌ {A = ℕ} 0 1 = cc in absurd (omega arith)

-- an answer that is a refusal says the number and the place that the table says, where those are a refusal's
err-says : (w : Weighed) (k : ℕ) (r : Refusal) → ((n p : ℕ) → w ≡ refused n p → Named n p) → ◌≡◌ {A = Result ℕ Refusal} (Err r) (answer w k) → refused (number_of r) (place_of r) ≡ w
err-says clear k r h e = let z : ◌≡◌ {A = ℕ} 0 1 = cc in absurd (omega arith)
err-says (refused m p) k r h e =
    let f : r ≡ refusal_of m p = cc in
    ap (λ (x : Refusal). refused (number_of x) (place_of x)) f ∙ named-says m p (h m p refl)

-- of whatever table: where it refuses with this number and place, the bytes are left, and their line is what is printed
by-refusal : (w : Weighed) (text bytes : List ℕ) (n p : ℕ) → refused n p ≡ w → (refusal_line n p ≡ printed w text) × (settle w (write bytes 0 text) bytes ≡ bytes)
by-refusal w text bytes n p e = (ap (λ (w : Weighed). printed w text) e, sym (ap (λ (w : Weighed). settle w (write bytes 0 text) bytes) e))

module _ (s bytes : List ℕ) (enough : 53000 ≤ length bytes) where
  -- a listing is what is printed
  pub prints-listing : (n : ℕ) → Ok n ≡ listed_of s (length bytes) → (n ≡ length (printout_of s)) × (n ≤ 53000) × (listing_after s bytes ≡ write bytes 0 (printout_of s))
  unfolding listed_of listing_after printout_of
  prints-listing n e =
      let same = same-weight s (length bytes) enough in
      let p = by-listing (weigh (printout_rows s)) (listing_of (asks s)) bytes n (e ∙ ap (λ (w : Weighed). answer w (length (listing_of (asks s)))) same) in
      let fits = listing-fits s p.1 in
      let long : n ≡ length (listing_of (asks s)) = p.0 ∙ ap (λ (w : Weighed). length (printed w (listing_of (asks s)))) p.1 in
      (p.0, omega arith, ap (λ (w : Weighed). settle w (write bytes 0 (listing_of (asks s))) bytes) same ∙ p.2)

  -- a refusal has left the bytes, and its line is what is printed
  pub prints-refusal : (r : Refusal) → Err r ≡ listed_of s (length bytes) → (refusal_line (number_of r) (place_of r) ≡ printout_of s) × (listing_after s bytes ≡ bytes)
  unfolding listed_of listing_after printout_of NamedRows
  prints-refusal r e =
      let same = same-weight s (length bytes) enough in
      let named = err-says (weigh (printout_rows s)) (length (listing_of (asks s))) r (refusals-named s) (e ∙ ap (λ (w : Weighed). answer w (length (listing_of (asks s)))) same) in
      let p = by-refusal (weigh (printout_rows s)) (listing_of (asks s)) bytes (number_of r) (place_of r) named in
      (p.0, ap (λ (w : Weighed). settle w (write bytes 0 (listing_of (asks s))) bytes) same ∙ p.1)
