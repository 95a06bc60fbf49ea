-- Printing a text: it is longer than the lent bytes, or it stands in front of them. Assumes nothing.
use Prim.Native.Nat.{ℕ, ◌+◌, ◌≤◌, ◌<◌}
use mathlib.Core.Path.{◌≡◌, refl, ap, ◌∙◌}
use mathlib.Core.List.{List, [], ◌∷◌}
use native.Mathlib.Omega.{arith}
use lib.ListN.{length, length-append}
use borrow.Author.Tests.{lt-ltb, le-ltb}
use Rattle.std.specs.Prelude.{Option, None, Some}
use Rattle.words.specs.Pieces.{write}
use Rattle.words.proofs.Writes.{write-append}
use Rattle.text.specs.Line.{parted_width}
use Rattle.text.proofs.Digits.{width_word}
use Rattle.text.proofs.Puts.{line-width}
use Rattle.request.specs.Request.{Req}
use Rattle.sheet.specs.Grammar.{tab}
use Rattle.listing.specs.Print.{printed_of, bytes_after}
use Rattle.listing.specs.Listing.{cover_line, label_lines, listing_text, refused_word, refusal_line}

-- what printing a text answers, and leaves in the lent bytes
pub record Prints (text bytes : List ℕ) (p : Option ℕ) (after : List ℕ) : Type 0 where
  pub answer : p ≡ printed_of text (length bytes)
  pub left : after ≡ bytes_after text bytes

module _ (text bytes : List ℕ) where
  -- a longer text leaves them as they came
  pub prints-longer : length bytes < length text → Prints text bytes None bytes
  unfolding printed_of bytes_after
  prints-longer h = let e = lt-ltb (length bytes) (length text) h in record { answer = rw e refl; left = rw e refl }

  -- any other is written
  pub prints-text : length text ≤ length bytes → Prints text bytes (Some (length text)) (write bytes 0 text)
  unfolding printed_of bytes_after
  prints-text h = let e = le-ltb (length bytes) (length text) h in record { answer = rw e refl; left = rw e refl }

module _ (R : Req) (W : List ℕ) (tries : ℕ) where
  -- the cover and the labels take so many bytes
  pub listing-length : length (listing_text R W tries) ≡ length (cover_line R W tries) + length (label_lines R W)
  unfolding listing_text
  listing-length = length-append (cover_line R W tries) (label_lines R W)

  -- one after the other they are the listing
  pub listing-put : (l l₁ l₂ : List ℕ) (a : ℕ) → a ≡ length (cover_line R W tries) → l₁ ≡ write l 0 (cover_line R W tries) → l₂ ≡ write l₁ a (label_lines R W) → l₂ ≡ write l 0 (listing_text R W tries)
  unfolding listing_text
  listing-put l l₁ l₂ a e p q =
      let z : a ≡ 0 + length (cover_line R W tries) = omega arith in
      q ∙ ap (λ (x : List ℕ). write x a (label_lines R W)) p ∙ ap (λ (k : ℕ). write (write l 0 (cover_line R W tries)) k (label_lines R W)) z ∙ write-append l 0 (cover_line R W tries) (label_lines R W)

-- the line of a refusal takes at most 30 bytes
pub line-short : (n p : ℕ) → n < 4294967296 → p < 4294967296 → length (refusal_line n p) ≤ 30
unfolding refusal_line parted_width
line-short n p hn hp = omega (arith, line-width tab refused_word (n ∷ p ∷ []), width_word n hn, width_word p hp)
