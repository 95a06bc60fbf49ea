-- Fronts: of a text into which something was written, and of bytes that a read goes on to fill.
use Rattle.std.proofs.Common.{ℕ, List, ◌≡◌, ◌+◌, ◌≤◌, ◌++◌, length, take, sym, ap, ◌∙◌, arith, le_refl, drop_at, length-take-le}
use Rattle.std.proofs.lemmas.Slice.{take-put_mid_below}
use borrow.Rule.Slice.PartMut.{put_mid, post_of}
use lib.Seq.{take-append-le, take-add}
use Rattle.words.specs.Pieces.{write}
use Rattle.words.proofs.Writes.{part-write-same}

-- what was written at the front of a text stands there
pub front-written : (text before written : List ℕ) (n : ℕ) → text ≡ write before 0 written → n ≡ length written → length written ≤ length before → take n text ≡ written
front-written text before written n t e fits = ap (λ (k : ℕ). take k text) e ∙ ap (take (length written)) t ∙ part-write-same before 0 written (omega (arith, fits))

-- bytes that were filled up to a, with n more behind: the front and then those are filled
pub front-read : (xs ys : List ℕ) (a k n : ℕ) → a ≤ length xs → n ≤ length ys → take a xs ++ take n ys ≡ take (a + n) (put_mid a k xs ys)
front-read xs ys a k n within fits =
    let rest = post_of a k xs in
    let more = ap (take n) (drop_at (take a xs) (ys ++ rest) a (length-take-le a xs within)) ∙ take-append-le n ys rest fits in
    ap (λ (l : List ℕ). l ++ take n ys) (sym (take-put_mid_below a k xs ys a (le_refl a) within)) ∙ ap (λ (l : List ℕ). take a (put_mid a k xs ys) ++ l) (sym more) ∙ sym (take-add a n (put_mid a k xs ys))
