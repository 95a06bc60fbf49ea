-- A loop over the whole chunks of a list: the chunk that comes is the piece at its place. Assumes nothing.
use Prim.Native.Nat.{ℕ, ◌+◌, ◌-◌, ◌*◌, ◌/◌, ◌≤◌, ◌<◌}
use mathlib.Core.Path.{◌≡◌, sym, ap, ◌∙◌}
use mathlib.Core.List.{List, ◌++◌}
use native.Mathlib.Nat.{zero-mul, suc-mul, div-lt_iff_lt-mul}
use native.Mathlib.Omega.{arith}
use lib.ListN.{length, take, drop, length-append, length-drop}
use lib.Seq.{take-append_seam, drop-append_seam, drop-drop}
use Rattle.std.proofs.lemmas.Nat.{le-div}
use Rattle.words.specs.Pieces.{at}

-- before the first chunk all is left
pub none_taken : (w : ℕ) (xs : List ℕ) → xs ≡ drop (0 * w) xs
none_taken w xs = sym (ap (λ (n : ℕ). drop n xs) (zero-mul w))

-- with k chunks taken: the next is piece k, and what is left then begins behind it
module _ (w k : ℕ) (xs left chunk later : List ℕ) (front : left ≡ drop (k * w) xs) (cut : left ≡ chunk ++ later) (long : length chunk ≡ w) where
  pub chunk-at : chunk ≡ at w xs k
  unfolding at
  chunk-at = sym (take-append_seam chunk later) ∙ ap (λ (n : ℕ). take n (chunk ++ later)) long ∙ ap (take w) (sym cut ∙ front)

  pub left-next : later ≡ drop ((k + 1) * w) xs
  left-next =
      sym (drop-append_seam chunk later) ∙ ap (λ (n : ℕ). drop n (chunk ++ later)) long ∙ ap (drop w) (sym cut ∙ front)
      ∙ drop-drop w (k * w) xs ∙ (let e : k * w + w ≡ (k + 1) * w = omega (arith, suc-mul k w) in ap (λ (n : ℕ). drop n xs) e)

  -- it is one of the whole chunks
  pub chunk-inside : 0 < w → k < length xs / w
  chunk-inside pos =
      let a : length (drop (k * w) xs) ≡ length chunk + length later = ap length (sym front ∙ cut) ∙ length-append chunk later in
      let b : length (drop (k * w) xs) ≡ length xs - k * w = length-drop (k * w) xs in
      let c = suc-mul k w in
      let most = le-div (k + 1) (length xs) w pos (omega arith) in
      omega arith

-- less than a chunk is left: all the whole ones were taken
pub all_taken : (w k : ℕ) (xs left : List ℕ) → 0 < w → left ≡ drop (k * w) xs → length left < w → length xs / w ≤ k
all_taken w k xs left pos front few =
    let a : length left ≡ length xs - k * w = ap length front ∙ length-drop (k * w) xs in
    let b = suc-mul k w in
    let c : length xs / w < k + 1 = (div-lt_iff_lt-mul pos).1 (omega arith) in
    omega arith
