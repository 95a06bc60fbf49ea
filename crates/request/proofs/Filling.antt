-- One ladder more, after those that stand at the front of the buffer. Assumes nothing.
use Prim.Native.Nat.{ℕ, ◌+◌, ◌*◌, ◌≤◌, ◌<◌}
use mathlib.Core.Path.{◌≡◌, sym, ap, ◌∙◌}
use mathlib.Core.List.{List, ◌++◌}
use native.Mathlib.Omega.{arith}
use lib.ListN.{length, get_or, take, drop}
use Rattle.words.specs.Loops.{total}
use Rattle.words.specs.Pieces.{part, write, join}
use Rattle.words.proofs.Loops.{total-next, total_mono}
use Rattle.words.proofs.Pieces.{join-next, join-total}
use Rattle.words.proofs.Writes.{length_part, length-write, lent-behind}
use Rattle.fences.specs.Fence.{fences}
use Rattle.fences.proofs.Ladders.{fences-length}

module _ (ratios counts : List ℕ) where
  -- the words of ladder j, and how many they are
  abbrev pub ladder_of : ℕ → List ℕ
  ladder_of j = fences (get_or ratios (j * 2) 0) (get_or ratios (j * 2 + 1) 0) (get_or counts j 0 + 1)

  abbrev pub long_of : ℕ → ℕ
  long_of j = get_or counts j 0 + 1

  pub ladders-long : (j : ℕ) → length (join ladder_of j) ≡ total long_of j
  ladders-long j = join-total ladder_of long_of (λ i. fences-length (get_or ratios (i * 2) 0) (get_or ratios (i * 2 + 1) 0) (get_or counts i 0 + 1)) j

  -- there is room for ladder j
  pub room_for : (j graded room at : ℕ) → j < graded → at ≡ total long_of j → total long_of graded ≤ room → at + get_or counts j 0 + 1 ≤ room
  room_for j graded room at l e h =
      let n = total-next long_of j in
      let m : total long_of (j + 1) ≤ total long_of graded = total_mono long_of (omega arith) in
      omega arith

  -- ladder j, written after those before it
  pub one_more : (xs₀ xs ys : List ℕ) (j at k : ℕ) → xs ≡ write xs₀ 0 (join ladder_of j) → at ≡ total long_of j → at + k ≤ length xs₀ → k ≡ long_of j
      → ys ≡ fences (get_or ratios (j * 2) 0) (get_or ratios (j * 2 + 1) 0) (length (part xs at k))
      → take at xs ++ (ys ++ drop k (drop at xs)) ≡ write xs₀ 0 (join ladder_of (j + 1))
  one_more xs₀ xs ys j at k e e-at room e-k e-ys =
      let same : length xs ≡ length xs₀ = ap length e ∙ length-write xs₀ 0 (join ladder_of j) in
      let size : length (part xs at k) ≡ k = length_part xs at k (rw same room) in
      let new : ys ≡ ladder_of j = e-ys ∙ ap (fences (get_or ratios (j * 2) 0) (get_or ratios (j * 2 + 1) 0)) (size ∙ e-k) in
      let long : length ys ≡ k = ap length new ∙ fences-length (get_or ratios (j * 2) 0) (get_or ratios (j * 2 + 1) 0) (get_or counts j 0 + 1) ∙ sym e-k in
      let place : at ≡ 0 + length (join ladder_of j) = omega (arith, ladders-long j) in
      lent-behind xs₀ xs (join ladder_of j) ys 0 at k e place room long
      ∙ ap (λ (l : List ℕ). write xs₀ 0 (join ladder_of j ++ l)) new
      ∙ ap (write xs₀ 0) (sym (join-next ladder_of j))
