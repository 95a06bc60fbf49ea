-- Cell numbers, once over the number of criteria: in range, and one cell means one position in each criterion. Assumes nothing.
use Prim.Native.Nat.{ℕ, ◌+◌, ◌*◌, ◌≤◌, ◌<◌, zero-le}
use mathlib.Core.Path.{◌≡◌, ap}
use mathlib.Core.List.{List}
use native.Mathlib.Omega.{arith}
use lib.ListN.{get_or}
use Rattle.words.proofs.Radix.{radix-lt, radix-same, radix-ext}
use Rattle.fences.specs.Fence.{fence}
use Rattle.fences.proofs.Fences.{position-lt, position-is, fence-fact, fence-zero, rises}
use Rattle.request.specs.Request.{Req, ratio_p, ratio_q}
use Rattle.request.specs.Shape.{top, buckets, position, cells, cell}
use Rattle.request.specs.Accepted.{Regular}

-- costs xs are no larger than the ladder tops
unfoldable pub UnderTop : Req → List ℕ → Type 0
UnderTop R xs = (j : ℕ) → j < R.graded → get_or xs j 0 ≤ top R j

-- the cell depends on the graded costs alone
pub cell-ext : (R : Req) (xs ys : List ℕ) → ((j : ℕ) → j < R.graded → get_or xs j 0 ≡ get_or ys j 0) → cell R xs ≡ cell R ys
unfolding cell
cell-ext R xs ys h = radix-ext (buckets R) (λ j. position R j (get_or xs j 0)) (λ j. position R j (get_or ys j 0)) R.graded (λ j l. ap (position R j) (h j l))

module _ (R : Req) (ok : Regular R) where
  pub digit_lt : (xs : List ℕ) → UnderTop R xs → (j : ℕ) → j < R.graded → position R j (get_or xs j 0) < buckets R j
  unfolding buckets UnderTop position
  digit_lt xs h j l = position-lt (ratio_p R j) (ratio_q R j) (ok.ratio_in j l) (h j l)

  pub cell-lt : (xs : List ℕ) → UnderTop R xs → cell R xs < cells R
  unfolding cell cells
  cell-lt xs h = radix-lt (buckets R) (λ j. position R j (get_or xs j 0)) R.graded (digit_lt xs h)

  pub same-cell : (xs ys : List ℕ) → UnderTop R xs → UnderTop R ys → cell R xs ≡ cell R ys
      → (j : ℕ) → j < R.graded → position R j (get_or xs j 0) ≡ position R j (get_or ys j 0)
  unfolding cell
  same-cell xs ys h k =
      radix-same (buckets R) (λ j. position R j (get_or xs j 0)) (λ j. position R j (get_or ys j 0)) R.graded (digit_lt xs h) (digit_lt ys k)

  -- THE FENCE FACT for a criterion: costs at one position are within its ratio
  pub position-near : (j x y : ℕ) → j < R.graded → position R j x ≡ position R j y → x * ratio_q R j ≤ y * (ratio_p R j + ratio_q R j)
  unfolding position
  position-near j x y l e = fence-fact (ratio_p R j) (ratio_q R j) (ok.ratio_in j l) x y e

  -- cost 0 has position 0
  pub position-none : (j : ℕ) → j < R.graded → position R j 0 ≡ 0
  unfolding position
  position-none j l =
      let q = ok.ratio_in j l in
      let e = fence-zero (ratio_p R j) (ratio_q R j) in
      position-is (ratio_p R j) (ratio_q R j) q (rw e zero-le, above (ratio_p R j) (ratio_q R j) q)
    where
      above : (p q : ℕ) → 0 < q → 0 < fence p q 1
      above p q h = let r = rises p q h 0 in omega arith
