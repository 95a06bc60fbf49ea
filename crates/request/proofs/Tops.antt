-- Arc costs, the largest of them, and ladder tops. Assumes nothing.
use Prim.Native.Nat.{ℕ, ◌+◌, ◌≤◌, ◌<◌, zero-le, max}
use mathlib.Core.Path.{◌≡◌, ap, ◌∙◌}
use native.Mathlib.Nat.{le_trans, le-max_left, le-max_right, max-le, mul-le-mul}
use native.Mathlib.Omega.{arith}
use lib.ListN.{length, get_or, length-drop}
use lib.Seq.{get_or-drop}
use Rattle.words.specs.Pieces.{at}
use Rattle.words.proofs.Loops.{up_to-keeps, up_to-sets}
use Rattle.words.proofs.Pieces.{at_length}
use Rattle.fences.proofs.Fences.{buckets-is}
use Rattle.request.specs.Request.{Req, width, arc_count, arc, arc_costs, reach, ratio_p, ratio_q}
use Rattle.request.specs.Shape.{largest_of, largest, top, buckets}
use Rattle.request.specs.Accepted.{Regular, Small}

-- cost j of arc a among the arc's words
pub cost-at : (R : Req) (a j : ℕ) → get_or (arc_costs R a) j 0 ≡ get_or (arc R a) (j + 2) 0
unfolding arc_costs
cost-at R a j = get_or-drop 2 (arc R a) j 0 ∙ (let e : 2 + j ≡ j + 2 = omega arith in ap (λ (k : ℕ). get_or (arc R a) k 0) e)

module _ (R : Req) (ok : Regular R) where
  pub arc-words : (a : ℕ) → a < arc_count R → length (arc R a) ≡ width R
  unfolding arc
  arc-words a l = at_length (width R) R.arcs (arc_count R) ok.whole a l

  pub arc-length : (a : ℕ) → a < arc_count R → length (arc_costs R a) ≡ R.criteria
  unfolding arc_costs
  arc-length a l = length-drop 2 (arc R a) ∙ omega (arith, arc-words a l)

-- no arc's cost is over the largest
pub arc-le : (R : Req) (a : ℕ) → a < arc_count R → (j : ℕ) → get_or (arc_costs R a) j 0 ≤ largest R j
unfolding largest largest_of arc
arc-le R a l j =
    rw (cost-at R a j)
    (up_to-sets (λ k m. max m (get_or (at (width R) R.arcs k) (j + 2) 0)) (λ _. Unit {0}) (λ m. get_or (at (width R) R.arcs a) (j + 2) 0 ≤ m) 0 (arc_count R) a l tt
    (λ _ _ _ _. tt) (λ m _. le-max_right m _) (λ k m _ _ h. le_trans h (le-max_left m _)))

module _ (R : Req) (small : Small R) where
  pub largest-le : (j : ℕ) → j < R.criteria → largest R j ≤ 1000000
  unfolding largest largest_of arc
  largest-le j l =
      up_to-keeps (λ k m. max m (get_or (at (width R) R.arcs k) (j + 2) 0)) (λ _ m. m ≤ 1000000) 0 (arc_count R) zero-le
      (λ k m h e. max-le e (rw (cost-at R k j) at (small.cost_small k j h l)))

  pub top-le : (j : ℕ) → j < R.criteria → top R j ≤ 63000000
  unfolding top reach
  top-le j l = mul-le-mul small.hops_few (largest-le j l)

-- there is always a bucket
pub buckets-pos : (R : Req) (j : ℕ) → 0 < buckets R j
unfolding buckets
buckets-pos R j = let e = buckets-is (ratio_p R j) (ratio_q R j) (top R j) in omega arith
