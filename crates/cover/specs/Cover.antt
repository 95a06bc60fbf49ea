-- Demand 3: what it is to cover a walk, and the route that a label's chain names. Assumes nothing.
use Rattle.std.specs.Prelude.{ℕ, zero, suc, ◌+◌, ◌-◌, ◌*◌, ◌^◌, ◌≤◌, ◌<◌, ◌≡◌, cond, List, [], ◌∷◌, ◌++◌, length, get_or, T, leb}
use Rattle.request.specs.Request.{Req, last, tail, ratio_p, ratio_q}
use Rattle.request.specs.Shape.{cells}
use Rattle.rounds.specs.Label.{costs, step, from, filled}
use Rattle.rounds.specs.Rounds.{label_at}
use Rattle.cover.specs.Walk.{Walk, sums}

-- costs ys cover the costs xs of a walk of h arcs: the "last cost is no greater" and "every other cost, times q^h, is at most (p+q)^h times the
-- walk's, for that criterion's ratio p over q"
pub record Covers (R : Req) (h : ℕ) (xs ys : List ℕ) : Type 0 where
  pub last_cost : last R.criteria ys ≤ last R.criteria xs
  pub other_costs : (j : ℕ) → j < R.graded → get_or ys j 0 * ratio_q R j ^ h ≤ (ratio_p R j + ratio_q R j) ^ h * get_or xs j 0

-- "Layer i holds a label at that camp" v that covers costs xs with the power h
pub record Holds (R : Req) (i v h : ℕ) (xs : List ℕ) : Type 0 where
  pub cell : ℕ
  pub inside : cell < cells R
  pub full : T (filled R (label_at R i v cell))
  pub covers : Covers R h xs (costs R (label_at R i v cell))

-- the arcs that the chain of the label of layer i, node v, cell c names, in travel order
unfoldable pub route : Req → ℕ → ℕ → ℕ → List ℕ
route R zero v c = []
route R (suc i) v c =
    let l = label_at R (suc i) v c in
    let came = route R i (tail R (step R l - 3)) (from R l) ++ (step R l - 3) ∷ [] in
    let kept = route R i v c in
    cond (leb 3 (step R l)) came kept

-- the label of layer i, node v, cell c "reads back as a walk from the source, at most i arcs long, with exactly those sums"
pub record ReadsBack (R : Req) (i v c : ℕ) : Type 0 where
  pub walk : Walk R R.source (route R i v c) v
  pub short : length (route R i v c) ≤ i
  pub exact : costs R (label_at R i v c) ≡ sums R (route R i v c)
