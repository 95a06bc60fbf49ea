-- Document 01, "Reading a route back": what each kind of label needs, and the chain from a label back to the start. It trusts nothing in the
-- words of the table. Assumes nothing.
use Rattle.std.specs.Prelude.{ℕ, zero, suc, ◌-◌, Bool, true, false, cond, not, ◌||◌, ◌&&◌, List, [], ◌∷◌, ◌++◌, replicate, leb, ltb, eqb}
use Rattle.request.specs.Request.{Req, arc_count, tail, head, arc_costs, reach}
use Rattle.request.specs.Shape.{cells}
use Rattle.rounds.specs.Label.{costs, step, from, filled, sum}
use Rattle.rounds.specs.Rounds.{label_in}

-- the same costs
unfoldable pub same : List ℕ → List ℕ → Bool
same [] [] = true
same [] (y ∷ ys) = false
same (x ∷ xs) [] = false
same (x ∷ xs) (y ∷ ys) = eqb x y && same xs ys

-- how a chain ends: the arcs in travel order, or the layer in which it breaks
pub data Chain : Type 0 where
  whole : List ℕ → Chain
  broken : ℕ → Chain

-- one arc more at the end of a whole chain
abbrev pub push : ℕ → Chain → Chain
push a (whole ws) = whole (ws ++ a ∷ [])
push a (broken i) = broken i

-- "A start holds only in layer 0 at the source's cell 0 with costs 0 and from 0"
unfoldable pub start_holds : Req → ℕ → List ℕ → ℕ → ℕ → Bool
start_holds R i l v c = eqb (step R l) 1 && eqb i 0 && eqb v R.source && eqb c 0 && eqb (from R l) 0 && same (costs R l) (replicate R.criteria 0)

-- costs xs agree with ys, which the label reached asks for, "with an empty one reached, the break is in that one's layer"
unfoldable pub agrees : Req → List ℕ → List ℕ → List ℕ → Bool
agrees R xs reached ys = not (filled R reached) || same xs ys

-- "A kept label needs a layer before, from 0 and the same costs there": as far as it is its own fault
unfoldable pub kept_holds : Req → ℕ → List ℕ → List ℕ → Bool
kept_holds R i l reached = eqb (step R l) 2 && ltb 0 i && eqb (from R l) 0 && agrees R (costs R l) reached (costs R reached)

-- "An arc label needs a layer before, an arc below M with this head, a from below C, and costs equal to the earlier label's plus the arc's,
-- summed without wrap": as far as it is its own fault
unfoldable pub arc_holds : Req → ℕ → List ℕ → ℕ → ℕ → List ℕ → Bool
arc_holds R i l v a reached =
    leb 3 (step R l) && ltb 0 i && ltb a (arc_count R) && eqb (head R a) v && ltb (from R l) (cells R)
    && agrees R (costs R l) reached (sum (costs R reached) (arc_costs R a))

-- "The label reached must hold in turn; an empty one doesn't. Else the chain is broken, in the layer of the first label that fails, going back
-- from the asked one": the chain of a label, over at most n labels
unfoldable pub chain_in : Req → List ℕ → ℕ → ℕ → ℕ → ℕ → Chain
chain_in R W zero i v c = broken i
chain_in R W (suc n) i v c =
    let l = label_in R W i v c in
    let a = step R l - 3 in
    let kept = chain_in R W n (i - 1) v c in
    let came = push a (chain_in R W n (i - 1) (tail R a) (from R l)) in
    let third = cond (arc_holds R i l v a (label_in R W (i - 1) (tail R a) (from R l))) came (broken i) in
    let second = cond (kept_holds R i l (label_in R W (i - 1) v c)) kept third in
    cond (start_holds R i l v c) (whole []) second

-- layers fall, so one label more than the reach is enough
unfoldable pub chain : Req → List ℕ → ℕ → ℕ → ℕ → Chain
chain R W i v c = chain_in R W (suc (reach R)) i v c
