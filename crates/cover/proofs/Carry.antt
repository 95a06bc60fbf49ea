-- A block that holds a label for some costs: low to them in the tie rule's order, and standing for them in each graded criterion in any sense N that
-- costs at one position carry over an arc. The cover is one such sense; a both-sided cover and ratio 0 are others. Assumes nothing.
use Prim.Native.Nat.{ℕ, zero, suc, ◌+◌, ◌<◌}
use mathlib.Core.Path.{◌≡◌, sym, ap, ◌∙◌, subst}
use mathlib.Core.List.{List}
use lib.ListN.{get_or, replicate}
use lib.Dec.{T}
use Rattle.words.specs.Pieces.{at}
use Rattle.request.specs.Request.{Req, width, arc_costs}
use Rattle.request.specs.Shape.{position, cells, cell}
use Rattle.request.specs.Accepted.{Regular}
use Rattle.request.proofs.Cells.{UnderTop, same-cell}
use Rattle.rounds.specs.Label.{costs, filled, sum, candidate}
use Rattle.rounds.proofs.Labels.{get_or-sum, zero-costs}
use Rattle.rounds.proofs.Ties.{Fair}
use Rattle.rounds.proofs.Node.{Good, cand}
use Rattle.rounds.proofs.Start.{cell-zero, under-zero, cells-pos}

-- x and y have one position in criterion j
abbrev pub OnePos : Req → ℕ → ℕ → ℕ → Type 0
OnePos R j x y = position R j x ≡ position R j y

-- N h j x y: after h arcs, y stands for x in criterion j
pub record Carries (R : Req) (N : ℕ → ℕ → ℕ → ℕ → Type 0) : Type 0 where
  pub first : (j y : ℕ) → j < R.graded → OnePos R j y 0 → N 0 j 0 y
  pub further : (h j x l c y : ℕ) → j < R.graded → N h j x l → OnePos R j y (l + c) → N (suc h) j (x + c) y

-- block B holds a label that stands for costs xs of h arcs
pub record Stands (R : Req) (Low : List ℕ → List ℕ → Type 0) (N : ℕ → ℕ → ℕ → ℕ → Type 0) (B : List ℕ) (h : ℕ) (xs : List ℕ) : Type 0 where
  pub where_to : ℕ
  pub inside : where_to < cells R
  pub full : T (filled R (at (width R) B where_to))
  pub low : Low xs (costs R (at (width R) B where_to))
  pub near : (j : ℕ) → j < R.graded → N h j (get_or xs j 0) (get_or (costs R (at (width R) B where_to)) j 0)

module _ (R : Req) (ok : Regular R) (Low : List ℕ → List ℕ → Type 0) (fair : Fair R.rule Low) (N : ℕ → ℕ → ℕ → ℕ → Type 0) (carries : Carries R N) where
  pub stand-first : (B : List ℕ) → Good R Low B 0 (replicate R.criteria 0) → UnderTop R (costs R (at (width R) B 0)) → cell R (costs R (at (width R) B 0)) ≡ 0
      → Stands R Low N B 0 (replicate R.criteria 0)
  stand-first B g under own = record {
    where_to = 0;
    inside = cells-pos R ok;
    full = g.full;
    low = g.low;
    near = λ j l.
        subst (λ (z : ℕ). N 0 j z (get_or (costs R (at (width R) B 0)) j 0)) (sym (zero-costs R j))
        (carries.first j _ l
        (same-cell R ok (costs R (at (width R) B 0)) (replicate R.criteria zero) under (under-zero R ok) (own ∙ sym (cell-zero R ok)) j l
        ∙ ap (position R j) (zero-costs R j)));
  }

  -- from block F, by arc a, into block B
  pub stand-arc : (F B : List ℕ) (h a : ℕ) (xs : List ℕ) (old : Stands R Low N F h xs)
      → cell R (cand R F a old.where_to) < cells R
      → UnderTop R (cand R F a old.where_to)
      → Good R Low B (cell R (cand R F a old.where_to)) (cand R F a old.where_to)
      → UnderTop R (costs R (at (width R) B (cell R (cand R F a old.where_to))))
      → cell R (costs R (at (width R) B (cell R (cand R F a old.where_to)))) ≡ cell R (cand R F a old.where_to)
      → Stands R Low N B (suc h) (sum xs (arc_costs R a))
  unfolding candidate
  stand-arc F B h a xs old in_c under g under' own =
      let l : List ℕ = at (width R) F old.where_to in
      let zs : List ℕ = candidate R a l in
      let ys : List ℕ = costs R (at (width R) B (cell R zs)) in
      record {
        where_to = cell R zs;
        inside = in_c;
        full = g.full;
        low = fair.chain _ _ _ (fair.add xs (costs R l) (arc_costs R a) old.low) g.low;
        near = λ j m.
            subst (λ (z : ℕ). N (suc h) j z (get_or ys j 0)) (sym (get_or-sum xs (arc_costs R a) j))
            (carries.further h j _ _ (get_or (arc_costs R a) j 0) (get_or ys j 0) m (old.near j m)
            (same-cell R ok ys zs under' under own j m ∙ ap (position R j) (get_or-sum (costs R l) (arc_costs R a) j)));
      }
