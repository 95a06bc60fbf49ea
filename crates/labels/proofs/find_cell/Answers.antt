-- `find_cell`. The loop's invariant: the criteria before j are found (`Upto`). Assumes nothing.
use mathlib.Core.Path.{sym, subst}
use Prim.Native.Nat.{ℕ}
use mathlib.Core.List.{List}
use lib.ListN.{get_or}
use Rattle.fences.specs.Answer.{Bracket}
use Rattle.labels.proofs.Finding.{none_yet, Here, here, lent-ladder, lent_length, found_lt, one_more}
use native.Mathlib.Omega.{arith}
use Rattle.labels.proofs.find_cell.Goals as goal
use Rattle.labels.proofs.find_cell.Goals.{In-loop-j}

-- in the loop
module _ (b : In-loop-j) where
  -- what is known of criterion j: its ladder lies in the buffer, its cost and place in theirs
  known :
      let a = b.args in
      let l = b.loop-j in
      Here a.counts a.graded a.ladders.now a.cand.now a.places.now b.requires l.places l.cell l.at l.j l.invariant b.loop-j-test.true
  known =
      let a = b.args in
      let l = b.loop-j in
      here a.counts a.graded a.ladders.now a.cand.now a.places.now b.requires l.places l.cell l.at l.j l.invariant b.loop-j-test.true

pub loop-j-init : goal.loop-j-init
loop-j-init c = none_yet c.args.counts c.args.graded c.args.ladders.now c.args.cand.now c.args.places.now c.requires

pub overflow_add-end : goal.overflow_add-end
overflow_add-end c = omega (arith, known (goal.at.overflow_add-end c).In-loop-j)

pub overflow_add-end-in-loop-j : goal.overflow_add-end-in-loop-j
overflow_add-end-in-loop-j c = omega (arith, known (goal.at.overflow_add-end-in-loop-j c).In-loop-j)

pub offset_bounds-ladders-at : goal.offset_bounds-ladders-at
offset_bounds-ladders-at c = omega (arith, known (goal.at.offset_bounds-ladders-at c).In-loop-j)

pub slice_bounds-seek-end : goal.slice_bounds-seek-end
slice_bounds-seek-end c = omega (arith, known (goal.at.slice_bounds-seek-end c).In-loop-j)

pub seek-found-requires : goal.seek-found-requires
seek-found-requires c = let a = c.args in
    let l = c.loop-j in
    let t = c.loop-j-test.true in
    let e = lent-ladder a.counts a.graded a.ladders.now a.cand.now a.places.now c.requires l.places l.cell l.at l.j l.invariant t in
    let n = lent_length a.counts a.graded a.ladders.now a.cand.now a.places.now c.requires l.places l.cell l.at l.j l.invariant t in record { bracket = subst (λ (x : List ℕ). Bracket x (get_or a.cand.now l.j 0) 0) (sym e) (c.requires.inside l.j t); hint_in_bounds = omega (arith, n, l.invariant.below l.j t) }

pub overflow_mul-cell : goal.overflow_mul-cell
overflow_mul-cell c = omega (arith, known (goal.at.overflow_mul-cell c).In-loop-j)

pub overflow_add-cell : goal.overflow_add-cell
overflow_add-cell c = let a = c.args in
    let l = c.loop-j in
    let less = found_lt a.counts a.graded a.ladders.now a.cand.now a.places.now c.requires l.places l.cell l.at l.j l.invariant c.loop-j-test.true c.seek-found.result c.seek-found.ensures in
    omega (arith, known (goal.at.overflow_add-cell c).In-loop-j, less)

pub loop-j-preserved : goal.loop-j-preserved
loop-j-preserved c = let a = c.args in
    let l = c.loop-j in
    one_more a.counts a.graded a.ladders.now a.cand.now a.places.now c.requires l.places l.cell l.at l.j l.invariant c.loop-j-test.true c.seek-found.result c.seek-found.ensures
