-- `weigh_sizes`: each branch is its row. Assumes nothing.
use mathlib.Core.Path.{sym, ◌∙◌}
use mathlib.Core.Bool.{not}
use lib.Dec.{T}
use Rattle.std.proofs.lemmas.Result.{err_from_is_err_and}
use Rattle.words.proofs.Choices.{true-is, false-is}
use Rattle.request.specs.Rows.{outside, criteria_row}
use Rattle.request.proofs.Branches.{row-passed, sizes-2, sizes-3, sizes-4, sizes-5, sizes-clear}
use Rattle.request.proofs.weigh.weigh_sizes.Goals as goal
use Rattle.request.proofs.weigh.weigh_sizes.Goals.{Else-outside, In_ok-weigh_criteria}

-- ---- what has been found in range
-- the nodes
module _ (c : Else-outside) where
  nodes-in : T (not (outside 1 64 c.args.q.nodes))
  nodes-in = false-is (sym c.outside.ensures ∙ c.if-outside.false)

-- and the criteria
module _ (c : In_ok-weigh_criteria) where
  criteria-in : T (not (outside 2 3 c.args.q.criteria))
  criteria-in = row-passed (criteria_row c.args.q.criteria) (sym c.in_ok-weigh_criteria.ensures)

pub returns-then-outside : goal.returns-then-outside
returns-then-outside c = let q = c.args.q in
    sym (sizes-2 q.nodes q.criteria q.source q.hops (true-is (sym c.outside.ensures ∙ c.if-outside.true)))

pub returns-in_err-weigh_criteria : goal.returns-in_err-weigh_criteria
returns-in_err-weigh_criteria c = let q = c.args.q in
    let p = err_from_is_err_and c.from_residual.result c.from_residual.ensures.1 in
    rw (p.1, p.2) (sym (sizes-3 q.nodes q.criteria q.source q.hops _ _ (nodes-in (goal.at.returns-in_err-weigh_criteria c).Else-outside) (sym c.in_err-weigh_criteria.ensures)))

pub returns-then-q : goal.returns-then-q
returns-then-q c = let q = c.args.q in
    let h = goal.at.returns-then-q c in
    sym (sizes-4 q.nodes q.criteria q.source q.hops (nodes-in h.Else-outside) (criteria-in h.In_ok-weigh_criteria) c.if-q.true)

pub returns-then-outside-2 : goal.returns-then-outside-2
returns-then-outside-2 c = let q = c.args.q in
    let h = goal.at.returns-then-outside-2 c in
    sym (sizes-5 q.nodes q.criteria q.source q.hops (nodes-in h.Else-outside) (criteria-in h.In_ok-weigh_criteria) c.if-q.false (true-is (sym c.outside-2.ensures ∙ c.if-outside-2.true)))

pub returns : goal.returns
returns c = let q = c.args.q in
    let h = goal.at.returns c in
    sym (sizes-clear q.nodes q.criteria q.source q.hops (nodes-in h.Else-outside) (criteria-in h.In_ok-weigh_criteria) c.if-q.false (false-is (sym c.outside-2.ensures ∙ c.if-outside-2.false)))
