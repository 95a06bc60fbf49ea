-- `weigh_asked`: the first of its four weighings that refuses decides. Assumes nothing.
use Prim.Native.Nat.{◌+◌}
use mathlib.Core.Path.{sym}
use lib.ListN.{length}
use Rattle.std.proofs.lemmas.Result.{err_from_is_err_and}
use Rattle.words.proofs.Rows.{clear-cons}
use Rattle.request.proofs.Accepted.{Sizes, sizes-facts, words-facts}
use Rattle.request.proofs.Stages.{by-sizes, by-ratios, by-words, by-arcs}
use native.Mathlib.Omega.{arith}
use Rattle.request.proofs.weigh.weigh_asked.Goals as goal
use Rattle.request.proofs.weigh.weigh_asked.Goals.{In_ok-weigh_sizes}

-- rows 2 to 5 are clear: the sizes are in range
sizes : (c : In_ok-weigh_sizes) → Sizes c.args.q.nodes c.args.q.criteria c.args.q.source c.args.q.hops
sizes c = sizes-facts c.args.q.nodes c.args.q.criteria c.args.q.source c.args.q.hops (sym c.in_ok-weigh_sizes.ensures)

pub returns-in_err-weigh_sizes : goal.returns-in_err-weigh_sizes
returns-in_err-weigh_sizes c = let a = c.args in
    let p = err_from_is_err_and c.from_residual.result c.from_residual.ensures.1 in
    rw (p.1, p.2) (sym (by-sizes a.q a.arcs.now _ _ (sym c.in_err-weigh_sizes.ensures)))

pub overflow_sub-d : goal.overflow_sub-d
overflow_sub-d c = omega (arith, sizes (goal.at.overflow_sub-d c).In_ok-weigh_sizes)

pub weigh_ratios-requires : goal.weigh_ratios-requires
weigh_ratios-requires c = omega (arith, sizes (goal.at.weigh_ratios-requires c).In_ok-weigh_sizes)

pub returns-in_err-weigh_ratios : goal.returns-in_err-weigh_ratios
returns-in_err-weigh_ratios c = let a = c.args in
    let p = err_from_is_err_and c.from_residual-in_err-weigh_ratios.result c.from_residual-in_err-weigh_ratios.ensures.1 in
    rw (p.1, p.2) (sym (by-ratios a.q a.arcs.now _ _ (sym c.in_ok-weigh_sizes.ensures) (sym c.in_err-weigh_ratios.ensures)))

pub returns-in_err-weigh_arc_words : goal.returns-in_err-weigh_arc_words
returns-in_err-weigh_arc_words c = let a = c.args in
    let p = err_from_is_err_and c.from_residual-in_err-weigh_arc_words.result c.from_residual-in_err-weigh_arc_words.ensures.1 in
    rw (p.1, p.2) (sym (by-words a.q a.arcs.now _ _ (sym c.in_ok-weigh_sizes.ensures) (sym c.in_ok-weigh_ratios.ensures) (sym c.in_err-weigh_arc_words.ensures)))

pub weigh_arcs-requires : goal.weigh_arcs-requires
weigh_arcs-requires c = let a = c.args in (
  omega (arith, sizes (goal.at.weigh_arcs-requires c).In_ok-weigh_sizes),
  (words-facts (length a.arcs.now) (a.q.criteria + 2) (clear-cons _ _ (sym c.in_ok-weigh_arc_words.ensures)).0).1,
)

pub returns : goal.returns
returns c = by-arcs c.args.q c.args.arcs.now _ (sym c.in_ok-weigh_sizes.ensures) (sym c.in_ok-weigh_ratios.ensures) (sym c.in_ok-weigh_arc_words.ensures) c.weigh_arcs.ensures
