-- `count_all`. The loop's invariant: the counts before criterion j stand, each at most 4,096. Assumes nothing.
use mathlib.Core.Path.{◌≡◌, sym, ◌∙◌, subst}
use Prim.Native.Nat.{ℕ, ◌+◌, ◌-◌}
use Rattle.request.specs.Request.{asked}
use Rattle.request.specs.declared.Refusal.TheVariants.{Buckets}
use Rattle.std.proofs.lemmas.Result.{err_from_is_err_and}
use Rattle.request.proofs.Counts.{Upto, one_more, none_over, first-over, all-counted}
use native.Mathlib.Omega.{arith}
use Rattle.request.proofs.count_all.Goals as goal

pub returns-in_err-counts-clause-outcome : goal.returns-in_err-counts-clause-outcome
returns-in_err-counts-clause-outcome c = let a = c.args in
    let R = asked a.q a.arcs.now in
    let l = c.loop-j in
    let told = c.in_err-counts.ensures in
    let p = err_from_is_err_and c.from_residual.result c.from_residual.ensures.1 in
    let is : c.in_err-counts.field-0.0 ≡ Buckets (l.j + 1) = grind arith in
    rw (p.1, p.2, is)
    (sym (first-over R l.counts l.j (a.q.criteria - 1) c.loop-j-test.true l.invariant (sym told.ok_part ∙ c.count_buckets.ensures)))

pub loop-j-preserved : goal.loop-j-preserved
loop-j-preserved c = let a = c.args in
    let R = asked a.q a.arcs.now in
    let l = c.loop-j in
    let h = c.requires.small.three in
    let t = c.loop-j-test.true in
    one_more R l.counts l.j _ (omega arith) l.invariant (sym c.in_ok-counts.ensures.ok_part ∙ c.count_buckets.ensures)

pub returns-clause-outcome : goal.returns-clause-outcome
returns-clause-outcome c = let a = c.args in
    let R = asked a.q a.arcs.now in
    let l = c.loop-j in
    let e : l.j ≡ a.q.criteria - 1 = omega arith in
    sym (none_over R l.counts (a.q.criteria - 1) (subst (λ (k : ℕ). Upto R l.counts k) e l.invariant))

pub returns-clause-counts : goal.returns-clause-counts
returns-clause-counts c = let a = c.args in
    let R = asked a.q a.arcs.now in
    let l = c.loop-j in
    let e : l.j ≡ a.q.criteria - 1 = omega arith in
    all-counted R l.counts (subst (λ (k : ℕ). Upto R l.counts k) e l.invariant)
