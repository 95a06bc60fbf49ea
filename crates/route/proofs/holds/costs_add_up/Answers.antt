-- `costs_add_up`: the costs so far are the sums. Assumes nothing.
use Prim.Native.Nat.{◌+◌}
use mathlib.Core.Path.{◌≡◌}
use native.Mathlib.Omega.{arith}
use lib.ListN.{get_or}
use Rattle.route.proofs.Comparing.{sum-yes, sum-no}
use Rattle.words.proofs.Loops.{below_next}
use Rattle.route.proofs.holds.costs_add_up.Goals as goal

pub loop-j-init : goal.loop-j-init
loop-j-init c = λ k l. absurd (omega arith)

pub returns-then-l-j : goal.returns-then-l-j
returns-then-l-j c =
    let a = c.args in
    sum-no a.l.now a.d c.requires.0 a.reached.now c.requires.1 a.arc.now c.requires.2 c.loop-j.j c.loop-j-test.true c.if-l-j.true

pub loop-j-preserved : goal.loop-j-preserved
loop-j-preserved c =
    let a = c.args in
    below_next (λ k. get_or a.l.now k 0 ≡ get_or a.reached.now k 0 + get_or a.arc.now (k + 2) 0) c.loop-j.j c.loop-j.invariant c.if-l-j.false

pub returns : goal.returns
returns c =
    let a = c.args in
    sum-yes a.l.now a.d c.requires.0 a.reached.now c.requires.1 a.arc.now c.requires.2 (λ k l. c.loop-j.invariant k (omega arith))
