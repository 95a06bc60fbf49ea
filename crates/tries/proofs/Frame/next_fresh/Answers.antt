-- `next_fresh`. The loop's invariant: the cells from c up to i are quiet. Assumes nothing.
use mathlib.Core.Path.{sym, ◌∙◌}
use Rattle.tries.proofs.Fresh.{found, one-past}
use native.Mathlib.Omega.{arith}
use Rattle.tries.proofs.Frame.next_fresh.Goals as goal

pub returns-then-not-is_quiet : goal.returns-then-not-is_quiet
returns-then-not-is_quiet c = let a = c.args in
    let s = a.self.now in
    let l = c.loop-i in
    found s.d s.w a.block.now a.c l.i s.framed.sized.words l.invariant a.high c.loop-i-test.true (omega (arith, c.loop-i-test.true)) (sym c.is_quiet.ensures ∙ c.if-not-is_quiet.true)

pub loop-i-preserved : goal.loop-i-preserved
loop-i-preserved c = let a = c.args in
    let s = a.self.now in
    let l = c.loop-i in
    one-past s.d s.w a.block.now a.c l.i s.framed.sized.words l.invariant (sym c.is_quiet.ensures ∙ c.if-not-is_quiet.false)
