-- `next_fresh`. The loop's invariant: the cells from c up to i are quiet. Assumes nothing.
use Rattle.tries.specs.Tries.{AllQuiet}
use Rattle.tries.proofs.Frame.next_fresh.Given as goal

abbrev pub invariant-loop-i : goal.invariant-loop-i
invariant-loop-i l = AllQuiet l.self.d l.block l.c l.i
