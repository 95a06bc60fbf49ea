-- `keep_block`. The loop's invariant: the labels before c are kept and noted (`Along`). Assumes nothing.
use Rattle.keeping.proofs.Blocks.{Along}
use Rattle.keeping.proofs.keep_block.Given as goal

abbrev pub invariant-loop-c : goal.invariant-loop-c
invariant-loop-c l = Along l.initial.labels l.n l.d l.prev l.base l.labels l.noted l.at l.to l.c
