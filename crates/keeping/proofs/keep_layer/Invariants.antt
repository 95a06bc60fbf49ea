-- `keep_layer`. The loop's invariant: the blocks before v are kept and noted (`Along`). Assumes nothing.
use Rattle.keeping.proofs.Layers.{Along}
use Rattle.keeping.proofs.keep_layer.Given as goal

abbrev pub invariant-loop-v : goal.invariant-loop-v
invariant-loop-v l = Along l.initial.labels l.initial.notes l.m l.n l.d l.prev l.base l.labels l.notes l.at l.to l.v
