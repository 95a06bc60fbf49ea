-- `count_all`. The loop's invariant: the counts before criterion j stand, each at most 4,096. Assumes nothing.
use Rattle.request.specs.Request.{asked}
use Rattle.request.proofs.Counts.{Upto}
use Rattle.request.proofs.count_all.Given as goal

abbrev pub invariant-loop-j : goal.invariant-loop-j
invariant-loop-j l = Upto (asked l.q l.arcs) l.counts l.j
