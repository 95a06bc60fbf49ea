-- `try_arc`. The loop's invariant: the cells before the next one are tried, it is filled (`Standing`), and there is a place to look from. Assumes nothing.
use Rattle.tries.specs.Tries.{asked_by, Hinted}
use Rattle.tries.proofs.Nexts.{Standing, left}
use Rattle.tries.proofs.Frame.try_arc.Given as goal

abbrev pub invariant-loop-next : goal.invariant-loop-next
invariant-loop-next l = Standing l.self l.initial.labels l.from l.to l.a l.low l.high l.labels l.next × Hinted (asked_by l.self) l.places

abbrev pub decreases-loop-next : goal.decreases-loop-next
decreases-loop-next l = left l.high l.next
