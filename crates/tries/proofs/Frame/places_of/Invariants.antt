-- `places_of`. The loop's invariant: the places from j on are within their counts (`Digits`). Assumes nothing.
use Prim.Native.Nat.{◌-◌}
use Rattle.tries.proofs.Digits.{Digits}
use Rattle.tries.proofs.Frame.places_of.Given as goal

abbrev pub invariant-loop-j : goal.invariant-loop-j
invariant-loop-j l = Digits l.self.counts (l.self.d - 1) l.places l.j
