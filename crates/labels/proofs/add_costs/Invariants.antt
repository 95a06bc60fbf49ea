-- `add_costs`. The loop's invariant: the first k words are the sums, the others as they were. Assumes nothing.
use mathlib.Core.Path.{◌≡◌}
use Prim.Native.Nat.{◌≤◌}
use mathlib.Core.List.{◌++◌}
use lib.ListN.{length, take, drop}
use Rattle.labels.proofs.Candidates.{sums}
use Rattle.labels.proofs.add_costs.Given as goal

abbrev pub invariant-loop-k : goal.invariant-loop-k
invariant-loop-k l = (l.k ≤ l.d) × (l.out ≡ take l.k (sums l.d l.lab l.arc) ++ drop l.k l.initial.out) × (length l.out ≡ length l.initial.out)
