-- `count`. The loop's invariant: b is fence j, at most the top. Assumes nothing.
use mathlib.Core.Path.{◌≡◌}
use Prim.Native.Nat.{◌≤◌}
use Rattle.fences.specs.Fence.{fence}
use Rattle.fences.proofs.Ratio.count.Given as goal

abbrev pub invariant-loop-j : goal.invariant-loop-j
invariant-loop-j l = (l.b ≡ fence l.self.p l.self.q l.j) × (l.b ≤ l.top)
