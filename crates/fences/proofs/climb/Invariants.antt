-- `climb`. The loop's invariant: the cost lies from word j on, and j is not the last word. Assumes nothing.
use Prim.Native.Nat.{◌+◌, ◌-◌, ◌≤◌, ◌<◌}
use lib.ListN.{length, get_or}
use Rattle.fences.proofs.climb.Given as goal

abbrev pub invariant-loop-j : goal.invariant-loop-j
invariant-loop-j l = (l.j + 1 < length l.ladder) × (get_or l.ladder l.j 0 ≤ l.c)

abbrev pub decreases-loop-j : goal.decreases-loop-j
decreases-loop-j l = length l.ladder - l.j
