-- `seek`. The loop's invariant: j is not the ladder's last word; it goes down no further than word 0, which is not above the cost.
-- Assumes nothing.
use Prim.Native.Nat.{◌+◌, ◌<◌}
use lib.ListN.{length}
use Rattle.fences.proofs.seek.Given as goal

abbrev pub invariant-loop-j : goal.invariant-loop-j
invariant-loop-j l = l.j + 1 < length l.ladder

abbrev pub decreases-loop-j : goal.decreases-loop-j
decreases-loop-j l = l.j
