-- `fill`. The loop's invariant: b is the next fence, the words so far are the fences and the others are as they were. Assumes nothing.
use mathlib.Core.Path.{◌≡◌}
use mathlib.Core.List.{◌++◌}
use lib.ListN.{drop}
use Rattle.fences.specs.Fence.{fence, fences}
use Rattle.fences.proofs.Ratio.fill.Given as goal

abbrev pub invariant-loop-fence : goal.invariant-loop-fence
invariant-loop-fence l =
    (l.b ≡ fence l.self.p l.self.q l.fence-index) × (l.ladder ≡ fences l.self.p l.self.q l.fence-index ++ drop l.fence-index l.initial.ladder)
