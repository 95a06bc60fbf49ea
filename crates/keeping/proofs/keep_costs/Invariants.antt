-- `keep_costs`. The loop's invariant: k costs are written. Assumes nothing.
use mathlib.Core.Path.{◌≡◌}
use lib.ListN.{length}
use Rattle.words.specs.Pieces.{part, write}
use Rattle.keeping.proofs.keep_costs.Given as goal

abbrev pub invariant-loop-k : goal.invariant-loop-k
invariant-loop-k l = (l.labels ≡ write l.initial.labels l.to (part l.initial.labels l.at l.k)) × (length l.labels ≡ length l.initial.labels)
