-- `run_rounds`. The loop's invariant: layers 0 to i stand at the front (`Drawn`). Assumes nothing.
use Rattle.tries.specs.Tries.{asked_by}
use Rattle.table.proofs.Layers.{Drawn}
use Rattle.table.proofs.run_rounds.Given as goal

abbrev pub invariant-loop-i : goal.invariant-loop-i
invariant-loop-i l = Drawn (asked_by l.s) l.initial.labels l.labels l.base l.tries l.i
