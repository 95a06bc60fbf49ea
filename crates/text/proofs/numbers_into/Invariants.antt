-- `numbers_into`: i numbers stand in front of what the buffer held, and the rest of the line says the rest. Assumes nothing.
use Rattle.text.proofs.Lines.{Reading}
use Rattle.text.proofs.numbers_into.Given as goal

abbrev pub invariant-loop-number : goal.invariant-loop-number
invariant-loop-number l = Reading l.sep l.initial.out l.line l.from l.out l.number-index l.at
