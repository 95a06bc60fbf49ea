-- `find_cell`. The loop's invariant: the criteria before j are found (`Upto`). Assumes nothing.
use Rattle.labels.proofs.Finding.{Upto}
use Rattle.labels.proofs.find_cell.Given as goal

abbrev pub invariant-loop-j : goal.invariant-loop-j
invariant-loop-j l = Upto l.counts l.graded l.ladders l.cand l.initial.places l.places l.cell l.at l.j
