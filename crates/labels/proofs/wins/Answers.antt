-- `wins`: the cell is empty, or the last costs decide. Assumes nothing.
use mathlib.Core.Path.{◌≡◌, sym, ap, ◌∙◌}
use mathlib.Core.Bool.{not}
use lib.ListN.{get_or}
use lib.Dec.{ltb}
use Rattle.rounds.proofs.Steps.{filled-is}
use Rattle.labels.proofs.Places.{wins-empty, wins-filled}
use Rattle.labels.proofs.wins.Goals as goal
use Rattle.labels.proofs.wins.Goals.{After-is_filled}

-- the test of the step is that of its word
test : (c : After-is_filled) → ltb 0 (get_or c.args.cell.now c.args.d 0) ≡ c.is_filled.result
test c = sym (filled-is _ _ c.from.ensures) ∙ sym c.is_filled.ensures

pub returns-then-not-is_filled : goal.returns-then-not-is_filled
returns-then-not-is_filled c = let a = c.args in
    ap not c.if-not-is_filled.true ∙ wins-empty a.d a.cand.now a.cell.now (test (goal.at.returns-then-not-is_filled c).After-is_filled ∙ c.if-not-is_filled.true)

pub returns-else-not-is_filled : goal.returns-else-not-is_filled
returns-else-not-is_filled c = let a = c.args in
    wins-filled a.d a.cand.now a.cell.now c.requires.2 (test (goal.at.returns-else-not-is_filled c).After-is_filled ∙ c.if-not-is_filled.false)
