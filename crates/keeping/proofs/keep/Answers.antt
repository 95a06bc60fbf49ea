-- `keep`: an empty label leaves the empty one, a filled one is kept. Assumes nothing.
use mathlib.Core.Path.{◌≡◌, sym, ap, ◌∙◌}
use Prim.Native.Nat.{◌+◌}
use lib.ListN.{get_or}
use lib.Dec.{ltb}
use Rattle.words.specs.Pieces.{part}
use Rattle.rounds.specs.Step.{word_of}
use Rattle.rounds.proofs.Steps.{word_back, filled-is}
use Rattle.keeping.proofs.Keeping.{step-word, keep-empty, keep-filled}
use Rattle.keeping.proofs.keep.Goals as goal
use Rattle.keeping.proofs.keep.Goals.{After-is_filled}

module _ (c : After-is_filled) where
  -- the step that was read is the label's
  read : word_of c.from-step.result ≡ get_or (part c.args.labels.now c.args.at (c.args.d + 2)) c.args.d 0
  read = let a = c.args in
      let p = c.requires in
      ap word_of c.from-step.ensures ∙ word_back _ ∙ sym (step-word a.labels.now a.at a.to a.d p.0 p.1)

  -- and the test of it is that of the word
  test : ltb 0 (get_or c.args.labels.now (c.args.at + c.args.d) 0) ≡ c.is_filled.result
  test = sym (filled-is _ _ c.from-step.ensures) ∙ sym c.is_filled.ensures

pub returns-then-is_filled-clause-labels_after : goal.returns-then-is_filled-clause-labels_after
returns-then-is_filled-clause-labels_after c = let a = c.args in
    let p = c.requires in
    c.keep_costs.ensures ∙ keep-filled a.labels.now a.at a.to a.d p.0 p.1 (test (goal.at.returns-then-is_filled-clause-labels_after c).After-is_filled ∙ c.if-is_filled.true)

pub returns-then-is_filled-clause-value : goal.returns-then-is_filled-clause-value
returns-then-is_filled-clause-value c = read (goal.at.returns-then-is_filled-clause-value c).After-is_filled

pub returns-else-is_filled-clause-labels_after : goal.returns-else-is_filled-clause-labels_after
returns-else-is_filled-clause-labels_after c = let a = c.args in
    let p = c.requires in
    keep-empty a.labels.now a.at a.to a.d p.0 p.1 (test (goal.at.returns-else-is_filled-clause-labels_after c).After-is_filled ∙ c.if-is_filled.false) p.2

pub returns-else-is_filled-clause-value : goal.returns-else-is_filled-clause-value
returns-else-is_filled-clause-value c = read (goal.at.returns-else-is_filled-clause-value c).After-is_filled
