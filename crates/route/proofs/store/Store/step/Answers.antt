-- `step`: the word says it. Assumes nothing.
use mathlib.Core.Path.{ap, ◌∙◌}
use Rattle.rounds.specs.Label.{step}
use Rattle.rounds.specs.Step.{step_of}
use Rattle.route.proofs.store.Store.step.Goals as goal

pub returns : goal.returns
unfolding step
returns c = c.from.ensures ∙ ap step_of c.word.ensures
