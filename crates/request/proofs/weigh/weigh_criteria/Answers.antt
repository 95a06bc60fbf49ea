-- `weigh_criteria`: row 3 holds, or it does not. Assumes nothing.
use mathlib.Core.Path.{sym, ◌∙◌}
use Rattle.words.proofs.Choices.{true-is, false-is}
use Rattle.words.proofs.Rows.{weigh-held, weigh-passed, weigh-none}
use Rattle.request.specs.Rows.{criteria_row}
use Rattle.request.proofs.weigh.weigh_criteria.Goals as goal

pub returns-then-outside : goal.returns-then-outside
returns-then-outside c = sym (weigh-held (criteria_row c.args.d) _ (true-is (sym c.outside.ensures ∙ c.if-outside.true)))

pub returns : goal.returns
returns c = sym (weigh-passed (criteria_row c.args.d) _ (false-is (sym c.outside.ensures ∙ c.if-outside.false)) ∙ weigh-none)
