-- `gowkaroo_write`: the writer's length, packed. Assumes nothing.
use mathlib.Core.Path.{◌∙◌}
use Rattle.desk.proofs.Calls.{count-packed}
use Rattle.desk.proofs.gowkaroo_write.Goals as goal

pub returns-in-Ok-clause-value : goal.returns-in-Ok-clause-value
returns-in-Ok-clause-value c = c.pack.ensures ∙ count-packed _ _ (rw c.request_from.ensures at c.in-Ok.ensures.result_value)
