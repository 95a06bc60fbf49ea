-- `gowkaroo_list`: the listing's length, packed. Assumes nothing.
use mathlib.Core.Path.{ap, ◌∙◌}
use Rattle.listing.specs.List.{said}
use Rattle.desk.proofs.Calls.{count-packed}
use Rattle.desk.proofs.gowkaroo_list.Goals as goal

pub returns-in-Ok-clause-value : goal.returns-in-Ok-clause-value
returns-in-Ok-clause-value c = c.pack.ensures ∙ count-packed _ _ (ap said c.in-Ok.ensures.value)
