-- `gowkaroo_build`: the build's tries, packed; they fit 32 bits. Assumes nothing.
use mathlib.Core.Path.{ap, ◌∙◌}
use lib.ListN.{length}
use native.Mathlib.Omega.{arith}
use Rattle.table.specs.Build.{built_said}
use Rattle.desk.proofs.Builds.{built-answer}
use Rattle.desk.proofs.Calls.{count-few, count-packed}
use Rattle.desk.proofs.gowkaroo_build.Goals as goal

pub pack-requires : goal.pack-requires
pack-requires c = let a = c.args in
    (omega arith, count-few _ (built-answer _ a.arcs.now (length a.ladders.now) (length a.labels.now)) _ (ap built_said c.in-Ok.ensures.value))

pub returns-in-Ok-clause-value : goal.returns-in-Ok-clause-value
returns-in-Ok-clause-value c = c.pack.ensures ∙ count-packed _ _ (ap built_said (rw c.request_from.ensures at c.in-Ok.ensures.value))
