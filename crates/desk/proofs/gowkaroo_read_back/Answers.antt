-- `gowkaroo_read_back`: the read-back's arc count or empty cell, packed, and its costs where there is a route. Assumes nothing.
use mathlib.Core.Path.{sym, ap, ◌∙◌}
use lib.ListN.{length}
use Rattle.route.specs.declared.Ending.{Ending}
use Rattle.desk.specs.Packed.{packed}
use Rattle.desk.specs.Calls.{ending_said}
use Rattle.desk.proofs.Packing.{packed-refusal}
use Rattle.desk.proofs.Calls.{count-packed}
use Rattle.desk.proofs.Backs.{costs-refused, costs-empty, costs-route}
use Rattle.desk.proofs.gowkaroo_read_back.Goals as goal

pub returns-in-Refused-clause-costs_after : goal.returns-in-Refused-clause-costs_after
returns-in-Refused-clause-costs_after c = let a = c.args in
    let ending = rw c.request_from-from.ensures at c.read_back-back.ensures.ending_value in
    costs-refused _ a.labels.now (length a.route.now) a.layer a.node a.cell a.costs.now _ (sym ending ∙ c.in-Refused.is)

pub returns-in-Empty-clause-value : goal.returns-in-Empty-clause-value
returns-in-Empty-clause-value c =
    let ending = rw c.request_from-from.ensures at c.read_back-back.ensures.ending_value in
    c.pack.ensures ∙ packed-refusal 15 0 ∙ ap (λ (x : Ending). packed (ending_said x)) (sym c.in-Empty.is ∙ ending)

pub returns-in-Empty-clause-costs_after : goal.returns-in-Empty-clause-costs_after
returns-in-Empty-clause-costs_after c = let a = c.args in
    let ending = rw c.request_from-from.ensures at c.read_back-back.ensures.ending_value in
    costs-empty _ a.labels.now (length a.route.now) a.layer a.node a.cell a.costs.now (sym ending ∙ c.in-Empty.is)

pub returns-in-Route-clause-value : goal.returns-in-Route-clause-value
returns-in-Route-clause-value c =
    let ending = rw c.request_from-from.ensures at c.read_back-back.ensures.ending_value in
    c.pack-in-Route.ensures ∙ count-packed _ _ (ap ending_said (sym c.in-Route.is ∙ ending))

pub returns-in-Route-clause-costs_after : goal.returns-in-Route-clause-costs_after
returns-in-Route-clause-costs_after c = let a = c.args in
    let ending = rw c.request_from-from.ensures at c.read_back-back.ensures.ending_value in
    let costs = rw c.request_from-from.ensures at c.read_back-back.ensures.costs_value in
    costs ∙ costs-route _ a.labels.now (length a.route.now) a.layer a.node a.cell a.costs.now _ (sym ending ∙ c.in-Route.is)
