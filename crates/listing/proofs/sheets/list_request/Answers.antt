-- `list_request`: a refusal of the check, or the listing of the shape. Assumes nothing.
use mathlib.Core.Path.{◌≡◌, sym, ◌∙◌}
use Rattle.std.proofs.Common.{rules, Err}
use Rattle.request.specs.Request.{asked}
use Rattle.request.proofs.Answers.{shaped-is}
use Rattle.listing.proofs.Requests.{lists-early}
use Rattle.listing.proofs.sheets.list_request.Goals as goal

pub list_shaped-requires : goal.list_shaped-requires
list_shaped-requires c = shaped-is (asked c.args.request c.args.arcs.now) _ (sym c.in_ok-shape.was ∙ c.check.ensures)

pub returns-in_err-shape : goal.returns-in_err-shape
returns-in_err-shape c =
    let r = c.in_err-shape.field-0.0 in
    let l = lists-early (asked c.args.request c.args.arcs.now) c.args.listing.now r (sym c.in_err-shape.was ∙ c.check.ensures) in
    let e : c.from_residual.result ≡ Err r = search rules in
    record { value = e ∙ l.says; listing_after = l.left }
