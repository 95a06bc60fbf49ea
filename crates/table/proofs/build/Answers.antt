-- `build`: a refusal of the check, or the build of the shape. Assumes nothing.
use mathlib.Core.Path.{ap, ◌∙◌}
use lib.ListN.{length}
use Rattle.std.proofs.Common.{Err}
use Rattle.std.proofs.lemmas.Result.{err_from_is_err_and}
use Rattle.request.specs.Request.{asked}
use Rattle.request.proofs.Answers.{refused-is, shaped-is}
use Rattle.table.proofs.Building.{refused-early, refused_all}
use Rattle.table.proofs.build.Goals as goal

pub build_shaped-requires : goal.build_shaped-requires
build_shaped-requires c = let a = c.args in shaped-is (asked a.request a.arcs.now) c.in_ok-shape.shape c.in_ok-shape.ensures

pub returns-in_err-shape : goal.returns-in_err-shape
returns-in_err-shape c = let a = c.args in
    let R = asked a.request a.arcs.now in
    let p = err_from_is_err_and c.from_residual.result c.from_residual.ensures.1 in
    let e = refused-early R (length a.ladders.now) (length a.labels.now) _ _ (refused-is R _ c.in_err-shape.ensures) in
    let r = refused_all R a.ladders.now a.labels.now _ e in
    record { value = p.1 ∙ ap Err p.2 ∙ r.0; ladders_after = r.1; labels_after = r.2 }
