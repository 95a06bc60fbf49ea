-- `gowkaroo_read`: the reader's count, packed, and the request words filled where a sheet was read. Assumes nothing.
use mathlib.Core.Path.{ap, ◌∙◌}
use Rattle.desk.specs.Calls.{request_words}
use Rattle.desk.proofs.Calls.{count-packed, request-left, request-filled}
use Rattle.desk.proofs.gowkaroo_read.Goals as goal

pub returns-in-Err-clause-request_after : goal.returns-in-Err-clause-request_after
returns-in-Err-clause-request_after c = let a = c.args in request-left a.sheet.now a.arcs.now a.request.now c.in-Err.refusal c.in-Err.ensures.value

pub returns-in-Ok-clause-value : goal.returns-in-Ok-clause-value
returns-in-Ok-clause-value c = c.pack.ensures ∙ count-packed _ _ c.in-Ok.ensures.value

pub returns-in-Ok-clause-request_after : goal.returns-in-Ok-clause-request_after
returns-in-Ok-clause-request_after c = let a = c.args in
    c.put_request.ensures ∙ ap request_words c.in-Ok.ensures.request ∙ request-filled a.sheet.now a.arcs.now a.request.now c.in-Ok.reading.words c.in-Ok.ensures.value
