-- `is_filled`: the word that was read is the label's step. Assumes nothing.
use Prim.Native.Nat.{ℕ, ◌+◌, ◌*◌}
use mathlib.Core.Path.{ap, ◌∙◌}
use lib.ListN.{get_or}
use Rattle.request.specs.Request.{asked}
use Rattle.rounds.specs.Step.{step_of}
use Rattle.route.proofs.Places.{step-at}
use Rattle.route.proofs.Steps.{told-filled}
use Rattle.route.proofs.store.Store.is_filled.Goals as goal

pub returns : goal.returns
returns c =
    let s = c.args.self.now in
    let d = s.request.criteria in
    let word = c.word-step.ensures ∙ ap (λ (k : ℕ). get_or s.labels.now (k * (d + 2) + d) 0) c.number.ensures.value in
    told-filled (asked s.request s.arcs.now) _ _ _
    (c.from.ensures ∙ ap step_of (step-at (asked s.request s.arcs.now) s.labels.now s.cells c.args.spot.layer c.args.spot.node c.args.spot.cell _ s.cells_is word))
    c.is_filled.ensures
