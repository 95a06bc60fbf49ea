-- `label`: the piece of its number is the label's words. Assumes nothing.
use Prim.Native.Nat.{◌+◌}
use mathlib.Core.Path.{ap, ◌∙◌}
use Rattle.words.specs.Pieces.{at}
use Rattle.request.specs.Request.{asked}
use Rattle.route.proofs.Places.{label_is}
use Rattle.route.proofs.store.Store.label.Goals as goal

pub returns : goal.returns
returns c =
    let w = c.args.self.now in
    label_is (asked w.request w.arcs.now) w.labels.now _ w.cells c.args.spot.layer c.args.spot.node c.args.spot.cell w.cells_is
    (c.piece.ensures ∙ ap (at (w.request.criteria + 2) w.labels.now) c.number.ensures.value)
