-- `run_round`: keeping, then passing the arcs, is the round. Assumes nothing.
use mathlib.Core.Path.{◌≡◌, ◌∙◌}
use native.Mathlib.Omega.{arith}
use Rattle.words.specs.Pieces.{write}
use Rattle.request.specs.Request.{Req}
use Rattle.rounds.specs.Rounds.{keep_all}
use Rattle.tries.specs.Tries.{asked_by}
use Rattle.table.specs.Build.{layer_in}
use Rattle.table.proofs.Keeping.{kept-layer, layer-notes}
use Rattle.table.proofs.Passing.{layered-later}
use Rattle.table.proofs.Layers.{kept_here, notes-here, round-law, round-tries}
use Rattle.table.proofs.run_round.Goals as goal
use Rattle.table.proofs.run_round.Goals.{After-keep_layer}

-- once the layer is kept
module _ (c : After-keep_layer) where
  abbrev R : Req
  R = asked_by c.args.s.now

  -- the layer at `base` is what was kept of the layer at `prev`
  kept : c.keep_layer.new.labels ≡ write c.args.labels.now c.args.base (keep_all R (layer_in R c.args.labels.now c.args.prev))
  kept = let a = c.args in kept-layer a.s.now a.labels.now a.prev a.base c.keep_layer.new.labels c.keep_layer.ensures.labels_after

pub try_arcs-requires : goal.try_arcs-requires
try_arcs-requires c = let k = (goal.at.try_arcs-requires c).After-keep_layer in
    let a = c.args in
    let x = c.keep_layer in
    let f = a.s.now.framed in
    let p = c.requires.layered in
    let n = layer-notes a.s.now a.labels.now a.prev a.base _ (omega (arith, f.bounded.nodes_few, x.auto.notes)) x.ensures.noted_all in
    record {
      layered = layered-later (R k) a.labels.now x.new.labels _ a.prev a.base p (kept k);
      kept = kept_here (R k) f.regular a.labels.now a.prev a.base p x.new.labels (kept k);
      noted = notes-here (R k) f.regular a.labels.now a.prev a.base p x.new.labels (kept k) _ n;
    }

pub returns : goal.returns
returns c = let k = (goal.at.returns c).After-keep_layer in
    let a = c.args in
    let x = c.keep_layer in
    let t = c.try_arcs in
    let f = a.s.now.framed in
    let p = c.requires.layered in
    record {
      labels_after = round-law (R k) f.regular a.labels.now a.prev a.base p x.new.labels (kept k) t.new.labels t.ensures.labels_after;
      value = t.ensures.value ∙ round-tries (R k) f.regular a.labels.now a.prev a.base p x.new.labels (kept k);
    }
