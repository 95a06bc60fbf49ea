-- `draw_up`: layer 0 first, and the rounds over it. Assumes nothing.
use mathlib.Core.Path.{ap, ◌∙◌}
use native.Mathlib.Omega.{arith}
use lib.ListN.{length}
use Rattle.words.proofs.Writes.{length-write}
use Rattle.rounds.specs.Rounds.{start_layer}
use Rattle.tries.specs.Tries.{asked_by}
use Rattle.table.proofs.Keeping.{layer-size}
use Rattle.table.proofs.Layers.{one-layer, start-stands, over-start}
use Rattle.table.proofs.draw_up.Goals as goal
use Rattle.table.proofs.draw_up.Goals.{After-start_layer}

pub start_layer-requires : goal.start_layer-requires
start_layer-requires c = let s = c.args.s.now in omega (arith, c.requires, layer-size s, one-layer (asked_by s) s.framed.regular)

pub run_rounds-requires : goal.run_rounds-requires
run_rounds-requires c = let s = c.args.s.now in
    let w = c.start_layer.ensures in
    let n = ap length w ∙ length-write c.args.labels.now 0 (start_layer (asked_by s)) in
    record {
      room = omega (arith, n, c.requires);
      started = start-stands (asked_by s) s.framed.regular c.args.labels.now c.start_layer.new.labels w c.requires;
    }

pub returns : goal.returns
returns c = let s = c.args.s.now in
    let y = c.run_rounds.ensures in
    record {
      labels_after = y.labels_after ∙ over-start (asked_by s) s.framed.regular c.args.labels.now c.start_layer.new.labels c.start_layer.ensures c.requires;
      value = y.value;
    }
