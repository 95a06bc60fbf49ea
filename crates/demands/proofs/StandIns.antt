-- Tables that are none: stand-ins that no single edit of the code makes, told apart by one label of the document's example. Assumes nothing.
use Prim.Native.Nat.{ℕ}
use mathlib.Core.Path.{◌≡◌, refl, ap}
use mathlib.Core.List.{List, [], ◌∷◌}
use native.Mathlib.Omega.{arith}
use lib.Dec.{lit<}
use lib.ListN.{length}
use Rattle.words.specs.Loops.{up_to, total}
use Rattle.words.specs.Pieces.{write, at, put, join}
use Rattle.words.specs.Radix.{volume, radix}
use Rattle.fences.specs.Fence as fence
use Rattle.request.specs.Request.{lower, ratio_p, ratio_q, arc_count, arc, tail, head, arc_costs, reach}
use Rattle.request.specs.Shape.{largest_of, largest, top, buckets, position, cells, cell}
use Rattle.rounds.specs.Label.{costs, step, from, filled, empty, start, kept, sum, candidate, came, wins}
use Rattle.rounds.specs.Rounds.{block, blank, start_block, start_layer, keep_cell, keep_block, keep_all, offer, try_cell, try_arc, arc_step, round, layer, label_of, table, filled_in}
use Rattle.cover.specs.Walk.{Walk}
use Rattle.demands.specs.HandNumbers.{sheet}

-- the step that words of a layer of the example have for node 3, cell 3
abbrev step_seen : List ℕ → ℕ
step_seen L = step (sheet 2 1 1) (label_of (sheet 2 1 1) L 3 3)

-- "running round 1 and only keeping afterwards": layer 2 came by arc 3 where keeping layer 1 has an empty label;
-- so the walk of arcs 0 and 3, which is one of two arcs to node 3, would find no label there;
-- "the same table always": the example's table has 192 words with 2 hops and 16 with none
pub stand-ins :
    (keep_all (sheet 2 1 1) (layer (sheet 2 1 1) 1) ≡ layer (sheet 2 1 1) 2 → ⊥)
    × Walk (sheet 2 1 1) 0 (0 ∷ 3 ∷ []) 3 × (filled_in (sheet 2 1 1) (block (sheet 2 1 1) (keep_all (sheet 2 1 1) (layer (sheet 2 1 1) 1)) 3) ≡ 0)
    × (table (sheet 2 1 1) ≡ table (sheet 0 1 1) → ⊥)
unfolding filled_in total up_to write at put join volume radix fence.fence fence.fences fence.passed fence.position fence.buckets lower ratio_p ratio_q arc_count arc tail head arc_costs reach largest_of largest top buckets position cells cell costs step from filled empty start kept sum candidate came wins block blank start_block start_layer keep_cell keep_block keep_all offer try_cell try_arc arc_step round layer label_of table sheet
stand-ins = (only_keeping, (lit< tt, refl, (lit< tt, refl, refl)), refl, one_table)
  where
    only_keeping : keep_all (sheet 2 1 1) (layer (sheet 2 1 1) 1) ≡ layer (sheet 2 1 1) 2 → ⊥
    only_keeping e = let n : ◌≡◌ {A = ℕ} 0 6 = ap step_seen e in absurd (omega arith)

    one_table : table (sheet 2 1 1) ≡ table (sheet 0 1 1) → ⊥
    one_table e = let n : ◌≡◌ {A = ℕ} 192 16 = ap length e in absurd (omega arith)
