-- `measure_lines`: the first v nodes are measured. Assumes nothing.
use Prim.Native.Nat.{◌*◌, ◌≤◌}
use mathlib.Core.Path.{◌≡◌}
use lib.ListN.{length}
use Rattle.words.specs.Loops.{total}
use Rattle.words.specs.Pieces.{join}
use Rattle.listing.specs.Listing.{filled_of, node_lines}
use Rattle.listing.specs.Print.{asked_in}
use Rattle.listing.proofs.tables.LabelTable.measure_lines.Given as goal

abbrev pub invariant-loop-v : goal.invariant-loop-v
invariant-loop-v l =
    let s = l.self.store in
    (l.filled ≡ total (filled_of (asked_in s) s.labels.now) l.v) × (l.filled ≤ l.v * s.cells) × (l.bytes ≡ length (join (node_lines (asked_in s) s.labels.now) l.v)) × (l.bytes ≤ l.v * s.cells * 754)
