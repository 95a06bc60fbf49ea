-- `measure_node`: the first c cells are measured. Assumes nothing.
use Prim.Native.Nat.{◌*◌, ◌≤◌}
use mathlib.Core.Path.{◌≡◌}
use lib.ListN.{length}
use Rattle.words.specs.Loops.{total}
use Rattle.words.specs.Pieces.{join}
use Rattle.listing.specs.Listing.{filled_at, label_line}
use Rattle.listing.specs.Print.{asked_in}
use Rattle.listing.proofs.tables.LabelTable.measure_node.Given as goal

abbrev pub invariant-loop-c : goal.invariant-loop-c
invariant-loop-c l =
    let s = l.self.store in
    (l.filled ≡ total (filled_at (asked_in s) s.labels.now l.node) l.c) × (l.filled ≤ l.c) × (l.bytes ≡ length (join (label_line (asked_in s) s.labels.now l.node) l.c)) × (l.bytes ≤ l.c * 754)
