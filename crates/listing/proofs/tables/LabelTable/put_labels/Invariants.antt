-- `put_labels`: the lines of the first v nodes are written. Assumes nothing.
use Prim.Native.Nat.{◌+◌}
use mathlib.Core.Path.{◌≡◌}
use lib.ListN.{length}
use Rattle.words.specs.Pieces.{write, join}
use Rattle.listing.specs.Listing.{node_lines}
use Rattle.listing.specs.Print.{asked_in}
use Rattle.listing.proofs.tables.LabelTable.put_labels.Given as goal

abbrev pub invariant-loop-v : goal.invariant-loop-v
invariant-loop-v l =
    let s = l.self.store in
    (l.a ≡ l.at + length (join (node_lines (asked_in s) s.labels.now) l.v)) × (l.listing ≡ write l.initial.listing l.at (join (node_lines (asked_in s) s.labels.now) l.v))
