-- `put_node`: the lines of the first c cells are written. Assumes nothing.
use Prim.Native.Nat.{◌+◌}
use mathlib.Core.Path.{◌≡◌}
use lib.ListN.{length}
use Rattle.words.specs.Pieces.{write, join}
use Rattle.listing.specs.Listing.{label_line}
use Rattle.listing.specs.Print.{asked_in}
use Rattle.listing.proofs.tables.LabelTable.put_node.Given as goal

abbrev pub invariant-loop-c : goal.invariant-loop-c
invariant-loop-c l =
    let s = l.self.store in
    (l.a ≡ l.at + length (join (label_line (asked_in s) s.labels.now l.node) l.c)) × (l.listing ≡ write l.initial.listing l.at (join (label_line (asked_in s) s.labels.now l.node) l.c))
