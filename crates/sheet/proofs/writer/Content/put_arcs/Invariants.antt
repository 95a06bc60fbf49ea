-- `put_arcs`: the arcs that are left make, behind those that are written, what all of them make. Assumes nothing.
use mathlib.Core.Path.{◌≡◌}
use lib.ListN.{length}
use Rattle.std.specs.Slice.Iter.{chunks_exact_rest, chunks_exact_size}
use Rattle.sheet.specs.Writer.{lines_of}
use Rattle.sheet.proofs.Puts.{ArcsLeft}
use Rattle.sheet.proofs.writer.Content.put_arcs.Given as goal

abbrev pub invariant-loop-arc : goal.invariant-loop-arc
invariant-loop-arc l =
    (chunks_exact_size l.arc-iterator ≡ l.w)
    × (length l.sheet ≡ length l.initial.sheet)
    × ArcsLeft l.w l.at (lines_of l.self.request l.self.arcs.now) l.initial.sheet (chunks_exact_rest l.arc-iterator) l.e l.sheet
