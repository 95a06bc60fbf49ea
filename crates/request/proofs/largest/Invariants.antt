-- `largest`. The loop's invariant: `most` is the largest among the arcs so far, and the words of the others are left. Assumes nothing.
use mathlib.Core.Path.{◌≡◌}
use Prim.Native.Nat.{◌*◌}
use lib.ListN.{length, drop}
use Rattle.std.specs.Slice.Iter.{chunks_exact_rest, chunks_exact_size}
use Rattle.request.specs.Shape.{largest_of}
use Rattle.request.proofs.largest.Given as goal

abbrev pub invariant-loop-arc : goal.invariant-loop-arc
invariant-loop-arc l =
    (l.most ≡ largest_of l.w l.arcs (length l.yielded) l.j)
    × (chunks_exact_size l.arc-iterator ≡ l.w)
    × (chunks_exact_rest l.arc-iterator ≡ drop (length l.yielded * l.w) l.arcs)
