-- `weigh_arcs`. The loop's invariant: no arc so far is bad, and the words of the others are left. Assumes nothing.
use mathlib.Core.Path.{◌≡◌}
use Prim.Native.Nat.{ℕ, ◌+◌, ◌*◌, ◌<◌}
use mathlib.Core.Bool.{not}
use lib.ListN.{length, drop}
use lib.Dec.{T}
use Rattle.std.specs.Iterator.Adapters.{enumerate_source, enumerate_count}
use Rattle.std.specs.Slice.Iter.{chunks_exact_rest, chunks_exact_size}
use Rattle.request.specs.Rows.{arc_row}
use Rattle.request.proofs.weigh.weigh_arcs.Given as goal

abbrev pub invariant-loop-a : goal.invariant-loop-a
invariant-loop-a l =
    ((i : ℕ) → i < length l.yielded → T (not (arc_row l.n l.d l.arcs i).holds))
    × (enumerate_count l.a-iterator ≡ length l.yielded)
    × (chunks_exact_size (enumerate_source l.a-iterator) ≡ l.d + 2)
    × (chunks_exact_rest (enumerate_source l.a-iterator) ≡ drop (length l.yielded * (l.d + 2)) l.arcs)
