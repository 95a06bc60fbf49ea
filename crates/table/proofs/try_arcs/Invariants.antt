-- `try_arcs`. The loop's invariant: the arcs so far are passed (`Along`), and the words of the others are left. Assumes nothing.
use mathlib.Core.Path.{◌≡◌}
use Prim.Native.Nat.{◌*◌}
use lib.ListN.{length, drop}
use Rattle.std.specs.Iterator.Adapters.{enumerate_source, enumerate_count}
use Rattle.std.specs.Slice.Iter.{chunks_exact_rest, chunks_exact_size}
use Rattle.tries.specs.Tries.{asked_by}
use Rattle.table.proofs.Passing.{Along}
use Rattle.table.proofs.try_arcs.Given as goal

abbrev pub invariant-loop-a : goal.invariant-loop-a
invariant-loop-a l = record {
  passed : Along (asked_by l.s) l.initial.labels l.prev l.base l.labels l.tries (length l.yielded);
  number : enumerate_count l.a-iterator ≡ length l.yielded;
  size : chunks_exact_size (enumerate_source l.a-iterator) ≡ l.s.w;
  left : chunks_exact_rest (enumerate_source l.a-iterator) ≡ drop (length l.yielded * l.s.w) l.s.arcs.now;
}
