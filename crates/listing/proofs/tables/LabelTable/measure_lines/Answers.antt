-- `measure_lines`: the first v nodes are measured. Assumes nothing.
use Prim.Native.Nat.{ℕ, ◌+◌, ◌*◌, ◌≤◌, ◌<◌}
use mathlib.Core.Path.{◌≡◌, sym, ap, ◌∙◌}
use native.Mathlib.Omega.{arith}
use native.Mathlib.Nat.{mul-le-mul_right, add-mul, one-mul}
use lib.ListN.{length}
use Rattle.words.specs.Loops.{total}
use Rattle.words.specs.Pieces.{join}
use Rattle.words.proofs.Loops.{total-zero, total-next}
use Rattle.words.proofs.Pieces.{join-zero}
use Rattle.listing.specs.Listing.{filled_of, filled_last, node_lines, label_lines}
use Rattle.listing.specs.Print.{asked_in}
use Rattle.listing.specs.declared.tables.LabelTable.{LabelTable}
use Rattle.listing.proofs.Places.{table_is, few-labels}
use Rattle.listing.proofs.Joins.{join-end}
use Rattle.listing.proofs.tables.LabelTable.measure_lines.Goals as goal

-- the labels of v nodes are few, and still are with one node more
some-few : (t : LabelTable) (v : ℕ) → v ≤ t.store.request.nodes → v * t.store.cells ≤ 1048576
some-few t v h = let s = t.store in omega (arith, mul-le-mul_right s.cells h, few-labels s.request s.arcs.now s.labels.now s.cells (table_is t))

next-few : (t : LabelTable) (v : ℕ) → v < t.store.request.nodes → v * t.store.cells + t.store.cells ≤ 1048576
next-few t v h = omega (arith, some-few t (v + 1) (omega (arith, h)), add-mul v 1 t.store.cells, one-mul t.store.cells)

pub loop-v-init : goal.loop-v-init
loop-v-init c =
    let s = c.args.self.now.store in
    (sym (total-zero (filled_of (asked_in s) s.labels.now)), omega arith, sym (ap length (join-zero (node_lines (asked_in s) s.labels.now))), omega arith)

pub overflow_add-filled : goal.overflow_add-filled
overflow_add-filled c = omega (arith, c.measure_node-node.ensures.filled_value.1, c.loop-v.invariant.1, next-few c.args.self.now c.loop-v.v c.loop-v-test.true)

pub overflow_add-bytes : goal.overflow_add-bytes
overflow_add-bytes c = omega (arith, c.measure_node-node.ensures.bytes_value.1, c.loop-v.invariant.3, next-few c.args.self.now c.loop-v.v c.loop-v-test.true)

pub loop-v-preserved : goal.loop-v-preserved
loop-v-preserved c =
    let s = c.args.self.now.store in
    let l = c.loop-v in
    let m = c.measure_node-node.ensures in
    let t = total-next (filled_of (asked_in s) s.labels.now) l.v in
    let j = join-end (node_lines (asked_in s) s.labels.now) l.v in
    let k : (l.v + 1) * s.cells ≡ l.v * s.cells + s.cells = omega (arith, add-mul l.v 1 s.cells, one-mul s.cells) in (
      omega (arith, t, m.filled_value.0, l.invariant.0),
      omega (arith, m.filled_value.1, l.invariant.1),
      omega (arith, j, m.bytes_value.0, l.invariant.2),
      omega (arith, m.bytes_value.1, l.invariant.3),
    )

pub returns : goal.returns
unfolding filled_last label_lines
returns c =
    let s = c.args.self.now.store in
    let l = c.loop-v in
    let e : l.v ≡ s.request.nodes = omega (arith, c.loop-v-test.false, l.auto.v-end) in
    record {
      filled_value = l.invariant.0 ∙ ap (total (filled_of (asked_in s) s.labels.now)) e;
      bytes_value = (l.invariant.2 ∙ ap (λ (k : ℕ). length (join (node_lines (asked_in s) s.labels.now) k)) e, omega (arith, l.invariant.3, some-few c.args.self.now l.v l.auto.v-end));
    }
