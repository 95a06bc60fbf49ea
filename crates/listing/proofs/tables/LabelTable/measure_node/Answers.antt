-- `measure_node`: the first c cells are measured. Assumes nothing.
use Prim.Native.Nat.{ℕ}
use mathlib.Core.Path.{◌≡◌, sym, ap, ◌∙◌}
use native.Mathlib.Omega.{arith}
use lib.ListN.{length}
use Rattle.words.specs.Loops.{total}
use Rattle.words.specs.Pieces.{join}
use Rattle.words.proofs.Loops.{total-zero, total-next}
use Rattle.words.proofs.Pieces.{join-zero}
use Rattle.request.specs.Shape.{cells}
use Rattle.listing.specs.Listing.{filled_at, filled_of, label_line, node_lines}
use Rattle.listing.specs.Print.{asked_in}
use Rattle.listing.proofs.Lines.{measured-none, measured-some}
use Rattle.listing.proofs.Joins.{join-end}
use Rattle.listing.proofs.tables.LabelTable.measure_node.Goals as goal
use Rattle.listing.proofs.tables.LabelTable.measure_node.Goals.{in-Some, in_default}

pub loop-c-init : goal.loop-c-init
loop-c-init c =
    let s = c.args.self.now.store in
    (sym (total-zero (filled_at (asked_in s) s.labels.now c.args.node)), omega arith, sym (ap length (join-zero (label_line (asked_in s) s.labels.now c.args.node))), omega arith)

pub loop-c-preserved : goal.loop-c-preserved
loop-c-preserved c =
    let s = c.args.self.now.store in
    let l = c.loop-c in
    let t = total-next (filled_at (asked_in s) s.labels.now c.args.node) l.c in
    let j = join-end (label_line (asked_in s) s.labels.now c.args.node) l.c in
    elim c.match-measure_label.branch [
      | in-Some w ↦
          let m = measured-some (asked_in s) s.labels.now c.args.node l.c w.in-Some.n w.in-Some.ensures.value in (
            omega (arith, w.filled-is, t, m.0, l.invariant.0),
            omega (arith, w.filled-is, l.invariant.1),
            omega (arith, w.bytes-is, j, m.1, l.invariant.2),
            omega (arith, w.bytes-is, w.in-Some.ensures.upper_bound, l.invariant.3),
          )
      | in_default w ↦
          let m = measured-none (asked_in s) s.labels.now c.args.node l.c (sym w.in_default.is ∙ c.measure_label.ensures.value) in (
            omega (arith, w.filled-is, t, m.0, l.invariant.0),
            omega (arith, w.filled-is, l.invariant.1),
            omega (arith, w.bytes-is, j, m.1, l.invariant.2),
            omega (arith, w.bytes-is, l.invariant.3),
          )
    ]

pub returns : goal.returns
unfolding filled_of node_lines
returns c =
    let s = c.args.self.now.store in
    let l = c.loop-c in
    let e : l.c ≡ cells (asked_in s) = omega (arith, c.loop-c-test.false, l.auto.c-end, s.cells_is) in
    let i = l.invariant in
    record {
      filled_value = (i.0 ∙ ap (total (filled_at (asked_in s) s.labels.now c.args.node)) e, omega (arith, i.1, l.auto.c-end));
      bytes_value = (i.2 ∙ ap (λ (k : ℕ). length (join (label_line (asked_in s) s.labels.now c.args.node) k)) e, omega (arith, i.3, l.auto.c-end));
    }
