-- `put_node`: the lines of the first c cells are written. Assumes nothing.
use Prim.Native.Nat.{ℕ, ◌+◌}
use mathlib.Core.Path.{◌≡◌, ap, ◌∙◌}
use native.Mathlib.Omega.{arith}
use lib.ListN.{length}
use Rattle.words.specs.Pieces.{write, join}
use Rattle.words.proofs.Turns.{join-put}
use Rattle.request.specs.Shape.{cells}
use Rattle.listing.specs.Listing.{label_line, node_lines}
use Rattle.listing.specs.Print.{asked_in}
use Rattle.listing.proofs.Joins.{join-end, join-room, join-none}
use Rattle.listing.proofs.tables.LabelTable.put_node.Goals as goal

pub loop-c-init : goal.loop-c-init
loop-c-init c =
    let s = c.args.self.now.store in
    join-none (label_line (asked_in s) s.labels.now c.args.node) c.args.listing.now c.args.at

pub put_label-a-requires-clause-cell_in_bounds : goal.put_label-a-requires-clause-cell_in_bounds
unfolding node_lines
put_label-a-requires-clause-cell_in_bounds c =
    let s = c.args.self.now.store in
    let l = c.loop-c in
    let f = label_line (asked_in s) s.labels.now c.args.node in
    omega (arith, l.invariant.0, c.requires.node_in_bounds, l.auto.listing, join-end f l.c, join-room f (l.c + 1) (cells (asked_in s)) (omega (arith, c.loop-c-test.true, s.cells_is)))

pub loop-c-preserved : goal.loop-c-preserved
loop-c-preserved c =
    let s = c.args.self.now.store in
    let l = c.loop-c in
    let p = c.put_label-a in
    let f = label_line (asked_in s) s.labels.now c.args.node in (
      omega (arith, p.ensures.value, l.invariant.0, join-end f l.c),
      join-put f c.args.listing.now l.listing p.new.listing c.args.at l.a l.c l.invariant.0 l.invariant.1 p.ensures.listing_after,
    )

pub returns : goal.returns
unfolding node_lines
returns c =
    let s = c.args.self.now.store in
    let l = c.loop-c in
    let e : l.c ≡ cells (asked_in s) = omega (arith, c.loop-c-test.false, l.auto.c-end, s.cells_is) in
    let f = label_line (asked_in s) s.labels.now c.args.node in
    record { value = l.invariant.0 ∙ ap (λ (k : ℕ). c.args.at + length (join f k)) e; listing_after = l.invariant.1 ∙ ap (λ (k : ℕ). write c.args.listing.now c.args.at (join f k)) e }
