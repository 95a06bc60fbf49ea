-- `put_labels`: the lines of the first v nodes are written. Assumes nothing.
use Prim.Native.Nat.{ℕ, ◌+◌}
use mathlib.Core.Path.{◌≡◌, ap, ◌∙◌}
use native.Mathlib.Omega.{arith}
use Rattle.words.specs.Pieces.{write, join}
use Rattle.words.proofs.Turns.{join-put}
use Rattle.listing.specs.Listing.{node_lines, label_lines}
use Rattle.listing.specs.Print.{asked_in}
use Rattle.listing.proofs.Joins.{join-end, join-room, join-none}
use Rattle.listing.proofs.tables.LabelTable.put_labels.Goals as goal

pub loop-v-init : goal.loop-v-init
loop-v-init c =
    let s = c.args.self.now.store in
    join-none (node_lines (asked_in s) s.labels.now) c.args.listing.now c.args.at

pub put_node-a-requires-clause-node_in_bounds : goal.put_node-a-requires-clause-node_in_bounds
unfolding label_lines
put_node-a-requires-clause-node_in_bounds c =
    let s = c.args.self.now.store in
    let l = c.loop-v in
    let f = node_lines (asked_in s) s.labels.now in
    omega (arith, l.invariant.0, c.requires, l.auto.listing, join-end f l.v, join-room f (l.v + 1) s.request.nodes (omega (arith, c.loop-v-test.true)))

pub loop-v-preserved : goal.loop-v-preserved
loop-v-preserved c =
    let s = c.args.self.now.store in
    let l = c.loop-v in
    let p = c.put_node-a in
    let f = node_lines (asked_in s) s.labels.now in (
      omega (arith, p.ensures.value, l.invariant.0, join-end f l.v),
      join-put f c.args.listing.now l.listing p.new.listing c.args.at l.a l.v l.invariant.0 l.invariant.1 p.ensures.listing_after,
    )

pub returns : goal.returns
unfolding label_lines
returns c =
    let s = c.args.self.now.store in
    let l = c.loop-v in
    let e : l.v ≡ s.request.nodes = omega (arith, c.loop-v-test.false, l.auto.v-end) in
    l.invariant.1 ∙ ap (λ (k : ℕ). write c.args.listing.now c.args.at (join (node_lines (asked_in s) s.labels.now) k)) e
