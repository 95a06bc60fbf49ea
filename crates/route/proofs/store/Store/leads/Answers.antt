-- `leads`: the label's step says its kind, and the test of that kind decides. Assumes nothing.
use Prim.Native.Nat.{ℕ}
use mathlib.Core.Path.{◌≡◌, sym, ap, ◌∙◌}
use mathlib.Core.Bool.{Bool, cond}
use mathlib.Core.List.{List}
use native.Mathlib.Omega.{arith}
use lib.ListN.{get_or}
use Rattle.std.proofs.Common.{Ok, Err}
use Rattle.request.specs.Request.{asked, arc, tail}
use Rattle.request.specs.declared.Refusal.TheVariants as refusal
use Rattle.rounds.specs.Label.{from}
use Rattle.route.specs.Links.{spot, link_of}
use Rattle.route.specs.declared.store.Link.TheVariants as link
use Rattle.route.proofs.Steps.{start-word, kept-word, came-word, empty-word}
use Rattle.route.proofs.Leading.{lead-empty, lead-start, lead-kept, lead-came}
use Rattle.route.proofs.store.Store.leads.Goals as goal
use Rattle.route.proofs.store.Store.leads.Goals.{After-arc_holds}

-- ---- the step says the kind that a test asks for

pub start_holds-requires : goal.start_holds-requires
start_holds-requires c = start-word _ c.in-Start.ensures

pub kept_holds-requires : goal.kept_holds-requires
kept_holds-requires c = kept-word _ c.in-Kept.ensures

pub arc_holds-requires : goal.arc_holds-requires
arc_holds-requires c = (came-word _ _ c.in-Came.ensures).0

-- ---- a start

pub returns-in-Start : goal.returns-in-Start
returns-in-Start c = lead-start _ _ _ _ _ _ c.label-l.ensures (start-word _ c.in-Start.ensures) c.if-start_holds.ensures

pub returns-in_default : goal.returns-in_default
returns-in_default c = lead-start _ _ _ _ _ _ c.label-l.ensures (start-word _ c.in-Start.ensures) c.if-start_holds.ensures

-- ---- a kept label

pub returns-in-Kept : goal.returns-in-Kept
returns-in-Kept c = lead-kept _ _ _ _ _ _ c.label-l.ensures _ (omega arith) _ c.label.ensures (kept-word _ c.in-Kept.ensures) c.if-kept_holds.ensures

pub returns-in_default-2 : goal.returns-in_default-2
returns-in_default-2 c = lead-kept _ _ _ _ _ _ c.label-l.ensures _ (omega arith) _ c.label.ensures (kept-word _ c.in-Kept.ensures) c.if-kept_holds.ensures

-- ---- a label that came by an arc

-- whatever its test answers
by-arc : (c : After-arc_holds) {b : Bool} → b ≡ c.arc_holds.result → cond b (Ok (link.Came c.in-Came.arc (spot c.saturating_sub-layer.result c.word-node.result c.word-cell.result))) (Err (refusal.Chain c.args.spot.layer))
    ≡ link_of (asked c.args.self.now.request c.args.self.now.arcs.now) c.args.self.now.labels.now c.args.spot.layer c.args.spot.node c.args.spot.cell
unfolding from tail arc
by-arc c e =
    lead-came _ _ _ _ _ _ c.label-l.ensures _ (omega arith) _ _ _ _ (came-word _ _ c.in-Came.ensures)
    (c.word-node.ensures ∙ ap (λ (z : List ℕ). get_or z 0 0) c.piece.ensures)
    c.word-cell.ensures c.label-in-Came.ensures (e ∙ c.arc_holds.ensures)

pub returns-then-arc_holds : goal.returns-then-arc_holds
returns-then-arc_holds c = by-arc (goal.at.returns-then-arc_holds c).After-arc_holds (sym c.if-arc_holds.true)

pub returns-else-arc_holds : goal.returns-else-arc_holds
returns-else-arc_holds c = by-arc (goal.at.returns-else-arc_holds c).After-arc_holds (sym c.if-arc_holds.false)

-- ---- an empty one

pub returns-in_default-3 : goal.returns-in_default-3
returns-in_default-3 c = lead-empty _ _ _ _ _ _ c.label-l.ensures (empty-word _ c.in_default.ensures)
