-- `arc_holds`: the tests before the costs, joined as they stand, and the costs. Assumes nothing.
use Prim.Native.Nat.{ℕ, ◌<◌}
use mathlib.Core.Path.{◌≡◌, sym, ap, ◌∙◌}
use mathlib.Core.List.{List}
use native.Mathlib.Omega.{arith}
use lib.ListN.{length, take, drop}
use Rattle.request.specs.Request.{Req, asked, arc_count, arc, head, arc_costs}
use Rattle.request.proofs.Tops.{arc-words}
use Rattle.rounds.specs.Label.{costs, step, from, filled, sum}
use Rattle.route.specs.Chain.{same, agrees, arc_holds}
use Rattle.route.proofs.Holding.{costs-inside, reached-inside}
use Rattle.route.proofs.Steps.{told-filled}
use Rattle.route.proofs.store.Store.arc_holds.Goals as goal
use Rattle.route.proofs.store.Store.arc_holds.Goals.{After-is_filled}

-- the label reached is filled as its step word says
told : (c : After-is_filled) → c.is_filled.result ≡ filled (asked c.args.self.now.request c.args.self.now.arcs.now) c.args.reached.now
told c = let a = c.args in told-filled (asked a.self.now.request a.self.now.arcs.now) a.reached.now _ _ c.step.ensures c.is_filled.ensures

pub costs_add_up-requires : goal.costs_add_up-requires
unfolding arc arc_count
costs_add_up-requires c =
    let a = c.args in
    let R : Req = asked a.self.now.request a.self.now.arcs.now in
    let h = c.requires in
    let k = c.if-arc-self.branch in
    let n = c.if-spot-gt0.branch in
    let m = c.if-head-spot.branch in
    let in_arc : a.arc < arc_count R = grind arith in
    let t = told (goal.at.costs_add_up-requires c).After-is_filled in
    (costs-inside R a.l.now (omega arith), reached-inside R a.reached.now (sym t ∙ c.if-not-is_filled.false), ap length c.piece-words.ensures ∙ arc-words R a.self.now.regular a.arc in_arc)

pub returns-then-not-is_filled : goal.returns-then-not-is_filled
unfolding arc_holds agrees step from arc_count head arc
returns-then-not-is_filled c =
    let t = sym (told (goal.at.returns-then-not-is_filled c).After-is_filled) ∙ c.if-not-is_filled.true in
    let r = c.requires in
    let h = c.if-spot-gt0.branch in
    let k = c.if-arc-self.branch in
    let m = c.if-head-spot.branch in
    let n = c.args.self.now.cells_is in
    grind arith

pub returns-else-not-is_filled : goal.returns-else-not-is_filled
unfolding arc_holds agrees step from arc_count head arc costs arc_costs
returns-else-not-is_filled c =
    let t = sym (told (goal.at.returns-else-not-is_filled c).After-is_filled) ∙ c.if-not-is_filled.false in
    let a = c.args in
    let d = a.self.now.request.criteria in
    let R : Req = asked a.self.now.request a.self.now.arcs.now in
    let r = c.requires in
    let e : c.costs_add_up.result ≡ same (costs R a.l.now) (sum (costs R a.reached.now) (arc_costs R a.arc)) =
    c.costs_add_up.ensures ∙ ap (λ (z : List ℕ). same (take d a.l.now) (sum (take d a.reached.now) (drop 2 z))) c.piece-words.ensures in
    let h = c.if-spot-gt0.branch in
    let k = c.if-arc-self.branch in
    let m = c.if-head-spot.branch in
    let n = c.args.self.now.cells_is in
    grind arith

pub returns-else-from-self : goal.returns-else-from-self
unfolding arc_holds step from arc_count head arc
returns-else-from-self c =
    let r = c.requires in
    let h = c.if-spot-gt0.branch in
    let k = c.if-arc-self.branch in
    let m = c.if-head-spot.branch in
    let n = c.args.self.now.cells_is in
    grind arith
