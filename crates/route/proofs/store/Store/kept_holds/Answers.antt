-- `kept_holds`: the tests before the label reached, joined as they stand, and the costs. Assumes nothing.
use mathlib.Core.Path.{◌≡◌, sym, ◌∙◌}
use native.Mathlib.Omega.{arith}
use lib.Seq.{length-take-le}
use Rattle.request.specs.Request.{asked}
use Rattle.rounds.specs.Label.{costs, step, from, filled}
use Rattle.route.specs.Chain.{same, agrees, kept_holds}
use Rattle.route.proofs.Comparing.{same-pointwise}
use Rattle.route.proofs.Holding.{costs-inside, reached-inside}
use Rattle.route.proofs.Steps.{told-filled}
use Rattle.route.proofs.store.Store.kept_holds.Goals as goal
use Rattle.route.proofs.store.Store.kept_holds.Goals.{After-is_filled}

-- the label reached is filled as its step word says
told : (c : After-is_filled) → c.is_filled.result ≡ filled (asked c.args.self.now.request c.args.self.now.arcs.now) c.args.reached.now
told c = let a = c.args in told-filled (asked a.self.now.request a.self.now.arcs.now) a.reached.now _ _ c.step.ensures c.is_filled.ensures

pub slice_bounds-eq-end : goal.slice_bounds-eq-end
slice_bounds-eq-end c =
    let a = c.args in
    let h = c.requires in
    sym (length-take-le a.self.now.request.criteria a.l.now (costs-inside (asked a.self.now.request a.self.now.arcs.now) a.l.now (omega arith)))

pub slice_bounds-eq-end-else-not-is_filled : goal.slice_bounds-eq-end-else-not-is_filled
slice_bounds-eq-end-else-not-is_filled c =
    let a = c.args in
    let t = told (goal.at.slice_bounds-eq-end-else-not-is_filled c).After-is_filled in
    sym (length-take-le a.self.now.request.criteria a.reached.now (reached-inside (asked a.self.now.request a.self.now.arcs.now) a.reached.now (sym t ∙ c.if-not-is_filled.false)))

pub returns-then-not-is_filled : goal.returns-then-not-is_filled
unfolding kept_holds agrees step from
returns-then-not-is_filled c =
    let r = c.requires in
    let h = c.if-spot-gt0.branch in
    let t = sym (told (goal.at.returns-then-not-is_filled c).After-is_filled) ∙ c.if-not-is_filled.true in
    grind arith

pub returns-else-not-is_filled : goal.returns-else-not-is_filled
unfolding kept_holds agrees step from costs
returns-else-not-is_filled c =
    let a = c.args in
    let R = asked a.self.now.request a.self.now.arcs.now in
    let r = c.requires in
    let t = sym (told (goal.at.returns-else-not-is_filled c).After-is_filled) ∙ c.if-not-is_filled.false in
    let e : c.eq.result ≡ same (costs R a.l.now) (costs R a.reached.now) = c.eq.ensures ∙ same-pointwise (costs R a.l.now) (costs R a.reached.now) in
    let h = c.if-spot-gt0.branch in
    grind arith

pub returns-else-from-eq0 : goal.returns-else-from-eq0
unfolding kept_holds step from
returns-else-from-eq0 c = let r = c.requires in let h = c.if-spot-gt0.branch in let k = c.if-from-eq0.either in grind arith
