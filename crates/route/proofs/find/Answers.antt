-- `find`: rows 2 to 10 with 17, rows 13 to 16 one after another, and then the route. Assumes nothing.
use mathlib.Core.Path.{refl, sym, ap, ◌∙◌}
use mathlib.Core.Logic.{inl, inr, ⊎_elim}
use lib.ListN.{length}
use lib.Seq.{length-take-le}
use Rattle.route.proofs.Holding.{reached-inside}
use Rattle.std.proofs.lemmas.Result.{err_from_is_err_and}
use Rattle.words.specs.Rows.{refused}
use Rattle.request.specs.Request.{Req, asked, reach}
use Rattle.request.specs.Refusal.{number_of, place_of}
use Rattle.request.specs.declared.Refusal.{Refusal}
use Rattle.request.specs.declared.Refusal.TheVariants.{Room, Place}
use Rattle.request.proofs.Accepted.{accepted-regular, accepted-small, accepted-fits}
use Rattle.request.proofs.Answers.{refused-is, shaped-is}
use Rattle.rounds.specs.Rounds.{label_in}
use Rattle.rounds.specs.Label.{costs, filled}
use Rattle.route.specs.Chain.{Chain, chain}
use Rattle.route.specs.declared.Ending.TheVariants as ending
use Rattle.route.proofs.Following.{was-broken, was-whole}
use Rattle.route.proofs.Answering.{refused-early, Placed, empty-cell, chain-broken, chain-whole, none, refused_all, empty-all, route-all}
use Rattle.route.proofs.Reading.{broken-leaves, three-costs, cells_is, at-labels, at-route, at-beyond, placed}
use Rattle.route.proofs.find.Goals as goal
use Rattle.route.proofs.find.Goals.{Else-cells-spot}

-- ---- what is known at each point

-- once it is known that there are such a layer, node and cell: rows 2 to 14 pass
is-there : (c : Else-cells-spot) → Placed (asked c.args.request c.args.arcs.now) c.args.labels.now (length c.args.route.now) c.args.spot.layer c.args.spot.node c.args.spot.cell
is-there c =
    let a = c.args in
    let k = shaped-is (asked a.request a.arcs.now) _ c.in_ok-shape.ensures in
    placed a.request a.arcs.now k.0 _ k.1 a.labels.now (length a.route.now) a.spot.layer a.spot.node a.spot.cell c.if-labels-shape.false c.if-route-request.false c.if-request-spot.false c.if-request-spot-2.false c.if-cells-spot.false

-- ---- the answers

pub returns-in_err-shape : goal.returns-in_err-shape
returns-in_err-shape c =
    let a = c.args in
    let R : Req = asked a.request a.arcs.now in
    let p = err_from_is_err_and c.from_residual.result c.from_residual.ensures.1 in
    let r : Refusal = c.in_err-shape.field-0.0 in
    let w = refused-early R a.labels.now (length a.route.now) a.spot.layer a.spot.node a.spot.cell _ _ (refused-is R r c.in_err-shape.ensures) in
    let all = refused_all R a.labels.now a.route.now a.spot.layer a.spot.node a.spot.cell (ending.Refused r) none refl r w refl in
    record { ending_value = rw (p.1, p.2) all.0; costs_value = rw p.1 all.1.0; route_after = all.1.1 }

pub returns-then-labels-shape : goal.returns-then-labels-shape
returns-then-labels-shape c =
    let a = c.args in
    let R : Req = asked a.request a.arcs.now in
    let k = shaped-is R _ c.in_ok-shape.ensures in
    let w = at-labels a.request a.arcs.now k.0 _ k.1 a.labels.now (length a.route.now) a.spot.layer a.spot.node a.spot.cell c.if-labels-shape.true in
    let all = refused_all R a.labels.now a.route.now a.spot.layer a.spot.node a.spot.cell (ending.Refused (Room 1)) none refl (Room 1) w refl in
    record { ending_value = all.0; costs_value = all.1.0; route_after = all.1.1 }

pub returns-then-route-request : goal.returns-then-route-request
returns-then-route-request c =
    let a = c.args in
    let R : Req = asked a.request a.arcs.now in
    let k = shaped-is R _ c.in_ok-shape.ensures in
    let w = at-route a.request a.arcs.now k.0 _ k.1 a.labels.now (length a.route.now) a.spot.layer a.spot.node a.spot.cell c.if-labels-shape.false c.if-route-request.true in
    let all = refused_all R a.labels.now a.route.now a.spot.layer a.spot.node a.spot.cell (ending.Refused (Room 2)) none refl (Room 2) w refl in
    record { ending_value = all.0; costs_value = all.1.0; route_after = all.1.1 }

pub returns-then-request-spot : goal.returns-then-request-spot
returns-then-request-spot c =
    let a = c.args in
    let R : Req = asked a.request a.arcs.now in
    let k = shaped-is R _ c.in_ok-shape.ensures in
    let w = at-beyond a.request a.arcs.now k.0 _ k.1 a.labels.now (length a.route.now) a.spot.layer a.spot.node a.spot.cell c.if-labels-shape.false c.if-route-request.false
    (⊎_elim (λ x. inl x) (λ y. inr (⊎_elim (λ z. inl z.1) (λ z. inr z.2) y)) c.then-request-spot.either) in
    let all = refused_all R a.labels.now a.route.now a.spot.layer a.spot.node a.spot.cell (ending.Refused Place) none refl Place w refl in
    record { ending_value = all.0; costs_value = all.1.0; route_after = all.1.1 }

pub invariant_of-store : goal.invariant_of-store
invariant_of-store c =
    let a = c.args in
    let R : Req = asked a.request a.arcs.now in
    let k = shaped-is R _ c.in_ok-shape.ensures in
    record { regular = accepted-regular R k.0; small = accepted-small R k.0; fits = accepted-fits R k.0; cells_is = cells_is a.request a.arcs.now k.0 _ k.1 }

pub returns-then-not-is_filled : goal.returns-then-not-is_filled
returns-then-not-is_filled c =
    let a = c.args in
    let R : Req = asked a.request a.arcs.now in
    let s = sym c.is_filled.ensures ∙ c.if-not-is_filled.true in
    let w = empty-cell R a.labels.now (length a.route.now) a.spot.layer a.spot.node a.spot.cell (is-there (goal.at.returns-then-not-is_filled c).Else-cells-spot) s in
    let all = empty-all R a.labels.now a.route.now a.spot.layer a.spot.node a.spot.cell ending.Empty none refl w refl in
    record { ending_value = all.0; costs_value = all.1.0; route_after = all.1.1 }

pub slice_bounds-costs-end : goal.slice_bounds-costs-end
slice_bounds-costs-end c =
    let a = c.args in
    let R : Req = asked a.request a.arcs.now in
    sym (length-take-le a.request.criteria c.label.result.now (reached-inside R c.label.result.now (ap (filled R) c.label.ensures ∙ sym c.is_filled.ensures ∙ c.if-not-is_filled.false)))

pub follow-requires-clause-room : goal.follow-requires-clause-room
unfolding reach
follow-requires-clause-room c = c.if-route-request.false

pub returns-in_err-count : goal.returns-in_err-count
returns-in_err-count c =
    let a = c.args in
    let R : Req = asked a.request a.arcs.now in
    let p = err_from_is_err_and c.from_residual-in_err-count.result c.from_residual-in_err-count.ensures.1 in
    let r : Refusal = c.in_err-count.field-0.0 in
    let ch : Chain = chain R a.labels.now a.spot.layer a.spot.node a.spot.cell in
    let b = was-broken ch r c.in_err-count.ensures.value in
    let s = sym c.is_filled.ensures ∙ c.if-not-is_filled.false in
    let w = chain-broken R a.labels.now (length a.route.now) a.spot.layer a.spot.node a.spot.cell (is-there (goal.at.returns-in_err-count c).Else-cells-spot) s _ b.0 in
    let all = refused_all R a.labels.now a.route.now a.spot.layer a.spot.node a.spot.cell (ending.Refused r) none refl r (w ∙ ap (λ (x : Refusal). refused (number_of x) (place_of x)) b.1) refl in
    record { ending_value = rw (p.1, p.2) all.0; costs_value = rw p.1 all.1.0; route_after = broken-leaves a.route.now _ ch _ c.follow.ensures.route_after b.0 ∙ all.1.1 }

pub returns : goal.returns
unfolding costs
returns c =
    let a = c.args in
    let R : Req = asked a.request a.arcs.now in
    let ch : Chain = chain R a.labels.now a.spot.layer a.spot.node a.spot.cell in
    let h = was-whole ch _ c.in_ok-count.ensures.value in
    let s = sym c.is_filled.ensures ∙ c.if-not-is_filled.false in
    let w = chain-whole R a.labels.now (length a.route.now) a.spot.layer a.spot.node a.spot.cell (is-there (goal.at.returns c).Else-cells-spot) s _ h.0 in
    let x = three-costs R _ (label_in R a.labels.now a.spot.layer a.spot.node a.spot.cell) _ _ _ c.label.ensures c.word.ensures c.word-2.ensures c.word-3.ensures in
    let all = route-all R a.labels.now a.route.now a.spot.layer a.spot.node a.spot.cell w _ h.1 _ _ x c.follow.ensures.route_after in
    record { ending_value = all.0; costs_value = all.1.0; route_after = all.1.1 }
