-- `follow`: by where the label leads, with the chain before it followed first. Assumes nothing.
use mathlib.Core.Path.{sym, ap, ◌∙◌}
use native.Mathlib.Omega.{arith}
use Rattle.std.proofs.Common.{Ok}
use Rattle.std.proofs.lemmas.Result.{err_from_is_err_and}
use Rattle.request.specs.Request.{Req, asked, reach}
use Rattle.route.specs.Chain.{chain}
use Rattle.route.specs.declared.store.Link.{Link}
use Rattle.route.proofs.Leading.{kept-before, came-before}
use Rattle.route.proofs.Following.{chain-fails, chain-ends, chain-kept, chain-came, room-left, follow-fails, follow-ends, follow-kept, follow-broke, follow-came}
use Rattle.route.proofs.store.Store.+follow.Goals as goal

-- ---- the label fails, or it is the start

pub returns-in_err-leads : goal.returns-in_err-leads
returns-in_err-leads t c =
    let a = c.args in
    let R : Req = asked a.self.now.request a.self.now.arcs.now in
    let s = a.spot in
    let p = err_from_is_err_and c.from_residual.result c.from_residual.ensures.1 in
    let f = chain-fails R a.self.now.labels.now s.layer s.node s.cell _ (sym c.in_err-leads.ensures) in
    let all = follow-fails a.route.now (chain R a.self.now.labels.now s.layer s.node s.cell) s.layer _ f.0 f.1 in
    record { value = rw (p.1, p.2) all.0; route_after = all.1 }

pub returns-in-Ends : goal.returns-in-Ends
returns-in-Ends t c =
    let a = c.args in
    let R : Req = asked a.self.now.request a.self.now.arcs.now in
    let s = a.spot in
    let all = follow-ends a.route.now (chain R a.self.now.labels.now s.layer s.node s.cell)
    (chain-ends R a.self.now.labels.now s.layer s.node s.cell (sym c.in_ok-leads.ensures ∙ ap (λ (x : Link). Ok x) c.in-Ends.is)) in
    record { value = all.0; route_after = all.1 }

-- ---- it was kept: there is a layer before

pub follow-requires : goal.follow-requires
follow-requires t c =
    let h = kept-before _ _ _ _ _ _ (sym c.in_ok-leads.ensures ∙ ap (λ (x : Link). Ok x) c.in-Kept.is) in
    let b = h.0 in
    let e = h.1 in
    let n = c.requires.layer in
    (omega arith, (omega arith, c.requires.room))

pub returns-in-Kept : goal.returns-in-Kept
unfolding reach
returns-in-Kept t c =
    let a = c.args in
    let R : Req = asked a.self.now.request a.self.now.arcs.now in
    let W = a.self.now.labels.now in
    let s = a.spot in
    let b = c.in-Kept.before in
    let e = c.follow.ensures in
    let all = follow-kept a.route.now (chain R W s.layer s.node s.cell) _ (chain R W b.layer b.node b.cell) e.route_after
    e.value (chain-kept R W s.layer s.node s.cell c.requires.layer b (sym c.in_ok-leads.ensures ∙ ap (λ (x : Link). Ok x) c.in-Kept.is)) in
    record { value = all.0; route_after = all.1 }

-- ---- it came by an arc: there is a layer before, and its chain is the arc behind the chain of the label that it came from

pub follow-requires-in-Came : goal.follow-requires-in-Came
follow-requires-in-Came t c =
    let h = came-before _ _ _ _ _ _ _ (sym c.in_ok-leads.ensures ∙ ap (λ (x : Link). Ok x) c.in-Came.is) in
    let b = h.0 in
    let e = h.1 in
    let n = c.requires.layer in
    (omega arith, (omega arith, c.requires.room))

-- that chain, where it is whole, has fewer arcs than the layer, so that there is room for one more
pub bounds-route-count : goal.bounds-route-count
unfolding reach
bounds-route-count t c =
    let a = c.args in
    let R : Req = asked a.self.now.request a.self.now.arcs.now in
    let m = room-left R a.self.now.labels.now a.spot.layer c.in-Came.before _ (came-before R a.self.now.labels.now a.spot.layer a.spot.node a.spot.cell _ _ (sym c.in_ok-leads.ensures ∙ ap (λ (x : Link). Ok x) c.in-Came.is)) c.in_ok-count-in-Came.ensures.value in
    omega (arith, c.requires, c.follow-in-Came.auto.route)

pub overflow_add-result : goal.overflow_add-result
overflow_add-result t c =
    let a = c.args in
    let R : Req = asked a.self.now.request a.self.now.arcs.now in
    let m = room-left R a.self.now.labels.now a.spot.layer c.in-Came.before _ (came-before R a.self.now.labels.now a.spot.layer a.spot.node a.spot.cell _ _ (sym c.in_ok-leads.ensures ∙ ap (λ (x : Link). Ok x) c.in-Came.is)) c.in_ok-count-in-Came.ensures.value in
    let h = a.self.now.small.hops_few in
    omega (arith, c.requires)

pub returns-in_err-count-in-Came : goal.returns-in_err-count-in-Came
unfolding reach
returns-in_err-count-in-Came t c =
    let a = c.args in
    let R : Req = asked a.self.now.request a.self.now.arcs.now in
    let W = a.self.now.labels.now in
    let s = a.spot in
    let w = c.in-Came in
    let b = w.before in
    let p = err_from_is_err_and c.from_residual-in_err-count-in-Came.result c.from_residual-in_err-count-in-Came.ensures.1 in
    let came = chain-came R W s.layer s.node s.cell c.requires.layer w.arc b (sym c.in_ok-leads.ensures ∙ ap (λ (x : Link). Ok x) w.is) in
    let all = follow-broke a.route.now (chain R W s.layer s.node s.cell) _ (chain R W b.layer b.node b.cell) c.follow-in-Came.ensures.route_after w.arc came _ c.in_err-count-in-Came.ensures.value in
    record { value = rw (p.1, p.2) all.0; route_after = all.1 }

pub returns-in_ok-count-in-Came : goal.returns-in_ok-count-in-Came
unfolding reach
returns-in_ok-count-in-Came t c =
    let a = c.args in
    let R : Req = asked a.self.now.request a.self.now.arcs.now in
    let W = a.self.now.labels.now in
    let s = a.spot in
    let w = c.in-Came in
    let b = w.before in
    let came = chain-came R W s.layer s.node s.cell c.requires.layer w.arc b (sym c.in_ok-leads.ensures ∙ ap (λ (x : Link). Ok x) w.is) in
    let all = follow-came a.route.now (chain R W s.layer s.node s.cell) _ (chain R W b.layer b.node b.cell) c.follow-in-Came.ensures.route_after w.arc came _ c.in_ok-count-in-Came.ensures.value in
    record { value = all.0; route_after = all.1 }
