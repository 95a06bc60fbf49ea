-- `start_holds`: the tests before the costs, joined as they stand, and the costs. Assumes nothing.
use Prim.Native.Nat.{ℕ, ◌≤◌}
use mathlib.Core.Path.{◌≡◌, sym, ◌∙◌}
use native.Mathlib.Omega.{arith}
use lib.ListN.{length, take, replicate}
use lib.Seq.{length-take-le}
use lib.Dec.{eqb}
use borrow.Author.Tests.{tests}
use Rattle.std.proofs.Common.{rules}
use Rattle.std.proofs.lemmas.Iterator.{YieldsList-from_slice}
use Rattle.std.proofs.lemmas.Iterator.Search.{all_from_yields_List}
use Rattle.request.specs.Request.{asked}
use Rattle.rounds.specs.Label.{costs, step, from}
use Rattle.route.specs.Chain.{same, start_holds}
use Rattle.route.proofs.Comparing.{nothing-same}
use Rattle.route.proofs.Holding.{costs-inside}
use Rattle.route.proofs.store.Store.start_holds.Goals as goal

pub slice_bounds-iter-end : goal.slice_bounds-iter-end
slice_bounds-iter-end c =
    let a = c.args in
    let h = c.requires in
    sym (length-take-le a.self.now.request.criteria a.l.now (costs-inside (asked a.self.now.request a.self.now.arcs.now) a.l.now (omega arith)))

pub returns-then-from-eq0 : goal.returns-then-from-eq0
unfolding start_holds step from costs
returns-then-from-eq0 c =
    let l = c.args.l.now in
    let d = c.args.self.now.request.criteria in
    let h = c.requires in
    let long : d ≤ length l = costs-inside (asked c.args.self.now.request c.args.self.now.arcs.now) l (omega arith) in
    let e : c.all.result ≡ same (take d l) (replicate d 0) =
    all_from_yields_List (λ (x : ℕ). eqb x 0) _ _ _ c.all.ensures.ran (YieldsList-from_slice (take d l) cc) (λ x b q k. search (rules, tests)) ∙ nothing-same l d long in
    let k = c.if-spot-eq0.branch in
    let m = c.if-spot-self.branch in
    let n = c.if-spot-eq0-2.branch in
    grind arith

pub returns-else-from-eq0 : goal.returns-else-from-eq0
unfolding start_holds step from
returns-else-from-eq0 c = let r = c.requires in let h = c.if-spot-eq0.branch in let k = c.if-spot-eq0-2.branch in grind arith
