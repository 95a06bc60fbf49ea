-- `weigh_arc`: each branch is a part of rows 8 and 17, in their order within an arc. Assumes nothing.
use Prim.Native.Nat.{◌+◌, ◌≤◌, ◌<◌}
use mathlib.Core.Path.{◌≡◌, sym, ◌∙◌}
use lib.ListN.{get_or}
use lib.Dec.{lit<, ltb}
use borrow.Author.Tests.{tests}
use Rattle.std.proofs.Common.{rules}
use Rattle.std.proofs.lemmas.Iterator.{cases_from_any, YieldsList-from_slice}
use Rattle.words.specs.Loops.{any}
use Rattle.request.proofs.Costs.{costs-any}
use Rattle.words.proofs.Choices.{true-is, false-is}
use Rattle.request.proofs.Branches.{fault-tail, fault-head, fault-loop, fault-cost, fault-none, fault-refused, fault-clear}
use Rattle.request.proofs.weigh.weigh_arc.Goals as goal
use Rattle.request.proofs.weigh.weigh_arc.Goals.{After-any, then-n-arc-via-then-n-arc, then-n-arc-via-else-n-arc+then-n-arc-2}

pub returns-then-n-arc : goal.returns-then-n-arc
returns-then-n-arc c = let a = c.args in
    elim c.then-n-arc.branch [
      | then-n-arc-via-then-n-arc w ↦ sym (fault-refused a.n a.d a.a 8 a.arc.now (fault-tail a.n a.d a.arc.now w.if-n-arc.true) (lit< tt))
      | then-n-arc-via-else-n-arc+then-n-arc-2 w ↦ sym (fault-refused a.n a.d a.a 8 a.arc.now (fault-head a.n a.d a.arc.now w.if-n-arc-2.true) (lit< tt))
    ]

pub returns-then-arc : goal.returns-then-arc
returns-then-arc c = let a = c.args in
    sym (fault-refused a.n a.d a.a 17 a.arc.now (fault-loop a.n a.d a.arc.now c.if-n-arc.false c.if-n-arc-2.false c.if-arc.true) (lit< tt))

-- the search through the costs finds what row 8 asks
found : (c : After-any) → c.any.result ≡ any (λ j. ltb 1000000 (get_or c.args.arc.now (j + 2) 0)) c.args.d
found c = let a = c.args in
    costs-any a.d a.arc.now c.requires _
    (cases_from_any _ _ _ (λ x. 1000000 < x) (λ x. x ≤ 1000000) c.any.ensures.ran (YieldsList-from_slice _ c.iter.ensures.rest) (λ x q k. search (rules, tests)) (λ x q k. search (rules, tests)))

pub returns-then-any : goal.returns-then-any
returns-then-any c = let a = c.args in
    let over = true-is (sym (found (goal.at.returns-then-any c).After-any) ∙ c.if-any.true) in
    sym (fault-refused a.n a.d a.a 8 a.arc.now (fault-cost a.n a.d a.arc.now c.if-n-arc.false c.if-n-arc-2.false c.if-arc.false over) (lit< tt))

pub returns : goal.returns
returns c = let a = c.args in
    let under = false-is (sym (found (goal.at.returns c).After-any) ∙ c.if-any.false) in
    sym (fault-clear a.n a.d a.a a.arc.now (fault-none a.n a.d a.arc.now c.if-n-arc.false c.if-n-arc-2.false c.if-arc.false under))
