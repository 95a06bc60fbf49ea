-- `check`: the first of the weighings that refuses decides, and then the shape. Assumes nothing.
use mathlib.Core.Path.{◌≡◌, sym, ap, ◌∙◌}
use Prim.Native.Nat.{ℕ, ◌-◌, ◌≤◌}
use mathlib.Core.Logic.{◌⊎◌, inl, inr}
use mathlib.Core.List.{List}
use lib.ListN.{get_or}
use native.Mathlib.Decide.{ℕ_discrete}
use Rattle.std.proofs.lemmas.Result.{err_from_is_err_and}
use Rattle.request.specs.Request.{asked}
use Rattle.request.specs.Answer.{shaped_of}
use Rattle.request.proofs.Accepted.{regular, small}
use Rattle.request.proofs.Counts.{count-few, shape-decides, early-decides, bucket-decides}
use native.Mathlib.Omega.{arith}
use Rattle.request.proofs.check.Goals as goal

-- two criteria or three
graded-two : (d : ℕ) → 2 ≤ d → d ≤ 3 → (d - 1 ≡ 1) ⊎ (d - 1 ≡ 2)
graded-two d two three = go (ℕ_discrete d 2)
  where
    go : Dec (d ≡ 2) → (d - 1 ≡ 1) ⊎ (d - 1 ≡ 2)
    go (yes e) = inl (omega arith)
    go (no e) = inr (omega arith)

pub returns-in_err-weigh_asked : goal.returns-in_err-weigh_asked
returns-in_err-weigh_asked c = let a = c.args in
    let p = err_from_is_err_and c.from_residual.result c.from_residual.ensures.1 in
    rw (p.1, p.2) (early-decides (asked a.q a.arcs.now) _ (sym c.in_err-weigh_asked.ensures))

pub count_all-requires-clause-regular : goal.count_all-requires-clause-regular
count_all-requires-clause-regular c = regular (asked c.args.q c.args.arcs.now) (sym c.in_ok-weigh_asked.ensures)

pub count_all-requires-clause-small : goal.count_all-requires-clause-small
count_all-requires-clause-small c = small (asked c.args.q c.args.arcs.now) (sym c.in_ok-weigh_asked.ensures)

pub returns-in_err-counts : goal.returns-in_err-counts
returns-in_err-counts c = let a = c.args in
    let p = err_from_is_err_and c.from_residual-in_err-counts.result c.from_residual-in_err-counts.ensures.1 in
    rw (p.1, p.2) (bucket-decides (asked a.q a.arcs.now) _ (sym c.in_ok-weigh_asked.ensures) (sym c.in_err-counts.ensures.outcome))

pub judge_labels-requires : goal.judge_labels-requires
judge_labels-requires c = let R = asked c.args.q c.args.arcs.now in
    let s = small R (sym c.in_ok-weigh_asked.ensures) in
    let few = count-few R (sym c.in_ok-counts.ensures.outcome) in
    let are = c.in_ok-counts.ensures.counts in
    (s.nodes_few, s.hops_few, rw (ap (λ (l : List ℕ). get_or l 0 0) are) (few 0), rw (ap (λ (l : List ℕ). get_or l 1 0) are) (few 1))

pub returns : goal.returns
returns c = let q = c.args.q in
    let R = asked q c.args.arcs.now in
    let early = sym c.in_ok-weigh_asked.ensures in
    let s = small R early in
    c.judge_labels.ensures
    ∙ ap (λ (l : List ℕ). shaped_of q.nodes q.hops (get_or l 0 0) (get_or l 1 0)) c.in_ok-counts.ensures.counts
    ∙ shape-decides R (graded-two q.criteria s.two s.three) early (sym c.in_ok-counts.ensures.outcome)
