-- `count_buckets`: the ladder top fits, and the ratio is in range. Assumes nothing.
use mathlib.Core.Path.{◌≡◌, ap, ap₂, ◌∙◌}
use Prim.Native.Nat.{ℕ, ◌+◌, ◌-◌, ◌*◌, ◌≤◌, ◌<◌}
use mathlib.Core.List.{List}
use lib.ListN.{get_or}
use Rattle.fences.specs.Answer.{buckets_of}
use Rattle.request.specs.declared.Request.{Request}
use Rattle.request.specs.Request.{asked, ratio_p, ratio_q}
use Rattle.request.specs.Shape.{top}
use Rattle.request.specs.Accepted.{Regular, Small}
use Rattle.request.proofs.Tops.{top-le}
use Rattle.request.proofs.Stages.{top-is}
use native.Mathlib.Omega.{arith}
use Rattle.request.proofs.count_buckets.Goals as goal

-- the ratio of criterion j is in range
ratio-good : (q : Request) (arcs : List ℕ) → Regular (asked q arcs) → Small (asked q arcs) → (j : ℕ) → j < q.criteria - 1 → (0 < get_or q.ratios (j * 2 + 1) 0) × (get_or q.ratios (j * 2) 0 ≤ get_or q.ratios (j * 2 + 1) 0)
unfolding ratio_p ratio_q
ratio-good q arcs ok small j l = (ok.ratio_in j l, small.ratio_order j l)

answered : (q : Request) (arcs : List ℕ) (j x : ℕ) → q.hops * x ≡ top (asked q arcs) j
    → buckets_of (get_or q.ratios (j * 2) 0) (get_or q.ratios (j * 2 + 1) 0) (q.hops * x) ≡ buckets_of (ratio_p (asked q arcs) j) (ratio_q (asked q arcs) j) (top (asked q arcs) j)
unfolding ratio_p ratio_q
answered q arcs j x e = ap (buckets_of (get_or q.ratios (j * 2) 0) (get_or q.ratios (j * 2 + 1) 0)) e

pub overflow_mul-top : goal.overflow_mul-top
overflow_mul-top c = let a = c.args in
    let p = c.requires in
    let e = top-is a.q a.arcs.now a.j c.largest-most.result c.largest-most.ensures in
    let t = top-le (asked a.q a.arcs.now) p.small a.j (omega arith) in
    omega arith

pub ratio-requires-clause-q_positive : goal.ratio-requires-clause-q_positive
ratio-requires-clause-q_positive c = let p = c.requires in
    (ratio-good c.args.q c.args.arcs.now p.regular p.small c.args.j p.j_bound).0

pub ratio-requires-clause-p_within : goal.ratio-requires-clause-p_within
ratio-requires-clause-p_within c = let p = c.requires in
    (ratio-good c.args.q c.args.arcs.now p.regular p.small c.args.j p.j_bound).1

pub count-requires : goal.count-requires
count-requires c = let a = c.args in
    let p = c.requires in
    let e = top-is a.q a.arcs.now a.j c.largest-most.result c.largest-most.ensures in
    let t = top-le (asked a.q a.arcs.now) p.small a.j (omega arith) in
    omega arith

pub returns : goal.returns
returns c = let a = c.args in
    let top = c.largest-most.result in
    let r = c.ratio in
    c.count.ensures ∙ ap₂ (λ (p q : ℕ). buckets_of p q (a.q.hops * top)) r.ensures.0 r.ensures.1
    ∙ answered a.q a.arcs.now a.j top (top-is a.q a.arcs.now a.j top c.largest-most.ensures)
