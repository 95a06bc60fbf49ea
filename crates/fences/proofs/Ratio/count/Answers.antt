-- `count`: fence j + 1 is over the top, so its count is j + 1; fence 4,096 is not, so its count is over. Assumes nothing.
use mathlib.Core.Path.{◌≡◌, sym, ap, ◌∙◌, subst}
use Prim.Native.Nat.{ℕ, ◌+◌, ◌≤◌, ◌<◌, zero-le}
use native.Mathlib.Omega.{arith}
use Rattle.std.proofs.Common.{Some, None}
use Rattle.fences.specs.Fence.{next, fence, HasPosition, buckets}
use Rattle.fences.specs.Answer.{buckets_of}
use Rattle.fences.proofs.Fences.{position-is, le-position, fence-zero, fence-suc, fence-next, buckets-is}
use Rattle.fences.proofs.Answers.{counted, over}
use Rattle.fences.proofs.Ratio.count.Goals as goal

-- the top has position j: its count is j + 1
found : (p q t j : ℕ) → 0 < q → HasPosition p q t j → j < 4096 → Some (j + 1) ≡ buckets_of p q t
found p q t j pos at h =
    let e : buckets p q t ≡ j + 1 = buckets-is p q t ∙ ap (λ (k : ℕ). k + 1) (position-is p q pos at) in
    sym (counted p q t (omega arith) ∙ ap Some e)

-- fence 4,096 is at most the top: the count is over
passed-all : (p q t : ℕ) → 0 < q → fence p q 4096 ≤ t → None ≡ buckets_of p q t
passed-all p q t pos h = sym (over p q t (let l = le-position p q pos h in let e = buckets-is p q t in omega arith))

pub loop-j-init : goal.loop-j-init
loop-j-init c = (sym (fence-zero c.args.self.p c.args.self.q), zero-le)

pub returns-then-top-b : goal.returns-then-top-b
returns-then-top-b c = let s = c.args.self in
    let j = c.loop-j.j in
    found s.p s.q c.args.top j s.q_positive (omega arith, omega (arith, fence-suc s.p s.q j, ap (next s.p s.q) c.loop-j.invariant.0)) (omega arith)

pub loop-j-preserved : goal.loop-j-preserved
loop-j-preserved c = let s = c.args.self in
    (c.next_fence-b.ensures ∙ ap (next s.p s.q) c.loop-j.invariant.0 ∙ sym (fence-next s.p s.q c.loop-j.j), omega arith)

pub returns : goal.returns
returns c = let s = c.args.self in
    let e : c.loop-j.j ≡ 4096 = omega arith in
    passed-all s.p s.q c.args.top s.q_positive (subst (λ (j : ℕ). fence s.p s.q j ≤ c.args.top) e (omega arith))
