-- `judge_labels`: the products fit, and the branch is row 10. Assumes nothing.
use mathlib.Core.Path.{sym}
use Prim.Native.Nat.{◌+◌, ◌*◌, ◌≤◌}
use native.Mathlib.Nat.{mul-le-mul}
use Rattle.request.proofs.Counts.{too_many, in-shape}
use native.Mathlib.Omega.{arith}
use Rattle.request.proofs.judge_labels.Goals as goal
use Rattle.request.proofs.judge_labels.Goals.{Start}

-- 4,096 × 4,096 cells, 64 nodes, 64 layers: no product is too large
products : (s : Start) → (s.args.b1 * s.args.b2 ≤ 16777216) × (s.args.q.nodes * (s.args.b1 * s.args.b2) ≤ 1073741824) × ((s.args.q.hops + 1) * (s.args.q.nodes * (s.args.b1 * s.args.b2)) ≤ 68719476736)
products s =
    let cells = mul-le-mul {n₂ = 4096} {m₂ = 4096} s.requires.2 s.requires.3 in
    let layer = mul-le-mul {n₂ = 64} {m₂ = 16777216} s.requires.0 cells in
    (cells, layer, mul-le-mul {n₂ = 64} {m₂ = 1073741824} (omega (arith, s.requires.1)) layer)

pub overflow_mul-labels : goal.overflow_mul-labels
overflow_mul-labels c = omega (arith, products (goal.at.overflow_mul-labels c).Start)

pub returns-then-labels-gt1048576 : goal.returns-then-labels-gt1048576
returns-then-labels-gt1048576 c = let a = c.args in sym (too_many a.q.nodes a.q.hops a.b1 a.b2 c.if-labels-gt1048576.true)

pub returns : goal.returns
returns c = let a = c.args in sym (in-shape a.q.nodes a.q.hops a.b1 a.b2 c.if-labels-gt1048576.false)
