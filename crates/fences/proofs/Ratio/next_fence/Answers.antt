-- `next_fence`: the product fits 64 bits, and the fence, at most twice the one before it and 1, fits 32. Assumes nothing.
use Prim.Native.Nat.{◌^◌}
use native.Mathlib.Nat.{lt_of_le_of_lt, mul-le-mul}
use native.Mathlib.Omega.{arith}
use lib.Dec.{lit<}
use Rattle.fences.proofs.Fences.{next_le}
use Rattle.fences.proofs.Ratio.next_fence.Goals as goal

pub overflow_mul-wide : goal.overflow_mul-wide
overflow_mul-wide c = record { fits = lt_of_le_of_lt (mul-le-mul {n₂ = 134217728} {m₂ = 2 ^ 33} c.requires (omega arith)) (lit< tt) }

pub overflow_add-wide-2 : goal.overflow_add-wide-2
overflow_add-wide-2 c = let s = c.args.self in
    omega (arith, next_le s.p s.q s.q_positive s.p_within c.args.b)

pub overflow_cast-result : goal.overflow_cast-result
overflow_cast-result c = let s = c.args.self in
    omega (arith, next_le s.p s.q s.q_positive s.p_within c.args.b)
