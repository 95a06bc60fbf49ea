-- `pack`: number × 2^48 + low, which fits since the number is below 2^16 and low below 2^32. Assumes nothing.
use native.Mathlib.Omega.{arith}
use Rattle.desk.specs.Packed.{pack}
use Rattle.desk.proofs.pack.Goals as goal

pub returns : goal.returns
unfolding pack
returns c = omega arith
