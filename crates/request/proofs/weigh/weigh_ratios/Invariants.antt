-- `weigh_ratios`. The loop's invariant: no ratio before criterion j is bad. Assumes nothing.
use Prim.Native.Nat.{ℕ, ◌<◌}
use mathlib.Core.Bool.{not}
use lib.Dec.{T}
use Rattle.request.specs.Rows.{ratio_row}
use Rattle.request.proofs.weigh.weigh_ratios.Given as goal

abbrev pub invariant-loop-j : goal.invariant-loop-j
invariant-loop-j l = (i : ℕ) → i < l.j → T (not (ratio_row l.ratios i).holds)
