-- `costs_add_up`: the costs so far are the sums. Assumes nothing.
use Prim.Native.Nat.{ℕ, ◌+◌, ◌<◌}
use mathlib.Core.Path.{◌≡◌}
use lib.ListN.{get_or}
use Rattle.route.proofs.holds.costs_add_up.Given as goal

abbrev pub invariant-loop-j : goal.invariant-loop-j
invariant-loop-j l = (k : ℕ) → k < l.j → get_or l.l k 0 ≡ get_or l.reached k 0 + get_or l.arc (k + 2) 0
