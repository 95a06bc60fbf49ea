-- `places_of`. The loop's invariant: the places from j on are within their counts (`Digits`). Assumes nothing.
use Prim.Native.Nat.{◌-◌, ◌<◌}
use lib.ListN.{get_or}
use native.Mathlib.Nat.{mod-lt}
use Rattle.tries.proofs.Digits.{one-divided}
use Rattle.tries.proofs.Arcs.{counts_some}
use native.Mathlib.Omega.{arith}
use Rattle.tries.proofs.Frame.places_of.Goals as goal
use Rattle.tries.proofs.Frame.places_of.Goals.{In-loop-j}

-- in the loop the count of criterion j - 1 is no zero
some : (b : In-loop-j) → 0 < get_or b.args.self.now.counts (b.loop-j.j - 1) 0
some b = counts_some b.args.self.now _ (omega (arith, b.loop-j.invariant.inside, b.loop-j-test.true))

pub nonzero_rem-places : goal.nonzero_rem-places
nonzero_rem-places c = some (goal.at.nonzero_rem-places c).In-loop-j

pub nonzero_div-rest : goal.nonzero_div-rest
nonzero_div-rest c = some (goal.at.nonzero_div-rest c).In-loop-j

pub loop-j-preserved : goal.loop-j-preserved
loop-j-preserved c = let s = c.args.self.now in
    let l = c.loop-j in
    one-divided s.counts (s.d - 1) l.places l.j l.invariant (omega (arith, s.framed.sized.few)) c.loop-j-test.true _ (mod-lt l.rest (some (goal.at.loop-j-preserved c).In-loop-j))
