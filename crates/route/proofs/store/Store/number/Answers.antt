-- `number`: nothing wraps. Assumes nothing.
use Prim.Native.Nat.{◌+◌, ◌*◌, ◌≤◌}
use native.Mathlib.Omega.{arith}
use Rattle.request.specs.Request.{asked}
use Rattle.route.proofs.Places.{Within, within-asked, label-fits}
use Rattle.route.proofs.store.Store.number.Goals as goal
use Rattle.route.proofs.store.Store.number.Goals.{Start}

-- the sizes are small
within : (s : Start) → Within s.args.self.now.request.nodes s.args.self.now.request.criteria s.args.self.now.cells s.args.spot.layer
within s = let w = s.args.self.now in within-asked (asked w.request w.arcs.now) w.regular w.small w.fits w.cells_is s.requires

-- so the label's number is, and so are the numbers that make it up
fits : (s : Start) → (s.args.spot.layer * s.args.self.now.request.nodes ≤ 4032)
    × ((s.args.spot.layer * s.args.self.now.request.nodes + s.args.spot.node) * s.args.self.now.cells ≤ 4503603855228928)
    × ((s.args.spot.layer * s.args.self.now.request.nodes + s.args.spot.node) * s.args.self.now.cells + s.args.spot.cell ≤ 9007199254740992)
fits s = label-fits {v = s.args.spot.node} {c = s.args.spot.cell} (within s) (omega arith) (omega arith)

pub overflow_mul-result : goal.overflow_mul-result
overflow_mul-result c = omega (arith, fits (goal.at.overflow_mul-result c).Start)

pub overflow_add-result : goal.overflow_add-result
overflow_add-result c = omega (arith, fits (goal.at.overflow_add-result c).Start)

pub returns-clause-small : goal.returns-clause-small
returns-clause-small c = (fits (goal.at.returns-clause-small c).Start).2
