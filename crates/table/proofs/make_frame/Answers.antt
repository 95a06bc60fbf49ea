-- `make_frame`: the sizes are the accepted request's. Assumes nothing.
use Rattle.table.proofs.Building.{framed}
use Rattle.table.proofs.make_frame.Goals as goal

pub invariant_of-result : goal.invariant_of-result
invariant_of-result c = let a = c.args in record { framed = framed a.request a.arcs.now c.requires.accepted a.shape c.requires.shape_is a.ladders.now c.requires.laddered }
