-- `piece`: what the buffer has of it. Assumes nothing.
use Rattle.route.proofs.Places.{piece-cut}
use Rattle.route.proofs.holds.piece.Goals as goal

pub returns : goal.returns
returns c = let a = c.args in piece-cut a.s.now a.k a.w _ _ c.min.ensures c.min-2.ensures
