-- `follow` calls itself in the layer before: the measure is the layer. Assumes nothing.
use Rattle.route.proofs.store.Store.+follow.Given as goal

abbrev pub decreases-follow : goal.decreases-follow
decreases-follow l = l.spot.layer
