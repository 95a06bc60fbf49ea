-- `fill_ladders`. The loop's invariant: the ladders before criterion j stand at the front, and end at `at`. Assumes nothing.
use mathlib.Core.Path.{◌≡◌}
use Rattle.words.specs.Loops.{total}
use Rattle.words.specs.Pieces.{write, join}
use Rattle.request.proofs.Filling.{ladder_of, long_of}
use Rattle.request.proofs.fill_ladders.Given as goal

abbrev pub invariant-loop-j : goal.invariant-loop-j
invariant-loop-j l = (l.at ≡ total (long_of l.ratios l.counts) l.j) × (l.ladders ≡ write l.initial.ladders 0 (join (ladder_of l.ratios l.counts) l.j))
