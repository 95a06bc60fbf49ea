-- `put_numbers`: the numbers so far are written, each after sep. Assumes nothing.
use Rattle.std.proofs.Common.{◌≡◌, ◌+◌, length, take}
use Rattle.words.specs.Pieces.{write}
use Rattle.text.specs.Line.{parted}
use Rattle.text.proofs.put_numbers.Given as goal

abbrev pub invariant-loop-v : goal.invariant-loop-v
invariant-loop-v l = (length l.out ≡ length l.initial.out) × (l.a ≡ l.at + length (parted l.sep (take l.v-index l.vs))) × (l.out ≡ write l.initial.out l.at (parted l.sep (take l.v-index l.vs)))
