-- `put_bytes`: the part of the buffer becomes the bytes. Assumes nothing.
use Rattle.std.proofs.Common.{arith}
use Rattle.words.proofs.Writes.{lent}
use Rattle.text.proofs.put_bytes.Goals as goal

pub returns-clause-out_after : goal.returns-clause-out_after
returns-clause-out_after c = grind (arith, lent)
