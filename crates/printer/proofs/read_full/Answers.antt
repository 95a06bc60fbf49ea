use Rattle.std.proofs.Common.{rules, subst}
use Rattle.std.specs.Io.KnownBytes.{Consumes}
use Rattle.std.proofs.KnownBytes.{Consumes-trans}
use Rattle.printer.proofs.Fronts.{front-read}
use Rattle.printer.proofs.read_full.Goals as goal

pub loop-done-preserved : goal.loop-done-preserved
loop-done-preserved g c = (
  search rules,
  search rules,
  subst (Consumes _ _) (front-read c.loop-done.bytes c.read.new.buf c.loop-done.done _ c.in_ok-n.n c.loop-done.invariant.1 c.in_ok-n.ensures.bound.0)
      (Consumes-trans _ _ _ _ _ c.loop-done.invariant.2 c.in_ok-n.ensures.bytes.0),
)
