-- `outside`: below the low end, or else above the high end or not. Assumes nothing.
use mathlib.Core.Path.{sym, ap, ◌∙◌}
use mathlib.Core.Bool.{Bool, ◌||◌}
use lib.Dec.{ltb}
use borrow.Author.Tests.{lt-ltb, le-ltb}
use Rattle.request.specs.Rows.{outside}
use Rattle.request.proofs.weigh.outside.Goals as goal

pub returns-then-n-lo : goal.returns-then-n-lo
unfolding outside
returns-then-n-lo c = let a = c.args in lt-ltb a.n a.lo c.if-n-lo.true ∙ sym (ap (λ (b : Bool). b || ltb a.hi a.n) (lt-ltb a.n a.lo c.if-n-lo.true))

pub returns-else-n-lo : goal.returns-else-n-lo
unfolding outside
returns-else-n-lo c = let a = c.args in sym (ap (λ (b : Bool). b || ltb a.hi a.n) (le-ltb a.n a.lo c.if-n-lo.false))
