-- `request_from`: word by word. Assumes nothing.
use mathlib.Core.Path.{refl}
use Rattle.desk.specs.Calls.{request_from}
use Rattle.desk.proofs.request_from.Goals as goal

pub returns : goal.returns
unfolding request_from
returns c = refl
