-- `digits_of`: what is left of the field, after the value v of its first i bytes, says what the field says. Assumes nothing.
use Rattle.std.proofs.Common.{◌≡◌, ◌≤◌, drop}
use Rattle.text.specs.Number.{digits_after}
use Rattle.text.proofs.digits_of.Given as goal

abbrev pub invariant-loop-i : goal.invariant-loop-i
invariant-loop-i l = (l.v ≤ 99999999) × (digits_after 0 0 l.field ≡ digits_after l.v l.i (drop l.i l.field))
