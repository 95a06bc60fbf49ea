-- `width`: each range of numbers has its digits. Assumes nothing.
use mathlib.Core.Path.{sym}
use native.Mathlib.Omega.{arith}
use Rattle.text.proofs.Digits.{width_small, width_power}
use Rattle.text.proofs.width.Goals as goal

pub returns-then-n-lt10-clause-value : goal.returns-then-n-lt10-clause-value
returns-then-n-lt10-clause-value c = sym (width_small c.args.n (omega arith))

pub returns-in-0-to-99-clause-value : goal.returns-in-0-to-99-clause-value
returns-in-0-to-99-clause-value c = sym (width_power 1 c.args.n (omega arith) (omega arith))

pub returns-in-100-to-999-clause-value : goal.returns-in-100-to-999-clause-value
returns-in-100-to-999-clause-value c = sym (width_power 2 c.args.n (omega arith) (omega arith))

pub returns-in-1000-to-9999-clause-value : goal.returns-in-1000-to-9999-clause-value
returns-in-1000-to-9999-clause-value c = sym (width_power 3 c.args.n (omega arith) (omega arith))

pub returns-in-10000-to-99999-clause-value : goal.returns-in-10000-to-99999-clause-value
returns-in-10000-to-99999-clause-value c = sym (width_power 4 c.args.n (omega arith) (omega arith))

pub returns-in-100000-to-999999-clause-value : goal.returns-in-100000-to-999999-clause-value
returns-in-100000-to-999999-clause-value c = sym (width_power 5 c.args.n (omega arith) (omega arith))

pub returns-in-1000000-to-9999999-clause-value : goal.returns-in-1000000-to-9999999-clause-value
returns-in-1000000-to-9999999-clause-value c = sym (width_power 6 c.args.n (omega arith) (omega arith))

pub returns-in-10000000-to-99999999-clause-value : goal.returns-in-10000000-to-99999999-clause-value
returns-in-10000000-to-99999999-clause-value c = sym (width_power 7 c.args.n (omega arith) (omega arith))

pub returns-in-100000000-to-999999999-clause-value : goal.returns-in-100000000-to-999999999-clause-value
returns-in-100000000-to-999999999-clause-value c = sym (width_power 8 c.args.n (omega arith) (omega arith))

pub returns-in_default-clause-value : goal.returns-in_default-clause-value
returns-in_default-clause-value c = sym (width_power 9 c.args.n (omega arith) (omega arith))
