-- `put_number`: one digit, or the digits of a tenth and one digit after them. Assumes nothing.
use native.Mathlib.Omega.{arith}
use Rattle.text.proofs.Digits.{width_small, width-more}
use Rattle.text.proofs.Puts.{put_small, put-more}
use Rattle.text.proofs.+put_number.Goals as goal

-- ---- one digit

pub bounds-out-at : goal.bounds-out-at
bounds-out-at t c = omega (arith, width_small c.args.n c.if-n-lt10.true)

pub overflow_add-result : goal.overflow_add-result
overflow_add-result t c = omega (arith, width_small c.args.n c.if-n-lt10.true)

pub returns-then-n-lt10 : goal.returns-then-n-lt10
returns-then-n-lt10 t c = record { value = omega (arith, width_small c.args.n c.if-n-lt10.true); out_after = put_small _ _ _ c.if-n-lt10.true }

-- ---- a tenth's digits, and one more

pub put_number-last-requires : goal.put_number-last-requires
put_number-last-requires t c = omega (arith, width-more c.args.n (omega arith))

pub bounds-out-last : goal.bounds-out-last
bounds-out-last t c = omega (arith, width-more c.args.n (omega arith), c.put_number-last.ensures.value, c.put_number-last.auto.out)

pub returns : goal.returns
returns t c =
    let w = width-more c.args.n (omega arith) in
    let e = c.put_number-last.ensures in
    record { value = omega arith; out_after = put-more _ _ _ _ _ (omega arith) e.value e.out_after }

pub overflow_add-result-2 : goal.overflow_add-result-2
overflow_add-result-2 t c = omega (arith, width-more c.args.n (omega arith), c.put_number-last.ensures.value, c.put_number-last.auto.out)
