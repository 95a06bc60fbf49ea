-- `digits_of`: a byte that is no digit and a ninth digit are at fault; any other digit joins the value. Assumes nothing.
use Rattle.std.proofs.Common.{◌≡◌, ◌-◌, ◌&&◌, true, false, leb, get_or, sym, ◌∙◌, arith}
use Rattle.std.proofs.lemmas.Bool.Decides.{nat_tests}
use Rattle.text.specs.Number.{is_digit}
use Rattle.text.proofs.Numbers.{digits-end, digits-stop, digits-on}
use Rattle.text.proofs.digits_of.Goals as goal

pub returns-then-not-is_ascii_digit : goal.returns-then-not-is_ascii_digit
returns-then-not-is_ascii_digit c =
    let e : (is_digit (get_or c.args.field.now c.loop-i.i 0) && leb c.loop-i.v 9999999) ≡ false = grind (arith, nat_tests) in
    sym (c.loop-i.invariant.1 ∙ digits-stop c.loop-i.v c.loop-i.i c.args.field.now (omega arith) e)

pub loop-i-preserved : goal.loop-i-preserved
loop-i-preserved c =
    let e : (is_digit (get_or c.args.field.now c.loop-i.i 0) && leb c.loop-i.v 9999999) ≡ true = grind (arith, nat_tests) in
    let d : c.from.result ≡ get_or c.args.field.now c.loop-i.i 0 - 48 = c.from.ensures in
    (grind (arith, nat_tests), rw d (c.loop-i.invariant.1 ∙ digits-on c.loop-i.v c.loop-i.i c.args.field.now (omega arith) e))

pub returns : goal.returns
returns c = sym (c.loop-i.invariant.1 ∙ digits-end c.loop-i.v c.loop-i.i c.args.field.now (omega arith))
