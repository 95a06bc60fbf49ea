-- `number_of`: the first byte, and whether another follows, decide how the field is read. Assumes nothing.
use Rattle.std.proofs.Common.{sym, ◌∙◌, arith, rules}
use borrow.Author.Tests.{tests}
use Rattle.text.proofs.Numbers.{number-empty, number-first, number-zero-alone, number-zero-more}
use Rattle.text.proofs.number_of.Goals as goal
use Rattle.text.proofs.number_of.Goals.{in_default-via-then-field-lt2+in_default-1, in_default-via-else-field-lt2+in_default-1}

pub returns-in-empty : goal.returns-in-empty
returns-in-empty c = sym (number-empty _ (omega (arith, c.in-empty.len_below)))

pub returns-in-48 : goal.returns-in-48
returns-in-48 c = sym (number-zero-alone c.args.field.now (search rules) (omega arith))

pub returns-in-48-2 : goal.returns-in-48-2
returns-in-48-2 c = sym (number-zero-more c.args.field.now (search rules) (omega arith))

-- a byte stands there, and it is no 0, whether or not another follows
pub returns-in_default : goal.returns-in_default
returns-in_default c =
    c.digits_of.ensures
    ∙ sym (elim c.in_default.branch [
      | in_default-via-then-field-lt2+in_default-1 w ↦ number-first c.args.field.now (search (rules, tests)) (search rules)
      | in_default-via-else-field-lt2+in_default-1 w ↦ number-first c.args.field.now (search (rules, tests)) (search rules)
    ])
