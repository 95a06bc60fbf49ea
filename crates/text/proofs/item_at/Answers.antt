-- `item_at`: the field is cut out of the line, and the number read from it; a fault keeps its byte in the line. Assumes nothing.
use Rattle.std.proofs.Common.{◌≡◌, ◌+◌, ◌<◌, length, drop, get_or, Ok, Err, sym, ◌∙◌, ap, arith, rules}
use borrow.Author.Tests.{tests}
use Rattle.std.proofs.lemmas.Bool.Decides.{nat_tests}
use lib.ListN.{length-drop}
use Rattle.text.specs.declared.Fault.{Fault}
use Rattle.text.specs.Fault.{fault}
use Rattle.text.specs.Field.{before}
use Rattle.text.specs.Number.{number}
use Rattle.text.specs.Line.{item, placed}
use Rattle.text.proofs.Fields.{rest-is, before-length}
use Rattle.text.proofs.Numbers.{number-fault}
use Rattle.text.proofs.Lines.{item-end, item-other, item-read}
use Rattle.text.proofs.item_at.Goals as goal
use Rattle.text.proofs.item_at.Goals.{After-number_of}

-- what the field that was cut says is what the line says at `at`
module _ (c : After-number_of) where
  there : (c.args.at < length c.args.line.now) × (get_or c.args.line.now c.args.at 0 ≡ c.args.sep)
  there = search (rules, tests)

  field_is : c.cut-field.result.now ≡ before c.args.sep (drop (c.args.at + 1) c.args.line.now)
  field_is = c.cut-field.ensures ∙ ap (before c.args.sep) (rest-is c.args.line.now (c.args.at + 1))

  reads_so : item c.args.sep c.args.at (drop c.args.at c.args.line.now) ≡ placed c.args.at (length c.cut-field.result.now) c.number_of.result
  reads_so = item-read _ _ _ _ _ there.0 there.1 field_is c.number_of.ensures

  -- a fault lies within the line, or at its end
  fault_inside : (f : Fault) → c.number_of.result ≡ Err f → c.args.at + 1 + f.at < 18446744073709551616
  fault_inside f h =
      let a = c.args in
      let e : number c.cut-field.result.now ≡ fault f.at = sym c.number_of.ensures ∙ h in
      omega (arith, there.0, number-fault c.cut-field.result.now f.at e, ap length field_is, before-length a.sep (drop (a.at + 1) a.line.now), length-drop (a.at + 1) a.line.now)

pub returns-then-ne : goal.returns-then-ne
returns-then-ne c = grind (arith, nat_tests, item-end, item-other)

pub map_err-requires : goal.map_err-requires
map_err-requires c = λ f h. let l = fault_inside (goal.at.map_err-requires c).After-number_of f h in search rules

pub returns : goal.returns
returns c =
    let e : c.number_of.result ≡ Ok c.in_ok-value.value = search rules in
    sym (reads_so (goal.at.returns c).After-number_of ∙ ap (placed _ _) e)

pub returns-in_err-value : goal.returns-in_err-value
returns-in_err-value c = sym (reads_so (goal.at.returns-in_err-value c).After-number_of ∙ search rules)
