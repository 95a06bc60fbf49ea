-- `write`: rows 3, 7, 11, 12 and 13 in their order, and then the sheet. Assumes nothing.
use mathlib.Core.Path.{◌≡◌, ap, sym, ◌∙◌}
use mathlib.Core.Bool.{false}
use Rattle.std.proofs.Common.{rules, Err}
use native.Mathlib.Omega.{arith}
use Rattle.text.specs.Number.{any_over}
use Rattle.sheet.specs.Answer.{counted}
use Rattle.sheet.specs.Writer.{numbers_of, Ranged}
use Rattle.sheet.proofs.Writings.{ranged, writes-outside, writes-uneven, writes-large, writes-long, writes_short, writes-sheet}
use Rattle.sheet.proofs.writer.write.Goals as goal
use Rattle.sheet.proofs.writer.write.Goals.{In_ok-weigh_arc_words, Else-over}

-- rows 3 and 7 do not hold
in-range : (c : In_ok-weigh_arc_words) → Ranged c.args.request.criteria c.args.arcs.now
in-range c = ranged c.args.request.criteria c.args.arcs.now (sym c.in_ok-weigh_criteria.ensures) (sym c.in_ok-weigh_arc_words.ensures)

-- nor does row 11
not-large : (c : Else-over) → any_over (numbers_of c.args.request c.args.arcs.now) ≡ false
not-large c = sym c.over.ensures ∙ c.if-over.false

pub returns-in_err-weigh_criteria : goal.returns-in_err-weigh_criteria
returns-in_err-weigh_criteria c = let r = c.in_err-weigh_criteria.field-0.0 in
    let e : c.from_residual.result ≡ Err r = search rules in
    let w = writes-outside c.args.request c.args.arcs.now c.args.sheet.now r (sym c.in_err-weigh_criteria.ensures) in
    record { result_value = rw e w.value; sheet_after = w.bytes }

pub returns-in_err-weigh_arc_words : goal.returns-in_err-weigh_arc_words
returns-in_err-weigh_arc_words c = let r = c.in_err-weigh_arc_words.field-0.0 in
    let e : c.from_residual-in_err-weigh_arc_words.result ≡ Err r = search rules in
    let w = writes-uneven c.args.request c.args.arcs.now c.args.sheet.now r (sym c.in_ok-weigh_criteria.ensures) (sym c.in_err-weigh_arc_words.ensures) in
    record { result_value = rw e w.value; sheet_after = w.bytes }

pub invariant_of-content : goal.invariant_of-content
invariant_of-content c = record { ranged = in-range (goal.at.invariant_of-content c).In_ok-weigh_arc_words }

pub returns-then-over : goal.returns-then-over
returns-then-over c = let w = writes-large c.args.request c.args.arcs.now c.args.sheet.now (in-range (goal.at.returns-then-over c).In_ok-weigh_arc_words) (sym c.over.ensures ∙ c.if-over.true) in
    record { result_value = w.value; sheet_after = w.bytes }

pub returns-then-n-gt-MOST_BYTES : goal.returns-then-n-gt-MOST_BYTES
returns-then-n-gt-MOST_BYTES c =
    let w =
    writes-long c.args.request c.args.arcs.now c.args.sheet.now (in-range (goal.at.returns-then-n-gt-MOST_BYTES c).In_ok-weigh_arc_words) (not-large (goal.at.returns-then-n-gt-MOST_BYTES c).Else-over)
    (omega (arith, c.byte_count-n.ensures.value, c.if-n-gt-MOST_BYTES.true)) in
    record { result_value = w.value; sheet_after = w.bytes }

pub returns-then-sheet-n : goal.returns-then-sheet-n
returns-then-sheet-n c =
    let n = c.byte_count-n.ensures.value in
    let w =
    writes_short c.args.request c.args.arcs.now c.args.sheet.now (in-range (goal.at.returns-then-sheet-n c).In_ok-weigh_arc_words) (not-large (goal.at.returns-then-sheet-n c).Else-over)
    (omega (arith, c.if-n-gt-MOST_BYTES.false)) (omega (arith, c.if-sheet-n.true)) in
    record { result_value = w.value; sheet_after = w.bytes }

pub returns : goal.returns
returns c =
    let n = c.byte_count-n.ensures.value in
    let w =
    writes-sheet c.args.request c.args.arcs.now c.args.sheet.now (in-range (goal.at.returns c).In_ok-weigh_arc_words) (not-large (goal.at.returns c).Else-over)
    (omega (arith, c.if-n-gt-MOST_BYTES.false)) (omega (arith, c.if-sheet-n.false)) in
    record { result_value = ap counted n ∙ w.value; sheet_after = c.put.ensures ∙ w.bytes }
