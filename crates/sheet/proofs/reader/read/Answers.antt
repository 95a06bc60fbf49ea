-- `read`: rows 12, 1 and 13 in their order, and then the arcs' words. Assumes nothing.
use Prim.Native.Nat.{ℕ, ◌+◌, ◌*◌, ◌≤◌}
use mathlib.Core.Path.{◌≡◌, ap, sym, ◌∙◌}
use mathlib.Core.List.{List, ◌++◌}
use native.Mathlib.Omega.{arith}
use native.Mathlib.Nat.{mul-le-mul}
use lib.ListN.{length, drop}
use lib.Seq.{length-take-le}
use Rattle.std.proofs.Common.{rules, Ok, Err}
use Rattle.words.proofs.Writes.{write-front}
use Rattle.sheet.specs.Grammar.{sheet_of}
use Rattle.sheet.specs.Rendering.{Sheetable}
use Rattle.sheet.specs.Answer.{counted}
use Rattle.sheet.specs.Inside.{form_of}
use Rattle.sheet.specs.Reader.{words_of}
use Rattle.sheet.proofs.Stores.{asked_of, form-request, form-sheetable}
use Rattle.sheet.proofs.Answers.{reads-long, reads-broken, reads_short, reads-sheet}
use Rattle.sheet.proofs.reader.read.Goals as goal
use Rattle.sheet.proofs.reader.read.Goals.{In_ok-form}

-- the sheet is whole
module _ (c : In_ok-form) where
  is_whole : form_of (sheet_of c.args.sheet.now) ≡ Ok c.in_ok-form.form
  is_whole = sym c.check.ensures ∙ c.in_ok-form.was

  can_be : Sheetable c.in_ok-form.form.request.nodes c.in_ok-form.form.request.criteria c.in_ok-form.form.arcs (words_of (sheet_of c.args.sheet.now)) (asked_of (sheet_of c.args.sheet.now))
  can_be = form-sheetable c.args.sheet.now c.in_ok-form.form is_whole

  -- at most 512 arcs of at most 5 words
  few : c.in_ok-form.form.arcs * (c.in_ok-form.form.request.criteria + 2) ≤ 512 * 5
  few =
      let w : c.in_ok-form.form.request.criteria + 2 ≤ 5 = omega (arith, can_be.at_most) in
      mul-le-mul can_be.arcs w

pub returns-then-sheet-gt-MOST_BYTES : goal.returns-then-sheet-gt-MOST_BYTES
returns-then-sheet-gt-MOST_BYTES c = let r = reads-long c.args.sheet.now c.args.arcs.now c.if-sheet-gt-MOST_BYTES.true in
    record { value = r.value; request = r.request; arcs_after = r.arcs }

pub returns-in_err-form : goal.returns-in_err-form
returns-in_err-form c = let r = reads-broken c.args.sheet.now c.args.arcs.now (omega arith) _ (sym c.check.ensures ∙ c.in_err-form.was) in
    let e : c.from_residual.result ≡ Err c.in_err-form.field-0.0 = search rules in
    record { value = rw e r.value; request = rw e r.request; arcs_after = r.arcs }

pub overflow_add-words : goal.overflow_add-words
overflow_add-words c = omega (arith, (can_be (goal.at.overflow_add-words c).In_ok-form).at_most)

pub overflow_mul-words : goal.overflow_mul-words
overflow_mul-words c = omega (arith, few (goal.at.overflow_mul-words c).In_ok-form)

pub returns-then-arcs-n : goal.returns-then-arcs-n
returns-then-arcs-n c = let h = (goal.at.returns-then-arcs-n c).In_ok-form in
    let r = reads_short c.args.sheet.now c.args.arcs.now (omega arith) c.in_ok-form.form (is_whole h) (omega (arith, (can_be h).arc_words, c.if-arcs-n.true)) in
    record { value = r.value; request = r.request; arcs_after = r.arcs }

pub store_arcs-requires : goal.store_arcs-requires
store_arcs-requires c = let h = (goal.at.store_arcs-requires c).In_ok-form in
    (is_whole h, (can_be h).arc_words ∙ sym (length-take-le _ c.args.arcs.now c.if-arcs-n.false))

pub returns : goal.returns
returns c = let h = (goal.at.returns c).In_ok-form in
    let a = c.args.arcs.now in
    let ws = words_of (sheet_of c.args.sheet.now) in
    let n : length ws ≡ c.in_ok-form.form.arcs * (c.in_ok-form.form.request.criteria + 2) = (can_be h).arc_words in
    let fits : length ws ≤ length a = omega (arith, c.if-arcs-n.false) in
    let r = reads-sheet c.args.sheet.now a (omega arith) c.in_ok-form.form (is_whole h) fits in
    record {
      value = ap counted (sym n) ∙ r.value;
      request = form-request (sheet_of c.args.sheet.now) c.in_ok-form.form (is_whole h) ∙ r.request;
      arcs_after =
          ap (λ (x : List ℕ). x ++ drop (c.in_ok-form.form.arcs * (c.in_ok-form.form.request.criteria + 2)) a) c.store_arcs.ensures ∙ ap (λ (k : ℕ). ws ++ drop k a) (sym n) ∙ sym (write-front a ws fits) ∙ r.arcs;
    }
