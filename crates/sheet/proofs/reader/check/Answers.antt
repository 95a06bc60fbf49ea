-- `check`: the first line, and the lines after it. Assumes nothing.
use Prim.Native.Nat.{◌+◌, ◌≤◌, ◌<◌}
use mathlib.Core.Path.{◌≡◌, refl, ap, sym, ◌∙◌}
use mathlib.Core.List.{[], ◌∷◌}
use mathlib.Core.Bool.{false}
use lib.ListN.{length, get_or, drop}
use Rattle.std.proofs.Common.{is_err}
use Rattle.text.specs.Line.{Got, good, taken_of}
use Rattle.text.proofs.Written.{line_of-was}
use Rattle.sheet.specs.Grammar.{tab, tracks_word, tracks_line, after_first, sheet_of}
use Rattle.sheet.specs.Inside.{form_of}
use Rattle.sheet.proofs.LineKinds.{no-err, told-good, filled, criteria-out, criteria-in}
use Rattle.sheet.proofs.First.{sheet-loose, sheet-line, first-err, first_in, first-other}
use Rattle.sheet.proofs.reader.check.Goals as goal
use Rattle.sheet.proofs.reader.check.Goals.{After-word_line-first, Else-is_err-2, then-is_err-via-then-is_err, then-is_err-via-else-is_err+then-is_err-2}

-- the sheet by what was read of its first line
module _ (c : After-word_line-first) where
  two-are : is_err c.word_line-first.result ≡ false → tracks_line c.cut-line.result.now ≡ good c.word_line-first.new.out
  two-are e =
      let w = c.word_line-first in
      let g = told-good tracks_word 2 2 c.cut-line.result.now _ w.ensures.value refl (no-err w.result e) in
      g ∙ ap good (sym (filled tracks_word 2 c.cut-line.result.now (taken_of (tracks_line c.cut-line.result.now)) (0 ∷ 0 ∷ []) w.new.out refl g w.ensures.out_after))

  first_good : length c.cut-line.result.now < length c.args.sheet.now → is_err c.word_line-first.result ≡ false
      → sheet_of c.args.sheet.now ≡ after_first (good c.word_line-first.new.out) (drop (length c.cut-line.result.now + 1) c.args.sheet.now)
  first_good h e =
      sheet-line c.args.sheet.now c.cut-line.result.now c.cut-line.ensures h
      ∙ ap (λ (g : Got). after_first g (drop (length c.cut-line.result.now + 1) c.args.sheet.now)) (two-are e)

  two-long : is_err c.word_line-first.result ≡ false → length c.word_line-first.new.out ≡ 2
  two-long e = (line_of-was tab tracks_word 2 c.cut-line.result.now c.word_line-first.new.out (two-are e)).1

pub returns-then-sheet-e : goal.returns-then-sheet-e
returns-then-sheet-e c = sym (ap form_of (sheet-loose c.args.sheet.now c.cut-line.result.now c.cut-line.ensures c.if-sheet-e.true))

pub returns-then-is_err : goal.returns-then-is_err
returns-then-is_err c = let s = c.args.sheet.now in
    let line = c.cut-line.result.now in
    let rest = drop (length line + 1) s in
    let h = (goal.at.returns-then-is_err c).After-word_line-first in
    sym (ap form_of
    (elim c.then-is_err.branch [
      | then-is_err-via-then-is_err w ↦
          sheet-line s line c.cut-line.ensures c.if-sheet-e.false
          ∙ first-err (tracks_line line) rest (ap is_err (sym c.word_line-first.ensures.value) ∙ sym c.is_err.ensures.value ∙ w.if-is_err.true)
      | then-is_err-via-else-is_err+then-is_err-2 w ↦
          let d = criteria-out _ _ w.weigh_criteria.ensures (sym w.is_err-else-is_err.ensures.value ∙ w.if-is_err-2.true) in
          first_good h c.if-sheet-e.false (sym c.is_err.ensures.value ∙ w.if-is_err.false)
          ∙ first-other c.word_line-first.new.out rest d.0 d.1
    ]))

-- d is 2 or 3
in-range : (c : Else-is_err-2) → (2 ≤ get_or c.word_line-first.new.out 1 0) × (get_or c.word_line-first.new.out 1 0 ≤ 3)
in-range c = criteria-in _ _ c.weigh_criteria.ensures (sym c.is_err-else-is_err.ensures.value ∙ c.if-is_err-2.false)

pub invariant_of-tracks : goal.invariant_of-tracks
invariant_of-tracks c = record { two_or_three = in-range (goal.at.invariant_of-tracks c).Else-is_err-2 }

pub returns : goal.returns
returns c = let e : is_err c.word_line-first.result ≡ false = sym c.is_err.ensures.value ∙ c.if-is_err.false in
    let h = (goal.at.returns c).After-word_line-first in
    let d = in-range (goal.at.returns c).Else-is_err-2 in
    c.check_lines.ensures
    ∙ sym (ap form_of (first_good h c.if-sheet-e.false e ∙ first_in c.word_line-first.new.out (drop (length c.cut-line.result.now + 1) c.args.sheet.now) (two-long h e) d.0 d.1))
