-- `check_lines`: what is left of the sheet, after m arcs, says what the whole says. Assumes nothing.
use mathlib.Core.Path.{◌≡◌, ap, sym, ◌∙◌}
use native.Mathlib.Omega.{arith}
use lib.ListN.{drop}
use Rattle.std.proofs.Common.{Some}
use Rattle.text.specs.Field.{before}
use Rattle.text.proofs.Fields.{rest-is}
use Rattle.sheet.specs.Grammar.{lf}
use Rattle.sheet.specs.Inside.{form_of}
use Rattle.sheet.proofs.Scan.{lines-last, lines_none, says-arc, says-neither, says-ask, says-more}
use Rattle.sheet.proofs.reader.Tracks.check_lines.Goals as goal
use Rattle.sheet.proofs.reader.Tracks.check_lines.Goals.{After-cut-line}

-- the line that was cut at `at`
line-is : (c : After-cut-line) → c.cut-line.result.now ≡ before lf (drop c.loop-at.at c.args.sheet.now)
line-is c = c.cut-line.ensures ∙ ap (before lf) (rest-is c.args.sheet.now c.loop-at.at)

pub returns-then-sheet-e : goal.returns-then-sheet-e
returns-then-sheet-e c = sym (c.loop-at.invariant.2
    ∙ ap form_of (lines-last _ _ _ _ _ _ _ (line-is (goal.at.returns-then-sheet-e c).After-cut-line) (omega arith) c.if-sheet-e.true))

pub loop-at-preserved : goal.loop-at-preserved
loop-at-preserved c = let a = c.args in
    let k = c.in-Some-Arc in (
      omega arith,
      omega arith,
      c.loop-at.invariant.2
          ∙ says-arc a.self.nodes a.self.criteria c.loop-at.m a.sheet.now c.loop-at.at c.cut-line.result.now (line-is (goal.at.loop-at-preserved c).After-cut-line) (omega arith) (omega arith)
          (sym (k.is ∙ ap Some k.field-0-is) ∙ c.kind_of.ensures),
    )

pub returns-then-e-sheet : goal.returns-then-e-sheet
returns-then-e-sheet c = let a = c.args in
    let k = c.in-Some-Ask in
    sym (c.loop-at.invariant.2
    ∙ says-ask a.self.nodes a.self.criteria c.loop-at.m a.sheet.now c.loop-at.at c.cut-line.result.now (line-is (goal.at.returns-then-e-sheet c).After-cut-line) (omega arith) (omega arith)
    k.request (sym (k.is ∙ ap Some k.field-0-is) ∙ c.kind_of.ensures) c.if-e-sheet.true)

pub returns-in-Some-Ask : goal.returns-in-Some-Ask
returns-in-Some-Ask c = let a = c.args in
    let k = c.in-Some-Ask in
    sym (c.loop-at.invariant.2
    ∙ says-more a.self.nodes a.self.criteria c.loop-at.m a.sheet.now c.loop-at.at c.cut-line.result.now (line-is (goal.at.returns-in-Some-Ask c).After-cut-line) (omega arith) (omega arith)
    k.request (sym (k.is ∙ ap Some k.field-0-is) ∙ c.kind_of.ensures) c.if-e-sheet.false)

pub returns-in-None : goal.returns-in-None
returns-in-None c = let a = c.args in
    sym (c.loop-at.invariant.2
    ∙ says-neither a.self.nodes a.self.criteria c.loop-at.m a.sheet.now c.loop-at.at c.cut-line.result.now (line-is (goal.at.returns-in-None c).After-cut-line) (omega arith) (omega arith)
    (sym c.in-None.is ∙ c.kind_of.ensures))

pub returns : goal.returns
returns c = sym (c.loop-at.invariant.2 ∙ ap form_of (lines_none _ _ _ _ _ _ c.loop-at-test.false))
