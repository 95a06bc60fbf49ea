-- `measure_label`: nothing for an empty label; the word, the numbers and the LF for a filled one. Assumes nothing.
use Prim.Native.Nat.{ℕ, ◌≤◌}
use mathlib.Core.Path.{sym, ap, ◌∙◌}
use mathlib.Core.List.{List}
use native.Mathlib.Omega.{arith}
use lib.ListN.{length}
use Rattle.std.specs.Prelude.{Some}
use Rattle.text.specs.Line.{parted_width}
use Rattle.text.proofs.Puts.{line-width}
use Rattle.sheet.specs.Grammar.{tab}
use Rattle.listing.specs.Listing.{label_word, label_numbers}
use Rattle.listing.specs.Print.{asked_in}
use Rattle.listing.proofs.Places.{table_is, spot-filled}
use Rattle.listing.proofs.Lines.{empty-label, filled-label, few-numbers}
use Rattle.listing.proofs.tables.LabelTable.measure_label.Goals as goal
use Rattle.listing.proofs.tables.LabelTable.measure_label.Goals.{After-numbers-numbers}

-- a label has few numbers
few : (c : After-numbers-numbers) → length c.numbers-numbers.result.now ≤ 68
few c =
    let t = c.args.self.now in
    let s = t.store in
    omega (arith, ap length c.numbers-numbers.ensures, few-numbers s.request s.arcs.now s.labels.now s.cells (table_is t) c.args.node c.args.cell c.requires.0 c.requires.1)

pub returns-then-not-is_filled-clause-value : goal.returns-then-not-is_filled-clause-value
returns-then-not-is_filled-clause-value c = (empty-label _ _ _ _ (sym (spot-filled c.args.self.now _ _ _ _ c.spot.ensures c.is_filled.ensures) ∙ c.if-not-is_filled.true)).2

pub widths-requires : goal.widths-requires
widths-requires c = omega (arith, few (goal.at.widths-requires c).After-numbers-numbers)

pub overflow_add-result : goal.overflow_add-result
overflow_add-result c = omega (arith, few (goal.at.overflow_add-result c).After-numbers-numbers, c.widths.ensures.upper_bound)

pub returns-clause-value : goal.returns-clause-value
returns-clause-value c =
    let s = c.args.self.now.store in
    let h = filled-label (asked_in s) s.labels.now c.args.node c.args.cell (sym (spot-filled c.args.self.now _ _ _ _ c.spot.ensures c.is_filled.ensures) ∙ c.if-not-is_filled.false) in
    let vs : List ℕ = label_numbers (asked_in s) s.labels.now c.args.node c.args.cell in
    let w = c.widths.ensures.value ∙ ap parted_width c.numbers-numbers.ensures in
    ap Some (omega (arith, w, line-width tab label_word vs, ap length h.1)) ∙ h.2

pub returns-clause-upper_bound : goal.returns-clause-upper_bound
returns-clause-upper_bound c = omega (arith, few (goal.at.returns-clause-upper_bound c).After-numbers-numbers, c.widths.ensures.upper_bound)
