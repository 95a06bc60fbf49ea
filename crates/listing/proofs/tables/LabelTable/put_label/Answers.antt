-- `put_label`: nothing for an empty label, the line of a filled one. Assumes nothing.
use Prim.Native.Nat.{ℕ, ◌+◌}
use mathlib.Core.Path.{◌≡◌, sym, ap, ◌∙◌}
use mathlib.Core.List.{List}
use native.Mathlib.Omega.{arith}
use lib.ListN.{length}
use Rattle.words.specs.Pieces.{write}
use Rattle.words.proofs.Writes.{write-none}
use Rattle.text.specs.Line.{line_text}
use Rattle.sheet.specs.Grammar.{tab}
use Rattle.listing.specs.Listing.{label_word, label_line}
use Rattle.listing.specs.Print.{asked_in}
use Rattle.listing.proofs.Places.{spot-filled}
use Rattle.listing.proofs.Lines.{empty-label, filled-label}
use Rattle.listing.proofs.tables.LabelTable.put_label.Goals as goal
use Rattle.listing.proofs.tables.LabelTable.put_label.Goals.{After-numbers-numbers}

-- the line of these numbers is the label's
line : (c : After-numbers-numbers) → line_text tab label_word c.numbers-numbers.result.now ≡ label_line (asked_in c.args.self.now.store) c.args.self.now.store.labels.now c.args.node c.args.cell
line c = ap (line_text tab label_word) c.numbers-numbers.ensures ∙ (filled-label _ _ _ _ (sym (spot-filled c.args.self.now _ _ _ _ c.spot.ensures c.is_filled.ensures) ∙ c.if-not-is_filled.false)).1

pub returns-then-not-is_filled : goal.returns-then-not-is_filled
returns-then-not-is_filled c =
    let h = empty-label _ _ _ _ (sym (spot-filled c.args.self.now _ _ _ _ c.spot.ensures c.is_filled.ensures) ∙ c.if-not-is_filled.true) in
    let l = c.args.listing.now in
    record { value = omega (arith, ap length h.1); listing_after = sym (ap (write l c.args.at) (sym h.1) ∙ write-none l c.args.at) }

pub put_line-requires : goal.put_line-requires
put_line-requires c = omega (arith, ap length (line (goal.at.put_line-requires c).After-numbers-numbers), c.requires.cell_in_bounds)

pub returns : goal.returns
returns c =
    let p = c.put_line in
    let e = line (goal.at.returns c).After-numbers-numbers in
    record { value = p.ensures.value ∙ ap (λ (l : List ℕ). c.args.at + length l) e; listing_after = p.ensures.out_after ∙ ap (write c.args.listing.now c.args.at) e }
