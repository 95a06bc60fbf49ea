-- `print_refusal`: eight bytes around the numbers, and then the line. Assumes nothing.
use Prim.Native.Nat.{ℕ, ◌+◌, ◌≤◌, ◌<◌}
use mathlib.Core.Path.{◌≡◌, refl, ap, ◌∙◌}
use mathlib.Core.List.{List, [], ◌∷◌}
use Rattle.std.specs.Prelude.{Some}
use native.Mathlib.Omega.{arith}
use lib.ListN.{length}
use borrow.Author.Rules.{rules}
use Rattle.text.specs.Line.{line_text}
use Rattle.text.proofs.Puts.{line-width}
use Rattle.sheet.specs.Grammar.{tab}
use Rattle.listing.specs.Listing.{refused_word, refusal_line}
use Rattle.listing.proofs.Prints.{prints-longer, prints-text, line-short}
use Rattle.listing.proofs.print_refusal.Goals as goal
use Rattle.listing.proofs.print_refusal.Goals.{After-widths-n}

-- the length that was computed is that of the line, which is short
module _ (c : After-widths-n) where
  abbrev line_of : List ℕ
  line_of = refusal_line c.args.number c.args.place

  -- the line of its number and place
  written : line_text tab refused_word (c.args.number ∷ c.args.place ∷ []) ≡ line_of
  unfolding refusal_line
  written = refl

  -- which is short
  short : length line_of ≤ 30
  short =
      let n : c.args.number < 4294967296 = search rules in
      let p : c.args.place < 4294967296 = search rules in
      line-short c.args.number c.args.place n p

  -- the word, the numbers and the LF
  long : 8 + c.widths-n.result ≡ length line_of
  long = omega (arith, c.widths-n.ensures.value, line-width tab refused_word (c.args.number ∷ c.args.place ∷ []), ap length written)

pub returns-then-out-n : goal.returns-then-out-n
returns-then-out-n c =
    let w = (goal.at.returns-then-out-n c).After-widths-n in
    let p = prints-longer (line_of w) c.args.out.now (omega (arith, long w, c.if-out-n.true)) in
    record { value = p.answer; out_after = p.left; upper_bound = short w }

pub put_line-requires : goal.put_line-requires
put_line-requires c =
    let w = (goal.at.put_line-requires c).After-widths-n in
    omega (arith, long w, ap length (written w), c.if-out-n.false)

pub returns : goal.returns
unfolding refusal_line
returns c =
    let w = (goal.at.returns c).After-widths-n in
    let p = prints-text (line_of w) c.args.out.now (omega (arith, long w, c.if-out-n.false)) in
    record { value = ap Some (long w) ∙ p.answer; out_after = c.put_line.ensures.out_after ∙ p.left; upper_bound = short w }
