-- `print`: the length first, and then the cover and the labels. Assumes nothing.
use Prim.Native.Nat.{ℕ, ◌+◌}
use mathlib.Core.Path.{◌≡◌, ap, ◌∙◌}
use mathlib.Core.List.{List, [], ◌∷◌}
use native.Mathlib.Omega.{arith}
use native.Mathlib.Nat.{zero-add}
use lib.ListN.{length}
use Rattle.std.specs.Prelude.{Some}
use Rattle.words.specs.Pieces.{write}
use Rattle.text.specs.Line.{line_text}
use Rattle.text.proofs.Puts.{line-width}
use Rattle.request.specs.Request.{Req}
use Rattle.sheet.specs.Grammar.{tab}
use Rattle.listing.specs.Listing.{cover_word, cover_line, listing_text}
use Rattle.listing.specs.Print.{asked_in}
use Rattle.listing.proofs.Prints.{prints-longer, prints-text, listing-length, listing-put}
use Rattle.listing.proofs.tables.LabelTable.print.Goals as goal
use Rattle.listing.proofs.tables.LabelTable.print.Goals.{After-widths}

-- once the cover's numbers are measured
module _ (c : After-widths) where
  abbrev R-of : Req
  R-of = asked_in c.args.self.now.store

  abbrev listing-of : List ℕ
  listing-of = listing_text R-of c.args.self.now.store.labels.now c.args.tries

  -- the cover's numbers
  cover-is : line_text tab cover_word (c.measure_lines-lines.result.filled ∷ c.args.tries ∷ []) ≡ cover_line R-of c.args.self.now.store.labels.now c.args.tries
  unfolding cover_line
  cover-is = ap (λ (n : ℕ). line_text tab cover_word (n ∷ c.args.tries ∷ [])) c.measure_lines-lines.ensures.filled_value

  -- the length of its line
  cover-long : 6 + c.widths.result ≡ length (cover_line R-of c.args.self.now.store.labels.now c.args.tries)
  cover-long = omega (arith, c.widths.ensures.value, line-width tab cover_word (c.measure_lines-lines.result.filled ∷ c.args.tries ∷ []), ap length cover-is)

  -- the length that was computed is the listing's: with the labels, of the whole
  long : 6 + c.widths.result + c.measure_lines-lines.result.bytes ≡ length listing-of
  long = omega (arith, cover-long, c.measure_lines-lines.ensures.bytes_value.0, listing-length R-of c.args.self.now.store.labels.now c.args.tries)

pub returns-then-listing-n : goal.returns-then-listing-n
returns-then-listing-n c =
    let w = (goal.at.returns-then-listing-n c).After-widths in
    let p = prints-longer (listing-of w) c.args.listing.now (omega (arith, long w, c.if-listing-n.true)) in
    record { value = p.answer; listing_after = p.left }

pub put_line-at-requires : goal.put_line-at-requires
put_line-at-requires c =
    let w = (goal.at.put_line-at-requires c).After-widths in
    omega (arith, long w, cover-long w, ap length (cover-is w), c.if-listing-n.false)

-- the labels begin where the cover ends, and the whole listing fits
pub put_labels-requires : goal.put_labels-requires
put_labels-requires c =
    let w = (goal.at.put_labels-requires c).After-widths in
    let ends = c.put_line-at.ensures.value ∙ zero-add _ ∙ ap length (cover-is w) in
    omega (arith, ends, long w, c.if-listing-n.false, c.put_line-at.auto.out, listing-length (R-of w) c.args.self.now.store.labels.now c.args.tries)

pub returns : goal.returns
returns c =
    let w = (goal.at.returns c).After-widths in
    let l = c.put_labels in
    let b = c.args.listing.now in
    let q = prints-text (listing-of w) b (omega (arith, long w, c.if-listing-n.false)) in
    let ends = c.put_line-at.ensures.value ∙ zero-add _ ∙ ap length (cover-is w) in
    let first = c.put_line-at.ensures.out_after ∙ ap (write b 0) (cover-is w) in
    record {
      value = ap Some (long w) ∙ q.answer;
      listing_after = listing-put (R-of w) c.args.self.now.store.labels.now c.args.tries b c.put_line-at.new.out l.new.listing c.put_line-at.result ends first l.ensures ∙ q.left;
    }
