-- `print_out`: 53,000 bytes are enough for every listing, so a refusal is one of the sheet's own; and for the line of every refusal. Assumes nothing.
use Prim.Native.Nat.{ℕ, ◌≤◌}
use mathlib.Core.Path.{◌≡◌, refl, sym, ap, ap₂, ◌∙◌}
use mathlib.Core.List.{List}
use native.Mathlib.Omega.{arith}
use lib.ListN.{length}
use Rattle.std.proofs.Common.{Some}
use Rattle.words.specs.Pieces.{write}
use Rattle.listing.specs.Listing.{refusal_line}
use Rattle.printout.specs.Printout.{printout_of}
use Rattle.printout.proofs.Printing.{prints-listing, prints-refusal, printed-bytes, printed-text}
use Rattle.printout.proofs.print_out.Goals as goal
use Rattle.printout.proofs.print_out.Goals.{After-print_refusal}

-- ---- where the sheet is refused

module _ (c : After-print_refusal) where
  abbrev line_of : List ℕ
  line_of = refusal_line c.number.result c.place.result

  -- its line is what is printed, and the text is as it was
  told : (line_of ≡ printout_of c.args.sheet.now) × (c.list.new.listing ≡ c.args.text.now)
  told =
      let p = prints-refusal c.args.sheet.now c.args.text.now c.requires c.in-Err.refusal (sym c.in-Err.is ∙ c.list.ensures.value) in
      (ap₂ refusal_line c.number.ensures c.place.ensures ∙ p.0, c.list.ensures.listing_after ∙ p.1)

  -- which has room for it
  room : length line_of ≤ length c.list.new.listing
  room = omega (arith, c.requires, ap (length {A = ℕ}) told.1, c.print_refusal.ensures.upper_bound)

  -- so all of it was printed
  whole : c.print_refusal.result ≡ Some (length line_of)
  whole = c.print_refusal.ensures.value ∙ printed-bytes line_of c.list.new.listing room

pub returns-in-Ok : goal.returns-in-Ok
returns-in-Ok c =
    let x = c.list.ensures in
    let p = prints-listing c.args.sheet.now c.args.text.now c.requires c.in-Ok.n (sym c.in-Ok.is ∙ x.value) in
    record { value = (p.0, p.1); text_after = x.listing_after ∙ p.2 }

pub unwrap-requires : goal.unwrap-requires
unwrap-requires c = let k = (goal.at.unwrap-requires c).After-print_refusal in rw (whole k) refl

pub returns-in-Err : goal.returns-in-Err
returns-in-Err c =
    let k = (goal.at.returns-in-Err c).After-print_refusal in
    let e : Some (length (line_of k)) ≡ Some c.unwrap.result = sym (whole k) ∙ c.unwrap.ensures in
    let n : c.unwrap.result ≡ length (line_of k) = cc in
    record {
      value = (n ∙ ap (length {A = ℕ}) (told k).0, omega (arith, n, c.print_refusal.ensures.upper_bound));
      text_after =
          c.print_refusal.ensures.out_after
          ∙ printed-text (line_of k) c.list.new.listing (room k)
          ∙ ap (λ (t : List ℕ). write t 0 (line_of k)) (told k).1
          ∙ ap (write c.args.text.now 0) (told k).0;
    }
