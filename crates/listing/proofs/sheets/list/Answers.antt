-- `list`: a refusal of the reader, or the listing of the request that was read. Assumes nothing.
use Prim.Native.Nat.{ℕ, ◌≤◌}
use mathlib.Core.Path.{◌≡◌, sym, ap, ◌∙◌}
use native.Mathlib.Omega.{arith}
use lib.ListN.{length, take, replicate, length-replicate}
use lib.Seq.{length-take-le}
use Rattle.std.proofs.Common.{rules, Ok, Err}
use Rattle.request.specs.Request.{Req, asked}
use Rattle.sheet.specs.declared.Reading.{Reading}
use Rattle.sheet.specs.Reader as reader
use Rattle.listing.specs.List.{asks, request_listed, request_after}
use Rattle.listing.proofs.FromSheets.{sheet-refused, sheet-listed, sheet-after, sheet-asks, sheet-words}
use Rattle.listing.proofs.sheets.list.Goals as goal
use Rattle.listing.proofs.sheets.list.Goals.{In_ok-reading}

-- so many words were lent
room : length (replicate {A = ℕ} 2560 0) ≡ 2560
room = length-replicate {A = ℕ} 2560 0

-- ---- where the reader read a sheet

module _ (c : In_ok-reading) where
  abbrev reading-of : Reading
  reading-of = c.in_ok-reading.reading

  -- what it says
  told : reader.said (Ok reading-of) ≡ reader.read_says c.args.sheet.now (length (replicate {A = ℕ} 2560 0))
  told = c.in_ok-reading.ensures.value

  -- no more words than were lent
  few : reading-of.words ≤ 2560
  few = sheet-words c.args.sheet.now (replicate 2560 0) room c.args.listing.now reading-of told

  -- which are as many as before
  long : length c.read.new.arcs ≡ 2560
  long = c.read.auto.arcs ∙ room

  -- the request that was read is the one that the sheet asks
  is-asked : asked reading-of.request (take reading-of.words c.read.new.arcs) ≡ asks c.args.sheet.now
  is-asked = sheet-asks c.args.sheet.now (replicate 2560 0) room c.args.listing.now reading-of told _ c.in_ok-reading.ensures.request c.read.ensures.arcs_after

pub returns-in_err-reading : goal.returns-in_err-reading
returns-in_err-reading c =
    let r = c.in_err-reading.field-0.0 in
    let x = sheet-refused c.args.sheet.now (replicate 2560 0) room c.args.listing.now r c.in_err-reading.ensures.value in
    let e : c.from_residual.result ≡ Err r = search rules in
    record { value = e ∙ x.0; listing_after = x.1 }

pub slice_bounds-arcs-end : goal.slice_bounds-arcs-end
slice_bounds-arcs-end c =
    let k = (goal.at.slice_bounds-arcs-end c).In_ok-reading in
    omega (arith, few k, long k)

pub slice_bounds-list_request-end : goal.slice_bounds-list_request-end
slice_bounds-list_request-end c =
    let k = (goal.at.slice_bounds-list_request-end c).In_ok-reading in
    sym (length-take-le _ _ (omega (arith, few k, long k)))

pub returns : goal.returns
returns c =
    let s = c.args.sheet.now in
    let b = c.args.listing.now in
    let k = (goal.at.returns c).In_ok-reading in
    let l = c.list_request.ensures in
    record {
      value = l.value ∙ ap (λ (R : Req). request_listed R (length b)) (is-asked k) ∙ sheet-listed s (replicate 2560 0) room b (reading-of k) (told k);
      listing_after = l.listing_after ∙ ap (λ (R : Req). request_after R b) (is-asked k) ∙ sheet-after s (replicate 2560 0) room b (reading-of k) (told k);
    }
