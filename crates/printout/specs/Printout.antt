-- Document 01, "The lister": what it prints for a sheet. Assumes nothing.
use Rattle.std.specs.Prelude.{ℕ, ◌*◌, List, [], ◌∷◌, ◌++◌, ltb}
use Rattle.words.specs.Rows.{Row, Weighed, clear, refused, weigh}
use Rattle.request.specs.Request.{width}
use Rattle.request.specs.Shape.{label_count}
use Rattle.request.specs.Rows.{rows}
use Rattle.sheet.specs.Reader.{form_rows}
use Rattle.listing.specs.Listing.{refusal_line}
use Rattle.listing.specs.List.{asks, listing_of}

-- "Reader: 12, 1", "Build: 2 to 10" with 17, and 13 with place 2 for a table of more than "the same 12,288 words"; no row for a listing that is too long
unfoldable pub printout_rows : List ℕ → List Row
printout_rows s = form_rows s ++ rows (asks s) ++ record { number = 13; holds = ltb 12288 (label_count (asks s) * width (asks s)); place = 2 } ∷ []

-- the listing, or "A refusal prints `refused`, number, place"
abbrev pub printed : Weighed → List ℕ → List ℕ
printed clear text = text
printed (refused n p) text = refusal_line n p

-- what is printed for a sheet, whole
unfoldable pub printout_of : List ℕ → List ℕ
printout_of s = printed (weigh (printout_rows s)) (listing_of (asks s))
