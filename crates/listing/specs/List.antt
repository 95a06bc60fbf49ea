-- Document 01, the C call's paragraph: "reader, build and listing with 12,288 label words of its own". Its refusal table, its answer, and the
-- listing's bytes after it. Assumes nothing.
use Rattle.std.specs.Prelude.{ℕ, ◌*◌, List, [], ◌∷◌, ◌++◌, length, ltb, Result, Ok, Err}
use Rattle.words.specs.Pieces.{write}
use Rattle.words.specs.Rows.{Row, weigh, settle}
use Rattle.request.specs.Request.{Req, asked, width}
use Rattle.request.specs.Shape.{label_count}
use Rattle.request.specs.Rows.{rows}
use Rattle.request.specs.Refusal.{number_of, place_of, answer}
use Rattle.request.specs.declared.Refusal.{Refusal}
use Rattle.sheet.specs.Grammar.{sheet_of}
use Rattle.sheet.specs.Reader.{words_of, request_of, form_rows}
use Rattle.rounds.specs.Rounds.{table, tries}
use Rattle.listing.specs.Listing.{listing_text}

-- the request that a sheet asks, with its arcs
unfoldable pub asks : List ℕ → Req
asks s = asked (request_of (sheet_of s)) (words_of (sheet_of s))

-- the listing of a request: of its table and its tries
unfoldable pub listing_of : Req → List ℕ
listing_of R = listing_text R (table R) (tries R R.hops)

-- "2 to 10" with 17, and "its 13 has place 2 for those [12,288 label words] and 3 for a listing longer than the byte buffer" of so many bytes
unfoldable pub request_rows : Req → ℕ → List Row
request_rows R room =
    rows R
    ++ record { number = 13; holds = ltb 12288 (label_count R * width R); place = 2 }
    ∷ record { number = 13; holds = ltb room (length (listing_of R)); place = 3 }
    ∷ []

-- "Reader: 12, 1", and then those of the request that was read; arc and ladder room "always suffices"
unfoldable pub list_rows : List ℕ → ℕ → List Row
list_rows s room = form_rows s ++ request_rows (asks s) room

-- "It answers the listing's length in bytes, or number and place": for a request
unfoldable pub request_listed : Req → ℕ → Result ℕ Refusal
request_listed R room = answer (weigh (request_rows R room)) (length (listing_of R))

-- and the bytes afterwards
unfoldable pub request_after : Req → List ℕ → List ℕ
request_after R bytes = settle (weigh (request_rows R (length bytes))) (write bytes 0 (listing_of R)) bytes

-- for a sheet: the answer
unfoldable pub listed_of : List ℕ → ℕ → Result ℕ Refusal
listed_of s room = answer (weigh (list_rows s room)) (length (listing_of (asks s)))

-- and the bytes afterwards: the listing in front, what lies beyond as it was; all as it was on a refusal
unfoldable pub listing_after : List ℕ → List ℕ → List ℕ
listing_after s bytes = settle (weigh (list_rows s (length bytes))) (write bytes 0 (listing_of (asks s))) bytes

-- the paper's number and values of each answer: a listing has number 0, place 0 and its length in bytes, a refusal its number and place
abbrev pub said : Result ℕ Refusal → List ℕ
said (Ok n) = 0 ∷ 0 ∷ n ∷ []
said (Err r) = number_of r ∷ place_of r ∷ []
