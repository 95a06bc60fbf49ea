-- The printing of a built table's listing: what was asked, how long a label's line is, and a text in lent bytes that may be too few. Assumes nothing.
use Rattle.std.specs.Prelude.{ℕ, cond, List, length, ltb, Option, None, Some}
use Rattle.words.specs.Pieces.{write}
use Rattle.request.specs.Request.{Req, asked}
use Rattle.route.specs.declared.store.Store.{Store}
use Rattle.rounds.specs.Label.{filled}
use Rattle.listing.specs.Listing.{last_label, label_line}

-- what was asked for the table whose labels a store has
abbrev pub asked_in : Store → Req
asked_in s = asked s.request s.arcs.now

-- how many bytes the line of node v, cell c takes, none where the label is empty
unfoldable pub measured : Req → List ℕ → ℕ → ℕ → Option ℕ
measured R W v c = cond (filled R (last_label R W v c)) (Some (length (label_line R W v c))) None

-- the length of a text, or none where it is "longer than the byte buffer"
unfoldable pub printed_of : List ℕ → ℕ → Option ℕ
printed_of text room = cond (ltb room (length text)) None (Some (length text))

-- the bytes afterwards: the text in front, what lies beyond as it was; all as it was where the text is longer
unfoldable pub bytes_after : List ℕ → List ℕ → List ℕ
bytes_after text bytes = let after = write bytes 0 text in cond (ltb (length bytes) (length text)) bytes after
