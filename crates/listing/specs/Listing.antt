-- Document 01, "The lister": the bytes of a listing, from a request, its table's words and its tries. Assumes nothing.
use Rattle.std.specs.Prelude.{ℕ, cond, List, [], ◌∷◌, ◌++◌, length}
use Rattle.words.specs.Loops.{total}
use Rattle.words.specs.Pieces.{join}
use Rattle.text.specs.Line.{line_text}
use Rattle.request.specs.Request.{Req}
use Rattle.request.specs.Shape.{cells}
use Rattle.sheet.specs.Grammar.{tab}
use Rattle.rounds.specs.Label.{costs, filled}
use Rattle.rounds.specs.Rounds.{bit, label_in}
use Rattle.route.specs.Chain.{chain}
use Rattle.route.specs.Answer.{arcs_of}

-- ---- "the listing's words"

-- "`cover`"
abbrev pub cover_word : List ℕ
cover_word = 99 ∷ 111 ∷ 118 ∷ 101 ∷ 114 ∷ []

-- "`label`"
abbrev pub label_word : List ℕ
label_word = 108 ∷ 97 ∷ 98 ∷ 101 ∷ 108 ∷ []

-- "`refused`"
abbrev pub refused_word : List ℕ
refused_word = 114 ∷ 101 ∷ 102 ∷ 117 ∷ 115 ∷ 101 ∷ 100 ∷ []

-- ---- the last layer

-- "prints the last layer": the label of node v, cell c in layer K of the words W
unfoldable pub last_label : Req → List ℕ → ℕ → ℕ → List ℕ
last_label R W v c = label_in R W R.hops v c

-- its arcs in travel order
unfoldable pub last_route : Req → List ℕ → ℕ → ℕ → List ℕ
last_route R W v c = arcs_of (chain R W R.hops v c)

-- "filled labels in layer K": 1 for a filled label
unfoldable pub filled_at : Req → List ℕ → ℕ → ℕ → ℕ
filled_at R W v c = bit (filled R (last_label R W v c))

-- those of node v
unfoldable pub filled_of : Req → List ℕ → ℕ → ℕ
filled_of R W v = total (filled_at R W v) (cells R)

-- and of all nodes
unfoldable pub filled_last : Req → List ℕ → ℕ
filled_last R W = total (filled_of R W) R.nodes

-- ---- the lines

-- "`label`: node, d costs, arc count, the arc numbers"
unfoldable pub label_numbers : Req → List ℕ → ℕ → ℕ → List ℕ
label_numbers R W v c = v ∷ costs R (last_label R W v c) ++ length (last_route R W v c) ∷ last_route R W v c

-- the line of a filled label; an empty one has none
unfoldable pub label_line : Req → List ℕ → ℕ → ℕ → List ℕ
label_line R W v c = let line = line_text tab label_word (label_numbers R W v c) in cond (filled R (last_label R W v c)) line []

-- "then cells rising": the lines of node v
unfoldable pub node_lines : Req → List ℕ → ℕ → List ℕ
node_lines R W v = join (label_line R W v) (cells R)

-- "nodes rising"
unfoldable pub label_lines : Req → List ℕ → List ℕ
label_lines R W = join (node_lines R W) R.nodes

-- "`cover`: filled labels in layer K, tries"
unfoldable pub cover_line : Req → List ℕ → ℕ → List ℕ
cover_line R W tries = line_text tab cover_word (filled_last R W ∷ tries ∷ [])

-- the whole listing of a table's words W, with so many tries
unfoldable pub listing_text : Req → List ℕ → ℕ → List ℕ
listing_text R W tries = cover_line R W tries ++ label_lines R W

-- "A refusal prints `refused`, number, place, on one line, parted by tabs"
unfoldable pub refusal_line : ℕ → ℕ → List ℕ
refusal_line number place = line_text tab refused_word (number ∷ place ∷ [])
