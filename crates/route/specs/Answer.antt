-- The read-back's refusals in document 01's order, its answer, and the route buffer after it. Assumes nothing.
use Rattle.std.specs.Prelude.{ℕ, ◌*◌, Bool, true, false, cond, ◌||◌, List, [], ◌∷◌, ◌++◌, length, get_or, leb, ltb, eqb}
use Rattle.words.specs.Pieces.{write}
use Rattle.words.specs.Rows.{Row, Weighed, clear, refused, weigh, settle}
use Rattle.request.specs.Request.{Req, width, reach}
use Rattle.request.specs.Shape.{cells, label_count}
use Rattle.request.specs.Rows.{rows}
use Rattle.request.specs.Refusal.{number_of, place_of, refusal_of}
use Rattle.rounds.specs.Rounds.{label_in}
use Rattle.rounds.specs.Label.{costs, filled}
use Rattle.route.specs.Chain.{Chain, whole, broken, chain}
use Rattle.route.specs.declared.Ending.{Ending}
use Rattle.route.specs.declared.Ending.TheVariants as ending

-- whether a chain breaks
abbrev pub breaks : Chain → Bool
breaks (whole ws) = false
breaks (broken i) = true

-- and in which layer
abbrev pub break_layer : Chain → ℕ
break_layer (whole ws) = 0
break_layer (broken i) = i

-- the arcs of a whole chain
abbrev pub arcs_of : Chain → List ℕ
arcs_of (whole ws) = ws
arcs_of (broken i) = []

-- "Read-back: 2 to 10 [17 with 8], 13 (1 labels, 2 route buffer under K words), 14, 15, 16": of a request, a table's words, room for a route and an asked place
unfoldable pub back_rows : Req → List ℕ → ℕ → ℕ → ℕ → ℕ → List Row
back_rows R W room i v c =
    rows R
    ++ record { number = 13; holds = ltb (length W) (label_count R * width R); place = 1 }
    ∷ record { number = 13; holds = ltb room (reach R); place = 2 }
    ∷ record { number = 14; holds = ltb R.hops i || leb R.nodes v || leb (cells R) c; place = 0 }
    ∷ record { number = 15; holds = cond (filled R (label_in R W i v c)) false true; place = 0 }
    ∷ record { number = 16; holds = breaks (chain R W i v c); place = break_layer (chain R W i v c) }
    ∷ []

-- an empty cell is number 15; any other number is a refusal
unfoldable pub refusal : ℕ → ℕ → Ending
refusal n p = cond (eqb n 15) ending.Empty (ending.Refused (refusal_of n p))

-- "a route, an empty cell (number 15), or a refusal with its place"
abbrev pub ended : Weighed → ℕ → Ending
ended clear n = ending.Route n
ended (refused n p) k = refusal n p

-- "A read-back ends in one of three ways": by the first row of its table that holds, or in a route
unfoldable pub ending_of : Req → List ℕ → ℕ → ℕ → ℕ → ℕ → Ending
ending_of R W room i v c = ended (weigh (back_rows R W room i v c)) (length (arcs_of (chain R W i v c)))

-- the paper's number and values of each ending: a route has number 0, place 0 and its arc count, an empty cell its number alone
abbrev pub said : Ending → List ℕ
said (ending.Route n) = 0 ∷ 0 ∷ n ∷ []
said ending.Empty = 15 ∷ []
said (ending.Refused r) = number_of r ∷ place_of r ∷ []

-- the costs beside it: those of the asked label, 0 past its last and 0 where there is no route
unfoldable pub costs_after : Req → List ℕ → ℕ → ℕ → ℕ → ℕ → List ℕ
costs_after R W room i v c =
    let xs = costs R (label_in R W i v c) in
    settle (weigh (back_rows R W room i v c)) (get_or xs 0 0 ∷ get_or xs 1 0 ∷ get_or xs 2 0 ∷ []) (0 ∷ 0 ∷ 0 ∷ [])

-- "writes the arc numbers in travel order; later words of the route buffer stay"; all of it stays where there is no route
unfoldable pub route_after : Req → List ℕ → List ℕ → ℕ → ℕ → ℕ → List ℕ
route_after R W buffer i v c = settle (weigh (back_rows R W (length buffer) i v c)) (write buffer 0 (arcs_of (chain R W i v c))) buffer
