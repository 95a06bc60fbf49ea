-- Document 01, "Labels and rounds": layers of flat words, for any number of criteria. A node's block is its C labels. Assumes nothing.
use Rattle.std.specs.Prelude.{ℕ, zero, suc, ◌+◌, ◌*◌, Bool, true, false, cond, List, replicate, eqb}
use Rattle.words.specs.Loops.{up_to, total}
use Rattle.words.specs.Pieces.{at, put, join}
use Rattle.request.specs.Request.{Req, width, arc_count, tail, head}
use Rattle.request.specs.Shape.{cells, cell}
use Rattle.rounds.specs.Label.{filled, empty, start, kept, candidate, came, wins}

-- ---- a layer in blocks

-- the words of a block
abbrev pub span : Req → ℕ
span R = cells R * width R

-- the block of node v in a layer's words
unfoldable pub block : Req → List ℕ → ℕ → List ℕ
block R L v = at (span R) L v

-- a block of empty labels
unfoldable pub blank : Req → List ℕ
blank R = replicate (span R) 0

-- "Layer 0 is empty but for the source's cell 0, a start"
unfoldable pub start_block : Req → ℕ → List ℕ
start_block R v = let r = put (width R) (blank R) 0 (start R) in cond (eqb v R.source) r (blank R)

-- layer 0: N such blocks
unfoldable pub start_layer : Req → List ℕ
start_layer R = join (start_block R) R.nodes

-- ---- a round

-- "first keeps every filled label of layer i−1"
unfoldable pub keep_cell : Req → List ℕ → List ℕ
keep_cell R l = cond (filled R l) (kept R l) (empty R)

-- so in a node's block, cell by cell
unfoldable pub keep_block : Req → List ℕ → List ℕ
keep_block R F = join (λ c. keep_cell R (at (width R) F c)) (cells R)

-- so in a layer, node by node
unfoldable pub keep_all : Req → List ℕ → List ℕ
keep_all R L = join (λ v. keep_block R (block R L v)) R.nodes

-- a label "goes to its cell .. if that is empty or holds a strictly larger last cost"
unfoldable pub offer : Req → ℕ → List ℕ → List ℕ → List ℕ
offer R c l B = let r = put (width R) B c l in cond (wins R l (at (width R) B c)) r B

-- one try: cell c of the tail's block F, where it is filled, by arc a into the head's block B
unfoldable pub try_cell : Req → List ℕ → ℕ → ℕ → List ℕ → List ℕ
try_cell R F a c B =
    let l = at (width R) F c in
    let r = offer R (cell R (candidate R a l)) (came R a c l) B in
    cond (filled R l) r B

-- "for each arc the tail's filled cells of layer i−1 in rising order"
unfoldable pub try_arc : Req → List ℕ → ℕ → List ℕ → List ℕ
try_arc R F a B = up_to (try_cell R F a) B (cells R)

-- arc a, from layer L into the layer X that is being made
unfoldable pub arc_step : Req → List ℕ → ℕ → List ℕ → List ℕ
arc_step R L a X = put (span R) X (head R a) (try_arc R (block R L (tail R a)) a (block R X (head R a)))

-- "Round i (1 to K) first keeps .. Then arcs in table order"
unfoldable pub round : Req → List ℕ → List ℕ
round R L = up_to (arc_step R L) (keep_all R L) (arc_count R)

-- the words of layer i
unfoldable pub layer : Req → ℕ → List ℕ
layer R zero = start_layer R
layer R (suc i) = round R (layer R i)

-- the table: layers 0 to K, one after another
unfoldable pub table : Req → List ℕ
table R = join (layer R) (R.hops + 1)

-- "The label of layer i, node v, cell c starts at word ((i × N + v) × C + c) × (d+2)"
unfoldable pub label_in : Req → List ℕ → ℕ → ℕ → ℕ → List ℕ
label_in R W i v c = at (width R) W ((i * R.nodes + v) * cells R + c)

-- the label of node v, cell c in a layer's words
unfoldable pub label_of : Req → List ℕ → ℕ → ℕ → List ℕ
label_of R L v c = at (width R) (block R L v) c

-- and in layer i
unfoldable pub label_at : Req → ℕ → ℕ → ℕ → List ℕ
label_at R i v c = label_of R (layer R i) v c

-- ---- tries, counted apart: each filled cell of an arc's tail "is one try"

-- a test as a count: 1 or 0
abbrev pub bit : Bool → ℕ
bit true = 1
bit false = 0

-- the filled cells of a block
unfoldable pub filled_in : Req → List ℕ → ℕ
filled_in R B = total (λ c. bit (filled R (at (width R) B c))) (cells R)

-- the tries of the round over layer L
unfoldable pub round_tries : Req → List ℕ → ℕ
round_tries R L = total (λ a. filled_in R (block R L (tail R a))) (arc_count R)

-- "the sum of all tries": of the first i rounds
unfoldable pub tries : Req → ℕ → ℕ
tries R i = total (λ k. round_tries R (layer R k)) i
