-- What a request is that no row refuses: in the words of the rows, and in plain facts; and which arc is refused first. Assumes nothing.
use Rattle.std.specs.Prelude.{ℕ, ◌*◌, ◌≤◌, ◌<◌, ◌≡◌, [], ◌∷◌, ◌++◌, length, get_or}
use Rattle.words.specs.Rows.{clear, weigh}
use Rattle.request.specs.Request.{Req, width, arc_count, arc, arc_costs, tail, head, ratio_p, ratio_q}
use Rattle.request.specs.Shape.{buckets, label_count}
use Rattle.request.specs.Rows.{arc_words_row, arc_fault, ask_rows, rows}

-- "an accepted request": no row holds
unfoldable pub Accepted : Req → Type 0
Accepted R = weigh (rows R) ≡ clear

-- what the theorems on rounds and walks use of it, for any number of criteria
pub record Regular (R : Req) : Type 0 where
  pub whole : length R.arcs ≡ arc_count R * width R
  pub source_in : R.source < R.nodes
  pub tail_in : (a : ℕ) → a < arc_count R → tail R a < R.nodes
  pub head_in : (a : ℕ) → a < arc_count R → head R a < R.nodes
  pub ratio_in : (j : ℕ) → j < R.graded → 0 < ratio_q R j

-- request (f), "No tracks from a camp to itself": no arc's tail is its head
abbrev pub Loopless : Req → Type 0
Loopless R = (a : ℕ) → a < arc_count R → tail R a ≡ head R a → ⊥

-- "the first arc with any of these faults decides", where that is arc a and its fault is to lead from a camp to itself: rows 2 to 7 do not hold, no arc
-- before it has a fault, and its one camp is in range; its costs may be anything
pub record FirstLoop (R : Req) (a : ℕ) : Type 0 where
  pub rows_before : weigh (ask_rows R ++ arc_words_row (length R.arcs) (width R) ∷ []) ≡ clear
  pub inside : a < arc_count R
  pub arcs_before : (b : ℕ) → b < a → arc_fault R.nodes R.criteria (arc R b) ≡ 0
  pub tail_in : tail R a < R.nodes
  pub loops : tail R a ≡ head R a

-- what the code uses besides, to see that nothing wraps: of rows 2 to 8
pub record Small (R : Req) : Type 0 where
  pub nodes_few : R.nodes ≤ 64
  pub two : 2 ≤ R.criteria
  pub three : R.criteria ≤ 3
  pub hops_few : R.hops ≤ 63
  pub ratio_order : (j : ℕ) → j < R.graded → ratio_p R j ≤ ratio_q R j
  pub arcs_few : arc_count R ≤ 512
  pub cost_small : (a j : ℕ) → a < arc_count R → j < R.criteria → get_or (arc_costs R a) j 0 ≤ 1000000

-- and of rows 9 and 10
pub record Fits (R : Req) : Type 0 where
  pub buckets_few : (j : ℕ) → j < R.graded → buckets R j ≤ 4096
  pub labels_few : label_count R ≤ 1048576
