-- The build: its refusals in document 01's order, its answer, and every word of its two lent buffers. Assumes nothing.
use Rattle.std.specs.Prelude.{ℕ, ◌+◌, ◌*◌, ◌≤◌, ◌<◌, ◌≡◌, Bool, cond, List, [], ◌∷◌, ◌++◌, length, get_or, set, replicate, ltb, Result, Ok, Err}
use Rattle.words.specs.Loops.{total}
use Rattle.words.specs.Pieces.{part, write}
use Rattle.words.specs.Rows.{Row, weigh, settle}
use Rattle.request.specs.Request.{Req, width}
use Rattle.request.specs.Refusal.{number_of, place_of, answer}
use Rattle.request.specs.Shape.{ladders, label_count}
use Rattle.request.specs.Rows.{rows}
use Rattle.request.specs.declared.Refusal.{Refusal}
use Rattle.rounds.specs.Rounds.{span, block, filled_in, table, tries}
use Rattle.rounds.specs.Passing.{Room, AllTried}
use Rattle.keeping.specs.declared.Note.{Note}
use Rattle.keeping.specs.Kept.{unnoted}
use Rattle.tries.specs.Tries.{Ranged}

-- "Build: 2 to 10 [17 with 8], 13 (1 ladders, 2 labels)": of a request and two buffers of so many words
unfoldable pub build_rows : Req → ℕ → ℕ → List Row
build_rows R ladder_room label_room =
    rows R
    ++ record { number = 13; holds = ltb ladder_room (length (ladders R)); place = 1 }
    ∷ record { number = 13; holds = ltb label_room (label_count R * width R); place = 2 }
    ∷ []

-- the answer of a request with two buffers of so many words: by the first row that holds, or "the sum of all tries"
unfoldable pub built_of : Req → ℕ → ℕ → Result ℕ Refusal
built_of R ladder_room label_room = answer (weigh (build_rows R ladder_room label_room)) (tries R R.hops)

-- a table that was built has no number (0), no place (0) and the sum of all tries; a refusal its number and place
abbrev pub built_said : Result ℕ Refusal → List ℕ
built_said (Ok n) = 0 ∷ 0 ∷ n ∷ []
built_said (Err r) = number_of r ∷ place_of r ∷ []

-- the ladders after the build: those of the request in front, what lies beyond as it was; all as it was on a refusal
unfoldable pub ladders_after : Req → List ℕ → ℕ → List ℕ
ladders_after R buffer label_room = settle (weigh (build_rows R (length buffer) label_room)) (write buffer 0 (ladders R)) buffer

-- the labels after the build: layers 0 to K in front, what lies beyond as it was; all as it was on a refusal
unfoldable pub labels_after : Req → ℕ → List ℕ → List ℕ
labels_after R ladder_room labels = settle (weigh (build_rows R ladder_room (length labels))) (write labels 0 (table R)) labels

-- ---- what the loops ask

-- the ladders of a request stand at the front of the buffer
abbrev pub Laddered : Req → List ℕ → Type 0
Laddered R buffer = part buffer 0 (length (ladders R)) ≡ ladders R

-- how many words the ladders of so many graded criteria take
unfoldable pub ladder_words : ℕ → ℕ → ℕ → ℕ
ladder_words b1 b2 graded = total (λ j. get_or (b1 ∷ b2 ∷ []) j 0 + 1) graded

-- a block of so many words, with a start in its cell 0 or without
unfoldable pub start_words : ℕ → ℕ → Bool → List ℕ
start_words n d here = cond here (set (replicate n 0) d 1) (replicate n 0)

-- the words of the layer that begins at a place of the labels
abbrev pub layer_in : Req → List ℕ → ℕ → List ℕ
layer_in R labels at = part labels at (R.nodes * span R)

-- the layer before ends at or before the layer that is written begins, leaves room for one arc more, and what it kept was tried
pub record Layered (R : Req) (labels : List ℕ) (prev base : ℕ) : Type 0 where
  pub below : prev + R.nodes * span R ≤ base
  pub inside : base + R.nodes * span R ≤ length labels
  pub rooms : (v : ℕ) → v < R.nodes → Room R (block R (layer_in R labels prev) v)
  pub tried : AllTried R (layer_in R labels prev)

-- what is noted of each node of layer L: its filled cells, and the range of those that are neither empty nor kept
pub record Notes (R : Req) (L : List ℕ) (notes : List Note) : Type 0 where
  pub long : R.nodes ≤ length notes
  pub counts : (v : ℕ) → v < R.nodes → (get_or notes v unnoted).filled ≡ filled_in R (block R L v)
  pub ranges : (v : ℕ) → v < R.nodes → Ranged R (block R L v) (get_or notes v unnoted).low (get_or notes v unnoted).high
