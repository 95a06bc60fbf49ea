-- What keeping leaves, and what is noted of each node on the way, on the words of labels of d criteria. Assumes nothing.
use Rattle.std.specs.Prelude.{ℕ, ◌+◌, ◌*◌, ◌≤◌, ◌<◌, ◌≡◌, cond, List, length, get_or, take, replicate, ltb}
use Rattle.words.specs.Loops.{total}
use Rattle.words.specs.Pieces.{at, join}
use Rattle.rounds.specs.Label.{label}
use Rattle.rounds.specs.Rounds.{bit}
use Rattle.rounds.specs.Passing.{Quiet}
use Rattle.keeping.specs.declared.Note.{Note}

-- `keep_cell`: a filled label kept, an empty one for an empty one
unfoldable pub keep_words : ℕ → List ℕ → List ℕ
keep_words d l = cond (ltb 0 (get_or l d 0)) (label (take d l) 2 0) (replicate (d + 2) 0)

-- `keep_block`: the n labels of block F, each kept
unfoldable pub kept_block : ℕ → ℕ → List ℕ → List ℕ
kept_block d n F = join (λ c. keep_words d (at (d + 2) F c)) n

-- ---- what is noted

-- the step word of cell c of block F
abbrev pub step_in : ℕ → List ℕ → ℕ → ℕ
step_in d F c = get_or (at (d + 2) F c) d 0

-- `filled_in`: the filled ones of the first n cells
unfoldable pub filled_of : ℕ → List ℕ → ℕ → ℕ
filled_of d F n = total (λ c. bit (ltb 0 (step_in d F c))) n

-- nothing noted
abbrev pub unnoted : Note
unnoted = record { filled = 0; low = 0; high = 0 }

-- of the first n cells of F so many are filled, and outside the cells from `low` up to `high` all are empty or kept
pub record Noted (d : ℕ) (F : List ℕ) (n : ℕ) (note : Note) : Type 0 where
  pub count : note.filled ≡ filled_of d F n
  pub ordered : note.low ≤ note.high
  pub inside : note.high ≤ n
  pub before : (c : ℕ) → c < note.low → Quiet (step_in d F c)
  pub after : (c : ℕ) → note.high ≤ c → c < n → Quiet (step_in d F c)

-- ---- what the functions ask

-- the n labels at `prev` end at or before those at `base` begin
pub record KeptIn (labels : List ℕ) (n d prev base : ℕ) : Type 0 where
  pub below : prev + n * (d + 2) ≤ base
  pub inside : base + n * (d + 2) ≤ length labels
  pub few : d ≤ 3
  pub small : n ≤ 1048576

-- so the m blocks of n labels each, with a place for the note of each
pub record LayersIn (labels : List ℕ) (notes : List Note) (m n d prev base : ℕ) : Type 0 where
  pub below : prev + m * (n * (d + 2)) ≤ base
  pub inside : base + m * (n * (d + 2)) ≤ length labels
  pub few : d ≤ 3
  pub small : n ≤ 1048576
  pub places : m ≤ length notes

-- each of the first m blocks of L is noted in its place
unfoldable pub NotedAll : ℕ → ℕ → List ℕ → ℕ → List Note → Type 0
NotedAll d n L m notes = (v : ℕ) → v < m → Noted d (at (n * (d + 2)) L v) n (get_or notes v unnoted)
