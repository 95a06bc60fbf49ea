-- What the loops ask of a frame and of the layer before, and what they find. Assumes nothing.
use Rattle.std.specs.Prelude.{ℕ, ◌+◌, ◌-◌, ◌*◌, ◌≤◌, ◌<◌, cond, ◌≡◌, List, length, get_or, take, drop, Option, Some, None}
use Rattle.words.specs.Pieces.{part, at, put}
use Rattle.request.specs.Request.{Req, asked, width}
use Rattle.request.specs.Shape.{buckets, cells}
use Rattle.rounds.specs.Label.{label, sum, step}
use Rattle.rounds.specs.Rounds.{span}
use Rattle.rounds.specs.Passing.{Room, Tried, Quiet}
use Rattle.labels.specs.Words.{wins_over, Seeks}
use Rattle.tries.specs.declared.Frame.{Frame}

-- the request that a frame is of
abbrev pub asked_by : Frame → Req
asked_by s = asked s.request s.arcs.now

-- a label that is offered to cell c of a block, on words
unfoldable pub offered : ℕ → List ℕ → ℕ → List ℕ → List ℕ
offered d B c l = put (d + 2) B c (cond (wins_over d l (at (d + 2) B c)) l (at (d + 2) B c))

-- the label that arc a makes of a label of cell c, on words
unfoldable pub extended : ℕ → List ℕ → List ℕ → ℕ → ℕ → List ℕ
extended d lab arc a c = label (sum (take d lab) (drop 2 arc)) (a + 3) c

-- the same, by where the label stands
abbrev pub made : Frame → List ℕ → ℕ → ℕ → ℕ → List ℕ
made s labels at a c = extended s.d (part labels at s.w) (part s.arcs.now (a * s.w) s.w) a c

-- what `extend` asks: two labels and an arc in their buffers, sums that fit, and costs that lie in the ladders
pub record Extends (s : Frame) (labels : List ℕ) (at to a c : ℕ) (hint : List ℕ) : Type 0 where
  pub below : at + s.w ≤ to
  pub inside : to + s.span ≤ length labels
  pub in_arcs : a * s.w + s.w ≤ length s.arcs.now
  pub arcs_few : a < 512
  pub cells_few : c ≤ 1048576
  pub sums : (k : ℕ) → k < s.d → get_or (part labels at s.w) k 0 + get_or (part s.arcs.now (a * s.w) s.w) (k + 2) 0 ≤ 63000000
  pub seeks : Seeks s.counts (s.d - 1) s.ladders.now (made s labels at a c) hint

-- the tail's block ends at or before the head's begins, leaves room for one arc more, and what it kept was tried by arc a already
pub record Apart (R : Req) (labels : List ℕ) (from to a : ℕ) : Type 0 where
  pub below : from + span R ≤ to
  pub inside : to + span R ≤ length labels
  pub room : Room R (part labels from (span R))
  pub tried : Tried R (part labels from (span R)) a (part labels to (span R))

-- outside the cells from `low` up to `high` every label of block F is empty or kept
pub record Ranged (R : Req) (F : List ℕ) (low high : ℕ) : Type 0 where
  pub ordered : low ≤ high
  pub inside : high ≤ cells R
  pub before : (c : ℕ) → c < low → Quiet (step R (at (width R) F c))
  pub after : (c : ℕ) → high ≤ c → c < cells R → Quiet (step R (at (width R) F c))

-- a place in each ladder
pub record Hinted (R : Req) (places : List ℕ) : Type 0 where
  pub two : length places ≡ 2
  pub inside : (j : ℕ) → j < R.graded → get_or places j 0 < buckets R j

-- from cell c up to n all labels of block F, of d criteria, are empty or kept
abbrev pub AllQuiet : ℕ → List ℕ → ℕ → ℕ → Type 0
AllQuiet d F c n = (k : ℕ) → c ≤ k → k < n → Quiet (get_or (at (d + 2) F k) d 0)

-- r is a cell from c on, below `high`, that is filled, and from c up to it all are empty or kept
pub record First (d : ℕ) (F : List ℕ) (c high r : ℕ) : Type 0 where
  pub reached : c ≤ r
  pub inside : r < high
  pub between : AllQuiet d F c r
  pub full : get_or (at (d + 2) F r) d 0 ≡ 0 → ⊥

-- such a cell, or none where all from c on are empty or kept
abbrev pub Fresh : ℕ → List ℕ → ℕ → ℕ → Option ℕ → Type 0
Fresh d F c high (Some r) = First d F c high r
Fresh d F c high None = AllQuiet d F c high
