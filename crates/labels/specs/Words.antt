-- What is done to one label's words, in terms of the number of criteria d alone, and what the functions ask. Assumes nothing.
use Rattle.std.specs.Prelude.{ℕ, ◌+◌, ◌≤◌, ◌<◌, ◌≡◌, Bool, not, ◌||◌, List, length, get_or, take, ltb}
use Rattle.words.specs.Loops.{total}
use Rattle.words.specs.Pieces.{part}
use Rattle.words.specs.Radix.{volume, radix}
use Rattle.fences.specs.Answer.{Bracket, Slot}
use Rattle.request.specs.Request.{lower}

-- `wins`, on words: the old label is empty, or the tie rule says so
unfoldable pub wins_over : ℕ → List ℕ → List ℕ → Bool
wins_over d l old = not (ltb 0 (get_or old d 0)) || lower d (take d l) (take d old)

-- ---- what the functions ask and find

-- what `add_costs` asks: three labels' or arcs' words, and sums that fit
pub record Adds (d : ℕ) (out lab arc : List ℕ) : Type 0 where
  pub out_long : length out ≡ d + 2
  pub lab_long : length lab ≡ d + 2
  pub arc_long : length arc ≡ d + 2
  pub small : (k : ℕ) → k < d → get_or lab k 0 + get_or arc (k + 2) 0 ≤ 63000000

-- where ladder j begins, by the counts
unfoldable pub offset : List ℕ → ℕ → ℕ
offset counts j = total (λ i. get_or counts i 0 + 1) j

-- the words of ladder j
unfoldable pub ladder_in : List ℕ → List ℕ → ℕ → List ℕ
ladder_in counts ladders j = part ladders (offset counts j) (get_or counts j 0 + 1)

-- what `find_cell` asks: each cost lies within its ladder, and there is a place in it to look from
pub record Seeks (counts : List ℕ) (graded : ℕ) (ladders cand hint : List ℕ) : Type 0 where
  pub few : graded ≤ 2
  pub two : length hint ≡ 2
  pub long : graded ≤ length cand
  pub room : offset counts graded ≤ length ladders
  pub small : (k : ℕ) → k ≤ graded → volume (λ i. get_or counts i 0) k ≤ 16777216
  pub counts_few : (j : ℕ) → j < graded → get_or counts j 0 ≤ 4096
  pub hinted : (j : ℕ) → j < graded → get_or hint j 0 < get_or counts j 0
  pub inside : (j : ℕ) → j < graded → Bracket (ladder_in counts ladders j) (get_or cand j 0) 0

-- each cost has its place in its ladder, and the cell is the number that the places make
pub record FoundAt (counts : List ℕ) (graded : ℕ) (ladders cand : List ℕ) (cell : ℕ) (places : List ℕ) : Type 0 where
  pub two : length places ≡ 2
  pub slot : (j : ℕ) → j < graded → Slot (ladder_in counts ladders j) (get_or cand j 0) (get_or places j 0)
  pub number : cell ≡ radix (λ i. get_or counts i 0) (λ i. get_or places i 0) graded
  pub below : (j : ℕ) → j < graded → get_or places j 0 < get_or counts j 0

-- from place n on, the words of both are the same
abbrev pub SameFrom : ℕ → List ℕ → List ℕ → Type 0
SameFrom n xs ys = (j : ℕ) → n ≤ j → get_or xs j 0 ≡ get_or ys j 0
