-- What the functions answer, by the rows and the shape. Assumes nothing.
use Rattle.std.specs.Prelude.{ℕ, ◌+◌, ◌*◌, ◌≤◌, ◌<◌, cond, List, ltb, get_or, Result, Ok, Err}
use Rattle.words.specs.Loops.{total}
use Rattle.fences.specs.Fence.{buckets}
use Rattle.words.specs.Rows.{weigh}
use Rattle.request.specs.Request.{Req}
use Rattle.request.specs.Shape.{cells, label_count, count}
use Rattle.request.specs.Rows.{rows}
use Rattle.request.specs.declared.Shape.{Shape}
use Rattle.request.specs.declared.Refusal.{Refusal}
use Rattle.request.specs.declared.Refusal.TheVariants.{Labels}
use Rattle.request.specs.Refusal.{answer}

-- the shape of a request's table: its bucket counts, C, and how many labels it has
abbrev pub shape_of : Req → Shape
shape_of R = record { b1 = count R 0; b2 = count R 1; cells = cells R; labels = label_count R }

-- row 10, or the shape, of n nodes, k hops and two bucket counts
unfoldable pub shaped_of : ℕ → ℕ → ℕ → ℕ → Result Shape Refusal
shaped_of n k b1 b2 =
    cond (ltb 1048576 ((k + 1) * (n * (b1 * b2))))
    (Err Labels)
    (Ok (record { b1 = b1; b2 = b2; cells = b1 * b2; labels = (k + 1) * (n * (b1 * b2)) }))

-- the answer of `check`: the first refusal of rows 2 to 10 with 17, or the table's shape
unfoldable pub checked_of : Req → Result Shape Refusal
checked_of R = answer (weigh (rows R)) (shape_of R)

-- what `fill_ladders` asks: ratios in range, counts that a top of at most 63,000,000 has, and room
pub record Ladders (ratios counts : List ℕ) (graded room : ℕ) : Type 0 where
  pub few : graded ≤ 2
  pub q_pos : (j : ℕ) → j < graded → 0 < get_or ratios (j * 2 + 1) 0
  pub p_le : (j : ℕ) → j < graded → get_or ratios (j * 2) 0 ≤ get_or ratios (j * 2 + 1) 0
  pub count_le : (j : ℕ) → j < graded → get_or counts j 0 ≤ buckets (get_or ratios (j * 2) 0) (get_or ratios (j * 2 + 1) 0) 63000000
  pub fits : total (λ j. get_or counts j 0 + 1) graded ≤ room
