-- What a frame holds: an accepted request's sizes, and its ladders. Assumes nothing.
use Rattle.std.specs.Prelude.{ℕ, ◌+◌, ◌*◌, ◌≤◌, ◌<◌, ◌≡◌, List, length, get_or}
use Rattle.words.specs.Pieces.{part}
use Rattle.request.specs.Request.{Req}
use Rattle.request.specs.Shape.{buckets, cells, ladders}
use Rattle.request.specs.Accepted.{Regular, Small, Fits}

-- the sizes fit together: d criteria, w words of a label, so many cells, and a block's words
pub record Sized (d w cells span : ℕ) : Type 0 where
  pub words : w ≡ d + 2
  pub whole : span ≡ cells * w
  pub some : 1 ≤ d
  pub few : d ≤ 3
  pub small : span ≤ 6000000
  pub cells_small : cells ≤ 1048576

-- they are an accepted request's, and its ladders stand at the front of the buffer
pub record Framed (R : Req) (buffer : List ℕ) (d w c span : ℕ) (counts : List ℕ) : Type 0 where
  pub sized : Sized d w c span
  pub regular : Regular R
  pub bounded : Small R
  pub fits : Fits R
  pub d_is : d ≡ R.criteria
  pub cells_is : c ≡ cells R
  pub counts_are : (j : ℕ) → j < R.graded → get_or counts j 0 ≡ buckets R j
  pub ladders_are : part buffer 0 (length (ladders R)) ≡ ladders R
