-- What a route is that a read-back answers, and what a chain promises. Assumes nothing.
use Rattle.std.specs.Prelude.{ℕ, ◌≤◌, ◌≡◌, List, [], ◌∷◌, length, get_or, take, T}
use Rattle.words.specs.Pieces.{write}
use Rattle.request.specs.Request.{Req}
use Rattle.rounds.specs.Label.{costs, filled}
use Rattle.rounds.specs.Rounds.{table, label_in}
use Rattle.cover.specs.Walk.{Walk, sums}
use Rattle.route.specs.Chain.{Chain, whole, broken}
use Rattle.route.specs.Answer.{costs_after, route_after}

-- arcs ws "from the source" to node v, "at most i arcs long, with exactly those sums" xs
pub record Walked (R : Req) (ws : List ℕ) (i v : ℕ) (xs : List ℕ) : Type 0 where
  pub walk : Walk R R.source ws v
  pub short : length ws ≤ i
  pub exact : xs ≡ sums R ws

-- a read-back that answers a route of n arcs: its arcs ws are a walk to the asked node, with exactly the answered costs, and stand in the buffer
pub record RouteRead (R : Req) (W buffer : List ℕ) (i v c n : ℕ) (ws : List ℕ) : Type 0 where
  pub walk : Walk R R.source ws v
  pub short : length ws ≤ i
  pub count : n ≡ length ws
  pub exact : costs_after R W (length buffer) i v c ≡ get_or (sums R ws) 0 0 ∷ get_or (sums R ws) 1 0 ∷ get_or (sums R ws) 2 0 ∷ []
  pub room : length ws ≤ length buffer
  pub written : route_after R W buffer i v c ≡ write buffer 0 ws

-- the table that the build draws up stands at the front of a label buffer
unfoldable pub Fronts : Req → List ℕ → Type 0
Fronts R W = take (length (table R)) W ≡ table R

-- a whole chain is that of a filled label and walks to its node for its costs; a chain breaks in its own layer or one before
abbrev pub Sound : Req → List ℕ → ℕ → ℕ → ℕ → Chain → Type 0
Sound R W i v c (whole ws) = T (filled R (label_in R W i v c)) × Walked R ws i v (costs R (label_in R W i v c))
Sound R W i v c (broken k) = k ≤ i
