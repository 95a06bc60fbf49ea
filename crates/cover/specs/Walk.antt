-- Walks and their sums: "Walks may repeat nodes and arcs. The empty walk from the source to itself counts." Assumes nothing.
use Rattle.std.specs.Prelude.{ℕ, ◌<◌, ◌≡◌, List, [], ◌∷◌, replicate}
use Rattle.request.specs.Request.{Req, arc_count, tail, head, arc_costs}
use Rattle.rounds.specs.Label.{sum}

-- `ws`, arc numbers in travel order, leads from u to v
abbrev pub Walk : Req → ℕ → List ℕ → ℕ → Type 0
Walk R u [] v = u ≡ v
Walk R u (a ∷ ws) v = (a < arc_count R) × (tail R a ≡ u) × Walk R (head R a) ws v

-- xs and the costs of the arcs of a walk
unfoldable pub sums_from : Req → List ℕ → List ℕ → List ℕ
sums_from R xs [] = xs
sums_from R xs (a ∷ ws) = sums_from R (sum xs (arc_costs R a)) ws

-- the sums of a walk
unfoldable pub sums : Req → List ℕ → List ℕ
sums R ws = sums_from R (replicate R.criteria 0) ws
