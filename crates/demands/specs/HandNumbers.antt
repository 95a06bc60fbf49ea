-- Document 01, "Numbers to check by hand": the starred ones, gathered in a single statement. Assumes nothing.
use Rattle.std.specs.Prelude.{ℕ, ◌≡◌, cond, List, [], ◌∷◌, ◌++◌, map, drop}
use Rattle.words.specs.Loops.{up_to}
use Rattle.words.specs.Rows.{clear, refused, weigh}
use Rattle.fences.specs.Fence.{fences, position}
use Rattle.request.specs.Request.{Req, asked}
use Rattle.request.specs.Shape.{top, buckets, cells}
use Rattle.request.specs.Rows.{rows}
use Rattle.rounds.specs.Label.{costs, filled}
use Rattle.rounds.specs.Rounds.{label_at, tries}
use Rattle.listing.specs.List.{asks}
use Rattle.listing.specs.Example.{input}

-- "The sheet above", with K hops and a ratio p over q
unfoldable pub sheet : ℕ → ℕ → ℕ → Req
sheet k p q = asked (record { nodes = 4; criteria = 2; source = 0; hops = k; ratios = p ∷ q ∷ 0 ∷ 1 ∷ [] })
    (0 ∷ 1 ∷ 4 ∷ 5 ∷ 0 ∷ 1 ∷ 6 ∷ 3 ∷ 0 ∷ 2 ∷ 1 ∷ 9 ∷ 1 ∷ 3 ∷ 2 ∷ 2 ∷ 2 ∷ 3 ∷ 6 ∷ 1 ∷ [])

-- "One arc 0 to 0 of costs 1, 1, K 2, ratio 1/1"
unfoldable pub loop : Req
loop = asked (record { nodes = 1; criteria = 2; source = 0; hops = 2; ratios = 1 ∷ 1 ∷ 0 ∷ 1 ∷ [] }) (0 ∷ 0 ∷ 1 ∷ 1 ∷ [])

-- "Arcs 0 to 1 of (5, 5) then (4, 5), K 1, ratio 1/1"
unfoldable pub equal : Req
equal = asked (record { nodes = 2; criteria = 2; source = 0; hops = 1; ratios = 1 ∷ 1 ∷ 0 ∷ 1 ∷ [] }) (0 ∷ 1 ∷ 5 ∷ 5 ∷ 0 ∷ 1 ∷ 4 ∷ 5 ∷ [])

-- the filled cells of node v in layer i, rising, each with its costs behind it
unfoldable pub held : Req → ℕ → ℕ → List (List ℕ)
held R i v = up_to (λ c r. r ++ cond (filled R (label_at R i v c)) ((c ∷ costs R (label_at R i v c)) ∷ []) []) [] (cells R)

-- "1 to 10": each number below the words that it stands in
pub record HandNumbers : Type 0 where
  -- "The sheet above" is the printed one, and each request here is accepted
  pub above : asks input ≡ sheet 2 1 1
  pub accepted :
      (weigh (rows (sheet 2 1 1)) ≡ clear) × (weigh (rows (sheet 2 0 1)) ≡ clear) × (weigh (rows (sheet 0 1 1)) ≡ clear)
      × (weigh (rows equal) ≡ clear)
  -- 1. "Ratio 1/2: 0, 1, 2, 4, 7, 11, 17, 26, 40."
  pub one : fences 1 2 9 ≡ 0 ∷ 1 ∷ 2 ∷ 4 ∷ 7 ∷ 11 ∷ 17 ∷ 26 ∷ 40 ∷ []
  -- 2. "Ratio 1/1: 0, 1, 3, 7, 15, 31. Ratio 0/1: 0, 1, 2, 3."
  pub two : (fences 1 1 6 ≡ 0 ∷ 1 ∷ 3 ∷ 7 ∷ 15 ∷ 31 ∷ []) × (fences 0 1 4 ≡ 0 ∷ 1 ∷ 2 ∷ 3 ∷ [])
  -- 3. "Ratio 1/10: after 9 come 10, 12, 14."
  pub three : drop 9 (fences 1 10 13) ≡ 9 ∷ 10 ∷ 12 ∷ 14 ∷ []
  -- 4. "On 1/1, costs 0, 6, 7, 12 have positions 0, 2, 3, 3."
  pub four : map (position 1 1) (0 ∷ 6 ∷ 7 ∷ 12 ∷ []) ≡ 0 ∷ 2 ∷ 3 ∷ 3 ∷ []
  -- 5. "The sheet above: T 12, B 4; layer 1, node 1, cell 2 holds 6, 3, step 4."
  pub five : (top (sheet 2 1 1) 0 ≡ 12) × (buckets (sheet 2 1 1) 0 ≡ 4) × (label_at (sheet 2 1 1) 1 1 2 ≡ 6 ∷ 3 ∷ 4 ∷ 0 ∷ [])
  -- 6. "Layer 2, node 3, cell 3 holds 8, 5, step 6, from 2; tries 8."
  pub six : (label_at (sheet 2 1 1) 2 3 3 ≡ 8 ∷ 5 ∷ 6 ∷ 2 ∷ []) × (tries (sheet 2 1 1) 2 ≡ 8)
  -- 7. "The same at ratio 0/1: node 3 holds cells 6, 7, 8 with last costs 7, 10, 5; tries 9."
  pub seven : (held (sheet 2 0 1) 2 3 ≡ (6 ∷ 6 ∷ 7 ∷ []) ∷ (7 ∷ 7 ∷ 10 ∷ []) ∷ (8 ∷ 8 ∷ 5 ∷ []) ∷ []) × (tries (sheet 2 0 1) 2 ≡ 9)
  -- 8. "K = 0: one filled label, 0 tries."
  pub eight :
      (held (sheet 0 1 1) 0 0 ≡ (0 ∷ 0 ∷ 0 ∷ []) ∷ []) × (held (sheet 0 1 1) 0 1 ≡ []) × (held (sheet 0 1 1) 0 2 ≡ []) × (held (sheet 0 1 1) 0 3 ≡ [])
      × (tries (sheet 0 1 1) 0 ≡ 0)
  -- 9, by request (f): "Case 9 becomes a refusal", of its one arc
  pub nine : weigh (rows loop) ≡ refused 17 0
  -- 10. "(5, 5) stays."
  pub ten : held equal 1 1 ≡ (2 ∷ 5 ∷ 5 ∷ []) ∷ []
