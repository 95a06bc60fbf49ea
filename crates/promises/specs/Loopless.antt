-- Document 02, request (f): "A typing slip made an arc from a camp to itself and the planner took it. Refuse it." What an answer owes to that, in
-- document 01's numbers. Assumes nothing.
use Rattle.std.specs.Prelude.{ℕ, ◌≡◌, List, [], ◌∷◌}
use Rattle.words.specs.Rows.{Row, clear, weigh}
use Rattle.request.specs.Request.{Req}
use Rattle.request.specs.Accepted.{Loopless, FirstLoop}

-- An answer that says 0, 0 and values was given to a request without such a track; and where one is the first fault, and no row holds that is weighed
-- `before` the request's own, the answer says "17, place the arc".
pub record RefusesLoops (before : List Row) (R : Req) (said : List ℕ) : Type 0 where
  pub answered : (v : ℕ) (vs : List ℕ) → said ≡ 0 ∷ 0 ∷ v ∷ vs → Loopless R
  pub refuses : weigh before ≡ clear → (a : ℕ) → FirstLoop R a → said ≡ 17 ∷ a ∷ []
