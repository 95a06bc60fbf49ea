-- The arcs of a label's chain: how many are answered, and none over M. Assumes nothing.
use Prim.Native.Nat.{ℕ}
use mathlib.Core.Path.{◌≡◌, refl}
use mathlib.Core.List.{List, [], ◌∷◌}
use native.Mathlib.Omega.{arith}
use lib.ListN.{length}
use Rattle.std.specs.Result.{result_unwrap_or}
use Rattle.words.specs.Bounds.{AtMost}
use Rattle.words.proofs.Bounds.{at_most-none, at_most-cons}
use Rattle.request.specs.Request.{Req, arc_count, head}
use Rattle.cover.specs.Walk.{Walk}
use Rattle.route.specs.Chain.{Chain, whole, broken, chain}
use Rattle.route.specs.Answer.{arcs_of}
use Rattle.route.specs.Links.{trail_of}
use Rattle.route.specs.Walked.{Sound}
use Rattle.route.proofs.Sound.{chain-sound}

-- the count that following a chain answers, 0 where it breaks, is its arcs'
pub count-is : (k : Chain) → result_unwrap_or (trail_of k) 0 ≡ length (arcs_of k)
count-is (whole ws) = refl
count-is (broken i) = refl

-- no arc of a walk is over M
walk-arcs : (R : Req) (u v : ℕ) (ws : List ℕ) → Walk R u ws v → AtMost (arc_count R) ws
walk-arcs R u v [] h = at_most-none (arc_count R)
walk-arcs R u v (a ∷ ws) h = let l = h.0 in at_most-cons (arc_count R) a ws (omega arith) (walk-arcs R (head R a) v ws h.2)

module _ (R : Req) (W : List ℕ) (i v c : ℕ) where
  -- the arcs of a chain are none over M
  pub chain-arcs : AtMost (arc_count R) (arcs_of (chain R W i v c))
  chain-arcs = go (chain R W i v c) (chain-sound R W i v c)
    where
      go : (k : Chain) → Sound R W i v c k → AtMost (arc_count R) (arcs_of k)
      go (whole ws) s = walk-arcs R R.source v ws s.1.walk
      go (broken j) s = at_most-none (arc_count R)
