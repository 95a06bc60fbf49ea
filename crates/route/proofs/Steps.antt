-- A step word from the kind of label that it says. Assumes nothing.
use Prim.Native.Nat.{ℕ, zero, suc, ◌-◌, ◌≤◌}
use mathlib.Core.Path.{◌≡◌, refl, ◌∙◌}
use mathlib.Core.Bool.{Bool}
use mathlib.Core.List.{List}
use native.Mathlib.Omega.{arith}
use lib.Dec.{ltb}
use borrow.Author.Tests.{ne_eqb}
use Rattle.request.specs.Request.{Req}
use Rattle.rounds.specs.Label.{step, filled}
use Rattle.rounds.specs.Step.{step_of, word_of}
use Rattle.rounds.specs.declared.Step.{Step}
use Rattle.rounds.specs.declared.Step.TheVariants.{Empty, Start, Kept, Came}
use Rattle.rounds.proofs.Steps.{filled-is}

-- from 3 on it names an arc
names-arc : (w : ℕ) → 3 ≤ w → step_of w ≡ Came (w - 3)
unfolding step_of
names-arc w h = rw (ne_eqb w 0 (omega arith), ne_eqb w 1 (omega arith), ne_eqb w 2 (omega arith))

-- a start's is 1
pub start-word : (w : ℕ) → Start ≡ step_of w → w ≡ 1
unfolding step_of
start-word zero e = cc
start-word (suc zero) e = refl
start-word (suc (suc zero)) e = cc
start-word (suc (suc (suc n))) e = let q = names-arc (suc (suc (suc n))) (omega arith) in cc

-- a kept label's is 2
pub kept-word : (w : ℕ) → Kept ≡ step_of w → w ≡ 2
unfolding step_of
kept-word zero e = cc
kept-word (suc zero) e = cc
kept-word (suc (suc zero)) e = refl
kept-word (suc (suc (suc n))) e = let q = names-arc (suc (suc (suc n))) (omega arith) in cc

-- that of a label come by an arc is 3 more than the arc
pub came-word : (w a : ℕ) → Came a ≡ step_of w → (3 ≤ w) × (a ≡ w - 3)
unfolding step_of
came-word zero a e = cc
came-word (suc zero) a e = cc
came-word (suc (suc zero)) a e = cc
came-word (suc (suc (suc n))) a e = let q = names-arc (suc (suc (suc n))) (omega arith) in (omega arith, cc)

-- an empty label's is 0
pub empty-word : (w : ℕ) → Empty ≡ step_of w → w ≡ 0
unfolding step_of
empty-word zero e = refl
empty-word (suc zero) e = cc
empty-word (suc (suc zero)) e = cc
empty-word (suc (suc (suc n))) e = let q = names-arc (suc (suc (suc n))) (omega arith) in cc

-- what a label's step word says is filled as the label is
pub told-filled : (R : Req) (l : List ℕ) (s : Step) (b : Bool) → s ≡ step_of (step R l) → b ≡ ltb 0 (word_of s) → b ≡ filled R l
unfolding filled
told-filled R l s b e f = f ∙ filled-is (step R l) s e
