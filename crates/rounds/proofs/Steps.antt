-- A step word read as a Step, and the word of what is read. Assumes nothing.
use Prim.Native.Nat.{ℕ, ◌-◌}
use mathlib.Core.Path.{◌≡◌, refl, sym, ap, ◌∙◌}
use mathlib.Core.Bool.{Bool, true, false, cond}
use native.Mathlib.Omega.{arith}
use lib.Dec.{eqb, ltb}
use borrow.Author.Tests.{eqb-true, eqb-false}
use Rattle.rounds.specs.Step.{step_of, word_of}
use Rattle.rounds.specs.declared.Step.{Step}
use Rattle.rounds.specs.declared.Step.TheVariants.{Empty, Start, Kept, Came}

-- the word of what a word says is the word
pub word_back : (w : ℕ) → word_of (step_of w) ≡ w
unfolding step_of
word_back w = go (eqb w 0) (eqb w 1) (eqb w 2) refl refl refl
  where
    go : (x y z : Bool) → eqb w 0 ≡ x → eqb w 1 ≡ y → eqb w 2 ≡ z → word_of (cond x Empty (cond y Start (cond z Kept (Came (w - 3))))) ≡ w
    go true y z e f g = sym (eqb-true w 0 e)
    go false true z e f g = sym (eqb-true w 1 f)
    go false false true e f g = sym (eqb-true w 2 g)
    go false false false e f g =
        let a = eqb-false w 0 e in
        let b = eqb-false w 1 f in
        let c = eqb-false w 2 g in
        omega arith

-- what is read is filled as the word is
pub filled-is : (w : ℕ) (s : Step) → s ≡ step_of w → ltb 0 (word_of s) ≡ ltb 0 w
filled-is w s read = ap (λ (t : Step). ltb 0 (word_of t)) read ∙ ap (ltb 0) (word_back w)
