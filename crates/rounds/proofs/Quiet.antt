-- The test for a quiet step word. Assumes nothing.
use Prim.Native.Nat.{ℕ}
use mathlib.Core.Path.{◌≡◌, refl, sym}
use mathlib.Core.Bool.{Bool, true, false, ◌||◌}
use mathlib.Core.Logic.{inl, inr}
use lib.Dec.{eqb}
use borrow.Author.Tests.{eqb-true, eqb-false}
use Rattle.words.proofs.Choices.{true-is}
use Rattle.rounds.specs.Passing.{Quiet, quiet}

-- what it passes is empty or kept
pub quiet_is : (s : ℕ) → quiet s ≡ true → Quiet s
quiet_is s e = go (eqb s 0) (eqb s 2) refl refl e
  where
    go : (x y : Bool) → eqb s 0 ≡ x → eqb s 2 ≡ y → (x || y) ≡ true → Quiet s
    go true y f g h = inl (eqb-true s 0 f)
    go false true f g h = inr (eqb-true s 2 g)
    go false false f g h = absurd (true-is h)

-- and what it does not pass is not empty
pub loud-full : (s : ℕ) → quiet s ≡ false → s ≡ 0 → ⊥
loud-full s e z = eqb-false s 0 (first (eqb s 0) (eqb s 2) e) z
  where
    first : (x y : Bool) → (x || y) ≡ false → x ≡ false
    first true y h = absurd (true-is (sym h))
    first false y h = refl
