-- `ladder_words`: one ladder or two. Assumes nothing.
use mathlib.Core.Path.{◌≡◌, sym, ap, ◌∙◌}
use Prim.Native.Nat.{ℕ, ◌+◌, ◌-◌}
use mathlib.Core.List.{[], ◌∷◌}
use lib.ListN.{get_or}
use Rattle.words.proofs.Loops.{total-zero, total-suc}
use Rattle.table.specs.Build.{ladder_words}
use native.Mathlib.Omega.{arith}
use Rattle.table.proofs.ladder_words.Goals as goal

one : (b1 b2 : ℕ) → ladder_words b1 b2 1 ≡ b1 + 1
unfolding ladder_words
one b1 b2 = total-suc (λ j. get_or (b1 ∷ b2 ∷ []) j 0 + 1) 0 ∙ omega (arith, total-zero (λ j. get_or (b1 ∷ b2 ∷ []) j 0 + 1))

two : (b1 b2 : ℕ) → ladder_words b1 b2 2 ≡ b1 + 1 + (b2 + 1)
unfolding ladder_words
two b1 b2 = total-suc (λ j. get_or (b1 ∷ b2 ∷ []) j 0 + 1) 1 ∙ ap (λ (n : ℕ). n + (b2 + 1)) (one b1 b2)

pub returns-then-d-eq2 : goal.returns-then-d-eq2
returns-then-d-eq2 c = let a = c.args in let e : a.d - 1 ≡ 1 = omega arith in sym (ap (ladder_words a.shape.b1 a.shape.b2) e ∙ one a.shape.b1 a.shape.b2)

pub returns : goal.returns
returns c = let a = c.args in
    let e : a.d - 1 ≡ 2 = omega (arith, c.requires, c.if-d-eq2.false) in
    sym (ap (ladder_words a.shape.b1 a.shape.b2) e ∙ two a.shape.b1 a.shape.b2)
