-- The route that a label's chain names: a kept label's is the same route, an arc label's has the arc at its end. Assumes nothing.
use Prim.Native.Nat.{ℕ, suc, ◌+◌, ◌-◌, ◌<◌}
use mathlib.Core.Path.{◌≡◌, sym, ap, ap₂, ◌∙◌, subst}
use mathlib.Core.Bool.{not}
use mathlib.Core.List.{List, [], ◌∷◌, ◌++◌}
use native.Mathlib.Nat.{add-sub_cancel_left}
use native.Mathlib.Omega.{arith}
use lib.ListN.{length}
use lib.Dec.{T, leb, le→leb}
use Rattle.words.proofs.Choices.{cond-true, cond-false}
use Rattle.request.specs.Request.{Req, width, arc_count, tail}
use Rattle.request.specs.Accepted.{Regular}
use Rattle.rounds.specs.Label.{costs, step, from, kept, candidate, came}
use Rattle.rounds.specs.Rounds.{label_at}
use Rattle.rounds.proofs.Labels.{step_label, from-label, costs-length, candidate-length}
use Rattle.cover.specs.Cover.{route}

module _ (R : Req) (i v c : ℕ) where
  -- a kept label
  pub route-kept : (l : List ℕ) → length l ≡ width R → label_at R (suc i) v c ≡ kept R l → route R (suc i) v c ≡ route R i v c
  unfolding route kept
  route-kept l size e =
      cond-false (leb 3 (step R (label_at R (suc i) v c))) _ _
      (subst (λ (z : ℕ). T (not (leb 3 z))) (sym (ap (step R) e ∙ step_label R (costs R l) 2 0 (costs-length R l size))) tt)

  -- an arc label
  pub route-arc : Regular R → (a f : ℕ) → a < arc_count R → (l : List ℕ) → length l ≡ width R → label_at R (suc i) v c ≡ came R a f l → route R (suc i) v c ≡ route R i (tail R a) f ++ a ∷ []
  unfolding route came
  route-arc ok a f in-a l size e =
      let long = candidate-length R ok a in-a l size in
      let s : step R (label_at R (suc i) v c) ≡ 3 + a = ap (step R) e ∙ step_label R (candidate R a l) (3 + a) f long in
      let s' : step R (label_at R (suc i) v c) - 3 ≡ a = ap (λ (n : ℕ). n - 3) s ∙ add-sub_cancel_left 3 a in
      let g : from R (label_at R (suc i) v c) ≡ f = ap (from R) e ∙ from-label R (candidate R a l) (3 + a) f long in
      cond-true (leb 3 (step R (label_at R (suc i) v c))) _ _ (le→leb 3 (step R (label_at R (suc i) v c)) (omega arith))
      ∙ ap₂ (λ (n m : ℕ). route R i (tail R n) m ++ n ∷ []) s' g
