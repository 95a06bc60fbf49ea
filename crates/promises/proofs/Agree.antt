-- Two that equal the same are the same; last values, parameter by parameter. Assumes nothing.
use Prim.Native.Nat.{ℕ}
use mathlib.Core.Path.{◌≡◌, refl, ap, sym, ◌∙◌}
use mathlib.Core.List.{[], ◌∷◌}
use Rattle.std.proofs.Common.{Result, Ok, Err}
use Rattle.words.proofs.Rows.{refused-not-clear}
use Rattle.request.specs.declared.Refusal.{Refusal}
use Rattle.request.specs.Refusal.{number_of, place_of, said}
use Rattle.sheet.proofs.Answers.{same-refusal}

pub agree : {A : Type 0} {x y c : A} → x ≡ c → y ≡ c → x ≡ y
agree p q = p ∙ sym q

-- a parameter that is lent for writing has a last value
pub lent : {A B : Type 0} {v w : A × B} → v.0 ≡ w.0 → v.1 ≡ w.1 → v ≡ w
lent d e i = (d i, e i)

-- any other has none; where there are only such, `refl` does
pub passed : {B : Type 0} {v w : Unit {0} × B} → v.1 ≡ w.1 → v ≡ w
passed e i = (tt, e i)

-- two weighings that say the same are the same
pub weighed-once : (x y : Result Unit Refusal) → said x ≡ said y → x ≡ y
weighed-once (Ok u) (Ok v) e = refl
weighed-once (Ok u) (Err r) e = absurd (refused-not-clear (number_of r) (place_of r) (sym e))
weighed-once (Err q) (Ok v) e = absurd (refused-not-clear (number_of q) (place_of q) e)
weighed-once (Err q) (Err r) e =
    let n : number_of q ≡ number_of r = cc in
    let p : place_of q ≡ place_of r = cc in
    ap Err (same-refusal q r (ap (λ (x : ℕ). x ∷ place_of q ∷ []) n ∙ ap (λ (x : ℕ). number_of r ∷ x ∷ []) p))
