-- Every refusal's number and place have room in a packed number. Assumes nothing.
use Prim.Native.Nat.{ℕ, ◌≤◌, ◌<◌, zero-le}
use native.Mathlib.Nat.{le_refl}
use lib.Dec.{eqb, lit<}
use Rattle.words.proofs.Choices.{cond_cases}
use Rattle.request.specs.declared.Refusal.{Refusal}
use Rattle.request.specs.declared.Refusal.TheVariants.{Form, Nodes, Criteria, Source, Hops, Ratio, ArcWords, Arc, Loop, Buckets, Labels, Digits, Bytes, Room, Place, Chain}
use Rattle.request.specs.Refusal.{number_of, place_of, refusal_of}

-- a number from 1 on that 16 bits hold
pub number-room : (r : Refusal) → (0 < number_of r) × (number_of r < 65536)
number-room (Form p) = (lit< tt, lit< tt)
number-room Nodes = (lit< tt, lit< tt)
number-room Criteria = (lit< tt, lit< tt)
number-room Source = (lit< tt, lit< tt)
number-room Hops = (lit< tt, lit< tt)
number-room (Ratio p) = (lit< tt, lit< tt)
number-room ArcWords = (lit< tt, lit< tt)
number-room (Arc p) = (lit< tt, lit< tt)
number-room (Loop p) = (lit< tt, lit< tt)
number-room (Buckets p) = (lit< tt, lit< tt)
number-room Labels = (lit< tt, lit< tt)
number-room Digits = (lit< tt, lit< tt)
number-room Bytes = (lit< tt, lit< tt)
number-room (Room p) = (lit< tt, lit< tt)
number-room Place = (lit< tt, lit< tt)
number-room (Chain p) = (lit< tt, lit< tt)

-- the place that the refusal of a number and a place names is that place, or 0
pub place-le : (n p : ℕ) → place_of (refusal_of n p) ≤ p
unfolding refusal_of
place-le n p =
    cond_cases (λ (r : Refusal). place_of r ≤ p) (eqb n 1) (λ _. le_refl p) (λ _.
    cond_cases (λ (r : Refusal). place_of r ≤ p) (eqb n 2) (λ _. zero-le) (λ _.
    cond_cases (λ (r : Refusal). place_of r ≤ p) (eqb n 3) (λ _. zero-le) (λ _.
    cond_cases (λ (r : Refusal). place_of r ≤ p) (eqb n 4) (λ _. zero-le) (λ _.
    cond_cases (λ (r : Refusal). place_of r ≤ p) (eqb n 5) (λ _. zero-le) (λ _.
    cond_cases (λ (r : Refusal). place_of r ≤ p) (eqb n 6) (λ _. le_refl p) (λ _.
    cond_cases (λ (r : Refusal). place_of r ≤ p) (eqb n 7) (λ _. zero-le) (λ _.
    cond_cases (λ (r : Refusal). place_of r ≤ p) (eqb n 8) (λ _. le_refl p) (λ _.
    cond_cases (λ (r : Refusal). place_of r ≤ p) (eqb n 9) (λ _. le_refl p) (λ _.
    cond_cases (λ (r : Refusal). place_of r ≤ p) (eqb n 10) (λ _. zero-le) (λ _.
    cond_cases (λ (r : Refusal). place_of r ≤ p) (eqb n 11) (λ _. zero-le) (λ _.
    cond_cases (λ (r : Refusal). place_of r ≤ p) (eqb n 12) (λ _. zero-le) (λ _.
    cond_cases (λ (r : Refusal). place_of r ≤ p) (eqb n 13) (λ _. le_refl p) (λ _.
    cond_cases (λ (r : Refusal). place_of r ≤ p) (eqb n 14) (λ _. zero-le) (λ _.
    cond_cases (λ (r : Refusal). place_of r ≤ p) (eqb n 16) (λ _. le_refl p) (λ _.
    le_refl p)))))))))))))))
