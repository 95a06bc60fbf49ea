-- The byte at fault in a field: what stands before it begins a number, and no number begins with what stands up to it. Assumes nothing.
use Prim.Native.Nat.{ℕ, zero, suc, ◌+◌, ◌-◌, ◌*◌, ◌≤◌, ◌<◌}
use mathlib.Core.Path.{◌≡◌, refl, sym, ◌∙◌}
use mathlib.Core.List.{List, [], ◌∷◌, ◌++◌, append-nil}
use mathlib.Core.Bool.{Bool, true, false, cond, ◌&&◌}
use native.Mathlib.Omega.{arith}
use lib.ListN.{length, take, drop, take-append-drop}
use lib.Seq.{length-take-le}
use lib.Dec.{leb, eqb}
use Rattle.std.specs.Prelude.{Ok}
use Rattle.text.specs.Fault.{fault}
use Rattle.text.specs.Number.{is_digit, digits_after, zero_alone, number}
use Rattle.text.specs.Fault.{FirstFault}
use Rattle.text.proofs.Results.{fault-same}
use Rattle.text.proofs.Numbers.{number-fault}

-- a fault is not before the byte at which a reader stands
after-least : (v k j : ℕ) (s : List ℕ) → digits_after v k s ≡ fault j → k ≤ j
unfolding digits_after
after-least v k j [] e = let z : ◌≡◌ {A = ℕ} 0 1 = cc in absurd (omega arith)
after-least v k j (c ∷ cs) e = go (is_digit c && leb v 9999999) (after-least (v * 10 + (c - 48)) (k + 1) j cs) e
  where
    go : (b : Bool) → (digits_after (v * 10 + (c - 48)) (k + 1) cs ≡ fault j → k + 1 ≤ j)
        → cond b (digits_after (v * 10 + (c - 48)) (k + 1) cs) (fault k) ≡ fault j → k ≤ j
    go true ih e = let l = ih e in omega arith
    go false ih e = let q : k ≡ j = fault-same e in omega arith

-- a fault within cs does not turn on what follows cs
after-local : (v k j : ℕ) (cs u u' : List ℕ) → digits_after v k (cs ++ u) ≡ fault j → j < k + length cs → digits_after v k (cs ++ u') ≡ fault j
unfolding digits_after
after-local v k j [] u u' e l = let h = after-least v k j u e in absurd (omega arith)
after-local v k j (c ∷ cs) u u' e l = go (is_digit c && leb v 9999999) (after-local (v * 10 + (c - 48)) (k + 1) j cs u u') e
  where
    go : (b : Bool) → (digits_after (v * 10 + (c - 48)) (k + 1) (cs ++ u) ≡ fault j → j < k + 1 + length cs → digits_after (v * 10 + (c - 48)) (k + 1) (cs ++ u') ≡ fault j)
        → cond b (digits_after (v * 10 + (c - 48)) (k + 1) (cs ++ u)) (fault k) ≡ fault j
        → cond b (digits_after (v * 10 + (c - 48)) (k + 1) (cs ++ u')) (fault k) ≡ fault j
    go true ih e = ih e (omega arith)
    go false ih e = e

-- nor does a fault within a field
pub number-local : (j : ℕ) (cs u u' : List ℕ) → number (cs ++ u) ≡ fault j → j < length cs → number (cs ++ u') ≡ fault j
unfolding number
number-local j [] u u' e l = absurd (omega arith)
number-local j (c ∷ cs) u u' e l = go (eqb c 48) e
  where
    zero-first : (cs : List ℕ) → j < suc (length cs) → zero_alone (cs ++ u) ≡ fault j → zero_alone (cs ++ u') ≡ fault j
    zero-first [] l e = none u e
      where
        none : (u : List ℕ) → zero_alone u ≡ fault j → zero_alone u' ≡ fault j
        none [] e = let z : ◌≡◌ {A = ℕ} 0 1 = cc in absurd (omega arith)
        none (x ∷ u) e = let q : 1 ≡ j = fault-same e in absurd (omega arith)
    zero-first (x ∷ cs) l e = e

    go : (b : Bool) → cond b (zero_alone (cs ++ u)) (digits_after 0 0 (c ∷ (cs ++ u))) ≡ fault j → cond b (zero_alone (cs ++ u')) (digits_after 0 0 (c ∷ (cs ++ u'))) ≡ fault j
    go true e = zero-first cs l e
    go false e = after-local 0 0 j (c ∷ cs) u u' e (omega arith)

-- no number begins with what stands up to the byte at fault
number-beyond : (j : ℕ) (s : List ℕ) → number s ≡ fault j → j < length s → (t : List ℕ) (n : ℕ) → number (take (j + 1) s ++ t) ≡ Ok n → ⊥
number-beyond j s e l t n h =
    let w : number (take (j + 1) s ++ drop (j + 1) s) ≡ fault j = rw take-append-drop e in
    let k : length (take (j + 1) s) ≡ j + 1 = length-take-le (j + 1) s (omega arith) in
    let q : fault j ≡ Ok n = sym (number-local j (take (j + 1) s) (drop (j + 1) s) t w (omega arith)) ∙ h in
    let z : ◌≡◌ {A = ℕ} 0 1 = cc in omega arith

-- and some number begins with what stands before it
after-good : (v k j : ℕ) (s : List ℕ) → digits_after v k s ≡ fault j → (n : ℕ) × (digits_after v k (take (j - k) s) ≡ Ok n)
unfolding digits_after
after-good v k j [] e = let z : ◌≡◌ {A = ℕ} 0 1 = cc in absurd (omega arith)
after-good v k j (c ∷ cs) e = go (is_digit c && leb v 9999999) refl (after-good (v * 10 + (c - 48)) (k + 1) j cs) e
  where
    go : (b : Bool) → (is_digit c && leb v 9999999) ≡ b
        → (digits_after (v * 10 + (c - 48)) (k + 1) cs ≡ fault j → (n : ℕ) × (digits_after (v * 10 + (c - 48)) (k + 1) (take (j - (k + 1)) cs) ≡ Ok n))
        → cond b (digits_after (v * 10 + (c - 48)) (k + 1) cs) (fault k) ≡ fault j → (n : ℕ) × (digits_after v k (take (j - k) (c ∷ cs)) ≡ Ok n)
    go true q ih e =
        let r = ih e in
        let l = after-least (v * 10 + (c - 48)) (k + 1) j cs e in
        let m : j - k ≡ suc (j - (k + 1)) = omega arith in
        (r.0, rw (m, q) r.1)
    go false q ih e =
        let p : k ≡ j = fault-same e in
        let m : j - k ≡ 0 = omega arith in
        (v, rw m)

-- or begins with it and goes on
pub number-begins : (j : ℕ) (s : List ℕ) → number s ≡ fault j → (t : List ℕ) × (n : ℕ) × (number (take j s ++ t) ≡ Ok n)
unfolding number
number-begins j [] e = let q : 0 ≡ j = fault-same e in (48 ∷ [], 0, rw (← q))
number-begins j (c ∷ cs) e = go (eqb c 48) refl e
  where
    zero-first : (cs : List ℕ) → eqb c 48 ≡ true → zero_alone cs ≡ fault j → (t : List ℕ) × (n : ℕ) × (number (take j (c ∷ cs) ++ t) ≡ Ok n)
    zero-first [] q e = let z : ◌≡◌ {A = ℕ} 0 1 = cc in absurd (omega arith)
    zero-first (x ∷ cs) q e = let p : 1 ≡ j = fault-same e in ([], 0, rw (← p, q))

    other : (j : ℕ) → eqb c 48 ≡ false → digits_after 0 0 (c ∷ cs) ≡ fault j → (t : List ℕ) × (n : ℕ) × (number (take j (c ∷ cs) ++ t) ≡ Ok n)
    other zero q e = (48 ∷ [], 0, refl)
    other (suc j) q e =
        let r = after-good 0 0 (suc j) (c ∷ cs) e in
        let m : suc j - 0 ≡ suc j = omega arith in
        ([], r.0, rw (q, append-nil (take j cs)) (rw m at r).1)

    go : (b : Bool) → eqb c 48 ≡ b → cond b (zero_alone cs) (digits_after 0 0 (c ∷ cs)) ≡ fault j → (t : List ℕ) × (n : ℕ) × (number (take j (c ∷ cs) ++ t) ≡ Ok n)
    go true q e = zero-first cs q e
    go false q e = other j q e

-- THE FAULT THAT IS ANSWERED FOR A FIELD IS THE FIRST
pub number-first-fault : (s : List ℕ) (j : ℕ) → number s ≡ fault j → FirstFault (λ (f : List ℕ). (n : ℕ) × (number f ≡ Ok n)) s j
number-first-fault s j e =
    let b = number-begins j s e in
    record { inside = number-fault s j e; before = (b.0, (b.1, b.2)); not_beyond = λ l x. number-beyond j s e l x.0 x.1.0 x.1.1 }
