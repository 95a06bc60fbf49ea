-- A number of a field: how reading it goes on at an index, and where a fault lies. Assumes nothing.
use Prim.Native.Nat.{ℕ, suc, ◌+◌, ◌-◌, ◌*◌, ◌≤◌, ◌<◌}
use mathlib.Core.Path.{◌≡◌, refl, ap}
use mathlib.Core.List.{List, [], ◌∷◌, ◌++◌}
use mathlib.Core.Bool.{Bool, true, false, cond, ◌&&◌, ◌||◌}
use native.Mathlib.Omega.{arith}
use lib.ListN.{length, get_or, drop, drop_of_length-le}
use lib.Dec.{ltb, leb, eqb}
use borrow.Author.Tests.{le-ltb, eq-eqb, ne_eqb, ltb-false}
use Rattle.words.specs.Bounds.{AtMost}
use Rattle.words.proofs.Bounds.{at_most-at, at_most-none, at_most-cons, at_most-drop}
use Rattle.std.specs.Prelude.{Ok}
use Rattle.std.specs.List.{list_any}
use Rattle.text.specs.Fault.{fault}
use Rattle.text.specs.Number.{is_digit, digits_after, zero_alone, number, largest, any_over}
use Rattle.text.proofs.Results.{fault-same}
use Rattle.text.proofs.Fields.{drop-next}

-- ---- the first byte

-- there is none
pub number-empty : (f : List ℕ) → length f ≡ 0 → number f ≡ fault 0
unfolding number
number-empty [] h = refl
number-empty (c ∷ cs) h = absurd (omega arith)

-- it is not 0: the digits decide
pub number-first : (f : List ℕ) → 0 < length f → (get_or f 0 0 ≡ 48 → ⊥) → number f ≡ digits_after 0 0 f
unfolding number
number-first [] h e = absurd (omega arith)
number-first (c ∷ cs) h e = rw (ne_eqb c 48 e)

-- it is 0 alone
pub number-zero-alone : (f : List ℕ) → get_or f 0 0 ≡ 48 → length f ≡ 1 → number f ≡ Ok 0
unfolding number
number-zero-alone [] e h = absurd (omega arith)
number-zero-alone (c ∷ []) e h = rw (eq-eqb c 48 e)
number-zero-alone (c ∷ (x ∷ cs)) e h = absurd (omega arith)

-- it is 0, and more follows
pub number-zero-more : (f : List ℕ) → 1 < length f → get_or f 0 0 ≡ 48 → number f ≡ fault 1
unfolding number
number-zero-more [] h e = absurd (omega arith)
number-zero-more (c ∷ []) h e = absurd (omega arith)
number-zero-more (c ∷ (x ∷ cs)) h e = rw (eq-eqb c 48 e)

-- ---- the digits, at index i of the field

module _ (v i : ℕ) (f : List ℕ) (h : i < length f) where
  -- a byte that is no digit, or a ninth digit
  pub digits-stop : (is_digit (get_or f i 0) && leb v 9999999) ≡ false → digits_after v i (drop i f) ≡ fault i
  unfolding digits_after
  digits-stop e = rw (drop-next i f h, e)

  -- any other digit
  pub digits-on : (is_digit (get_or f i 0) && leb v 9999999) ≡ true
      → digits_after v i (drop i f) ≡ digits_after (v * 10 + (get_or f i 0 - 48)) (i + 1) (drop (i + 1) f)
  unfolding digits_after
  digits-on e = rw (drop-next i f h, e)

-- the field ends
pub digits-end : (v i : ℕ) (f : List ℕ) → length f ≤ i → digits_after v i (drop i f) ≡ Ok v
unfolding digits_after
digits-end v i f h = rw (drop_of_length-le f h)

-- ---- a fault lies within the field, or at its end

-- within the digits
after-fault : (v i j : ℕ) (s : List ℕ) → digits_after v i s ≡ fault j → j < i + length s
unfolding digits_after
after-fault v i j [] e = let z : ◌≡◌ {A = ℕ} 0 1 = cc in absurd (omega arith)
after-fault v i j (c ∷ cs) e = go (is_digit c && leb v 9999999) (after-fault (v * 10 + (c - 48)) (i + 1) j cs) e
  where
    go : (b : Bool) → (digits_after (v * 10 + (c - 48)) (i + 1) cs ≡ fault j → j < i + 1 + length cs)
        → cond b (digits_after (v * 10 + (c - 48)) (i + 1) cs) (fault i) ≡ fault j → j < i + suc (length cs)
    go true ih e = let l = ih e in omega arith
    go false ih e = let q : i ≡ j = fault-same e in omega arith

-- within the field
pub number-fault : (s : List ℕ) (j : ℕ) → number s ≡ fault j → j ≤ length s
unfolding number
number-fault [] j e = let q : 0 ≡ j = fault-same e in omega arith
number-fault (c ∷ cs) j e = go (eqb c 48) cs e
  where
    go : (b : Bool) (cs : List ℕ) → cond b (zero_alone cs) (digits_after 0 0 (c ∷ cs)) ≡ fault j → j ≤ suc (length cs)
    go true [] e = let z : ◌≡◌ {A = ℕ} 0 1 = cc in absurd (omega arith)
    go true (x ∷ cs) e = let q : 1 ≡ j = fault-same e in omega arith
    go false cs e = let l = after-fault 0 0 j (c ∷ cs) e in omega arith

-- ---- numbers of more than eight digits

-- as `any` finds them
pub over-any : (vs : List ℕ) → any_over vs ≡ list_any (ltb largest) vs
unfolding any_over
over-any [] = refl
over-any (v ∷ vs) = ap (λ (b : Bool). ltb largest v || b) (over-any vs)

-- none is over exactly where all are at most 99,999,999
pub not-over : (vs : List ℕ) → any_over vs ≡ false → AtMost largest vs
unfolding any_over
not-over [] e = at_most-none largest
not-over (v ∷ vs) e = go (ltb largest v) refl (any_over vs) (not-over vs) e
  where
    go : (a : Bool) → ltb largest v ≡ a → (b : Bool) → (b ≡ false → AtMost largest vs) → (a || b) ≡ false → AtMost largest (v ∷ vs)
    go true p b q e = let z : ◌≡◌ {A = ℕ} 0 1 = cc in absurd (omega arith)
    go false p true q e = let z : ◌≡◌ {A = ℕ} 0 1 = cc in absurd (omega arith)
    go false p false q e = at_most-cons largest v vs (ltb-false largest v p) (q refl)

-- and the other way round
pub over-not : (vs : List ℕ) → AtMost largest vs → any_over vs ≡ false
unfolding any_over
over-not [] h = refl
over-not (v ∷ vs) h = rw (le-ltb largest v (at_most-at largest (v ∷ vs) 0 h), over-not vs (at_most-drop largest 1 (v ∷ vs) h))

-- of two lists, one after the other
pub over-append : (xs ys : List ℕ) → any_over (xs ++ ys) ≡ (any_over xs || any_over ys)
unfolding any_over
over-append [] ys = refl
over-append (x ∷ xs) ys = rw (over-append xs ys) (go (ltb largest x))
  where
    go : (t : Bool) → (t || (any_over xs || any_over ys)) ≡ ((t || any_over xs) || any_over ys)
    go true = refl
    go false = refl
