-- Stretches of bytes up to a byte, and words in common: how each goes on at an index, and where it is the front of a list. Assumes nothing.
use Prim.Native.Nat.{ℕ, suc, ◌+◌, ◌-◌, ◌≤◌, ◌<◌}
use mathlib.Core.Path.{◌≡◌, refl, ap, sym, ◌∙◌}
use mathlib.Core.List.{List, [], ◌∷◌, ◌++◌}
use mathlib.Core.Bool.{Bool, true, false, cond, not}
use native.Mathlib.Omega.{arith}
use native.Mathlib.Numerals.{add-one}
use lib.ListN.{length, get_or, take, drop, length-drop}
use lib.Seq.{drop-cons, take-suc, take_all, take-append-le}
use lib.Dec.{eqb, ltb}
use borrow.Author.Tests.{eq-eqb, ne_eqb, eqb-true, ltb-false}
use Rattle.std.specs.Prelude.{Some, None, MatchOption, position}
use Rattle.std.specs.List.{position_or_len, prefix_len, zip}
use Rattle.text.specs.Field.{before, common}

-- ---- one byte more, as the code counts

-- the rest begins with the byte at i
pub drop-next : (i : ℕ) (s : List ℕ) → i < length s → drop i s ≡ get_or s i 0 ∷ drop (i + 1) s
drop-next i s h = rw add-one (drop-cons s i 0 h)

-- the front ends with it
pub take_next : (i : ℕ) (s : List ℕ) → i < length s → take (i + 1) s ≡ take i s ++ (get_or s i 0 ∷ [])
take_next i s h = rw add-one (take-suc s i 0 h)

-- the rest of a list, as the code's `&s[b..]` has it
pub rest-is : (s : List ℕ) (b : ℕ) → take (length s - b) (drop b s) ≡ drop b s
rest-is s b = take_all (length s - b) (drop b s) (simp length-drop (omega arith))

-- ---- the bytes before b

-- they end where `position` finds the first b
before-position : (b : ℕ) (s : List ℕ) → before b s ≡ take (position_or_len (λ c. eqb c b) s) s
unfolding before
before-position b [] = refl
before-position b (c ∷ cs) = go (eqb c b) (before-position b cs)
  where
    go : (t : Bool) → before b cs ≡ take (position_or_len (λ c. eqb c b) cs) cs
        → cond t [] (c ∷ before b cs) ≡ take (cond (not t) (1 + position_or_len (λ c. eqb c b) cs) 0) (c ∷ cs)
    go true ih = refl
    go false ih = let k : 1 + position_or_len (λ c. eqb c b) cs ≡ suc (position_or_len (λ c. eqb c b) cs) = omega arith in rw k (ap (λ (l : List ℕ). c ∷ l) ih)

-- at that byte where there is one, and nowhere else
pub before-is : (b : ℕ) (s : List ℕ) → MatchOption (position (λ c. eqb c b) s) (s ≡ before b s) (λ n. take n s ≡ before b s)
before-is b s = go (position_or_len (λ c. eqb c b) s) (before-position b s) (ltb (position_or_len (λ c. eqb c b) s) (length s)) refl
  where
    go : (n : ℕ) → before b s ≡ take n s → (t : Bool) → ltb n (length s) ≡ t → MatchOption (cond t (Some n) None) (s ≡ before b s) (λ n. take n s ≡ before b s)
    go n e true q = sym e
    go n e false q = sym (e ∙ take_all n s (ltb-false n (length s) q))

-- a byte that is not b is passed
pub before-pass : (b c : ℕ) (cs : List ℕ) → (c ≡ b → ⊥) → before b (c ∷ cs) ≡ c ∷ before b cs
unfolding before
before-pass b c cs h = rw (ne_eqb c b h)

-- b at once: nothing stands before it
pub before-first : (b : ℕ) (cs : List ℕ) → before b (b ∷ cs) ≡ []
unfolding before
before-first b cs = rw (eq-eqb b b refl)

-- it is no longer than the list
pub before-length : (b : ℕ) (s : List ℕ) → length (before b s) ≤ length s
unfolding before
before-length b [] = omega arith
before-length b (c ∷ cs) = go (eqb c b) (before-length b cs)
  where
    go : (t : Bool) → length (before b cs) ≤ length cs → length (cond t [] (c ∷ before b cs)) ≤ suc (length cs)
    go true ih = omega arith
    go false ih = omega arith

-- the bytes before b are the front of the list
pub before_split : (b : ℕ) (s : List ℕ) → before b s ++ drop (length (before b s)) s ≡ s
unfolding before
before_split b [] = refl
before_split b (c ∷ cs) = go (eqb c b) (before_split b cs)
  where
    go : (t : Bool) → before b cs ++ drop (length (before b cs)) cs ≡ cs
        → cond t [] (c ∷ before b cs) ++ drop (length (cond t [] (c ∷ before b cs))) (c ∷ cs) ≡ c ∷ cs
    go true ih = refl
    go false ih = ap (λ (l : List ℕ). c ∷ l) ih

-- where they are not all of the list, b follows
pub before-found : (b : ℕ) (s : List ℕ) → length (before b s) < length s → s ≡ before b s ++ (b ∷ drop (suc (length (before b s))) s)
unfolding before
before-found b [] h = absurd (omega arith)
before-found b (c ∷ cs) h = go (eqb c b) refl (before-found b cs) h
  where
    go : (t : Bool) → eqb c b ≡ t → (length (before b cs) < length cs → cs ≡ before b cs ++ (b ∷ drop (suc (length (before b cs))) cs))
        → length (cond t [] (c ∷ before b cs)) < suc (length cs)
        → c ∷ cs ≡ cond t [] (c ∷ before b cs) ++ (b ∷ drop (suc (length (cond t [] (c ∷ before b cs)))) (c ∷ cs))
    go true q ih h = ap (λ (x : ℕ). x ∷ cs) (eqb-true c b q)
    go false q ih h = ap (λ (l : List ℕ). c ∷ l) (ih (omega arith))

-- one that ends within cs does not turn on what follows cs
pub before-inside : (b : ℕ) (cs u : List ℕ) → length (before b cs) < length cs → before b (cs ++ u) ≡ before b cs
unfolding before
before-inside b [] u h = absurd (omega arith)
before-inside b (c ∷ cs) u h = go (eqb c b) (before-inside b cs u) h
  where
    go : (t : Bool) → (length (before b cs) < length cs → before b (cs ++ u) ≡ before b cs) → length (cond t [] (c ∷ before b cs)) < suc (length cs)
        → cond t [] (c ∷ before b (cs ++ u)) ≡ cond t [] (c ∷ before b cs)
    go true ih h = refl
    go false ih h = ap (λ (l : List ℕ). c ∷ l) (ih (omega arith))

-- one that does not end within cs goes on
pub before-through : (b : ℕ) (cs u : List ℕ) → length cs ≤ length (before b cs) → before b (cs ++ u) ≡ cs ++ before b u
unfolding before
before-through b [] u h = refl
before-through b (c ∷ cs) u h = go (eqb c b) (before-through b cs u) h
  where
    go : (t : Bool) → (length cs ≤ length (before b cs) → before b (cs ++ u) ≡ cs ++ before b u) → suc (length cs) ≤ length (cond t [] (c ∷ before b cs))
        → cond t [] (c ∷ before b (cs ++ u)) ≡ c ∷ (cs ++ before b u)
    go true ih h = absurd (omega arith)
    go false ih h = ap (λ (l : List ℕ). c ∷ l) (ih (omega arith))

-- its front is that of the list
pub take-before : (b i : ℕ) (s : List ℕ) → i ≤ length (before b s) → take i s ≡ take i (before b s)
take-before b i s h = ap (take i) (sym (before_split b s)) ∙ take-append-le i (before b s) (drop (length (before b s)) s) h

-- ---- bytes in common with a word

-- as many as pairs of bytes agree from the front on
pub common-zip : (w l : List ℕ) → common w l ≡ prefix_len (λ p. eqb p.0 p.1) (zip l w)
unfolding common
common-zip [] [] = refl
common-zip [] (c ∷ l) = refl
common-zip (x ∷ w) [] = refl
common-zip (x ∷ w) (c ∷ l) = ap (λ (k : ℕ). cond (eqb c x) k 0) (ap (λ (k : ℕ). k + 1) (common-zip w l) ∙ omega arith)

-- a line that begins with the word has all of it in common, and the other way round
pub common-append : (w t : List ℕ) → common w (w ++ t) ≡ length w
unfolding common
common-append [] t = refl
common-append (x ∷ w) t = rw (eq-eqb x x refl, common-append w t) (add-one (length w))

-- and it then begins with the word
pub common-was : (w line : List ℕ) → length w ≤ common w line → line ≡ w ++ drop (length w) line
unfolding common
common-was [] line h = refl
common-was (x ∷ w) [] h = absurd (omega arith)
common-was (x ∷ w) (c ∷ l) h = go (eqb c x) refl (common-was w l) h
  where
    go : (t : Bool) → eqb c x ≡ t → (length w ≤ common w l → l ≡ w ++ drop (length w) l)
        → suc (length w) ≤ cond t (common w l + 1) 0 → c ∷ l ≡ x ∷ (w ++ drop (length w) l)
    go true q ih h = rw (eqb-true c x q) (ap (λ (r : List ℕ). x ∷ r) (ih (omega arith)))
    go false q ih h = absurd (omega arith)

-- ---- bytes in common with a word, where the line goes on otherwise

-- a byte that differs within p decides
pub common-local : (w p u u' : List ℕ) → common w (p ++ u) < length w → common w (p ++ u) < length p → common w (p ++ u') ≡ common w (p ++ u)
unfolding common
common-local [] p u u' h l = refl
common-local (x ∷ w) [] u u' h l = absurd (omega arith)
common-local (x ∷ w) (c ∷ p) u u' h l = go (eqb c x) (common-local w p u u') h l
  where
    go : (t : Bool) → (common w (p ++ u) < length w → common w (p ++ u) < length p → common w (p ++ u') ≡ common w (p ++ u))
        → cond t (common w (p ++ u) + 1) 0 < suc (length w) → cond t (common w (p ++ u) + 1) 0 < suc (length p)
        → cond t (common w (p ++ u') + 1) 0 ≡ cond t (common w (p ++ u) + 1) 0
    go true ih h l = ap (λ (i : ℕ). i + 1) (ih (omega arith) (omega arith))
    go false ih h l = refl

-- a word that ends within p is there whatever follows
pub common-whole : (w p u u' : List ℕ) → length w ≤ length p → length w ≤ common w (p ++ u) → length w ≤ common w (p ++ u')
unfolding common
common-whole [] p u u' l h = omega arith
common-whole (x ∷ w) [] u u' l h = absurd (omega arith)
common-whole (x ∷ w) (c ∷ p) u u' l h = go (eqb c x) (common-whole w p u u') h
  where
    go : (t : Bool) → (length w ≤ length p → length w ≤ common w (p ++ u) → length w ≤ common w (p ++ u'))
        → suc (length w) ≤ cond t (common w (p ++ u) + 1) 0 → suc (length w) ≤ cond t (common w (p ++ u') + 1) 0
    go true ih h = let k = ih (omega arith) (omega arith) in omega arith
    go false ih h = absurd (omega arith)

-- so far word and line agree
pub common-take : (w line : List ℕ) → take (common w line) line ≡ take (common w line) w
unfolding common
common-take [] line = refl
common-take (x ∷ w) [] = refl
common-take (x ∷ w) (c ∷ l) = go (eqb c x) refl (common-take w l)
  where
    go : (t : Bool) → eqb c x ≡ t → take (common w l) l ≡ take (common w l) w → take (cond t (common w l + 1) 0) (c ∷ l) ≡ take (cond t (common w l + 1) 0) (x ∷ w)
    go true q ih = rw (add-one (common w l), eqb-true c x q) (ap (λ (r : List ℕ). x ∷ r) ih)
    go false q ih = refl

-- no more than the line has
pub common-most : (w line : List ℕ) → common w line ≤ length line
unfolding common
common-most [] line = omega arith
common-most (x ∷ w) [] = omega arith
common-most (x ∷ w) (c ∷ l) = go (eqb c x) (common-most w l)
  where
    go : (t : Bool) → common w l ≤ length l → cond t (common w l + 1) 0 ≤ suc (length l)
    go true h = omega arith
    go false h = omega arith
