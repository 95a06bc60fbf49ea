-- A packed answer tells the answer again. Assumes nothing.
use Prim.Native.Nat.{ℕ, ◌/◌, ◌%◌, ◌<◌}
use mathlib.Core.Path.{◌≡◌, refl, sym, ap, ◌∙◌}
use mathlib.Core.Bool.{Bool, cond}
use mathlib.Core.List.{List, [], ◌∷◌}
use native.Mathlib.Omega.{arith}
use lib.Dec.{eqb}
use borrow.Author.Tests.{eq-eqb, ne_eqb}
use Rattle.desk.specs.Packed.{pack, Parts, unpack, packed, answer_of, Answer}

module _ (n b l : ℕ) (hn : n < 65536) (hb : b < 65536) (hl : l < 4294967296) where
  -- the packed number is one of 64 bits
  pub pack-fits : pack n b l < 18446744073709551616
  unfolding pack
  pack-fits = omega arith

  number_is : pack n b l / 281474976710656 ≡ n
  unfolding pack
  number_is = omega arith

  byte-is : pack n b l / 4294967296 % 65536 ≡ b
  unfolding pack
  byte-is = omega arith

  low-is : pack n b l % 4294967296 ≡ l
  unfolding pack
  low-is = omega arith

  -- UNPACK AFTER PACK IS THE IDENTITY
  pub unpack-pack : unpack (pack n b l) ≡ record { number = n; byte = b; low = l }
  unfolding unpack
  unpack-pack =
      ap (λ (x : ℕ). record { number = x; byte = pack n b l / 4294967296 % 65536; low = pack n b l % 4294967296 }) number_is
      ∙ ap (λ (x : ℕ). record { number = n; byte = x; low = pack n b l % 4294967296 }) byte-is
      ∙ ap (λ (x : ℕ). record { number = n; byte = b; low = x }) low-is

-- what the parts of a packed number say
abbrev parts_say : Parts → List ℕ
parts_say p = cond (eqb p.number 0) (0 ∷ 0 ∷ p.low ∷ []) (p.number ∷ p.low ∷ [])

parts-answer : (x : ℕ) → answer_of x ≡ parts_say (unpack x)
unfolding answer_of
parts-answer x = refl

-- EVERY ANSWER IS TOLD AGAIN BY ITS PACKED NUMBER
pub answer-told : (a : List ℕ) → Answer a → answer_of (packed a) ≡ a
unfolding Answer packed
answer-told [] h = absurd h
answer-told (n ∷ []) h = absurd h
answer-told (n ∷ p ∷ []) h =
    parts-answer (pack n 0 p)
    ∙ ap parts_say (unpack-pack n 0 p h.1 (omega arith) h.2)
    ∙ ap (λ (t : Bool). cond t (0 ∷ 0 ∷ p ∷ []) (n ∷ p ∷ [])) (ne_eqb n 0 (λ e. omega (arith, h.0)))
answer-told (n ∷ p ∷ c ∷ more) h =
    let z : n < 65536 = omega (arith, h.0) in
    parts-answer (pack n 0 c)
    ∙ ap parts_say (unpack-pack n 0 c z (omega arith) h.2)
    ∙ ap (λ (t : Bool). cond t (0 ∷ 0 ∷ c ∷ []) (n ∷ c ∷ [])) (eq-eqb n 0 h.0)
    ∙ sym (ap (λ (x : ℕ). x ∷ p ∷ c ∷ more) h.0 ∙ ap (λ (x : ℕ). 0 ∷ x ∷ c ∷ more) h.1 ∙ ap (λ (x : List ℕ). 0 ∷ 0 ∷ c ∷ x) h.3)

-- so two answers with one packed number are the same answer
pub packed-once : (a b : List ℕ) → Answer a → Answer b → packed a ≡ packed b → a ≡ b
packed-once a b ha hb e = sym (answer-told a ha) ∙ ap answer_of e ∙ answer-told b hb

-- a count
pub count_small : (n : ℕ) → Answer (0 ∷ 0 ∷ n ∷ []) → n < 4294967296
unfolding Answer
count_small n h = h.2

-- a refusal and a count, packed
pub packed-refusal : (number place : ℕ) → pack number 0 place ≡ packed (number ∷ place ∷ [])
unfolding packed
packed-refusal number place = refl

pub packed-count : (n : ℕ) → pack 0 0 n ≡ packed (0 ∷ 0 ∷ n ∷ [])
unfolding packed
packed-count n = refl
