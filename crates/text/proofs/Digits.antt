-- The digits of a number, and that a field is a number exactly where it is the digits of one. Assumes nothing.
use Prim.Native.Nat.{ℕ, zero, suc, ◌+◌, ◌-◌, ◌*◌, ◌/◌, ◌%◌, ◌^◌, ◌≤◌, ◌<◌}
use Rattle.std.proofs.Math.Nat.{pow-succ', one-le-pow}
use mathlib.Core.Path.{◌≡◌, refl, ap, sym, ◌∙◌}
use mathlib.Core.List.{List, [], ◌∷◌, ◌++◌, append_assoc, append-nil}
use mathlib.Core.Bool.{Bool, true, false, cond, ◌&&◌, false≢true}
use mathlib.Core.Logic.{◌↔◌, ⊎_elim}
use native.Mathlib.Omega.{arith}
use lib.ListN.{length, get_or, length-append, get_or-append}
use lib.Dec.{leb, eqb}
use borrow.Author.Tests.{lt-ltb, le-ltb, le-leb, leb-true, eqb-true, eqb-false}
use Rattle.words.proofs.Choices.{lt-or-le}
use Rattle.std.specs.Prelude.{Result, Ok}
use Rattle.text.specs.declared.Fault.{Fault}
use Rattle.text.specs.Fault.{fault}
use Rattle.text.specs.Number.{is_digit, digits_after, zero_alone, number, digits_within, digits, largest}
use Rattle.text.proofs.Numbers.{number-first}

-- a number below 10 is one digit
within-small : (k n : ℕ) → n < 10 → digits_within k n ≡ (48 + n) ∷ []
unfolding digits_within
within-small zero n h = refl
within-small (suc k) n h = rw (lt-ltb n 10 h)

-- any other has the digits of its tenth and one more
within_more : (k n : ℕ) → 10 ≤ n → digits_within (suc k) n ≡ digits_within k (n / 10) ++ ((48 + n % 10) ∷ [])
unfolding digits_within
within_more k n h = rw (le-ltb n 10 h)

-- more room than n changes nothing
within-any : (k j n : ℕ) → n ≤ k → n ≤ j → digits_within k n ≡ digits_within j n
within-any zero j n h l = within-small zero n (omega arith) ∙ sym (within-small j n (omega arith))
within-any (suc k) zero n h l = within-small (suc k) n (omega arith) ∙ sym (within-small zero n (omega arith))
within-any (suc k) (suc j) n h l =
    ⊎_elim (λ s. within-small (suc k) n s ∙ sym (within-small (suc j) n s))
    (λ m. within_more k n m ∙ ap (λ (r : List ℕ). r ++ ((48 + n % 10) ∷ [])) (within-any k j (n / 10) (omega arith) (omega arith)) ∙ sym (within_more j n m))
    (lt-or-le n 10)

-- the two laws of `digits`: all else goes by these
pub digits-small : (n : ℕ) → n < 10 → digits n ≡ (48 + n) ∷ []
unfolding digits
digits-small n h = within-small n n h

-- from 10 on: the digits of the tenth, and one more
pub digits_more : (n : ℕ) → 10 ≤ n → digits n ≡ digits (n / 10) ++ ((48 + n % 10) ∷ [])
unfolding digits
digits_more zero h = absurd (omega arith)
digits_more (suc k) h = within_more k (suc k) h ∙ ap (λ (r : List ℕ). r ++ ((48 + suc k % 10) ∷ [])) (within-any k (suc k / 10) (suc k / 10) (omega arith) (omega arith))

-- an induction that goes as `digits` does
by-tens-within : (P : ℕ → Type 0) → ((n : ℕ) → n < 10 → P n) → ((n : ℕ) → 10 ≤ n → P (n / 10) → P n) → (k n : ℕ) → n ≤ k → P n
by-tens-within P small more zero n h = small n (omega arith)
by-tens-within P small more (suc k) n h =
    ⊎_elim (λ s. small n s) (λ m. more n m (by-tens-within P small more k (n / 10) (omega arith))) (lt-or-le n 10)

-- for every number
pub by-tens : (P : ℕ → Type 0) → ((n : ℕ) → n < 10 → P n) → ((n : ℕ) → 10 ≤ n → P (n / 10) → P n) → (n : ℕ) → P n
by-tens P small more n = by-tens-within P small more n n (omega arith)

-- one digit more at the end
digits-snoc : (v x : ℕ) → 1 ≤ v → x < 10 → digits (v * 10 + x) ≡ digits v ++ ((48 + x) ∷ [])
digits-snoc v x h l =
    let q : (v * 10 + x) / 10 ≡ v = omega arith in
    let r : (v * 10 + x) % 10 ≡ x = omega arith in
    digits_more (v * 10 + x) (omega arith) ∙ rw (q, r)

-- ---- read after write

-- one digit more is read
step-on : (v i c : ℕ) (cs : List ℕ) → 48 ≤ c → c ≤ 57 → v ≤ 9999999
    → digits_after v i (c ∷ cs) ≡ digits_after (v * 10 + (c - 48)) (i + 1) cs
unfolding digits_after
step-on v i c cs l h m = rw (le-leb 48 c l, le-leb c 57 h, le-leb v 9999999 m)

-- the digits of n, and then t, are read as n with t to come
abbrev Reads : ℕ → Type 0
Reads n = (t : List ℕ) → n ≤ 99999999 → digits_after 0 0 (digits n ++ t) ≡ digits_after n (length (digits n)) t

-- of one digit
reads-small : (n : ℕ) → n < 10 → Reads n
reads-small n s t h =
    let e : 0 * 10 + (48 + n - 48) ≡ n = omega arith in
    rw (digits-small n s) (step-on 0 0 (48 + n) t (omega arith) (omega arith) (omega arith) ∙ rw e)

-- of more digits
reads_more : (n : ℕ) → 10 ≤ n → Reads (n / 10) → Reads n
reads_more n m ih t h =
    let e : n / 10 * 10 + (48 + n % 10 - 48) ≡ n = omega arith in
    rw (digits_more n m, append_assoc, ih ((48 + n % 10) ∷ t) (omega arith), length-append)
    (step-on (n / 10) (length (digits (n / 10))) (48 + n % 10) t (omega arith) (omega arith) (omega arith) ∙ rw e)

-- the digits of n, and then t, leave a reader at n with t to come
read-digits : (n : ℕ) → Reads n
read-digits = by-tens Reads reads-small reads_more

-- but for 0, the digits of n do not begin with a 0
abbrev Begins : ℕ → Type 0
Begins n = 0 < n → (0 < length (digits n)) × (get_or (digits n) 0 0 ≡ 48 → ⊥)

-- by tens
begins : (n : ℕ) → Begins n
begins = by-tens Begins
    (λ n s h. rw (digits-small n s) (omega arith, λ e. omega arith))
    (λ n m ih h.
    let b = ih (omega arith) in
    rw (digits_more n m, length-append, get_or-append (digits (n / 10)) _ 0 0 b.0) (omega arith, b.1))

-- 0 alone
number-zero : (n : ℕ) → n < 1 → number (digits n) ≡ Ok n
unfolding number
number-zero n s = let e : n ≡ 0 = omega arith in rw (e, digits-small 0 (omega arith))

-- the digits of n are read as n
pub number_digits : (n : ℕ) → n ≤ 99999999 → number (digits n) ≡ Ok n
unfolding digits_after
number_digits n h =
    ⊎_elim (number-zero n)
    (λ p. let b = begins n p in
    number-first (digits n) b.0 b.1
    ∙ ap (digits_after 0 0) (sym (append-nil (digits n)))
    ∙ read-digits n [] h)
    (lt-or-le n 1)

-- ---- write after read

-- a choice that gives a value took the side that gives it
cond-is : (b : Bool) (x : Result ℕ Fault) (i n : ℕ) → cond b x (fault i) ≡ Ok n → (b ≡ true) × (x ≡ Ok n)
cond-is true x i n e = (refl, e)
cond-is false x i n e = let z : ◌≡◌ {A = ℕ} 0 1 = cc in absurd (omega arith)

-- two tests that both came out true
and_both : (a b : Bool) → (a && b) ≡ true → (a ≡ true) × (b ≡ true)
and_both true b e = (refl, e)
and_both false b e = (e, absurd (false≢true e))

-- a reader that ends well found a digit, and room for it
step-was : (v i c n : ℕ) (cs : List ℕ) → digits_after v i (c ∷ cs) ≡ Ok n
    → (48 ≤ c) × (c ≤ 57) × (v ≤ 9999999) × (digits_after (v * 10 + (c - 48)) (i + 1) cs ≡ Ok n)
unfolding digits_after
step-was v i c n cs e =
    let a = cond-is (is_digit c && leb v 9999999) _ i n e in
    let b = and_both (is_digit c) (leb v 9999999) a.0 in
    let d = and_both (leb 48 c) (leb c 57) b.0 in
    (leb-true 48 c d.0, leb-true c 57 d.1, leb-true v 9999999 b.1, a.1)

-- what is read after v is the digits that follow those of v
digits-read : (v i n : ℕ) (s : List ℕ) → 1 ≤ v → v ≤ 99999999 → digits_after v i s ≡ Ok n → (digits n ≡ digits v ++ s) × (n ≤ 99999999)
unfolding digits_after
digits-read v i n [] p h e = let q : v ≡ n = cc in (ap digits (sym q) ∙ sym (append-nil (digits v)), omega arith)
digits-read v i n (c ∷ cs) p h e =
    let w = step-was v i c n cs e in
    let l = w.0 in
    let u = w.1 in
    let m = w.2 in
    let ih = digits-read (v * 10 + (c - 48)) (i + 1) n cs (omega arith) (omega arith) w.3 in
    let q : 48 + (c - 48) ≡ c = omega arith in
    (ih.0 ∙ rw (digits-snoc v (c - 48) p (omega arith), q) (append_assoc (digits v) (c ∷ []) cs), ih.1)

-- a field that begins with 0 is 0 alone
number-was-zero : (c n : ℕ) (cs : List ℕ) → c ≡ 48 → zero_alone cs ≡ Ok n → (c ∷ cs ≡ digits n) × (n ≤ 99999999)
number-was-zero c n [] q e =
    let z : 0 ≡ n = cc in
    (rw (← z, digits-small 0 (omega arith), q), omega arith)
number-was-zero c n (x ∷ cs) q e = let z : ◌≡◌ {A = ℕ} 0 1 = cc in absurd (omega arith)

-- any other that is read begins with its first digit
number-was-other : (c n : ℕ) (cs : List ℕ) → (c ≡ 48 → ⊥) → digits_after 0 0 (c ∷ cs) ≡ Ok n → (c ∷ cs ≡ digits n) × (n ≤ 99999999)
number-was-other c n cs q e =
    let w = step-was 0 0 c n cs e in
    let l = w.0 in
    let u = w.1 in
    let r = digits-read (0 * 10 + (c - 48)) (0 + 1) n cs (pos-of-ne c q l) (omega arith) w.3 in
    let k : 48 + (0 * 10 + (c - 48)) ≡ c = omega arith in
    (sym (r.0 ∙ rw (digits-small (0 * 10 + (c - 48)) (omega arith), k)), r.1)
  where
    pos-of-ne : (c : ℕ) → (c ≡ 48 → ⊥) → 48 ≤ c → 1 ≤ 0 * 10 + (c - 48)
    pos-of-ne c q l = omega arith

-- what reads as n is the digits of n
pub number-was : (s : List ℕ) (n : ℕ) → number s ≡ Ok n → (s ≡ digits n) × (n ≤ 99999999)
unfolding number
number-was [] n e = let z : ◌≡◌ {A = ℕ} 0 1 = cc in absurd (omega arith)
number-was (c ∷ cs) n e = go (eqb c 48) refl e
  where
    go : (b : Bool) → eqb c 48 ≡ b → cond b (zero_alone cs) (digits_after 0 0 (c ∷ cs)) ≡ Ok n → (c ∷ cs ≡ digits n) × (n ≤ 99999999)
    go true t e = number-was-zero c n cs (eqb-true c 48 t) e
    go false t e = number-was-other c n cs (eqb-false c 48 t) e

-- A FIELD IS ACCEPTED AS THE NUMBER n EXACTLY WHERE IT IS THE DIGITS OF n, AND n IS AT MOST 99,999,999
pub number-iff : (s : List ℕ) (n : ℕ) → (number s ≡ Ok n) ↔ ((s ≡ digits n) × (n ≤ largest))
number-iff s n = (number-was s n, λ h. ap number h.0 ∙ number_digits n h.1)

-- ---- how many digits there are

-- one digit below 10
pub width_small : (n : ℕ) → n < 10 → length (digits n) ≡ 1
width_small n h = rw (digits-small n h)

-- one more than the tenth has
pub width-more : (n : ℕ) → 10 ≤ n → length (digits n) ≡ length (digits (n / 10)) + 1
width-more n h = rw (digits_more n h, length-append)

-- from 10 to the k on, and below ten times that: k digits and one more
pub width_power : (k n : ℕ) → 10 ^ k ≤ n → n < 10 * 10 ^ k → length (digits n) ≡ k + 1
width_power zero n l h = width_small n (omega arith)
width_power (suc k) n l h =
    let p : 10 ^ suc k ≡ 10 * 10 ^ k = pow-succ' 10 k in
    let one : 1 ≤ 10 ^ k = one-le-pow k 10 (omega arith) in
    omega (arith, width-more n (omega arith), width_power k (n / 10) (omega arith) (omega arith))

-- below 10 one digit
pub width_one : (n : ℕ) → n < 10 → length (digits n) ≤ 1
width_one n h = omega (arith, width_small n h)

-- one digit more for a bound ten times as large
pub width-within : (k b : ℕ) → ((n : ℕ) → n < b → length (digits n) ≤ k) → (n : ℕ) → n < b * 10 → length (digits n) ≤ suc k
width-within k b h n l =
    ⊎_elim (λ s. omega (arith, width_small n s)) (λ m. let i = h (n / 10) (omega arith) in omega (arith, width-more n m)) (lt-or-le n 10)

-- a word has at most ten digits
pub width_word : (n : ℕ) → n < 4294967296 → length (digits n) ≤ 10
width_word n l =
    width-within 9 1000000000
    (width-within 8 100000000
    (width-within 7 10000000
    (width-within 6 1000000 (width-within 5 100000 (width-within 4 10000 (width-within 3 1000 (width-within 2 100 (width-within 1 10 width_one))))))))
    n (omega arith)
