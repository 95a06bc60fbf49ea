-- How long a listing can be: from 12,288 label words every listing is under 53,000 bytes. Assumes nothing.
use Prim.Native.Nat.{ℕ, ◌+◌, ◌*◌, ◌≤◌, ◌<◌, zero-le}
use mathlib.Core.Path.{◌≡◌, refl, sym, ap, ◌∙◌, subst}
use mathlib.Core.Logic.{⊎_elim}
use mathlib.Core.List.{List, [], ◌∷◌, ◌++◌}
use native.Mathlib.Nat.{suc-mul, add-mul, one-mul, mul_assoc, mul_comm, mul-le-mul_right, le_trans, le_of_eq}
use native.Mathlib.Omega.{arith}
use lib.ListN.{length}
use Rattle.words.specs.Pieces.{join}
use Rattle.words.specs.Bounds.{AtMost}
use Rattle.words.proofs.Choices.{lt-or-le}
use Rattle.words.proofs.Loops.{total-le}
use Rattle.words.proofs.Pieces.{join-total}
use Rattle.words.proofs.Bounds.{at_most-at, at_most-drop}
use Rattle.text.specs.Number.{digits}
use Rattle.text.specs.Line.{parted_width, line_text}
use Rattle.text.proofs.Digits.{width-within, width_one}
use Rattle.text.proofs.Puts.{width-append, line-width}
use Rattle.sheet.specs.Grammar.{tab}
use Rattle.listing.specs.Listing.{label_word}

-- ---- digits

-- below 100
two_digits : (n : ℕ) → n < 100 → length (digits n) ≤ 2
two_digits n h = width-within 1 10 width_one n (omega arith)

-- below 1,000
pub three-digits : (n : ℕ) → n < 1000 → length (digits n) ≤ 3
three-digits n h = width-within 2 100 two_digits n (omega arith)

-- below 100,000,000
pub eight-digits : (n : ℕ) → n < 100000000 → length (digits n) ≤ 8
eight-digits n h =
    width-within 7 10000000 (width-within 6 1000000 (width-within 5 100000 (width-within 4 10000 (width-within 3 1000 three-digits)))) n (omega arith)

-- 0 has one
pub no-digits : (n : ℕ) → n ≤ 0 → length (digits n) ≤ 1
no-digits n h = width_one n (omega arith)

-- ---- numbers

-- numbers up to b, which have at most k digits, take at most k + 1 bytes each
pub parted-few : (b k : ℕ) → ((n : ℕ) → n ≤ b → length (digits n) ≤ k) → (vs : List ℕ) → AtMost b vs → parted_width vs ≤ length vs * (k + 1)
unfolding parted_width
parted-few b k h [] m = zero-le
parted-few b k h (v ∷ vs) m =
    omega (arith, h v (at_most-at b (v ∷ vs) 0 m), parted-few b k h vs (at_most-drop b 1 (v ∷ vs) m), suc-mul (length vs) (k + 1))

-- the numbers of a label's line, part by part
numbers-width : (v n : ℕ) (cs ws : List ℕ) → parted_width (v ∷ cs ++ n ∷ ws) ≡ 1 + length (digits v) + (parted_width cs + (1 + length (digits n) + parted_width ws))
unfolding parted_width
numbers-width v n cs ws = ap (λ (k : ℕ). 1 + length (digits v) + k) (width-append cs (n ∷ ws))

-- a line of d costs of at most w digits, and at most K arcs
pub line-le : (v n d w K : ℕ) (cs ws : List ℕ) → v < 100 → n < 100 → parted_width cs ≤ d * (w + 1) → parted_width ws ≤ K * 4
    → length (line_text tab label_word (v ∷ cs ++ n ∷ ws)) ≤ 12 + d * (w + 1) + K * 4
line-le v n d w K cs ws hv hn hc hw =
    omega (arith, line-width tab label_word (v ∷ cs ++ n ∷ ws), numbers-width v n cs ws, two_digits v hv, two_digits n hn)

-- texts of at most b bytes each
pub join-le : (f : ℕ → List ℕ) (b n : ℕ) → ((k : ℕ) → k < n → length (f k) ≤ b) → length (join f n) ≤ n * b
join-le f b n h = le_trans (le_of_eq (join-total f (λ k. length (f k)) (λ k. refl) n)) (total-le (λ k. length (f k)) b n h)

-- ---- so many lines of so many bytes, from 12,288 words

-- L lines of b + 4 × K bytes
spread : (L b K : ℕ) → L * (b + K * 4) ≡ L * b + K * L * 4
spread L b K =
    let e : L * (b + K * 4) ≡ b * L + K * 4 * L = mul_comm L (b + K * 4) ∙ add-mul b (K * 4) L in
    let f : K * 4 * L ≡ K * L * 4 = mul_assoc K 4 L ∙ ap (λ (x : ℕ). K * x) (mul_comm 4 L) ∙ sym (mul_assoc K L 4) in
    omega (arith, mul_comm b L)

-- d is 2 or 3
two-or-three : (P : ℕ → Type 0) (d : ℕ) → 2 ≤ d → d ≤ 3 → P 2 → P 3 → P d
two-or-three P d lo hi p q = ⊎_elim
    (λ l. let e : 2 ≡ d = omega arith in subst P e p)
    (λ g. let e : 3 ≡ d = omega arith in subst P e q)
    (lt-or-le d 3)

-- with a hop at least
pub some-hops : (L K d : ℕ) → 2 ≤ d → d ≤ 3 → 1 ≤ K → (K + 1) * L * (d + 2) ≤ 12288 → L * (12 + d * 9 + K * 4) ≤ 52900
some-hops L K d lo hi k = two-or-three (λ (d : ℕ). (K + 1) * L * (d + 2) ≤ 12288 → L * (12 + d * 9 + K * 4) ≤ 52900) d lo hi
    (λ h. omega (arith, h, layers, more, spread L 30 K))
    (λ h. omega (arith, h, layers, more, spread L 39 K))
  where
    layers : (K + 1) * L ≡ K * L + L
    layers = omega (arith, add-mul K 1 L, one-mul L)

    more : L ≤ K * L
    more = omega (arith, mul-le-mul_right L k, one-mul L)

-- with none
pub no-hops : (L K d : ℕ) → 2 ≤ d → d ≤ 3 → K ≡ 0 → (K + 1) * L * (d + 2) ≤ 12288 → L * (12 + d * 2 + K * 4) ≤ 52900
no-hops L K d lo hi z = subst (λ (k : ℕ). (k + 1) * L * (d + 2) ≤ 12288 → L * (12 + d * 2 + k * 4) ≤ 52900) (sym z)
    (two-or-three (λ (d : ℕ). (0 + 1) * L * (d + 2) ≤ 12288 → L * (12 + d * 2 + 0 * 4) ≤ 52900) d lo hi
    (λ h. omega (arith, h, one-mul L))
    (λ h. omega (arith, h, one-mul L)))
