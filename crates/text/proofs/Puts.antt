-- Writing bytes, numbers and lines one after another, as one write. Assumes nothing.
use Prim.Native.Nat.{ℕ, suc, ◌+◌, ◌*◌, ◌/◌, ◌%◌, ◌≤◌, ◌<◌}
use mathlib.Core.Path.{◌≡◌, refl, ap, sym, ◌∙◌}
use mathlib.Core.List.{List, [], ◌∷◌, ◌++◌, append_assoc, append-nil}
use native.Mathlib.Omega.{arith}
use lib.ListN.{length, get_or, take, drop, set, length-append, take-append-drop}
use Rattle.std.specs.List.{sum_by}
use Rattle.std.proofs.lemmas.List.Recursion.{is_sum_by}
use Rattle.words.specs.Pieces.{write}
use Rattle.words.proofs.Writes.{write-append, set-write, write-none}
use Rattle.text.specs.Number.{digits}
use Rattle.text.specs.Line.{parted, parted_width, line_text}
use Rattle.text.proofs.Fields.{take_next}
use Rattle.text.proofs.Digits.{digits-small, digits_more, width_word}

-- ---- one byte

-- one byte after what was written
write_byte : (l ys : List ℕ) (at e v : ℕ) → e ≡ at + length ys → set (write l at ys) e v ≡ write l at (ys ++ (v ∷ []))
write_byte l ys at e v p = rw (p, set-write (write l at ys) (at + length ys) v) (write-append l at ys (v ∷ []))

-- ---- digits

-- one digit
pub put_small : (l : List ℕ) (at n : ℕ) → n < 10 → set l at (48 + n % 10) ≡ write l at (digits n)
put_small l at n h = let e : n % 10 ≡ n = omega arith in rw (digits-small n h, e) (set-write l at (48 + n))

-- the last digit, after those of the tenth
pub put-more : (l m : List ℕ) (at e n : ℕ) → 10 ≤ n → e ≡ at + length (digits (n / 10)) → m ≡ write l at (digits (n / 10))
    → set m e (48 + n % 10) ≡ write l at (digits n)
put-more l m at e n h p q = rw (q, digits_more n h) (write_byte l (digits (n / 10)) at e (48 + n % 10) p)

-- ---- numbers

module _ (sep : ℕ) where
  -- numbers one after another
  parted-append : (xs ys : List ℕ) → parted sep (xs ++ ys) ≡ parted sep xs ++ parted sep ys
  unfolding parted
  parted-append [] ys = refl
  parted-append (x ∷ xs) ys = ap (λ (l : List ℕ). sep ∷ l) (rw (parted-append xs ys) (sym (append_assoc (digits x) (parted sep xs) (parted sep ys))))

  -- one number
  parted-one : (v : ℕ) → parted sep (v ∷ []) ≡ sep ∷ digits v
  unfolding parted
  parted-one v = ap (λ (l : List ℕ). sep ∷ l) (append-nil (digits v))

  -- one number more
  parted-next : (vs : List ℕ) (i : ℕ) → i < length vs → parted sep (take (i + 1) vs) ≡ parted sep (take i vs) ++ (sep ∷ digits (get_or vs i 0))
  parted-next vs i h = rw (take_next i vs h, parted-append, parted-one)

  -- where it ends
  pub parted-end : (vs : List ℕ) (i : ℕ) → i < length vs
      → length (parted sep (take (i + 1) vs)) ≡ length (parted sep (take i vs)) + 1 + length (digits (get_or vs i 0))
  parted-end vs i h = rw (parted-next vs i h, length-append) (omega arith)

  -- the first i take no more bytes than all
  pub parted-room : (vs : List ℕ) (i : ℕ) → length (parted sep (take i vs)) ≤ length (parted sep vs)
  parted-room vs i =
      let e : length (parted sep vs) ≡ length (parted sep (take i vs)) + length (parted sep (drop i vs)) =
      ap (λ (l : List ℕ). length (parted sep l)) (sym (take-append-drop i vs)) ∙ ap length (parted-append (take i vs) (drop i vs))
      ∙ length-append (parted sep (take i vs)) (parted sep (drop i vs)) in
      omega arith

  -- none is written
  pub parted-none : (l : List ℕ) (at : ℕ) → (at ≡ at + length (parted sep [])) × (l ≡ write l at (parted sep []))
  unfolding parted
  parted-none l at = (omega arith, sym (write-none l at))

  -- sep and a number after those before
  pub numbers-next : (l vs out out' : List ℕ) (at i a : ℕ) → i < length vs → a ≡ at + length (parted sep (take i vs)) → out ≡ write l at (parted sep (take i vs))
      → out' ≡ write (set out a sep) (a + 1) (digits (get_or vs i 0)) → out' ≡ write l at (parted sep (take (i + 1) vs))
  numbers-next l vs out out' at i a h p q r =
      let t = parted sep (take i vs) in
      let n : length (t ++ (sep ∷ [])) ≡ length t + 1 = length-append t (sep ∷ []) in
      let k : a + 1 ≡ at + length (t ++ (sep ∷ [])) = omega arith in
      r ∙ rw (q, write_byte l t at a sep p, k, write-append l at (t ++ (sep ∷ [])) (digits (get_or vs i 0)), append_assoc, parted-next vs i h)

  -- ---- lines

  -- a word, numbers and the LF
  pub line-length : (w vs : List ℕ) → length (line_text sep w vs) ≡ length w + length (parted sep vs) + 1
  unfolding line_text
  line-length w vs = simp length-append

  -- one after another they are the line
  pub line-put : (l w vs x y : List ℕ) (at a b : ℕ) → a ≡ at + length w → x ≡ write l at w → b ≡ a + length (parted sep vs) → y ≡ write x a (parted sep vs)
      → (b + 1 ≡ at + length (line_text sep w vs)) × (set y b 10 ≡ write l at (line_text sep w vs))
  unfolding line_text
  line-put l w vs x y at a b p q r s =
      let n : length (w ++ parted sep vs) ≡ length w + length (parted sep vs) = length-append w (parted sep vs) in
      let e : b ≡ at + length (w ++ parted sep vs) = omega arith in
      let f : length ((w ++ parted sep vs) ++ (10 ∷ [])) ≡ length (w ++ parted sep vs) + 1 = length-append (w ++ parted sep vs) (10 ∷ []) in
      (omega arith, rw (s, q, p, write-append l at w (parted sep vs)) (write_byte l (w ++ parted sep vs) at b 10 e))

-- ---- how many bytes numbers take

-- the same whatever parts them
parted-width : (sep : ℕ) (vs : List ℕ) → length (parted sep vs) ≡ parted_width vs
unfolding parted parted_width
parted-width sep [] = refl
parted-width sep (v ∷ vs) = ap suc (length-append (digits v) (parted sep vs) ∙ ap (λ (k : ℕ). length (digits v) + k) (parted-width sep vs)) ∙ omega arith

-- so a line takes its word, its numbers and its LF
pub line-width : (sep : ℕ) (w vs : List ℕ) → length (line_text sep w vs) ≡ length w + parted_width vs + 1
line-width sep w vs = line-length sep w vs ∙ ap (λ (k : ℕ). length w + k + 1) (parted-width sep vs)

-- how many a number takes with the byte before it
abbrev pub taken : ℕ → ℕ
taken v = 1 + length (digits v)

-- all of them: the sum
pub width-sum : (vs : List ℕ) → parted_width vs ≡ sum_by taken vs
unfolding parted_width
width-sum = is_sum_by parted_width taken refl (λ _ _. refl)

-- at most eleven for each word
pub width-most : (vs : List ℕ) → ((k : ℕ) → get_or vs k 0 < 4294967296) → parted_width vs ≤ length vs * 11
unfolding parted_width
width-most [] h = omega arith
width-most (v ∷ vs) h = omega (arith, width-most vs (λ k. h (suc k)), width_word v (h 0))

-- numbers one after another
pub width-append : (xs ys : List ℕ) → parted_width (xs ++ ys) ≡ parted_width xs + parted_width ys
width-append xs ys =
    rw (← parted-width 0 (xs ++ ys), ← parted-width 0 xs, ← parted-width 0 ys, parted-append 0 xs ys) (length-append (parted 0 xs) (parted 0 ys))
