-- A block kept label by label, behind a place that was cleared. Assumes nothing.
use Prim.Native.Nat.{ℕ, zero, suc, ◌+◌, ◌*◌, ◌≤◌, ◌<◌, zero-le}
use mathlib.Core.Path.{◌≡◌, refl, sym, ap, ◌∙◌, subst}
use mathlib.Core.List.{List, [], ◌∷◌, ◌++◌}
use native.Mathlib.Nat.{le_refl, zero-mul, one-mul, add-mul, le_of_eq}
use native.Mathlib.Omega.{arith}
use lib.ListN.{length, get_or, take, drop, replicate, length-replicate, length-append}
use lib.Seq.{length-take-le}
use lib.Dec.{ltb}
use Rattle.words.specs.Pieces.{part, at, write}
use Rattle.words.proofs.Choices.{cond_cases}
use Rattle.words.proofs.Pieces.{piece-end, at_length, join-zero, join-length}
use Rattle.words.proofs.Turns.{join-put}
use Rattle.words.proofs.Writes.{length_part, part-part, length-write, lent, part-write-inside, part-write-below, drop-write-above, write-part, write-over}
use Rattle.keeping.specs.declared.Note.{Note}
use Rattle.keeping.specs.Kept.{keep_words, kept_block, unnoted, Noted, KeptIn}
use Rattle.keeping.proofs.Notes.{Says, none-noted, one-noted}

-- a part of zeros
part-zeros : (n a m : ℕ) → a + m ≤ n → part (replicate n 0) a m ≡ replicate m 0
part-zeros n a zero h = refl
part-zeros zero a (suc m) h = absurd (omega arith)
part-zeros (suc n) zero (suc m) h = ap (λ (l : List ℕ). 0 ∷ l) (part-zeros n zero m (omega arith))
part-zeros (suc n) (suc a) (suc m) h = part-zeros n a (suc m) (omega arith)

pub keep-long : (d : ℕ) (l : List ℕ) → length l ≡ d + 2 → length (keep_words d l) ≡ d + 2
unfolding keep_words
keep-long d l e =
    cond_cases (λ (z : List ℕ). length z ≡ d + 2) (ltb 0 (get_or l d 0))
    (λ _. length-append (take d l) (2 ∷ 0 ∷ []) ∙ ap (λ (n : ℕ). n + 2) (length-take-le d l (omega arith)))
    (λ _. length-replicate (d + 2) 0)

pub block-long : (d n : ℕ) (F : List ℕ) → length F ≡ n * (d + 2) → length (kept_block d n F) ≡ n * (d + 2)
unfolding kept_block
block-long d n F e = join-length (d + 2) (λ c. keep_words d (at (d + 2) F c)) n (λ c l. keep-long d (at (d + 2) F c) (at_length (d + 2) F n e c l))

-- ---- clearing

module _ (xs : List ℕ) (n d prev base : ℕ) (p : KeptIn xs n d prev base) where
  -- the words after the block's place is cleared
  abbrev pub Cleared : List ℕ → Type 0
  Cleared ys = ys ≡ write xs base (replicate (n * (d + 2)) 0)

  pub clear-lent : (zs : List ℕ) (k : ℕ) → k ≡ n * (d + 2) → zs ≡ replicate (length (part xs base k)) 0 → Cleared (take base xs ++ (zs ++ drop k (drop base xs)))
  clear-lent zs k e e-z =
      let size : length (part xs base k) ≡ n * (d + 2) = length_part xs base k (omega (arith, p.inside)) ∙ e in
      let new : zs ≡ replicate (n * (d + 2)) 0 = e-z ∙ ap (λ (m : ℕ). replicate m 0) size in
      lent xs base k zs (ap length new ∙ length-replicate (n * (d + 2)) 0 ∙ sym e) (omega (arith, p.inside)) ∙ ap (write xs base) new

-- ---- keeping, from the cleared words ys

-- the labels before c are kept and noted, and `at` and `to` stand at label c
pub record Along (ys : List ℕ) (n d prev base : ℕ) (ls : List ℕ) (note : Note) (at₁ to c : ℕ) : Type 0 where
  pub inside : c ≤ n
  pub from_place : at₁ ≡ prev + c * (d + 2)
  pub to_place : to ≡ base + c * (d + 2)
  pub words : ls ≡ write ys base (kept_block d c (part ys prev (n * (d + 2))))
  pub noted : Noted d (part ys prev (n * (d + 2))) c note

pub none_kept : (ys : List ℕ) (n d prev base : ℕ) → Along ys n d prev base ys unnoted prev base 0
unfolding kept_block
none_kept ys n d prev base = record {
  inside = zero-le;
  from_place = omega (arith, zero-mul (d + 2));
  to_place = omega (arith, zero-mul (d + 2));
  words = sym (ap (write ys base) (join-zero (λ c. keep_words d (at (d + 2) (part ys prev (n * (d + 2))) c))) ∙ write-part ys base 0);
  noted = none-noted d (part ys prev (n * (d + 2)));
}

module _ (xs ys : List ℕ) (n d prev base : ℕ) (p : KeptIn xs n d prev base) (cleared : Cleared xs n d prev base p ys) where
  abbrev F : List ℕ
  F = part ys prev (n * (d + 2))

  same-long : length ys ≡ length xs
  same-long = ap length cleared ∙ length-write xs base (replicate (n * (d + 2)) 0)

  whole : length (part ys prev (n * (d + 2))) ≡ n * (d + 2)
  whole = length_part ys prev (n * (d + 2)) (omega (arith, p, same-long))

  pub before-is : part ys prev (n * (d + 2)) ≡ part xs prev (n * (d + 2))
  before-is = ap (λ (l : List ℕ). part l prev (n * (d + 2))) cleared ∙ part-write-below xs base (replicate (n * (d + 2)) 0) prev (n * (d + 2)) p.below

  front_long : (c : ℕ) → c ≤ n → length (kept_block d c F) ≡ c * (d + 2)
  unfolding kept_block
  front_long c h = join-length (d + 2) (λ c. keep_words d (at (d + 2) F c)) c (λ k l. keep-long d (at (d + 2) F k) (at_length (d + 2) F n whole k (omega arith)))

  module _ (ls : List ℕ) (note : Note) (at₁ to c : ℕ) (g : Along ys n d prev base ls note at₁ to c) where
    pub along-long : length ls ≡ length xs
    along-long = ap length g.words ∙ length-write ys base (kept_block d c F) ∙ same-long

    module _ (l : c < n) where
      -- where the label lies and goes
      pub record Here : Type 0 where
        pub below : at₁ + (d + 2) ≤ to
        pub room : to + (d + 2) ≤ length xs
        pub few : d ≤ 3

      pub here : Here
      here = let h = piece-end (d + 2) n c l in record {
        below = omega (arith, p, g.from_place, g.to_place);
        room = omega (arith, p, g.to_place);
        few = p.few;
      }

      -- its place is clear
      pub place-clear : part ls to (d + 2) ≡ replicate (d + 2) 0
      place-clear =
          let h = piece-end (d + 2) n c l in
          let f = front_long c g.inside in
          let zeros-long : length {A = ℕ} (replicate (n * (d + 2)) 0) ≡ n * (d + 2) = length-replicate (n * (d + 2)) 0 in
          ap (λ (x : List ℕ). part x to (d + 2)) g.words
          ∙ ap (take (d + 2)) (drop-write-above ys base (kept_block d c F) to (omega (arith, g.to_place)))
          ∙ ap (λ (x : List ℕ). part x to (d + 2)) cleared
          ∙ ap (λ (k : ℕ). part (write xs base (replicate (n * (d + 2)) 0)) k (d + 2)) g.to_place
          ∙ part-write-inside xs base (replicate (n * (d + 2)) 0) (c * (d + 2)) (d + 2) (omega (arith, p, zeros-long)) (omega (arith, zeros-long))
          ∙ part-zeros (n * (d + 2)) (c * (d + 2)) (d + 2) h

      label_is : part ls at₁ (d + 2) ≡ at (d + 2) F c
      unfolding at
      label_is =
          let h = piece-end (d + 2) n c l in
          ap (λ (x : List ℕ). part x at₁ (d + 2)) g.words
          ∙ part-write-below ys base (kept_block d c F) at₁ (d + 2) (omega (arith, p, g.from_place))
          ∙ ap (λ (k : ℕ). part ys k (d + 2)) g.from_place
          ∙ sym (part-part ys prev (n * (d + 2)) (c * (d + 2)) (d + 2) h)

      -- label c, behind those before it
      pub one_label : (ls' : List ℕ) (s : ℕ) (m : Note) → ls' ≡ write ls to (keep_words d (part ls at₁ (d + 2))) → s ≡ get_or (part ls at₁ (d + 2)) d 0 → Says note s c m
          → Along ys n d prev base ls' m (at₁ + (d + 2)) (to + (d + 2)) (c + 1)
      unfolding kept_block
      one_label ls' s note' e e-s says =
          let f = front_long c g.inside in
          let m = add-mul c 1 (d + 2) in
          let o = one-mul (d + 2) in
          let place : to ≡ base + length (kept_block d c F) = omega (arith, g.to_place) in
          record {
            inside = omega arith;
            from_place = omega (arith, g.from_place);
            to_place = omega (arith, g.to_place);
            words = join-put (λ c. keep_words d (at (d + 2) F c)) ys ls ls' base to c place g.words (e ∙ ap (λ (x : List ℕ). write ls to (keep_words d x)) label_is);
            noted = one-noted d F c note g.noted s note' (e-s ∙ ap (λ (x : List ℕ). get_or x d 0) label_is) says;
          }

    -- all of them, over what was cleared
    pub all-kept : c ≡ n → (ls ≡ write xs base (kept_block d n (part xs prev (n * (d + 2))))) × Noted d (part xs prev (n * (d + 2))) n note
    all-kept e = (
      g.words
          ∙ ap (λ (k : ℕ). write ys base (kept_block d k F)) e
          ∙ ap (λ (x : List ℕ). write x base (kept_block d n F)) cleared
          ∙ write-over xs base (replicate (n * (d + 2)) 0) (kept_block d n F) (le_of_eq (length-replicate (n * (d + 2)) 0 ∙ sym (front_long n (le_refl n))))
          ∙ ap (λ (x : List ℕ). write xs base (kept_block d n x)) before-is,
      subst (λ (k : ℕ). Noted d (part xs prev (n * (d + 2))) k note) e (subst (λ (x : List ℕ). Noted d x c note) before-is g.noted),
    )
