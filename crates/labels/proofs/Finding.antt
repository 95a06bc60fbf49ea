-- The cell of a candidate, criterion by criterion. Assumes nothing.
use Prim.Native.Nat.{ℕ, ◌+◌, ◌-◌, ◌*◌, ◌≤◌, ◌<◌, zero-le}
use mathlib.Core.Path.{◌≡◌, refl, sym, ap₂, ◌∙◌, subst}
use mathlib.Core.List.{List}
use native.Mathlib.Nat.{le_of_lt, not-suc-le-zero, mul-le-mul_right}
use native.Mathlib.Omega.{arith}
use lib.ListN.{length, get_or, set, length-set}
use native.Mathlib.Decide.{ℕ_discrete}
use lib.Seq.{get_or-set_same, get_or-set_other}
use Rattle.words.specs.Loops.{total}
use Rattle.words.specs.Pieces.{part}
use Rattle.words.specs.Radix.{volume, radix}
use Rattle.words.proofs.Loops.{total-zero, total-next, total_mono, below_next}
use Rattle.words.proofs.Radix.{volume-next, radix-zero, radix-next, radix-lt, radix-ext}
use Rattle.words.proofs.Writes.{length_part}
use Rattle.fences.specs.Answer.{Slot}
use Rattle.labels.specs.Words.{offset, ladder_in, Seeks}

-- the criteria before j are found, and the hints of the others stand
pub record Upto (counts : List ℕ) (graded : ℕ) (ladders cand hint places : List ℕ) (cell at j : ℕ) : Type 0 where
  pub inside : j ≤ graded
  pub two : length places ≡ 2
  pub begins : at ≡ offset counts j
  pub slots : (i : ℕ) → i < j → Slot (ladder_in counts ladders i) (get_or cand i 0) (get_or places i 0)
  pub below : (i : ℕ) → i < graded → get_or places i 0 < get_or counts i 0
  pub number : cell ≡ radix (λ i. get_or counts i 0) (λ i. get_or places i 0) j
  pub later : (i : ℕ) → j ≤ i → get_or places i 0 ≡ get_or hint i 0

module _ (counts : List ℕ) (graded : ℕ) (ladders cand hint : List ℕ) (h : Seeks counts graded ladders cand hint) where
  pub none_yet : Upto counts graded ladders cand hint hint 0 0 0
  unfolding offset
  none_yet = record {
    inside = zero-le;
    two = h.two;
    begins = sym (total-zero (λ i. get_or counts i 0 + 1));
    slots = λ i m. absurd (not-suc-le-zero m);
    below = h.hinted;
    number = sym (radix-zero (λ i. get_or counts i 0) (λ i. get_or hint i 0));
    later = λ i _. refl;
  }

  module _ (places : List ℕ) (cell at j : ℕ) (u : Upto counts graded ladders cand hint places cell at j) (l : j < graded) where
    offset-next : offset counts (j + 1) ≡ offset counts j + (get_or counts j 0 + 1)
    unfolding offset
    offset-next = total-next (λ i. get_or counts i 0 + 1) j

    -- ladder j lies in the buffer
    room : at + get_or counts j 0 + 1 ≤ length ladders
    unfolding offset
    room =
        let n = total-next (λ i. get_or counts i 0 + 1) j in
        let m : total (λ i. get_or counts i 0 + 1) (j + 1) ≤ total (λ i. get_or counts i 0 + 1) graded = total_mono (λ i. get_or counts i 0 + 1) (omega arith) in
        let b = u.begins in
        let r = h.room in
        omega arith

    -- and is the part that is lent
    pub lent-ladder : part ladders at (at + get_or counts j 0 + 1 - at) ≡ ladder_in counts ladders j
    unfolding ladder_in
    lent-ladder =
        let e : at + get_or counts j 0 + 1 - at ≡ get_or counts j 0 + 1 = omega arith in
        ap₂ (part ladders) u.begins e

    pub lent_length : length (part ladders at (at + get_or counts j 0 + 1 - at)) ≡ get_or counts j 0 + 1
    lent_length =
        let e : at + get_or counts j 0 + 1 - at ≡ get_or counts j 0 + 1 = omega arith in
        let r = room in
        length_part ladders at (at + get_or counts j 0 + 1 - at) (omega arith) ∙ e

    -- the number so far leaves room for one more place
    cell-lt : cell < volume (λ i. get_or counts i 0) j
    cell-lt = rw u.number (radix-lt (λ i. get_or counts i 0) (λ i. get_or places i 0) j (λ i m. u.below i (omega arith)))

    product : cell * get_or counts j 0 ≤ 16777216
    product =
        let v = volume-next (λ i. get_or counts i 0) j in
        let s = h.small (j + 1) (omega arith) in
        let m = mul-le-mul_right (get_or counts j 0) (le_of_lt cell-lt) in
        omega arith

    -- what is known of criterion j, in numbers
    pub record Here : Type 0 where
      pub index : j < 2
      pub in-cand : j < length cand
      pub in-places : j < length places
      pub ladder : at + get_or counts j 0 + 1 ≤ length ladders
      pub size : get_or counts j 0 ≤ 4096
      pub number : cell * get_or counts j 0 ≤ 16777216

    pub here : Here
    here = record {
      index = omega (arith, h.few);
      in-cand = omega (arith, h.long);
      in-places = omega (arith, h.few, u.two);
      ladder = room;
      size = h.counts_few j l;
      number = product;
    }

    -- one place more
    module _ (found : ℕ) (s : Slot (part ladders at (at + get_or counts j 0 + 1 - at)) (get_or cand j 0) found) where
      pub found_lt : found < get_or counts j 0
      found_lt = let i = s.inside in let e = lent_length in omega arith

      kept : (i : ℕ) → (i ≡ j → ⊥) → get_or (set places j found) i 0 ≡ get_or places i 0
      kept i ne = get_or-set_other places j i found 0 ne

      new : get_or (set places j found) j 0 ≡ found
      new = let t = u.two in let f = h.few in get_or-set_same places j found 0 (omega arith)

      pub one_more : Upto counts graded ladders cand hint (set places j found) (cell * get_or counts j 0 + found) (at + get_or counts j 0 + 1) (j + 1)
      one_more = record {
        inside = omega arith;
        two = length-set places j found ∙ u.two;
        begins = (let b = u.begins in let n = offset-next in omega arith);
        slots = below_next (λ i. Slot (ladder_in counts ladders i) (get_or cand i 0) (get_or (set places j found) i 0)) j
            (λ i m. subst (λ (r : ℕ). Slot (ladder_in counts ladders i) (get_or cand i 0) r) (sym (kept i (λ q. absurd (omega arith)))) (u.slots i m))
            (subst (λ (r : ℕ). Slot (ladder_in counts ladders j) (get_or cand j 0) r) (sym new) (subst (λ (p : List ℕ). Slot p (get_or cand j 0) found) lent-ladder s));
        below = λ i m. lower i m (ℕ_discrete i j);
        number =
            ap₂ (λ (x y : ℕ). x * get_or counts j 0 + y)
            (u.number ∙ radix-ext (λ i. get_or counts i 0) (λ i. get_or places i 0) (λ i. get_or (set places j found) i 0) j (λ i m. sym (kept i (λ q. absurd (omega arith))))) (sym new)
            ∙ sym (radix-next (λ i. get_or counts i 0) (λ i. get_or (set places j found) i 0) j);
        later = λ i m. kept i (λ q. absurd (omega arith)) ∙ u.later i (omega arith);
      }
        where
          lower : (i : ℕ) → i < graded → Dec (i ≡ j) → get_or (set places j found) i 0 < get_or counts i 0
          lower i m (yes q) = rw (q, new) found_lt
          lower i m (no q) = rw (kept i q) (u.below i m)
