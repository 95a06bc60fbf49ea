-- A label's words: its parts, sums of costs, what an empty block holds. Assumes nothing.
use Prim.Native.Nat.{ℕ, zero, suc, ◌+◌, ◌*◌, ◌≤◌, ◌<◌}
use mathlib.Core.Path.{◌≡◌, refl, sym, ap, ◌∙◌, subst}
use mathlib.Core.List.{List, [], ◌∷◌}
use native.Mathlib.Nat.{zero-add, suc_inj, mul-le-mul}
use native.Mathlib.Omega.{arith}
use lib.ListN.{length, get_or, take, drop, replicate, length-append, length-take, length-replicate}
use lib.Seq.{take_at, get_or_at, get_or-append-add}
use lib.Dec.{T, ltb, lt→ltb, ltb→lt}
use Rattle.words.specs.Pieces.{at}
use Rattle.words.proofs.Writes.{get_or-part}
use Rattle.request.specs.Request.{Req, width, arc_count}
use Rattle.request.specs.Accepted.{Regular}
use Rattle.request.proofs.Tops.{arc-length}
use Rattle.rounds.specs.Label.{label, costs, step, from, filled, empty, start, kept, sum, candidate, came}
use Rattle.rounds.specs.Rounds.{span, blank}

-- ---- how many words

-- n labels of at most three criteria take few words
pub block-few : (n d : ℕ) → d ≤ 3 → n ≤ 1048576 → n * (d + 2) ≤ 5242880
block-few n d h k = mul-le-mul k (five h)
  where
    five : d ≤ 3 → d + 2 ≤ 5
    five h = omega arith

-- ---- sums of costs

pub get_or-sum : (xs ys : List ℕ) (j : ℕ) → get_or (sum xs ys) j zero ≡ get_or xs j zero + get_or ys j zero
unfolding sum
get_or-sum [] ys j = sym (zero-add _)
get_or-sum (x ∷ xs) [] j = omega arith
get_or-sum (x ∷ xs) (y ∷ ys) zero = refl
get_or-sum (x ∷ xs) (y ∷ ys) (suc j) = get_or-sum xs ys j

pub length-sum : (xs ys : List ℕ) → length xs ≡ length ys → length (sum xs ys) ≡ length ys
unfolding sum
length-sum [] ys e = refl
length-sum (x ∷ xs) [] e = e
length-sum (x ∷ xs) (y ∷ ys) e = ap suc (length-sum xs ys (suc_inj e))

-- ---- words that are 0

pub zeros : (n i : ℕ) → get_or (replicate n zero) i zero ≡ zero
zeros zero i = refl
zeros (suc n) zero = refl
zeros (suc n) (suc i) = zeros n i

module _ (R : Req) where
  -- ---- the parts of a label

  module _ (xs : List ℕ) (s f : ℕ) (size : length xs ≡ R.criteria) where
    pub label-length : length (label xs s f) ≡ width R
    label-length = length-append xs (s ∷ f ∷ []) ∙ omega arith

    pub costs-label : costs R (label xs s f) ≡ xs
    unfolding costs
    costs-label = take_at xs (s ∷ f ∷ []) R.criteria size

    pub step_label : step R (label xs s f) ≡ s
    unfolding step
    step_label = get_or_at xs s (f ∷ []) 0 R.criteria size

    pub from-label : from R (label xs s f) ≡ f
    unfolding from
    from-label = ap (λ (n : ℕ). get_or (label xs s f) n 0) (omega (arith, size)) ∙ get_or-append-add xs (s ∷ f ∷ []) 1 0

    pub filled-label : 0 < s → T (filled R (label xs s f))
    unfolding filled
    filled-label h = subst (λ (n : ℕ). T (ltb 0 n)) (sym step_label) (lt→ltb 0 s h)

  pub costs-length : (l : List ℕ) → length l ≡ width R → length (costs R l) ≡ R.criteria
  unfolding costs
  costs-length l e = length-take R.criteria l ∙ omega (arith, e)

  -- a cost of a label is a word of it
  pub cost-word : (l : List ℕ) (j : ℕ) → j < R.criteria → get_or (costs R l) j 0 ≡ get_or l j 0
  unfolding costs
  cost-word l j h = get_or-part l 0 R.criteria j h ∙ ap (λ (k : ℕ). get_or l k 0) (zero-add j)

  -- ---- empty, start, kept

  pub empty-length : length (empty R) ≡ width R
  unfolding empty
  empty-length = length-replicate (width R) 0

  pub empty-not-filled : T (filled R (empty R)) → ⊥
  unfolding filled step empty
  empty-not-filled t = let h = ltb→lt 0 (get_or (replicate (width R) 0) R.criteria 0) t in let e = zeros (width R) R.criteria in omega arith

  pub zero-costs : (j : ℕ) → get_or (replicate R.criteria zero) j zero ≡ zero
  zero-costs j = zeros R.criteria j

  pub start-length : length (start R) ≡ width R
  unfolding start
  start-length = label-length (replicate R.criteria 0) 1 0 (length-replicate R.criteria 0)

  pub start-costs : costs R (start R) ≡ replicate R.criteria 0
  unfolding start
  start-costs = costs-label (replicate R.criteria 0) 1 0 (length-replicate R.criteria 0)

  pub start-filled : T (filled R (start R))
  unfolding start
  start-filled = filled-label (replicate R.criteria 0) 1 0 (length-replicate R.criteria 0) (omega arith)

  module _ (l : List ℕ) (size : length l ≡ width R) where
    pub kept-length : length (kept R l) ≡ width R
    unfolding kept
    kept-length = label-length (costs R l) 2 0 (costs-length l size)

    pub kept-costs : costs R (kept R l) ≡ costs R l
    unfolding kept
    kept-costs = costs-label (costs R l) 2 0 (costs-length l size)

    pub kept-filled : T (filled R (kept R l))
    unfolding kept
    kept-filled = filled-label (costs R l) 2 0 (costs-length l size) (omega arith)

  -- ---- what a try makes of label l by arc a

  module _ (ok : Regular R) (a : ℕ) (in-a : a < arc_count R) (l : List ℕ) (size : length l ≡ width R) where
    pub candidate-length : length (candidate R a l) ≡ R.criteria
    unfolding candidate
    candidate-length = let e = arc-length R ok a in-a in length-sum _ _ (costs-length l size ∙ sym e) ∙ e

    module _ (c : ℕ) where
      pub came-length : length (came R a c l) ≡ width R
      unfolding came
      came-length = label-length (candidate R a l) (3 + a) c candidate-length

      pub came-filled : T (filled R (came R a c l))
      unfolding came
      came-filled = filled-label (candidate R a l) (3 + a) c candidate-length (omega arith)

      pub came-costs : costs R (came R a c l) ≡ candidate R a l
      unfolding came
      came-costs = costs-label (candidate R a l) (3 + a) c candidate-length

  -- ---- a blank block

  pub blank-length : length (blank R) ≡ span R
  unfolding blank
  blank-length = length-replicate (span R) 0

  pub blank-empty : (c : ℕ) → T (filled R (at (width R) (blank R) c)) → ⊥
  unfolding filled step at blank
  blank-empty k t =
      let e = get_or-part (replicate (span R) 0) (k * width R) (width R) R.criteria (omega arith) in
      let z = zeros (span R) (k * width R + R.criteria) in
      let h = ltb→lt 0 (get_or (take (width R) (drop (k * width R) (replicate (span R) zero))) R.criteria zero) t in
      omega arith
