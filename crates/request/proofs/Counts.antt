-- Counting the buckets of the criteria one by one: row 9, and the two counts of a shape. Assumes nothing.
use Prim.Native.Nat.{ℕ, zero, suc, ◌+◌, ◌*◌, ◌≤◌, ◌<◌}
use mathlib.Core.Path.{◌≡◌, refl, sym, ap, ap₂, ◌∙◌}
use mathlib.Core.Bool.{Bool, cond, not}
use mathlib.Core.List.{List, [], ◌∷◌, ◌++◌}
use native.Mathlib.Nat.{not-suc-le-zero, one-mul, mul-one}
use mathlib.Core.Logic.{◌⊎◌, inl, inr}
use native.Mathlib.Decide.{dec_lt}
use native.Mathlib.Omega.{arith}
use lib.ListN.{length, get_or, set, length-set}
use lib.Seq.{get_or-set_same, get_or-set_other}
use lib.Dec.{T, lit≤}
use borrow.Author.Tests.{lt-ltb, le-ltb}
use Rattle.words.specs.Radix.{volume}
use Rattle.words.specs.Rows.{Weighed, clear, refused, weigh, each}
use Rattle.words.proofs.Loops.{below_next}
use Rattle.words.proofs.Radix.{volume-zero, volume-next}
use Rattle.words.proofs.Rows.{each-clear, each-refused, clear-each, weigh-append, weigh-held, weigh-passed, weigh-none, weigh-front}
use Rattle.words.proofs.Writes.{spelled-all}
use Rattle.fences.specs.Answer.{buckets_of}
use Rattle.std.proofs.Common.{Some, None, Ok, Err}
use Rattle.fences.proofs.Answers.{count-is, over-is}
use Rattle.request.specs.Request.{Req, ratio_p, ratio_q}
use Rattle.request.specs.Shape.{top, buckets, cells, label_count, count}
use Rattle.request.specs.Rows.{ask_rows, arc_rows, bucket_row, label_row, shape_rows, rows}
use Rattle.request.specs.Answer.{shape_of, shaped_of, checked_of}
use Rattle.request.specs.Refusal.{number_of, place_of, refusal_of, answer}
use Rattle.request.specs.declared.Refusal.{Refusal}
use Rattle.request.specs.declared.Refusal.TheVariants.{Labels}
use Rattle.request.proofs.Accepted.{buckets-good}
use Rattle.request.proofs.Named.{refusal-of}
use Rattle.request.proofs.Tests.{lt-holds, lt-fails}

module _ (R : Req) where
  -- the counts of the criteria before j stand, and 1 in the other places
  pub record Upto (counts : List ℕ) (j : ℕ) : Type 0 where
    pub size : length counts ≡ 2
    pub few : (i : ℕ) → i < j → buckets R i ≤ 4096
    pub done : (i : ℕ) → i < j → get_or counts i 0 ≡ buckets R i
    pub rest : (i : ℕ) → j ≤ i → i < 2 → get_or counts i 0 ≡ 1

  ones : (i : ℕ) → i < 2 → ◌≡◌ {A = ℕ} (get_or (1 ∷ 1 ∷ []) i 0) 1
  ones zero h = refl
  ones (suc zero) h = refl
  ones (suc (suc i)) h = absurd (omega arith)

  pub none_yet : Upto (1 ∷ 1 ∷ []) 0
  none_yet = record { size = refl; few = λ i l. absurd (not-suc-le-zero l); done = λ i l. absurd (not-suc-le-zero l); rest = λ i _ h. ones i h }

  is-buckets : (j b : ℕ) → Some b ≡ buckets_of (ratio_p R j) (ratio_q R j) (top R j) → (b ≡ buckets R j) × (b ≤ 4096)
  unfolding buckets
  is-buckets j b e = count-is (ratio_p R j) (ratio_q R j) (top R j) e

  is-over : (j : ℕ) → None ≡ buckets_of (ratio_p R j) (ratio_q R j) (top R j) → 4096 < buckets R j
  unfolding buckets
  is-over j e = over-is (ratio_p R j) (ratio_q R j) (top R j) e

  -- the count of criterion j joins those before it
  pub one_more : (counts : List ℕ) (j b : ℕ) → j < 2 → Upto counts j → Some b ≡ buckets_of (ratio_p R j) (ratio_q R j) (top R j) → Upto (set counts j b) (j + 1)
  one_more counts j b h u e =
      let told = is-buckets j b e in
      let size = u.size in
      record {
        size = length-set counts j b ∙ u.size;
        few = below_next (λ i. buckets R i ≤ 4096) j u.few (let t = told.0 in let s = told.1 in omega arith);
        done = below_next (λ i. get_or (set counts j b) i 0 ≡ buckets R i) j (λ i l. get_or-set_other counts j i b 0 (λ q. absurd (omega arith)) ∙ u.done i l) (get_or-set_same counts j b 0 (omega arith) ∙ told.0);
        rest = λ i l m. get_or-set_other counts j i b 0 (λ q. absurd (omega arith)) ∙ u.rest i (omega arith) m;
      }

  -- ---- row 9

  under : (j : ℕ) → buckets R j ≤ 4096 → T (not (bucket_row R j).holds)
  unfolding bucket_row
  under j h = lt-fails h

  pub none_over : (counts : List ℕ) (graded : ℕ) → Upto counts graded → weigh (each (bucket_row R) graded) ≡ clear
  none_over counts graded u = each-clear (bucket_row R) graded (λ i l. under i (u.few i l))

  pub first-over : (counts : List ℕ) (j graded : ℕ) → j < graded → Upto counts j → None ≡ buckets_of (ratio_p R j) (ratio_q R j) (top R j) → weigh (each (bucket_row R) graded) ≡ refused 9 (j + 1)
  unfolding bucket_row
  first-over counts j graded l u e = each-refused (bucket_row R) graded j l (lt-holds (is-over j e)) (λ i m. under i (u.few i m))

  -- ---- the two counts of a shape

  pub count-in : (j : ℕ) → j < R.graded → count R j ≡ buckets R j
  unfolding count
  count-in j l = ap (λ (b : Bool). cond b (buckets R j) 1) (lt-ltb j R.graded l)

  pub count-out : (j : ℕ) → R.graded ≤ j → count R j ≡ 1
  unfolding count
  count-out j l = ap (λ (b : Bool). cond b (buckets R j) 1) (le-ltb j R.graded l)

  pub all-counted : (counts : List ℕ) → Upto counts R.graded → counts ≡ count R 0 ∷ count R 1 ∷ []
  all-counted counts u = sym (spelled-all counts 2 u.size) ∙ ap₂ (λ (x y : ℕ). x ∷ y ∷ []) (at 0 (dec_lt 0 R.graded) (omega arith)) (at 1 (dec_lt 1 R.graded) (omega arith))
    where
      at : (j : ℕ) → Dec (j < R.graded) → j < 2 → get_or counts j 0 ≡ count R j
      at j (yes l) h = u.done j l ∙ sym (count-in j l)
      at j (no l) h = u.rest j (omega arith) h ∙ sym (count-out j (omega arith))

  -- one base alone
  volume-one : volume (buckets R) 1 ≡ buckets R 0
  volume-one = volume-next (buckets R) 0 ∙ ap (λ (x : ℕ). x * buckets R 0) (volume-zero (buckets R)) ∙ one-mul (buckets R 0)

  -- C is their product, and each is within 1 to 4,096
  pub cells-counts : (R.graded ≡ 1) ⊎ (R.graded ≡ 2) → cells R ≡ count R 0 * count R 1
  unfolding cells
  cells-counts (inl e) =
      ap (volume (buckets R)) e ∙ volume-one ∙ sym (mul-one (buckets R 0)) ∙ ap₂ (λ (x y : ℕ). x * y) (sym (count-in 0 (omega arith))) (sym (count-out 1 (omega arith)))
  cells-counts (inr e) =
      ap (volume (buckets R)) e ∙ volume-next (buckets R) 1 ∙ ap (λ (x : ℕ). x * buckets R 1) volume-one ∙ ap₂ (λ (x y : ℕ). x * y) (sym (count-in 0 (omega arith))) (sym (count-in 1 (omega arith)))

  pub count-few : weigh (each (bucket_row R) R.graded) ≡ clear → (j : ℕ) → count R j ≤ 4096
  count-few e j = at (dec_lt j R.graded)
    where
      at : Dec (j < R.graded) → count R j ≤ 4096
      at (yes l) = rw (count-in j l) (buckets-good R j (clear-each (bucket_row R) R.graded e j l))
      at (no l) = rw (count-out j (omega arith)) (lit≤ tt)

-- ---- the shape, or row 10

module _ (n k b1 b2 : ℕ) where
  pub too_many : 1048576 < (k + 1) * (n * (b1 * b2)) → shaped_of n k b1 b2 ≡ Err Labels
  unfolding shaped_of
  too_many h = rw (lt-ltb 1048576 ((k + 1) * (n * (b1 * b2))) h)

  pub in-shape : (k + 1) * (n * (b1 * b2)) ≤ 1048576 → shaped_of n k b1 b2 ≡ Ok (record { b1 = b1; b2 = b2; cells = b1 * b2; labels = (k + 1) * (n * (b1 * b2)) })
  unfolding shaped_of
  in-shape h = rw (le-ltb 1048576 ((k + 1) * (n * (b1 * b2))) h)

-- rows 2 to 9 are clear: the shape decides
module _ (R : Req) (two : (R.graded ≡ 1) ⊎ (R.graded ≡ 2)) (early : weigh (ask_rows R ++ arc_rows R) ≡ clear) (late : weigh (each (bucket_row R) R.graded) ≡ clear) where
  label-row : weigh (rows R) ≡ weigh (label_row R ∷ [])
  unfolding rows shape_rows
  label-row = weigh-append (ask_rows R ++ arc_rows R) (shape_rows R) early ∙ weigh-append (each (bucket_row R) R.graded) (label_row R ∷ []) late

  product : cells R ≡ count R 0 * count R 1
  product = cells-counts R two

  labels : label_count R ≡ (R.hops + 1) * (R.nodes * (count R 0 * count R 1))
  unfolding label_count
  labels = ap (λ (x : ℕ). (R.hops + 1) * (R.nodes * x)) product

  pub shape-decides : shaped_of R.nodes R.hops (count R 0) (count R 1) ≡ checked_of R
  unfolding checked_of label_row refusal_of
  shape-decides = go (dec_lt 1048576 (label_count R))
    where
      go : Dec (1048576 < label_count R) → shaped_of R.nodes R.hops (count R 0) (count R 1) ≡ answer (weigh (rows R)) (shape_of R)
      go (yes h) =
          too_many R.nodes R.hops (count R 0) (count R 1) (rw labels at h)
          ∙ ap (λ (w : Weighed). answer w (shape_of R)) (sym (label-row ∙ weigh-held (label_row R) [] (lt-holds h)))
      go (no h) =
          let small : label_count R ≤ 1048576 = omega arith in
          in-shape R.nodes R.hops (count R 0) (count R 1) (rw labels at small)
          ∙ ap₂ (λ (x y : ℕ). Ok (record { b1 = count R 0; b2 = count R 1; cells = x; labels = y })) (sym product) (sym labels)
          ∙ ap (λ (w : Weighed). answer w (shape_of R)) (sym (label-row ∙ weigh-passed (label_row R) [] (lt-fails small) ∙ weigh-none))

-- an earlier refusal decides
refusal-decides : (R : Req) (r : Refusal) → weigh (rows R) ≡ refused (number_of r) (place_of r) → Err r ≡ checked_of R
unfolding checked_of
refusal-decides R r e = sym (ap (λ (z : Weighed). answer z (shape_of R)) e ∙ ap Err (refusal-of r))

pub early-decides : (R : Req) (r : Refusal) → weigh (ask_rows R ++ arc_rows R) ≡ refused (number_of r) (place_of r) → Err r ≡ checked_of R
unfolding rows
early-decides R r e = refusal-decides R r (weigh-front (ask_rows R ++ arc_rows R) (shape_rows R) (number_of r) (place_of r) e)

pub bucket-decides : (R : Req) (r : Refusal) → weigh (ask_rows R ++ arc_rows R) ≡ clear → weigh (each (bucket_row R) R.graded) ≡ refused (number_of r) (place_of r) → Err r ≡ checked_of R
unfolding rows shape_rows
bucket-decides R r early e =
    refusal-decides R r
    (weigh-append (ask_rows R ++ arc_rows R) (shape_rows R) early ∙ weigh-front (each (bucket_row R) R.graded) (label_row R ∷ []) (number_of r) (place_of r) e)
