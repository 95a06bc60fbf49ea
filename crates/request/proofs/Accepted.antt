-- What a request is whose rows are clear, in plain facts. Assumes nothing.
use Prim.Native.Nat.{ℕ, ◌+◌, ◌*◌, ◌/◌, ◌%◌, ◌≤◌, ◌<◌}
use mathlib.Core.Path.{◌≡◌, sym, ◌∙◌, subst}
use mathlib.Core.Bool.{Bool, true, false, cond, not, ◌||◌}
use mathlib.Core.List.{List, [], ◌∷◌, ◌++◌}
use native.Mathlib.Nat.{div-add-mod'}
use native.Mathlib.Omega.{arith}
use lib.ListN.{length, get_or}
use lib.Dec.{T, T_not, leb, ltb, eqb, nleb→lt, nltb→le}
use borrow.Author.Tests.{eq-eqb}
use Rattle.words.specs.Loops.{any}
use Rattle.words.specs.Rows.{clear, refused, weigh, each}
use Rattle.words.proofs.Loops.{none_any}
use Rattle.words.proofs.Rows.{clear-cons, weigh-passed, weigh-append, weigh-front, weigh-clear-front, weigh-clear-back, clear-each}
use Rattle.words.proofs.Choices.{true-is, nor-left, nor-right}
use Rattle.request.specs.Request.{Req, width, arc_count, arc, tail, head, ratio_p, ratio_q}
use Rattle.request.specs.Shape.{buckets, label_count}
use Rattle.request.specs.Rows.{outside, size_rows, ratio_row, arc_words_row, arc_fault, arc_row, bucket_row, label_row, ask_rows, arc_rows, shape_rows, rows}
use Rattle.request.specs.Accepted.{Accepted, Regular, Loopless, FirstLoop, Small, Fits}
use Rattle.request.proofs.Tops.{cost-at}
use Rattle.request.proofs.Tests.{not-outside}
use Rattle.request.proofs.Branches.{fault-loop, arc-good, arcs-refused}

-- ---- rows 2 to 5

pub record Sizes (n d s k : ℕ) : Type 0 where
  pub nodes_few : n ≤ 64
  pub two : 2 ≤ d
  pub three : d ≤ 3
  pub source_in : s < n
  pub hops_few : k ≤ 63

pub sizes-facts : (n d s k : ℕ) → weigh (size_rows n d s k) ≡ clear → Sizes n d s k
unfolding size_rows
sizes-facts n d s k e =
    let r2 = clear-cons _ _ e in
    let r3 = clear-cons _ _ r2.1 in
    let r4 = clear-cons _ _ r3.1 in
    let r5 = clear-cons _ _ r4.1 in
    record {
      nodes_few = (not-outside 1 64 n r2.0).1;
      two = (not-outside 2 3 d r3.0).0;
      three = (not-outside 2 3 d r3.0).1;
      source_in = nleb→lt n s r4.0;
      hops_few = (not-outside 0 63 k r5.0).1;
    }

-- ---- row 6

pub ratio-facts : (ratios : List ℕ) (j : ℕ) → T (not (ratio_row ratios j).holds) → (0 < get_or ratios (j * 2 + 1) 0) × (get_or ratios (j * 2) 0 ≤ get_or ratios (j * 2 + 1) 0)
unfolding ratio_row
ratio-facts ratios j t =
    let q : ℕ = get_or ratios (j * 2 + 1) 0 in
    let p : ℕ = get_or ratios (j * 2) 0 in
    ((not-outside 1 1000 q (nor-left (outside 1 1000 q) (outside 0 q p) t)).0, (not-outside 0 q p (nor-right (outside 1 1000 q) (outside 0 q p) t)).1)

-- ---- row 7

pub words-facts : (words w : ℕ) → T (not (arc_words_row words w).holds) → (words ≡ words / w * w) × (words / w ≤ 512)
unfolding arc_words_row
words-facts words w t =
    let over = nltb→le 0 (words % w) (nor-left (ltb 0 (words % w)) (ltb 512 (words / w)) t) in
    let few = nltb→le 512 (words / w) (nor-right (ltb 0 (words % w)) (ltb 512 (words / w)) t) in
    let split = div-add-mod' words w in
    (omega arith, few)

-- ---- row 8 with 17

-- an arc's words without a fault
record Faultless (n d : ℕ) (w : List ℕ) : Type 0 where
  tail_in : get_or w 0 0 < n
  head_in : get_or w 1 0 < n
  no_loop : get_or w 0 0 ≡ get_or w 1 0 → ⊥
  costs-in : (j : ℕ) → j < d → get_or w (j + 2) 0 ≤ 1000000

fault-facts : (n d : ℕ) (w : List ℕ) → T (not (ltb 0 (arc_fault n d w))) → Faultless n d w
unfolding arc_fault
fault-facts n d w t =
    let over : Bool = any (λ j. ltb 1000000 (get_or w (j + 2) 0)) d in
    let good = good-if (leb n (get_or w 0 0) || leb n (get_or w 1 0)) (eqb (get_or w 0 0) (get_or w 1 0)) over t in
    record {
      tail_in = nleb→lt n (get_or w 0 0) (nor-left (leb n (get_or w 0 0)) (leb n (get_or w 1 0)) good.0);
      head_in = nleb→lt n (get_or w 1 0) (nor-right (leb n (get_or w 0 0)) (leb n (get_or w 1 0)) good.0);
      no_loop = λ e. T_not (eqb (get_or w 0 0) (get_or w 1 0)) good.1 (true-is (eq-eqb (get_or w 0 0) (get_or w 1 0) e));
      costs-in = λ j l. nltb→le 1000000 (get_or w (j + 2) 0) (none_any (λ j. ltb 1000000 (get_or w (j + 2) 0)) d good.2 j l);
    }
  where
    good-if : (a b c : Bool) → T (not (ltb 0 (cond a 8 (cond b 17 (cond c 8 0))))) → T (not a) × T (not b) × T (not c)
    good-if true b c t = absurd t
    good-if false true c t = absurd t
    good-if false false true t = absurd t
    good-if false false false t = (tt, tt, tt)

-- ---- rows 2 to 8 with 17

module _ (R : Req) (e : weigh (ask_rows R ++ arc_rows R) ≡ clear) where
  asks : weigh (ask_rows R) ≡ clear
  asks = weigh-clear-front (ask_rows R) (arc_rows R) e

  arcs : weigh (arc_rows R) ≡ clear
  arcs = weigh-clear-back (ask_rows R) (arc_rows R) e

  sizes : Sizes R.nodes R.criteria R.source R.hops
  unfolding ask_rows
  sizes = sizes-facts R.nodes R.criteria R.source R.hops (weigh-clear-front (size_rows R.nodes R.criteria R.source R.hops) (each (ratio_row R.ratios) R.graded) asks)

  ratios : (j : ℕ) → j < R.graded → (0 < ratio_q R j) × (ratio_p R j ≤ ratio_q R j)
  unfolding ask_rows ratio_p ratio_q
  ratios j l =
      ratio-facts R.ratios j
      (clear-each (ratio_row R.ratios) R.graded (weigh-clear-back (size_rows R.nodes R.criteria R.source R.hops) (each (ratio_row R.ratios) R.graded) asks) j l)

  words : (length R.arcs ≡ arc_count R * width R) × (arc_count R ≤ 512)
  unfolding arc_rows arc_count
  words = words-facts (length R.arcs) (width R) (clear-cons _ _ arcs).0

  arc-facts : (a : ℕ) → a < arc_count R → Faultless R.nodes R.criteria (arc R a)
  unfolding arc_rows arc_row arc
  arc-facts a l = fault-facts R.nodes R.criteria (arc R a) (clear-each (arc_row R.nodes R.criteria R.arcs) (arc_count R) (clear-cons _ _ arcs).1 a l)

  pub regular : Regular R
  unfolding tail head
  regular = record {
    whole = words.0;
    source_in = sizes.source_in;
    tail_in = λ a l. (arc-facts a l).tail_in;
    head_in = λ a l. (arc-facts a l).head_in;
    ratio_in = λ j l. (ratios j l).0;
  }

  loopless : Loopless R
  unfolding tail head
  loopless a l = (arc-facts a l).no_loop

  pub small : Small R
  small = record {
    nodes_few = sizes.nodes_few;
    two = sizes.two;
    three = sizes.three;
    hops_few = sizes.hops_few;
    ratio_order = λ j l. (ratios j l).1;
    arcs_few = words.1;
    cost_small = λ a j l h. rw (cost-at R a j) ((arc-facts a l).costs-in j h);
  }

-- ---- rows 9 and 10

module _ (R : Req) where
  pub buckets-good : (j : ℕ) → T (not (bucket_row R j).holds) → buckets R j ≤ 4096
  unfolding bucket_row
  buckets-good j t = nltb→le 4096 (buckets R j) t

  fits : weigh (shape_rows R) ≡ clear → Fits R
  unfolding shape_rows label_row
  fits e =
      record {
        buckets_few = λ j l. buckets-good j (clear-each (bucket_row R) R.graded (weigh-clear-front (each (bucket_row R) R.graded) (label_row R ∷ []) e) j l);
        labels_few = nltb→le 1048576 (label_count R) (clear-cons (label_row R) [] (weigh-clear-back (each (bucket_row R) R.graded) (label_row R ∷ []) e)).0;
      }

  -- ---- an accepted request

  pub accepted-asked : Accepted R → weigh (ask_rows R ++ arc_rows R) ≡ clear
  unfolding Accepted rows
  accepted-asked e = weigh-clear-front (ask_rows R ++ arc_rows R) (shape_rows R) e

  pub accepted-regular : Accepted R → Regular R
  accepted-regular e = regular R (accepted-asked e)

  pub accepted-small : Accepted R → Small R
  accepted-small e = small R (accepted-asked e)

  -- AN ACCEPTED REQUEST HAS NO TRACK FROM A CAMP TO ITSELF
  pub accepted-loopless : Accepted R → Loopless R
  accepted-loopless e = loopless R (accepted-asked e)

  pub accepted-fits : Accepted R → Fits R
  unfolding Accepted rows
  accepted-fits e = fits (weigh-clear-back (ask_rows R ++ arc_rows R) (shape_rows R) e)

-- ---- the first arc with a fault

-- IT IS REFUSED WITH 17 where it leads from a camp to itself, and its place is the arc
pub first-loop : (R : Req) (a : ℕ) → FirstLoop R a → weigh (rows R) ≡ refused 17 a
unfolding rows arc_rows arc tail head
first-loop R a h =
    let words = arc_words_row (length R.arcs) (width R) in
    let asked = weigh-clear-front (ask_rows R) (words ∷ []) h.rows_before in
    let passed = (clear-cons words [] (weigh-clear-back (ask_rows R) (words ∷ []) h.rows_before)).0 in
    let fault = fault-loop R.nodes R.criteria (arc R a) h.tail_in (subst (λ (v : ℕ). v < R.nodes) h.loops h.tail_in) h.loops in
    weigh-front (ask_rows R ++ arc_rows R) (shape_rows R) 17 a
    (weigh-append (ask_rows R) (arc_rows R) asked
    ∙ weigh-passed words (each (arc_row R.nodes R.criteria R.arcs) (arc_count R)) passed
    ∙ arcs-refused R.nodes R.criteria R.arcs a (arc_count R) 17 h.inside (sym fault) (omega arith)
    (λ b l. arc-good R.nodes R.criteria R.arcs b (omega (arith, h.arcs_before b l))))
