-- What a start, a kept label and an arc label are that hold, fact by fact; and each test from its facts. Assumes nothing.
use Prim.Native.Nat.{ℕ, ◌≤◌, ◌<◌}
use mathlib.Core.Path.{◌≡◌, sym, ap, ◌∙◌, subst}
use mathlib.Core.Bool.{Bool, true, not, ◌&&◌}
use mathlib.Core.List.{List}
use native.Mathlib.Nat.{lt_of_not-le}
use native.Mathlib.Omega.{arith}
use lib.ListN.{length, get_or, replicate, get_or-eq_default}
use lib.Dec.{T, leb, ltb, eqb, leb→le, ltb→lt, eqb→eq}
use borrow.Author.Tests.{eq-eqb, lt-ltb, le-leb, clash}
use Rattle.words.proofs.Choices.{or_right, or-implies, and_both}
use Rattle.request.specs.Request.{Req, arc_count, head, arc_costs}
use Rattle.request.specs.Shape.{cells}
use Rattle.rounds.specs.Label.{costs, step, from, filled, sum}
use Rattle.route.specs.Chain.{same, start_holds, agrees, kept_holds, arc_holds}
use Rattle.route.proofs.Comparing.{same-equal, same_self}

-- ---- tests

-- each of several tests that hold together
all4 : (a b c d : Bool) → T (a && b && c && d) → T a × T b × T c × T d
all4 a b c d t =
    let p = and_both (a && b && c) d t in
    let q = and_both (a && b) c p.0 in
    let r = and_both a b q.0 in
    (r.0, r.1, q.1, p.1)

all6 : (a b c d e f : Bool) → T (a && b && c && d && e && f) → T a × T b × T c × T d × T e × T f
all6 a b c d e f t =
    let p = and_both (a && b && c && d && e) f t in
    let q = and_both (a && b && c && d) e p.0 in
    let r = all4 a b c d q.0 in
    (r.0, r.1, r.2, r.3, q.1, p.1)

-- a word that is not 0 lies within the list
pub word-inside : (l : List ℕ) (n : ℕ) → (get_or l n 0 ≡ 0 → ⊥) → n < length l
word-inside l n h = lt_of_not-le (λ (g : length l ≤ n). h (get_or-eq_default l 0 g))

-- where a label has a step its costs are whole
module _ (R : Req) (l : List ℕ) where
  pub costs-inside : (step R l ≡ 0 → ⊥) → R.criteria ≤ length l
  unfolding step
  costs-inside h = let n = word-inside l R.criteria h in omega arith

  -- and so are those of a filled label reached
  pub reached-inside : filled R l ≡ true → R.criteria ≤ length l
  unfolding filled
  reached-inside e = costs-inside (λ z. clash (ap (ltb 0) (sym z) ∙ e))

-- ---- the costs of the label reached

module _ (R : Req) (xs reached ys : List ℕ) where
  agree-facts : T (agrees R xs reached ys) → T (filled R reached) → xs ≡ ys
  unfolding agrees
  agree-facts t u = same-equal xs ys (or-implies (filled R reached) (same xs ys) t u)

  -- equal costs agree
  agree-true : xs ≡ ys → T (agrees R xs reached ys)
  unfolding agrees
  agree-true e = or_right (not (filled R reached)) (same xs ys) (subst (λ (zs : List ℕ). T (same xs zs)) e (same_self xs))

-- ---- a start

pub record Starts (R : Req) (i : ℕ) (l : List ℕ) (v c : ℕ) : Type 0 where
  pub step_is : step R l ≡ 1
  pub layer_is : i ≡ 0
  pub node_is : v ≡ R.source
  pub cell_is : c ≡ 0
  pub from_is : from R l ≡ 0
  pub costs_are : costs R l ≡ replicate R.criteria 0

module _ (R : Req) (i : ℕ) (l : List ℕ) (v c : ℕ) where
  pub start-facts : T (start_holds R i l v c) → Starts R i l v c
  unfolding start_holds
  start-facts t =
      let p = all6 (eqb (step R l) 1) (eqb i 0) (eqb v R.source) (eqb c 0) (eqb (from R l) 0) (same (costs R l) (replicate R.criteria 0)) t in
      record {
        step_is = eqb→eq (step R l) 1 p.0;
        layer_is = eqb→eq i 0 p.1;
        node_is = eqb→eq v R.source p.2;
        cell_is = eqb→eq c 0 p.3;
        from_is = eqb→eq (from R l) 0 p.4;
        costs_are = same-equal (costs R l) (replicate R.criteria 0) p.5;
      }

  -- the costs decide where all else is right
  pub start-rest : step R l ≡ 1 → i ≡ 0 → v ≡ R.source → c ≡ 0 → from R l ≡ 0 → same (costs R l) (replicate R.criteria 0) ≡ start_holds R i l v c
  unfolding start_holds
  start-rest s e n k f = rw (eq-eqb (step R l) 1 s, eq-eqb i 0 e, eq-eqb v R.source n, eq-eqb c 0 k, eq-eqb (from R l) 0 f)

  pub start-true : Starts R i l v c → T (start_holds R i l v c)
  start-true p =
      subst T (start-rest p.step_is p.layer_is p.node_is p.cell_is p.from_is)
      (subst (λ (xs : List ℕ). T (same xs (replicate R.criteria 0))) (sym p.costs_are) (same_self (replicate R.criteria 0)))

-- ---- a kept label

pub record Keeps (R : Req) (i : ℕ) (l reached : List ℕ) : Type 0 where
  pub step_is : step R l ≡ 2
  pub before : 0 < i
  pub from_is : from R l ≡ 0
  pub agree : T (filled R reached) → costs R l ≡ costs R reached

module _ (R : Req) (i : ℕ) (l reached : List ℕ) where
  pub kept-facts : T (kept_holds R i l reached) → Keeps R i l reached
  unfolding kept_holds
  kept-facts t =
      let p = all4 (eqb (step R l) 2) (ltb 0 i) (eqb (from R l) 0) (agrees R (costs R l) reached (costs R reached)) t in
      record {
        step_is = eqb→eq (step R l) 2 p.0;
        before = ltb→lt 0 i p.1;
        from_is = eqb→eq (from R l) 0 p.2;
        agree = agree-facts R (costs R l) reached (costs R reached) p.3;
      }

  -- the label reached decides where all else is right
  pub kept-rest : step R l ≡ 2 → 0 < i → from R l ≡ 0 → agrees R (costs R l) reached (costs R reached) ≡ kept_holds R i l reached
  unfolding kept_holds
  kept-rest s b f = rw (eq-eqb (step R l) 2 s, lt-ltb 0 i b, eq-eqb (from R l) 0 f)

  pub kept-true : step R l ≡ 2 → 0 < i → from R l ≡ 0 → costs R l ≡ costs R reached → T (kept_holds R i l reached)
  kept-true s b f e = subst T (kept-rest s b f) (agree-true R (costs R l) reached (costs R reached) e)

-- ---- a label that came by an arc

pub record Comes (R : Req) (i : ℕ) (l : List ℕ) (v a : ℕ) (reached : List ℕ) : Type 0 where
  pub step_is : 3 ≤ step R l
  pub before : 0 < i
  pub arc_in : a < arc_count R
  pub head_is : head R a ≡ v
  pub from_in : from R l < cells R
  pub agree : T (filled R reached) → costs R l ≡ sum (costs R reached) (arc_costs R a)

module _ (R : Req) (i : ℕ) (l : List ℕ) (v a : ℕ) (reached : List ℕ) where
  pub arc-facts : T (arc_holds R i l v a reached) → Comes R i l v a reached
  unfolding arc_holds
  arc-facts t =
      let p = all6 (leb 3 (step R l)) (ltb 0 i) (ltb a (arc_count R)) (eqb (head R a) v) (ltb (from R l) (cells R)) (agrees R (costs R l) reached (sum (costs R reached) (arc_costs R a))) t in
      record {
        step_is = leb→le 3 (step R l) p.0;
        before = ltb→lt 0 i p.1;
        arc_in = ltb→lt a (arc_count R) p.2;
        head_is = eqb→eq (head R a) v p.3;
        from_in = ltb→lt (from R l) (cells R) p.4;
        agree = agree-facts R (costs R l) reached (sum (costs R reached) (arc_costs R a)) p.5;
      }

  -- the label reached decides where all else is right
  pub arc-rest : 3 ≤ step R l → 0 < i → a < arc_count R → head R a ≡ v → from R l < cells R
      → agrees R (costs R l) reached (sum (costs R reached) (arc_costs R a)) ≡ arc_holds R i l v a reached
  unfolding arc_holds
  arc-rest s b m h f = rw (le-leb 3 (step R l) s, lt-ltb 0 i b, lt-ltb a (arc_count R) m, eq-eqb (head R a) v h, lt-ltb (from R l) (cells R) f)

  pub arc-true : 3 ≤ step R l → 0 < i → a < arc_count R → head R a ≡ v → from R l < cells R → costs R l ≡ sum (costs R reached) (arc_costs R a) → T (arc_holds R i l v a reached)
  arc-true s b m h f e = subst T (arc-rest s b m h f) (agree-true R (costs R l) reached (sum (costs R reached) (arc_costs R a)) e)
