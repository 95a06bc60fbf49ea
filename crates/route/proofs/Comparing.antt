-- Costs compared one by one: where no two differ the lists are the same, and one difference tells them apart. Assumes nothing.
use Prim.Native.Nat.{ℕ, ◌+◌, ◌≤◌, ◌<◌}
use mathlib.Core.Path.{◌≡◌, refl, sym, ap, ap₂, ◌∙◌, subst}
use mathlib.Core.Bool.{Bool, true, false, ◌&&◌}
use mathlib.Core.List.{List, [], ◌∷◌}
use native.Mathlib.Omega.{arith}
use lib.ListN.{length, get_or, take, drop, replicate, length-drop}
use lib.Seq.{length-take-le, get_or-take, get_or-drop, ext_get_or}
use lib.Dec.{T, eqb, eqb→eq, eqb_refl}
use lib.Pointwise.{pointwise}
use Rattle.std.specs.List.{list_all}
use Rattle.words.proofs.Choices.{is_true, true-is, and_both}
use Rattle.rounds.specs.Label.{sum}
use Rattle.rounds.proofs.Labels.{get_or-sum, length-sum}
use Rattle.route.specs.Chain.{same}

-- ---- the test is equality

both-and : (a b : Bool) → T a → T b → T (a && b)
both-and true b t u = u
both-and false b t u = absurd t

pub same-equal : (xs ys : List ℕ) → T (same xs ys) → xs ≡ ys
unfolding same
same-equal [] [] t = refl
same-equal [] (y ∷ ys) t = absurd t
same-equal (x ∷ xs) [] t = absurd t
same-equal (x ∷ xs) (y ∷ ys) t =
    let p = and_both (eqb x y) (same xs ys) t in
    ap₂ (λ (z : ℕ) (zs : List ℕ). z ∷ zs) (eqb→eq x y p.0) (same-equal xs ys p.1)

pub same_self : (xs : List ℕ) → T (same xs xs)
unfolding same
same_self [] = tt
same_self (x ∷ xs) = both-and (eqb x x) (same xs xs) (eqb_refl x) (same_self xs)

-- ---- word by word

-- no word differs
no_difference : (xs ys : List ℕ) (d : ℕ) → length xs ≡ d → length ys ≡ d → ((j : ℕ) → j < d → get_or xs j 0 ≡ get_or ys j 0) → true ≡ same xs ys
no_difference xs ys d n m h =
    let e : xs ≡ ys = ext_get_or 0 xs ys (n ∙ sym m) (λ j l. h j (subst (λ (k : ℕ). j < k) n l)) in
    sym (is_true (same xs ys) (subst (λ (z : List ℕ). T (same xs z)) e (same_self xs)))

-- a word differs
difference : (xs ys : List ℕ) (j : ℕ) → (get_or xs j 0 ≡ get_or ys j 0 → ⊥) → false ≡ same xs ys
difference xs ys j h = go (same xs ys) refl
  where
    go : (b : Bool) → same xs ys ≡ b → false ≡ b
    go false e = refl
    go true e = absurd (h (ap (λ (z : List ℕ). get_or z j 0) (same-equal xs ys (true-is e))))

-- ---- as the code has it: a label's costs against another's as slices, against none, and against another's and an arc's

-- slices compared item by item
pub same-pointwise : (xs ys : List ℕ) → pointwise eqb xs ys ≡ same xs ys
unfolding same
same-pointwise [] [] = refl
same-pointwise [] (y ∷ ys) = refl
same-pointwise (x ∷ xs) [] = refl
same-pointwise (x ∷ xs) (y ∷ ys) = ap (λ (b : Bool). eqb x y && b) (same-pointwise xs ys)

-- each is 0
same-zeros : (xs : List ℕ) → list_all (λ x. eqb x 0) xs ≡ same xs (replicate (length xs) 0)
unfolding same
same-zeros [] = refl
same-zeros (x ∷ xs) = ap (λ (b : Bool). eqb x 0 && b) (same-zeros xs)

pub nothing-same : (l : List ℕ) (d : ℕ) → d ≤ length l → list_all (λ x. eqb x 0) (take d l) ≡ same (take d l) (replicate d 0)
nothing-same l d h = same-zeros (take d l) ∙ ap (λ (n : ℕ). same (take d l) (replicate n 0)) (length-take-le d l h)

module _ (l : List ℕ) (d : ℕ) (in-l : d ≤ length l) where
  module _ (m : List ℕ) (in-m : d ≤ length m) where
    module _ (arc : List ℕ) (long : length arc ≡ d + 2) where
      sum-word : (j : ℕ) → j < d → get_or (sum (take d m) (drop 2 arc)) j 0 ≡ get_or m j 0 + get_or arc (j + 2) 0
      sum-word j g =
          let e : 2 + j ≡ j + 2 = omega arith in
          get_or-sum (take d m) (drop 2 arc) j
          ∙ ap₂ (λ (x y : ℕ). x + y) (get_or-take d m j 0 g) (get_or-drop 2 arc j 0 ∙ ap (λ (k : ℕ). get_or arc k 0) e)

      costs-long : length (drop 2 arc) ≡ d
      costs-long = length-drop 2 arc ∙ omega arith

      pub sum-yes : ((j : ℕ) → j < d → get_or l j 0 ≡ get_or m j 0 + get_or arc (j + 2) 0) → true ≡ same (take d l) (sum (take d m) (drop 2 arc))
      sum-yes h =
          no_difference (take d l) (sum (take d m) (drop 2 arc)) d (length-take-le d l in-l)
          (length-sum (take d m) (drop 2 arc) (length-take-le d m in-m ∙ sym costs-long) ∙ costs-long)
          (λ j g. get_or-take d l j 0 g ∙ h j g ∙ sym (sum-word j g))

      pub sum-no : (j : ℕ) → j < d → (get_or l j 0 ≡ get_or m j 0 + get_or arc (j + 2) 0 → ⊥) → false ≡ same (take d l) (sum (take d m) (drop 2 arc))
      sum-no j g h = difference (take d l) (sum (take d m) (drop 2 arc)) j (λ e. h (sym (get_or-take d l j 0 g) ∙ e ∙ sum-word j g))
