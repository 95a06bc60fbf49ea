-- The numbers of a label's line, stored part by part: the node, the costs, the arcs behind them, and the arc count between. Assumes nothing.
use Prim.Native.Nat.{ℕ, zero, suc, ◌+◌, ◌-◌, ◌≤◌}
use mathlib.Core.Path.{◌≡◌, refl, sym, ap, ap₂, ◌∙◌}
use mathlib.Core.List.{List, [], ◌∷◌, ◌++◌}
use native.Mathlib.Nat.{add-zero}
use native.Mathlib.Omega.{arith}
use lib.ListN.{length, take, drop, set, length-set, length-append}
use borrow.Rule.Slice.PartMut.{put_mid}
use Rattle.words.specs.Pieces.{part, write}
use Rattle.words.proofs.Writes.{length_part, length-write, lent, write-nest, write-append, set-write, write-none, part-write-same}

-- a word stored right before others
before : (xs : List ℕ) (a v : ℕ) (ys : List ℕ) → write (write xs (suc a) ys) a (v ∷ []) ≡ write xs a (v ∷ ys)
unfolding write
before [] a v ys = refl
before (x ∷ xs) zero v ys = ap (λ (r : List ℕ). v ∷ r) (write-none (write xs zero ys) zero)
before (x ∷ xs) (suc a) v ys = ap (λ (r : List ℕ). x ∷ r) (before xs a v ys)

-- a part lent, and written to from its front
lent-front : (xs : List ℕ) (a k : ℕ) (ys : List ℕ) → length ys ≤ k → a + k ≤ length xs
    → take a xs ++ (write (part xs a k) 0 ys ++ drop k (drop a xs)) ≡ write xs a ys
lent-front xs a k ys h g =
    lent xs a k (write (part xs a k) 0 ys) (length-write (part xs a k) 0 ys ∙ length_part xs a k g) g
    ∙ sym (write-nest xs a k 0 ys (omega arith))
    ∙ ap (λ (i : ℕ). write xs i ys) (add-zero a)

-- the node, the costs, the arcs and the arc count make up the numbers
numbers-put : (xs x₁ x₂ x₃ x₄ cs ws : List ℕ) (v d n : ℕ) → length cs ≡ d → x₁ ≡ set xs 0 v → x₂ ≡ write x₁ 1 cs → x₃ ≡ write x₂ (d + 2) ws
    → x₄ ≡ set x₃ (d + 1) n → x₄ ≡ write xs 0 (v ∷ cs ++ n ∷ ws)
numbers-put xs x₁ x₂ x₃ x₄ cs ws v d n e p q r s =
    let k : suc (d + 1) ≡ d + 2 = omega arith in
    let m : d + 1 ≡ 0 + length (v ∷ cs) = omega arith in
    let y : x₂ ≡ write xs 0 (v ∷ cs) = q ∙ ap (λ (l : List ℕ). write l 1 cs) (p ∙ set-write xs 0 v) ∙ write-append xs 0 (v ∷ []) cs in
    s
    ∙ set-write x₃ (d + 1) n
    ∙ ap (λ (l : List ℕ). write l (d + 1) (n ∷ [])) (r ∙ ap (λ (i : ℕ). write x₂ i ws) (sym k))
    ∙ before x₂ (d + 1) n ws
    ∙ ap (λ (l : List ℕ). write l (d + 1) (n ∷ ws)) y
    ∙ ap (λ (i : ℕ). write (write xs 0 (v ∷ cs)) i (n ∷ ws)) m
    ∙ write-append xs 0 (v ∷ cs) (n ∷ ws)

-- ---- as the lent parts leave them

module _ (xs : List ℕ) (v d : ℕ) (ys : List ℕ) where
  -- after the node, and the costs lent behind it
  abbrev pub with-costs : List ℕ
  with-costs = put_mid 1 (d + 1 - 1) (set xs 0 v) ys

  module _ (long : length xs ≡ 68) (few : d ≤ 3) (size : length ys ≡ d) where
    -- they are written behind the node
    costs-put : with-costs ≡ write (set xs 0 v) 1 ys
    costs-put =
        let e : d + 1 - 1 ≡ d = omega arith in
        lent (set xs 0 v) 1 (d + 1 - 1) ys (omega arith) (simp length-set (omega arith))

    -- and the words are as many as before
    pub costs-long : length with-costs ≡ 68
    costs-long = ap length costs-put ∙ length-write (set xs 0 v) 1 ys ∙ length-set xs 0 v ∙ long

    module _ (ws zs : List ℕ) (short : length ws ≤ 63) (z : zs ≡ write (part with-costs (d + 2) (length with-costs - (d + 2))) 0 ws) where
      -- after the arcs, lent behind the place of their count
      abbrev pub with-arcs : List ℕ
      with-arcs = put_mid (d + 2) (length with-costs - (d + 2)) with-costs zs

      -- they are written behind it
      arcs-put : with-arcs ≡ write with-costs (d + 2) ws
      arcs-put =
          ap (λ (l : List ℕ). take (d + 2) with-costs ++ (l ++ drop (length with-costs - (d + 2)) (drop (d + 2) with-costs))) z
          ∙ lent-front with-costs (d + 2) (length with-costs - (d + 2)) ws (omega (arith, costs-long)) (omega (arith, costs-long))

      -- and the words are as many as before
      pub arcs-long : length with-arcs ≡ 68
      arcs-long = ap length arcs-put ∙ length-write with-costs (d + 2) ws ∙ costs-long

      -- the count between makes the numbers whole
      pub numbers-law : (cs : List ℕ) (n : ℕ) → ys ≡ cs → n ≡ length ws → set with-arcs (d + 1) n ≡ write xs 0 (v ∷ cs ++ length ws ∷ ws)
      numbers-law cs n e f =
          numbers-put xs (set xs 0 v) with-costs with-arcs (set with-arcs (d + 1) n) ys ws v d n size refl costs-put arcs-put refl
          ∙ ap (λ (l : List ℕ). write xs 0 (v ∷ l ++ n ∷ ws)) e
          ∙ ap (λ (k : ℕ). write xs 0 (v ∷ cs ++ k ∷ ws)) f

      -- so they stand in front
      pub numbers-front : (cs : List ℕ) (n : ℕ) → ys ≡ cs → n ≡ length ws → take (d + 2 + n) (set with-arcs (d + 1) n) ≡ v ∷ cs ++ length ws ∷ ws
      numbers-front cs n e f =
          let vs : List ℕ = v ∷ cs ++ length ws ∷ ws in
          let k : d + 2 + n ≡ length vs = omega (arith, length-append cs (length ws ∷ ws), ap length e) in
          ap₂ take k (numbers-law cs n e f) ∙ part-write-same xs 0 vs (omega arith)
