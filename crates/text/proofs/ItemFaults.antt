-- The byte at fault in one item of a line, and that what follows it does not matter. Assumes nothing.
use Prim.Native.Nat.{ℕ, suc, ◌+◌, ◌-◌, ◌≤◌, ◌<◌}
use mathlib.Core.Path.{◌≡◌, refl, ap, sym, ◌∙◌}
use mathlib.Core.List.{List, [], ◌∷◌, ◌++◌}
use mathlib.Core.Bool.{Bool, true, false, cond}
use mathlib.Core.Logic.{⊎_elim}
use native.Mathlib.Omega.{arith}
use lib.ListN.{length, take, length-append}
use lib.Dec.{eqb}
use borrow.Author.Tests.{eqb-true}
use Rattle.words.proofs.Choices.{lt-or-le}
use Rattle.std.specs.Prelude.{Result, Ok, Err}
use Rattle.text.specs.declared.Fault.{Fault}
use Rattle.text.specs.Fault.{fault}
use Rattle.text.specs.Field.{before}
use Rattle.text.specs.Number.{number, digits, largest}
use Rattle.text.specs.Line.{found, placed, item}
use Rattle.text.proofs.Results.{fault-same, found-same}
use Rattle.text.proofs.Fields.{before-length, before-inside, before-through, take-before}
use Rattle.text.proofs.Numbers.{number-fault}
use Rattle.text.proofs.Digits.{digits-small, number-was}
use Rattle.text.proofs.NumberFaults.{number-local, number-begins}

-- what was placed in the line, by what was read of its field
placed-wrong : (at l j : ℕ) (g : Result ℕ Fault) → placed at l g ≡ fault j → (i : ℕ) × (g ≡ fault i) × (j ≡ at + 1 + i)
placed-wrong at l j (Ok v) e = let z : ◌≡◌ {A = ℕ} 0 1 = cc in absurd (omega arith)
placed-wrong at l j (Err f) e = let q : at + 1 + f.at ≡ j = fault-same e in (f.at, refl, sym q)

-- a number ends with its field
placed-found : (at l v e : ℕ) (g : Result ℕ Fault) → placed at l g ≡ found v e → e ≡ at + 1 + l
placed-found at l v e (Ok w) h = sym (found-same h).1
placed-found at l v e (Err f) h = let z : ◌≡◌ {A = ℕ} 0 1 = cc in absurd (omega arith)

module _ (sep : ℕ) where
  -- a fault is not before the byte at which the reader stands
  pub item-wrong-least : (at j : ℕ) (r : List ℕ) → item sep at r ≡ fault j → at ≤ j
  unfolding item
  item-wrong-least at j [] e = let q : at ≡ j = fault-same e in omega arith
  item-wrong-least at j (c ∷ cs) e = go (eqb c sep) e
    where
      go : (t : Bool) → cond t (placed at (length (before sep cs)) (number (before sep cs))) (fault at) ≡ fault j → at ≤ j
      go true e = let p = placed-wrong at (length (before sep cs)) j (number (before sep cs)) e in omega (arith, p.2)
      go false e = let q : at ≡ j = fault-same e in omega arith

  -- a number that is found goes on beyond it
  pub item-found-least : (at v e : ℕ) (r : List ℕ) → item sep at r ≡ found v e → at < e
  unfolding item
  item-found-least at v e [] h = let z : ◌≡◌ {A = ℕ} 0 1 = cc in absurd (omega arith)
  item-found-least at v e (c ∷ cs) h = go (eqb c sep) h
    where
      go : (t : Bool) → cond t (placed at (length (before sep cs)) (number (before sep cs))) (fault at) ≡ found v e → at < e
      go true h = omega (arith, placed-found at (length (before sep cs)) v e (number (before sep cs)) h)
      go false h = let z : ◌≡◌ {A = ℕ} 0 1 = cc in absurd (omega arith)

  -- a fault within r does not turn on what follows r
  pub item-wrong-local : (at j : ℕ) (r u u' : List ℕ) → item sep at (r ++ u) ≡ fault j → j < at + length r → item sep at (r ++ u') ≡ fault j
  unfolding item
  item-wrong-local at j [] u u' e l = let h = item-wrong-least at j u e in absurd (omega arith)
  item-wrong-local at j (c ∷ cs) u u' e l = go (eqb c sep) e
    where
      through : length cs ≤ length (before sep cs) → placed at (length (before sep (cs ++ u))) (number (before sep (cs ++ u))) ≡ fault j
          → placed at (length (before sep (cs ++ u'))) (number (before sep (cs ++ u'))) ≡ fault j
      through h e =
          let p = placed-wrong at (length (before sep (cs ++ u))) j (number (before sep (cs ++ u))) e in
          let a : number (cs ++ before sep u) ≡ fault p.0 = ap number (sym (before-through sep cs u h)) ∙ p.1 in
          let b : number (cs ++ before sep u') ≡ fault p.0 = number-local p.0 cs (before sep u) (before sep u') a (omega (arith, p.2)) in
          rw (before-through sep cs u' h, b) (ap fault (sym p.2))

      go : (t : Bool) → cond t (placed at (length (before sep (cs ++ u))) (number (before sep (cs ++ u)))) (fault at) ≡ fault j
          → cond t (placed at (length (before sep (cs ++ u'))) (number (before sep (cs ++ u')))) (fault at) ≡ fault j
      go true e = ⊎_elim (λ h. rw (before-inside sep cs u' h) (rw (before-inside sep cs u h) at e)) (λ h. through h e) (lt-or-le (length (before sep cs)) (length cs))
      go false e = e

  -- nor does a number that ends within r
  pub item-found-local : (at v e : ℕ) (r u u' : List ℕ) → item sep at (r ++ u) ≡ found v e → e < at + length r → item sep at (r ++ u') ≡ found v e
  unfolding item
  item-found-local at v e [] u u' h l = let k = item-found-least at v e u h in absurd (omega arith)
  item-found-local at v e (c ∷ cs) u u' h l = go (eqb c sep) h
    where
      go : (t : Bool) → cond t (placed at (length (before sep (cs ++ u))) (number (before sep (cs ++ u)))) (fault at) ≡ found v e
          → cond t (placed at (length (before sep (cs ++ u'))) (number (before sep (cs ++ u')))) (fault at) ≡ found v e
      go true h =
          ⊎_elim (λ k. rw (before-inside sep cs u' k) (rw (before-inside sep cs u k) at h))
          (λ k. absurd (omega (arith, placed-found at (length (before sep (cs ++ u))) v e (number (before sep (cs ++ u))) h, ap length (before-through sep cs u k), length-append cs (before sep u))))
          (lt-or-le (length (before sep cs)) (length cs))
      go false h = h

  -- v after sep begins with what stands before byte j
  pub record ItemBegins (at j : ℕ) (r : List ℕ) : Type 0 where
    pub v : ℕ
    pub t : List ℕ
    pub so : take (j - at) r ++ t ≡ sep ∷ digits v
    pub small : v ≤ largest

  -- nothing of the item stands before the fault
  item-none : (at j : ℕ) (r : List ℕ) → at ≡ j → ItemBegins at j r
  item-none at j r q =
      let m : j - at ≡ 0 = omega arith in
      record { v = 0; t = sep ∷ (48 ∷ []); so = rw (m, digits-small 0 (omega arith)); small = omega arith }

  -- what stands before the fault begins an item
  pub item-begins : (at j : ℕ) (r : List ℕ) → item sep at r ≡ fault j → ItemBegins at j r
  unfolding item
  item-begins at j [] e = let q : at ≡ j = fault-same e in item-none at j [] q
  item-begins at j (c ∷ cs) e = go (eqb c sep) refl e
    where
      tab : c ≡ sep → placed at (length (before sep cs)) (number (before sep cs)) ≡ fault j → ItemBegins at j (c ∷ cs)
      tab q e =
          let p = placed-wrong at (length (before sep cs)) j (number (before sep cs)) e in
          let i = p.0 in
          let l : i ≤ length (before sep cs) = number-fault (before sep cs) i p.1 in
          let b = number-begins i (before sep cs) p.1 in
          let d = number-was (take i (before sep cs) ++ b.0) b.1 b.2 in
          let m : j - at ≡ suc i = omega (arith, p.2) in
          record { v = b.1; t = b.0; so = rw (m, q, take-before sep i cs l) (ap (λ (x : List ℕ). sep ∷ x) d.0); small = d.1 }

      go : (t : Bool) → eqb c sep ≡ t → cond t (placed at (length (before sep cs)) (number (before sep cs))) (fault at) ≡ fault j → ItemBegins at j (c ∷ cs)
      go true q e = tab (eqb-true c sep q) e
      go false q e = let p : at ≡ j = fault-same e in item-none at j (c ∷ cs) p

  -- a fault is within the line, or at its end
  pub item-most : (at j : ℕ) (r : List ℕ) → item sep at r ≡ fault j → j ≤ at + length r
  unfolding item
  item-most at j [] e = let q : at ≡ j = fault-same e in omega arith
  item-most at j (c ∷ cs) e = go (eqb c sep) e
    where
      go : (t : Bool) → cond t (placed at (length (before sep cs)) (number (before sep cs))) (fault at) ≡ fault j → j ≤ at + suc (length cs)
      go true e =
          let p = placed-wrong at (length (before sep cs)) j (number (before sep cs)) e in
          omega (arith, p.2, number-fault (before sep cs) p.0 p.1, before-length sep cs)
      go false e = let q : at ≡ j = fault-same e in omega arith

  -- and so does a number end
  pub item-found-most : (at v e : ℕ) (r : List ℕ) → item sep at r ≡ found v e → e ≤ at + length r
  unfolding item
  item-found-most at v e [] h = let z : ◌≡◌ {A = ℕ} 0 1 = cc in absurd (omega arith)
  item-found-most at v e (c ∷ cs) h = go (eqb c sep) h
    where
      go : (t : Bool) → cond t (placed at (length (before sep cs)) (number (before sep cs))) (fault at) ≡ found v e → e ≤ at + suc (length cs)
      go true h = omega (arith, placed-found at (length (before sep cs)) v e (number (before sep cs)) h, before-length sep cs)
      go false h = let z : ◌≡◌ {A = ℕ} 0 1 = cc in absurd (omega arith)
