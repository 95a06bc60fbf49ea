-- The byte at fault in a line: what stands before it begins a good line, and no good line begins with what stands up to it. Assumes nothing.
use Prim.Native.Nat.{ℕ, zero, suc, ◌+◌, ◌-◌, ◌≤◌, ◌<◌}
use mathlib.Core.Path.{◌≡◌, refl, ap, sym, ◌∙◌}
use mathlib.Core.List.{List, [], ◌∷◌, ◌++◌, append_assoc}
use mathlib.Core.Bool.{Bool, true, false, cond}
use native.Mathlib.Omega.{arith}
use lib.ListN.{length, take, drop, replicate, length-replicate, length-append, length-drop, take-append-drop}
use lib.Seq.{drop-append-le, take-add, length-take-le, take-append_seam}
use lib.Dec.{ltb}
use borrow.Author.Tests.{lt-ltb, le-ltb, ltb-true, ltb-false}
use Rattle.words.specs.Bounds.{AtMost}
use Rattle.words.proofs.Bounds.{at_most-none, at_most-cons, at_most-replicate}
use Rattle.std.specs.Prelude.{Result, Ok, Err}
use Rattle.text.specs.declared.Fault.{Fault}
use Rattle.text.specs.declared.Item.{Item}
use Rattle.text.specs.Fault.{fault}
use Rattle.text.specs.Field.{common}
use Rattle.text.specs.Number.{digits, largest}
use Rattle.text.specs.Line.{Got, good, bad, found, item, prepend, next, numbers, line_of, answer_of, parted}
use Rattle.text.specs.Fault.{FirstFault}
use Rattle.text.proofs.Results.{fault-same}
use Rattle.text.proofs.Fields.{common-was, common-local, common-whole, common-take, common-most}
use Rattle.text.proofs.Written.{line_of-parted, item-was}
use Rattle.text.proofs.ItemFaults.{item-wrong-least, item-found-least, item-wrong-local, item-found-local, item-most, item-found-most, item-begins}

-- a number more in front does not change the answer
answer-of : (v : ℕ) (g : Got) → answer_of (prepend v g) ≡ answer_of g
answer-of v (good vs) = refl
answer-of v (bad i vs) = refl

-- so a fault after it is the same fault
bad-of : (v j : ℕ) (g : Got) → answer_of (prepend v g) ≡ fault j → answer_of g ≡ fault j
bad-of v j g e = sym (answer-of v g) ∙ e

module _ (sep : ℕ) where
  -- a fault is not before the byte at which the reader stands
  numbers-least : (n : ℕ) (line : List ℕ) (at j : ℕ) → answer_of (numbers sep n line at) ≡ fault j → at ≤ j
  unfolding numbers
  numbers-least zero line at j e = go (ltb at (length line)) e
    where
      go : (t : Bool) → answer_of (cond t (bad at []) (good [])) ≡ fault j → at ≤ j
      go true e = let q : at ≡ j = fault-same e in omega arith
      go false e = let z : ◌≡◌ {A = ℕ} 0 1 = cc in absurd (omega arith)
  numbers-least (suc n) line at j e = go (numbers-least n line) (item sep at (drop at line)) refl e
    where
      go : ((e j : ℕ) → answer_of (numbers sep n line e) ≡ fault j → e ≤ j) → (g : Result Item Fault) → item sep at (drop at line) ≡ g → answer_of (next g (λ v e. prepend v (numbers sep n line e))) ≡ fault j → at ≤ j
      go ih (Err f) q h = let p : f.at ≡ j = fault-same h in omega (arith, item-wrong-least sep at f.at (drop at line) q)
      go ih (Ok g) q h =
          let k = ih g.end j (bad-of g.value j (numbers sep n line g.end) h) in
          omega (arith, item-found-least sep at g.value g.end (drop at line) q)

  -- a fault within p does not turn on what follows p
  numbers-local : (n : ℕ) (p u u' : List ℕ) (at j : ℕ) → answer_of (numbers sep n (p ++ u) at) ≡ fault j → at ≤ length p → j < length p → answer_of (numbers sep n (p ++ u') at) ≡ fault j
  unfolding numbers
  numbers-local zero p u u' at j e h l = go (ltb at (length (p ++ u))) e
    where
      go : (t : Bool) → answer_of (cond t (bad at []) (good [])) ≡ fault j → answer_of (cond (ltb at (length (p ++ u'))) (bad at []) (good [])) ≡ fault j
      go true e =
          let q : at ≡ j = fault-same e in
          let m : at < length (p ++ u') = rw length-append (omega arith) in
          rw (lt-ltb at (length (p ++ u')) m) e
      go false e = let z : ◌≡◌ {A = ℕ} 0 1 = cc in absurd (omega arith)
  numbers-local (suc n) p u u' at j e h l = go (numbers-local n p u u') (item sep at (drop at (p ++ u))) refl e
    where
      r : length (drop at p) ≡ length p - at
      r = length-drop at p

      go : ((at j : ℕ) → answer_of (numbers sep n (p ++ u) at) ≡ fault j → at ≤ length p → j < length p → answer_of (numbers sep n (p ++ u') at) ≡ fault j)
          → (g : Result Item Fault) → item sep at (drop at (p ++ u)) ≡ g → answer_of (next g (λ v e. prepend v (numbers sep n (p ++ u) e))) ≡ fault j
          → answer_of (next (item sep at (drop at (p ++ u'))) (λ v e. prepend v (numbers sep n (p ++ u') e))) ≡ fault j
      go ih (Err f) q k =
          let a : f.at ≡ j = fault-same k in
          let b : item sep at (drop at p ++ u) ≡ fault f.at = ap (item sep at) (sym (drop-append-le at p u h)) ∙ q in
          let c : item sep at (drop at (p ++ u')) ≡ fault f.at = ap (item sep at) (drop-append-le at p u' h) ∙ item-wrong-local sep at f.at (drop at p) u u' b (omega (arith, r)) in
          rw c k
      go ih (Ok g) q k =
          let f = bad-of g.value j (numbers sep n (p ++ u) g.end) k in
          let m = numbers-least n (p ++ u) g.end j f in
          let b : item sep at (drop at p ++ u) ≡ found g.value g.end = ap (item sep at) (sym (drop-append-le at p u h)) ∙ q in
          let c : item sep at (drop at (p ++ u')) ≡ found g.value g.end = ap (item sep at) (drop-append-le at p u' h) ∙ item-found-local sep at g.value g.end (drop at p) u u' b (omega (arith, r)) in
          rw c (answer-of g.value (numbers sep n (p ++ u') g.end) ∙ ih g.end j f (omega arith) l)

  -- a fault within p does not turn on what follows p
  line_of-local : (w : List ℕ) (n : ℕ) (p u u' : List ℕ) (j : ℕ) → answer_of (line_of sep w n (p ++ u)) ≡ fault j → j < length p → answer_of (line_of sep w n (p ++ u')) ≡ fault j
  unfolding line_of
  line_of-local w n p u u' j e l = go (ltb (common w (p ++ u)) (length w)) refl e
    where
      go : (t : Bool) → ltb (common w (p ++ u)) (length w) ≡ t → answer_of (cond t (bad (common w (p ++ u)) []) (numbers sep n (p ++ u) (length w))) ≡ fault j
          → answer_of (cond (ltb (common w (p ++ u')) (length w)) (bad (common w (p ++ u')) []) (numbers sep n (p ++ u') (length w))) ≡ fault j
      go true q e =
          let a : common w (p ++ u) ≡ j = fault-same e in
          let b = ltb-true (common w (p ++ u)) (length w) q in
          let c = common-local w p u u' b (omega arith) in
          rw (c, q) e
      go false q e =
          let m = numbers-least n (p ++ u) (length w) j e in
          let b = ltb-false (common w (p ++ u)) (length w) q in
          let c = common-whole w p u u' (omega arith) b in
          rw (le-ltb (common w (p ++ u')) (length w) c) (numbers-local n p u u' (length w) j e (omega arith) l)

  -- no line of the word w and n numbers begins with what stands up to the byte at fault
  line_of-fault : (w : List ℕ) (n : ℕ) (line : List ℕ) (j : ℕ) → answer_of (line_of sep w n line) ≡ fault j → j < length line
      → (t vs : List ℕ) → line_of sep w n (take (j + 1) line ++ t) ≡ good vs → ⊥
  line_of-fault w n line j e l t vs h =
      let a : answer_of (line_of sep w n (take (j + 1) line ++ drop (j + 1) line)) ≡ fault j = rw take-append-drop e in
      let k : length (take (j + 1) line) ≡ j + 1 = length-take-le (j + 1) line (omega arith) in
      let q : fault j ≡ Ok tt = sym (line_of-local w n (take (j + 1) line) (drop (j + 1) line) t j a (omega arith)) ∙ ap answer_of h in
      let z : ◌≡◌ {A = ℕ} 0 1 = cc in omega arith

  -- ---- and some good line begins with what stands before the byte at fault

  -- a line that begins with what stands before byte j, and from byte `at` on is n numbers
  record LineBegins (n : ℕ) (line : List ℕ) (at j : ℕ) : Type 0 where
    vs : List ℕ
    t : List ℕ
    so : take j line ++ t ≡ take at line ++ parted sep vs
    many : length vs ≡ n
    small : AtMost largest vs

  -- what stands before the fault begins a line of n numbers
  numbers-begins : (n : ℕ) (line : List ℕ) (at j : ℕ) → answer_of (numbers sep n line at) ≡ fault j → LineBegins n line at j
  unfolding numbers parted
  numbers-begins zero line at j e = go (ltb at (length line)) e
    where
      go : (t : Bool) → answer_of (cond t (bad at []) (good [])) ≡ fault j → LineBegins zero line at j
      go true e = let q : at ≡ j = fault-same e in record { vs = []; t = []; so = rw q; many = refl; small = at_most-none largest }
      go false e = let z : ◌≡◌ {A = ℕ} 0 1 = cc in absurd (omega arith)
  numbers-begins (suc n) line at j e = go (numbers-begins n line) (item sep at (drop at line)) refl e
    where
      wrong : item sep at (drop at line) ≡ fault j → LineBegins (suc n) line at j
      wrong q =
          let b = item-begins sep at j (drop at line) q in
          let l = item-wrong-least sep at j (drop at line) q in
          let m : at + (j - at) ≡ j = omega arith in
          record {
            vs = b.v ∷ replicate n 0;
            t = b.t ++ parted sep (replicate n 0);
            so = split (take (j - at) (drop at line)) b.t b.v (take j line) (ap (λ (i : ℕ). take i line) (sym m) ∙ take-add at (j - at) line) b.so;
            many = ap suc (length-replicate n 0);
            small = at_most-cons largest b.v (replicate n 0) b.small (at_most-replicate largest n);
          }
        where
          split : (x t : List ℕ) (v : ℕ) (y : List ℕ) → y ≡ take at line ++ x → x ++ t ≡ sep ∷ digits v
              → y ++ (t ++ parted sep (replicate n 0)) ≡ take at line ++ (sep ∷ (digits v ++ parted sep (replicate n 0)))
          split x t v y e f =
              ap (λ (l : List ℕ). l ++ (t ++ parted sep (replicate n 0))) e
              ∙ append_assoc (take at line) x (t ++ parted sep (replicate n 0))
              ∙ ap (λ (l : List ℕ). take at line ++ l) (sym (append_assoc x t (parted sep (replicate n 0))) ∙ ap (λ (l : List ℕ). l ++ parted sep (replicate n 0)) f)

      with_one : (v e : ℕ) → item sep at (drop at line) ≡ found v e → LineBegins n line e j → LineBegins (suc n) line at j
      with_one v e q b =
          let p = item-was sep at v e (drop at line) q in
          let m : at + suc (length (digits v)) ≡ e = omega (arith, p.after) in
          let k : take e line ≡ take at line ++ (sep ∷ digits v) =
          ap (λ (i : ℕ). take i line) (sym m) ∙ take-add at (suc (length (digits v))) line
          ∙ ap (λ (l : List ℕ). take at line ++ l) (ap (take (suc (length (digits v)))) p.so ∙ ap (λ (l : List ℕ). sep ∷ l) (take-append_seam (digits v) p.rest)) in
          record {
            vs = v ∷ b.vs;
            t = b.t;
            so = b.so ∙ ap (λ (l : List ℕ). l ++ parted sep b.vs) k ∙ append_assoc (take at line) (sep ∷ digits v) (parted sep b.vs);
            many = ap suc b.many;
            small = at_most-cons largest v b.vs p.small b.small;
          }

      go : ((at j : ℕ) → answer_of (numbers sep n line at) ≡ fault j → LineBegins n line at j) → (g : Result Item Fault) → item sep at (drop at line) ≡ g
          → answer_of (next g (λ v e. prepend v (numbers sep n line e))) ≡ fault j → LineBegins (suc n) line at j
      go ih (Err f) q k = let a : f.at ≡ j = fault-same k in wrong (q ∙ ap fault a)
      go ih (Ok g) q k = with_one g.value g.end q (ih g.end j (bad-of g.value j (numbers sep n line g.end) k))

  -- some line of the word w and n numbers begins with what stands before the byte at fault
  line_of-begins : sep < 48 → (w : List ℕ) (n : ℕ) (line : List ℕ) (j : ℕ) → answer_of (line_of sep w n line) ≡ fault j → (t vs : List ℕ) × (line_of sep w n (take j line ++ t) ≡ good vs)
  unfolding line_of
  line_of-begins low w n line j e = go (ltb (common w line) (length w)) refl e
    where
      written : (l vs : List ℕ) → l ≡ w ++ parted sep vs → length vs ≡ n → AtMost largest vs → line_of sep w n l ≡ good vs
      written l vs e m s = rw (e, ← m) (line_of-parted sep low w vs s)

      word : common w line ≡ j → (t vs : List ℕ) × (line_of sep w n (take j line ++ t) ≡ good vs)
      word a =
          let k : take j line ≡ take j w = ap (λ (i : ℕ). take i line) (sym a) ∙ common-take w line ∙ ap (λ (i : ℕ). take i w) a in
          let q : take j line ++ (drop j w ++ parted sep (replicate n 0)) ≡ w ++ parted sep (replicate n 0) =
          rw k (sym (append_assoc (take j w) (drop j w) (parted sep (replicate n 0))) ∙ rw take-append-drop) in
          (drop j w ++ parted sep (replicate n 0), replicate n 0, written (take j line ++ (drop j w ++ parted sep (replicate n 0))) (replicate n 0) q (length-replicate n 0) (at_most-replicate largest n))

      go : (t : Bool) → ltb (common w line) (length w) ≡ t → answer_of (cond t (bad (common w line) []) (numbers sep n line (length w))) ≡ fault j
          → (t vs : List ℕ) × (line_of sep w n (take j line ++ t) ≡ good vs)
      go true q e = let a : common w line ≡ j = fault-same e in word a
      go false q e =
          let b = numbers-begins n line (length w) j e in
          let c : take (length w) line ≡ w = ap (take (length w)) (common-was w line (ltb-false (common w line) (length w) q)) ∙ take-append_seam w (drop (length w) line) in
          (b.t, b.vs, written (take j line ++ b.t) b.vs (b.so ∙ ap (λ (l : List ℕ). l ++ parted sep b.vs) c) b.many b.small)

  -- a fault is within the line, or at its end
  numbers-most : (n : ℕ) (line : List ℕ) (at j : ℕ) → at ≤ length line → answer_of (numbers sep n line at) ≡ fault j → j ≤ length line
  unfolding numbers
  numbers-most zero line at j h e = go (ltb at (length line)) e
    where
      go : (t : Bool) → answer_of (cond t (bad at []) (good [])) ≡ fault j → j ≤ length line
      go true e = let q : at ≡ j = fault-same e in omega arith
      go false e = let z : ◌≡◌ {A = ℕ} 0 1 = cc in absurd (omega arith)
  numbers-most (suc n) line at j h e = go (numbers-most n line) (item sep at (drop at line)) refl e
    where
      go : ((at j : ℕ) → at ≤ length line → answer_of (numbers sep n line at) ≡ fault j → j ≤ length line) → (g : Result Item Fault) → item sep at (drop at line) ≡ g
          → answer_of (next g (λ v e. prepend v (numbers sep n line e))) ≡ fault j → j ≤ length line
      go ih (Err f) q k = let a : f.at ≡ j = fault-same k in omega (arith, item-most sep at f.at (drop at line) q, length-drop at line)
      go ih (Ok g) q k = ih g.end j (omega (arith, item-found-most sep at g.value g.end (drop at line) q, length-drop at line)) (bad-of g.value j (numbers sep n line g.end) k)

  -- and so with its word
  line_of-most : (w : List ℕ) (n : ℕ) (line : List ℕ) (j : ℕ) → answer_of (line_of sep w n line) ≡ fault j → j ≤ length line
  unfolding line_of
  line_of-most w n line j e = go (ltb (common w line) (length w)) refl e
    where
      go : (t : Bool) → ltb (common w line) (length w) ≡ t → answer_of (cond t (bad (common w line) []) (numbers sep n line (length w))) ≡ fault j → j ≤ length line
      go true q e = let a : common w line ≡ j = fault-same e in omega (arith, common-most w line)
      go false q e = numbers-most n line (length w) j (omega (arith, common-most w line, ltb-false (common w line) (length w) q)) e

  -- THE FAULT THAT IS ANSWERED FOR A LINE IS THE FIRST
  pub line-first-fault : sep < 48 → (w : List ℕ) (n : ℕ) (line : List ℕ) (j : ℕ) → answer_of (line_of sep w n line) ≡ fault j
      → FirstFault (λ (l : List ℕ). (vs : List ℕ) × (line_of sep w n l ≡ good vs)) line j
  line-first-fault low w n line j e =
      let b = line_of-begins low w n line j e in
      record { inside = line_of-most w n line j e; before = (b.0, (b.1, b.2)); not_beyond = λ l x. line_of-fault w n line j e l x.0 x.1.0 x.1.1 }
