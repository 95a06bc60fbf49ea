-- A line is good for a word and n numbers exactly where it is the word and the n numbers as they are written. Assumes nothing.
use Prim.Native.Nat.{ℕ, zero, suc, ◌+◌, ◌/◌, ◌%◌, ◌≤◌, ◌<◌}
use mathlib.Core.Path.{◌≡◌, refl, ap, sym, ◌∙◌, subst}
use mathlib.Core.List.{List, [], ◌∷◌, ◌++◌, append_assoc, append-nil}
use mathlib.Core.Logic.{◌↔◌}
use mathlib.Core.Bool.{Bool, true, false, cond}
use native.Mathlib.Omega.{arith}
use lib.ListN.{length, drop, length-append, drop_of_length-le}
use lib.Seq.{drop-append_seam, drop-drop}
use lib.Dec.{ltb, eqb}
use borrow.Author.Tests.{eq-eqb, ltb-false, eqb-true}
use Rattle.words.specs.Bounds.{AtMost}
use Rattle.words.proofs.Bounds.{at_most-at, at_most-none, at_most-cons, at_most-drop}
use Rattle.std.specs.Prelude.{Result, Ok, Err}
use Rattle.text.specs.declared.Fault.{Fault}
use Rattle.text.specs.declared.Item.{Item}
use Rattle.text.specs.Fault.{fault}
use Rattle.text.specs.Field.{before, common}
use Rattle.text.specs.Number.{number, digits, largest}
use Rattle.text.specs.Line.{Got, good, bad, found, placed, item, prepend, next, numbers, line_of, parted}
use Rattle.text.proofs.Results.{found-same}
use Rattle.text.proofs.Fields.{before-pass, before-first, before_split, common-append, common-was}
use Rattle.text.proofs.Digits.{by-tens, digits-small, digits_more, number_digits, number-was}
use Rattle.text.proofs.Lines.{numbers_more, numbers-end, line_of-whole}

-- ---- read after write

-- no digit is a byte that is below them all, as tab, LF and space are
pub before-digits : (b : ℕ) → b < 48 → (n : ℕ) (t : List ℕ) → before b (digits n ++ t) ≡ digits n ++ before b t
before-digits b l = by-tens (λ (n : ℕ). (t : List ℕ) → before b (digits n ++ t) ≡ digits n ++ before b t)
    (λ n s t. rw (digits-small n s) (before-pass b (48 + n) t (omega arith)))
    (λ n m ih t.
    rw (digits_more n m, append_assoc (digits (n / 10)) ((48 + n % 10) ∷ []) t, ih ((48 + n % 10) ∷ t), before-pass b (48 + n % 10) t (omega arith))
    (sym (append_assoc (digits (n / 10)) ((48 + n % 10) ∷ []) (before b t))))

module _ (sep : ℕ) (low : sep < 48) where
  -- a number ends where sep stands
  before-parted : (vs : List ℕ) → before sep (parted sep vs) ≡ []
  unfolding parted before
  before-parted [] = refl
  before-parted (v ∷ vs) = before-first sep (digits v ++ parted sep vs)

  -- a number after sep, and then more numbers
  item-parted : (at v : ℕ) (vs : List ℕ) → v ≤ largest → item sep at (sep ∷ (digits v ++ parted sep vs)) ≡ found v (at + 1 + length (digits v))
  unfolding item
  item-parted at v vs h =
      let f : before sep (digits v ++ parted sep vs) ≡ digits v = before-digits sep low v (parted sep vs) ∙ rw (before-parted vs) (append-nil (digits v)) in
      rw (eq-eqb sep sep refl, f, number_digits v h)

  -- numbers as they are written, after any bytes
  numbers-parted : (vs pre : List ℕ) → AtMost largest vs → numbers sep (length vs) (pre ++ parted sep vs) (length pre) ≡ good vs
  unfolding parted
  numbers-parted [] pre h = numbers-end sep (pre ++ []) (length pre) (rw append-nil (omega arith))
  numbers-parted (v ∷ vs) pre h =
      let a : (pre ++ (sep ∷ digits v)) ++ parted sep vs ≡ pre ++ (sep ∷ (digits v ++ parted sep vs)) = append_assoc pre (sep ∷ digits v) (parted sep vs) in
      let b : length (pre ++ (sep ∷ digits v)) ≡ length pre + 1 + length (digits v) = length-append pre (sep ∷ digits v) ∙ omega arith in
      let q : item sep (length pre) (drop (length pre) (pre ++ (sep ∷ (digits v ++ parted sep vs)))) ≡ found v (length pre + 1 + length (digits v))
      = rw drop-append_seam (item-parted (length pre) v vs (at_most-at largest (v ∷ vs) 0 h)) in
      let ih = numbers-parted vs (pre ++ (sep ∷ digits v)) (at_most-drop largest 1 (v ∷ vs) h) in
      numbers_more sep (length vs) (pre ++ (sep ∷ (digits v ++ parted sep vs))) (length pre) v (length pre + 1 + length (digits v)) q
      ∙ ap (prepend v) (rw (a, b) at ih)

  -- a word and numbers as they are written
  pub line_of-parted : (w vs : List ℕ) → AtMost largest vs → line_of sep w (length vs) (w ++ parted sep vs) ≡ good vs
  line_of-parted w vs h =
      let e : length w ≡ common w (w ++ parted sep vs) = sym (common-append w (parted sep vs)) in
      line_of-whole sep w (length vs) (w ++ parted sep vs) (length w) e (omega arith) ∙ numbers-parted vs w h

-- ---- write after read

-- what is left of a line begins with sep and the digits of v, and e is the byte after them
pub record Placed (sep at v e : ℕ) (r : List ℕ) : Type 0 where
  pub rest : List ℕ
  pub so : r ≡ sep ∷ (digits v ++ rest)
  pub after : e ≡ at + 1 + length (digits v)
  pub small : v ≤ largest

-- an item that was found was written so
pub item-was : (sep at v e : ℕ) (r : List ℕ) → item sep at r ≡ found v e → Placed sep at v e r
unfolding item
item-was sep at v e [] h = let z : ◌≡◌ {A = ℕ} 0 1 = cc in absurd (omega arith)
item-was sep at v e (c ∷ cs) h = go (eqb c sep) refl (number (before sep cs)) refl h
  where
    go : (t : Bool) → eqb c sep ≡ t → (g : Result ℕ Fault) → number (before sep cs) ≡ g
        → cond t (placed at (length (before sep cs)) g) (fault at) ≡ found v e → Placed sep at v e (c ∷ cs)
    go false q g n k = let z : ◌≡◌ {A = ℕ} 0 1 = cc in absurd (omega arith)
    go true q (Err f) n k = let z : ◌≡◌ {A = ℕ} 0 1 = cc in absurd (omega arith)
    go true q (Ok w) n k =
        let a : w ≡ v = (found-same k).0 in
        let b : at + 1 + length (before sep cs) ≡ e = (found-same k).1 in
        let d = number-was (before sep cs) w n in
        let f : before sep cs ≡ digits v = d.0 ∙ ap digits a in
        let l : w ≤ 99999999 = d.1 in
        record {
          rest = drop (length (before sep cs)) cs;
          so = rw (eqb-true c sep q, ← f, before_split sep cs);
          after = sym b ∙ ap (λ (x : List ℕ). at + 1 + length x) f;
          small = omega arith;
        }

-- what follows the number is what stands at the byte after it
placed-rest : (sep at v e : ℕ) (line : List ℕ) (p : Placed sep at v e (drop at line)) → drop e line ≡ p.rest
placed-rest sep at v e line p =
    let k : at + suc (length (digits v)) ≡ e = omega (arith, p.after) in
    ap (λ (i : ℕ). drop i line) (sym k)
    ∙ sym (drop-drop (suc (length (digits v))) at line)
    ∙ ap (drop (suc (length (digits v)))) p.so
    ∙ drop-append_seam (digits v) p.rest

-- what is left of a line is n numbers as they are written
abbrev Was : ℕ → ℕ → List ℕ → ℕ → List ℕ → Type 0
Was sep n line at vs = (drop at line ≡ parted sep vs) × (length vs ≡ n) × AtMost largest vs

-- numbers that were read were written so
numbers-was : (sep n : ℕ) (line : List ℕ) (at : ℕ) (vs : List ℕ) → numbers sep n line at ≡ good vs → Was sep n line at vs
unfolding numbers parted
numbers-was sep zero line at vs h = go (ltb at (length line)) refl vs h
  where
    go : (t : Bool) → ltb at (length line) ≡ t → (vs : List ℕ) → cond t (bad at []) (good []) ≡ good vs → Was sep zero line at vs
    go true q vs k = let z : ◌≡◌ {A = ℕ} 0 1 = cc in absurd (omega arith)
    go false q [] k = (drop_of_length-le line (ltb-false at (length line) q), refl, at_most-none largest)
    go false q (x ∷ xs) k = let z : ◌≡◌ {A = ℕ} 0 1 = cc in absurd (omega arith)
numbers-was sep (suc n) line at vs h = go (numbers-was sep n line) (item sep at (drop at line)) refl h
  where
    with_one : (v e : ℕ) → item sep at (drop at line) ≡ found v e → (ws : List ℕ) → Was sep n line e ws → Was sep (suc n) line at (v ∷ ws)
    with_one v e q ws w =
        let p = item-was sep at v e (drop at line) q in
        (p.so ∙ ap (λ (l : List ℕ). sep ∷ (digits v ++ l)) (sym (placed-rest sep at v e line p) ∙ w.0), ap suc w.1, at_most-cons largest v ws p.small w.2)

    after : (v e : ℕ) → item sep at (drop at line) ≡ found v e → ((ws : List ℕ) → numbers sep n line e ≡ good ws → Was sep n line e ws)
        → (g : Got) → numbers sep n line e ≡ g → (vs : List ℕ) → prepend v g ≡ good vs → Was sep (suc n) line at vs
    after v e q ih (bad j us) r vs k = let z : ◌≡◌ {A = ℕ} 0 1 = cc in absurd (omega arith)
    after v e q ih (good ws) r vs k =
        let a : v ∷ ws ≡ vs = cc in
        subst (Was sep (suc n) line at) a (with_one v e q ws (ih ws r))

    go : ((e : ℕ) (ws : List ℕ) → numbers sep n line e ≡ good ws → Was sep n line e ws)
        → (g : Result Item Fault) → item sep at (drop at line) ≡ g → next g (λ v e. prepend v (numbers sep n line e)) ≡ good vs → Was sep (suc n) line at vs
    go ih (Err f) q k = let z : ◌≡◌ {A = ℕ} 0 1 = cc in absurd (omega arith)
    go ih (Ok g) q k = after g.value g.end q (ih g.end) (numbers sep n line g.end) refl vs k

-- and so was a line
pub line_of-was : (sep : ℕ) (w : List ℕ) (n : ℕ) (line vs : List ℕ) → line_of sep w n line ≡ good vs → (line ≡ w ++ parted sep vs) × (length vs ≡ n) × AtMost largest vs
unfolding line_of
line_of-was sep w n line vs h = go (ltb (common w line) (length w)) refl h
  where
    go : (t : Bool) → ltb (common w line) (length w) ≡ t → cond t (bad (common w line) []) (numbers sep n line (length w)) ≡ good vs
        → (line ≡ w ++ parted sep vs) × (length vs ≡ n) × AtMost largest vs
    go true q k = let z : ◌≡◌ {A = ℕ} 0 1 = cc in absurd (omega arith)
    go false q k =
        let r = numbers-was sep n line (length w) vs k in
        (common-was w line (ltb-false (common w line) (length w) q) ∙ ap (λ (l : List ℕ). w ++ l) r.0, r.1, r.2)

-- A LINE IS ACCEPTED EXACTLY WHERE IT IS ITS WORD AND ITS NUMBERS AS THEY ARE WRITTEN, EACH AFTER sep (any byte below the digits)
pub line_of-iff : (sep : ℕ) → sep < 48 → (w : List ℕ) (n : ℕ) (line vs : List ℕ)
    → (line_of sep w n line ≡ good vs) ↔ ((line ≡ w ++ parted sep vs) × (length vs ≡ n) × AtMost largest vs)
line_of-iff sep low w n line vs =
    (line_of-was sep w n line vs, λ h. rw (h.0, ← h.1) (line_of-parted sep low w vs h.2))
