-- The place of refusal 1 is the first bad line. Assumes nothing.
use Prim.Native.Nat.{ℕ, zero, suc, ◌+◌, ◌*◌, ◌≤◌, ◌<◌}
use mathlib.Core.Path.{◌≡◌, refl, ap, sym, ◌∙◌, subst}
use mathlib.Core.List.{List, [], ◌∷◌, ◌++◌, append_assoc}
use mathlib.Core.Bool.{Bool, true, false, cond, ◌||◌, false≢true}
use mathlib.Core.Logic.{◌⊎◌, inl, inr, ⊎_elim}
use native.Mathlib.Omega.{arith}
use lib.ListN.{length, drop, length-append, length-drop, replicate, length-replicate}
use lib.Dec.{eqb}
use Rattle.words.proofs.Choices.{lt-or-le}
use Rattle.words.proofs.Bounds.{at_most-none, at_most-replicate}
use Rattle.text.specs.Field.{before}
use Rattle.text.specs.Number.{largest}
use Rattle.text.specs.Line.{Got, good, bad, line_text}
use Rattle.text.proofs.Fields.{before-found}
use Rattle.text.specs.Fault.{Begins}
use Rattle.sheet.specs.Grammar.{lf, tab, ask_word, tracks_line, Kind, an_arc, an_ask, neither, kind_of, Contents, whole, broken, add_arc, at_end, judge, lines_from, after_first, sheet_of}
use Rattle.sheet.specs.Rendering.{sheet_text}
use Rattle.sheet.specs.Reader.{is_broken}
use Rattle.sheet.specs.FirstBad.{Accepted, ends, WholeLines, GoodUpTo, FirstBadLine}
use Rattle.sheet.proofs.Scan.{lines-loose}
use Rattle.sheet.proofs.First.{sheet-loose}
use Rattle.sheet.proofs.Cuts.{cut-whole, lines_cut, sheet-cut}
use Rattle.sheet.proofs.Rendered.{lines-ask, sheet-written}

-- ---- lines with no LF in them

-- a line that was cut out has none
cut-plain : (s : List ℕ) → before lf (before lf s) ≡ before lf s
unfolding before
cut-plain [] = refl
cut-plain (c ∷ cs) = go (eqb c lf) refl (cut-plain cs)
  where
    go : (t : Bool) → eqb c lf ≡ t → before lf (before lf cs) ≡ before lf cs → before lf (cond t [] (c ∷ before lf cs)) ≡ cond t [] (c ∷ before lf cs)
    go true q ih = refl
    go false q ih = rw q (ap (λ (l : List ℕ). c ∷ l) ih)

-- it ends no line
ends-plain : (l x : List ℕ) → before lf l ≡ l → ends (l ++ x) ≡ ends x
unfolding before ends
ends-plain [] x p = refl
ends-plain (c ∷ cs) x p = go (eqb c lf) (ends-plain cs x) p
  where
    go : (t : Bool) → (before lf cs ≡ cs → ends (cs ++ x) ≡ ends x) → cond t [] (c ∷ before lf cs) ≡ c ∷ cs → cond t (suc (ends (cs ++ x))) (ends (cs ++ x)) ≡ ends x
    go true ih p = let z : ◌≡◌ {A = ℕ} 0 1 = cc in absurd (omega arith)
    go false ih p = let q : before lf cs ≡ cs = cc in ih q

-- a line with its LF is one line more
ends-line : (l x : List ℕ) → before lf l ≡ l → ends (l ++ (lf ∷ x)) ≡ suc (ends x)
unfolding ends
ends-line l x p = ends-plain l (lf ∷ x) p

-- one line more in front
lines_more : (l p : List ℕ) → WholeLines p → WholeLines (l ++ (lf ∷ p))
lines_more l p (inl e) = inr (l, ap (λ (x : List ℕ). l ++ (lf ∷ x)) e)
lines_more l p (inr q) = inr (l ++ (lf ∷ q.0), ap (λ (x : List ℕ). l ++ (lf ∷ x)) q.1 ∙ sym (append_assoc l (lf ∷ q.0) (lf ∷ [])))

-- and before the parts of the rest
parts_more : (l r front rest : List ℕ) → r ≡ front ++ rest → l ++ (lf ∷ r) ≡ (l ++ (lf ∷ front)) ++ rest
parts_more l r front rest e = ap (λ (x : List ℕ). l ++ (lf ∷ x)) e ∙ sym (append_assoc l (lf ∷ front) rest)

-- the line that stands in front is the one that is cut out
same_line : (s line after : List ℕ) → before lf line ≡ line → s ≡ line ++ (lf ∷ after) → before lf s ≡ line
same_line s line after p e = ap (before lf) e ∙ cut-whole line after p

-- ---- the lines after the first

-- line j is the first bad one of the lines from line k on, after m arcs
record BadFrom (n d m k : ℕ) (s : List ℕ) (j : ℕ) : Type 0 where
  pub front : List ℕ
  pub rest : List ℕ
  pub parts : s ≡ front ++ rest
  pub lines : WholeLines front
  pub place : j ≡ k + ends front
  pub tail : List ℕ
  pub good_before : is_broken (lines_from n d m k [] (front ++ tail)) ≡ false
  pub bad_here : (line after t : List ℕ) → before lf line ≡ line → rest ≡ line ++ (lf ∷ after) → lines_from n d m k [] (front ++ (line ++ (lf ∷ t))) ≡ broken j

-- the very first of them is bad
at_once : (n d m k : ℕ) (s : List ℕ) → ((line after t : List ℕ) → before lf line ≡ line → s ≡ line ++ (lf ∷ after) → lines_from n d m k [] (line ++ (lf ∷ t)) ≡ broken k)
    → BadFrom n d m k s k
unfolding ends
at_once n d m k s h =
    record {
      front = [];
      rest = s;
      parts = refl;
      lines = inl refl;
      place = omega arith;
      tail = line_text tab ask_word (replicate (d * 2) 0);
      good_before = ap is_broken (lines-ask n d m k (replicate (d * 2) 0) (length-replicate (d * 2) 0) (at_most-replicate largest (d * 2)));
      bad_here = h;
    }

-- an arc in front breaks no sheet
add-broken : (vs : List ℕ) (p : Contents) (j : ℕ) → add_arc vs p ≡ broken j → p ≡ broken j
add-broken vs (whole n d m words asks) j e = let z : ◌≡◌ {A = ℕ} 0 1 = cc in absurd (omega arith)
add-broken vs (broken k) j e = e

-- and mends none
add-keeps : (vs : List ℕ) (p : Contents) → is_broken (add_arc vs p) ≡ is_broken p
add-keeps vs (whole n d m words asks) = refl
add-keeps vs (broken k) = refl

module _ (n d m k : ℕ) (l r : List ℕ) (p : before lf l ≡ l) where
  -- line k is an arc
  after-arc : (vs : List ℕ) (j : ℕ) → kind_of d m l ≡ an_arc vs → BadFrom n d (m + 1) (k + 1) r j → BadFrom n d m k (l ++ (lf ∷ r)) j
  after-arc vs j q b =
      let line-is : (x : List ℕ) → lines_from n d m k [] ((l ++ (lf ∷ b.front)) ++ x) ≡ add_arc vs (lines_from n d (m + 1) (k + 1) [] (b.front ++ x)) =
      λ x. ap (lines_from n d m k []) (append_assoc l (lf ∷ b.front) x) ∙ lines_cut l (b.front ++ x) (cut-whole l (b.front ++ x) p) n d m k
      ∙ ap (λ (g : Kind). judge g n d m k (b.front ++ x) (lines_from n d (m + 1) (k + 1) [] (b.front ++ x))) q in
      record {
        front = l ++ (lf ∷ b.front);
        rest = b.rest;
        parts = parts_more l r b.front b.rest b.parts;
        lines = lines_more l b.front b.lines;
        place = omega (arith, b.place, ends-line l b.front p);
        tail = b.tail;
        good_before = ap is_broken (line-is b.tail) ∙ add-keeps vs (lines_from n d (m + 1) (k + 1) [] (b.front ++ b.tail)) ∙ b.good_before;
        bad_here = λ line after t e f. line-is (line ++ (lf ∷ t)) ∙ ap (add_arc vs) (b.bad_here line after t e f);
      }

  -- line k is the ask, and more stands after it
  after-ask : (vs : List ℕ) → kind_of d m l ≡ an_ask vs → BadFrom n d m k (l ++ (lf ∷ r)) (k + 1)
  unfolding ends
  after-ask vs q =
      let line-is : (x : List ℕ) → lines_from n d m k [] ((l ++ (lf ∷ [])) ++ x) ≡ at_end x (whole n d m [] vs) (broken (k + 1)) =
      λ x. ap (lines_from n d m k []) (append_assoc l (lf ∷ []) x) ∙ lines_cut l x (cut-whole l x p) n d m k
      ∙ ap (λ (g : Kind). judge g n d m k x (lines_from n d (m + 1) (k + 1) [] x)) q in
      record {
        front = l ++ (lf ∷ []);
        rest = r;
        parts = sym (append_assoc l (lf ∷ []) r);
        lines = lines_more l [] (inl refl);
        place = omega (arith, ends-line l [] p);
        tail = [];
        good_before = ap is_broken (line-is []);
        bad_here = λ line after t e f. line-is (line ++ (lf ∷ t)) ∙ more line t;
      }
    where
      more : (line t : List ℕ) → at_end (line ++ (lf ∷ t)) (whole n d m [] vs) (broken (k + 1)) ≡ broken (k + 1)
      more [] t = refl
      more (c ∷ line) t = refl

  -- line k is neither
  neither-here : kind_of d m l ≡ neither → BadFrom n d m k (l ++ (lf ∷ r)) k
  neither-here q =
      at_once n d m k (l ++ (lf ∷ r))
      (λ line after t e f.
      let same : l ≡ line = sym (cut-whole l r p) ∙ same_line (l ++ (lf ∷ r)) line after e f in
      lines_cut line t (cut-whole line t e) n d m k
      ∙ ap (λ (g : Kind). judge g n d m k t (lines_from n d (m + 1) (k + 1) [] t)) (ap (kind_of d m) (sym same) ∙ q))

-- a sheet with no LF left has no line that ends
no_line : (s line after : List ℕ) → length s ≤ length (before lf s) → before lf line ≡ line → s ≡ line ++ (lf ∷ after) → ⊥
no_line s line after h p e =
    let a : length (before lf s) ≡ length line = ap length (same_line s line after p e) in
    let b : length s ≡ length line + suc (length after) = ap length e ∙ length-append line (lf ∷ after) in
    omega arith

-- by the kind of line k
judged-bad : (n d m k : ℕ) (l x : List ℕ) (j : ℕ) → before lf l ≡ l → (g : Kind) → kind_of d m l ≡ g
    → (lines_from n d (m + 1) (k + 1) [] x ≡ broken j → BadFrom n d (m + 1) (k + 1) x j)
    → judge g n d m k x (lines_from n d (m + 1) (k + 1) [] x) ≡ broken j → BadFrom n d m k (l ++ (lf ∷ x)) j
judged-bad n d m k l x j p (an_arc vs) q ih e = after-arc n d m k l x p vs j q (ih (add-broken vs (lines_from n d (m + 1) (k + 1) [] x) j e))
judged-bad n d m k l [] j p (an_ask vs) q ih e = let z : ◌≡◌ {A = ℕ} 0 1 = cc in absurd (omega arith)
judged-bad n d m k l (c ∷ x) j p (an_ask vs) q ih e = let f : k + 1 ≡ j = cc in subst (BadFrom n d m k (l ++ (lf ∷ (c ∷ x)))) f (after-ask n d m k l (c ∷ x) p vs q)
judged-bad n d m k l x j p neither q ih e = let f : k ≡ j = cc in subst (BadFrom n d m k (l ++ (lf ∷ x))) f (neither-here n d m k l x p q)

-- no line ends any more
loose-bad : (n d m k : ℕ) (s : List ℕ) (j : ℕ) → lines_from n d m k [] s ≡ broken j → length s ≤ length (before lf s) → BadFrom n d m k s j
loose-bad n d m k s j e u =
    let f = sym (lines-loose n d m k [] s u) ∙ e in
    let q : k ≡ j = cc in
    subst (BadFrom n d m k s) q (at_once n d m k s (λ line after t p g. absurd (no_line s line after u p g)))

-- one line ends, and then x follows
line-bad : (n d m k : ℕ) (s : List ℕ) (j : ℕ) → lines_from n d m k [] s ≡ broken j → length (before lf s) < length s
    → (lines_from n d (m + 1) (k + 1) [] (drop (suc (length (before lf s))) s) ≡ broken j → BadFrom n d (m + 1) (k + 1) (drop (suc (length (before lf s))) s) j)
    → BadFrom n d m k s j
line-bad n d m k s j e r ih =
    let l = before lf s in
    let x = drop (suc (length l)) s in
    let f : s ≡ l ++ (lf ∷ x) = before-found lf s r in
    let u = sym (lines_cut l x (cut-whole l x (cut-plain s)) n d m k) ∙ ap (lines_from n d m k []) (sym f) ∙ e in
    subst (λ (y : List ℕ). BadFrom n d m k y j) (sym f) (judged-bad n d m k l x j (cut-plain s) (kind_of d m l) refl ih u)

-- line by line, as long as there are bytes
bad-from : (fuel n d m k : ℕ) (s : List ℕ) (j : ℕ) → length s ≤ fuel → lines_from n d m k [] s ≡ broken j → BadFrom n d m k s j
bad-from zero n d m k s j h e = loose-bad n d m k s j e (omega arith)
bad-from (suc fuel) n d m k s j h e =
    ⊎_elim (λ r. line-bad n d m k s j e r (bad-from fuel n d (m + 1) (k + 1) (drop (suc (length (before lf s))) s) j (rw length-drop (omega arith))))
    (loose-bad n d m k s j e) (lt-or-le (length (before lf s)) (length s))

-- ---- the whole sheet

-- some sheet is accepted
some-sheet : Begins Accepted []
some-sheet = (
  sheet_text 0 2 0 [] (replicate 4 0),
  ap is_broken (sheet-written 0 2 0 [] (replicate 4 0) (record {
    at_least = omega arith;
    at_most = omega arith;
    arcs = omega arith;
    arc_words = refl;
    asked = refl;
    nodes_small = omega arith;
    words_small = at_most-none largest;
    asks_small = at_most-replicate largest 4;
  })),
)

-- line 1 is bad whatever follows, or the lines after it decide
first-decides : (g : Got) → ((y : List ℕ) → after_first g y ≡ broken 1) ⊎ ((n : ℕ) × (d : ℕ) × ((y : List ℕ) → after_first g y ≡ lines_from n d 0 2 [] y))
first-decides (bad j us) = inl (λ y. refl)
first-decides (good []) = inl (λ y. refl)
first-decides (good (n ∷ [])) = inl (λ y. refl)
first-decides (good (n ∷ (d ∷ vs))) = go (eqb d 2 || eqb d 3)
  where
    go : (t : Bool)
        → ((y : List ℕ) → cond t (lines_from n d 0 2 [] y) (broken 1) ≡ broken 1) ⊎ ((n' : ℕ) × (d' : ℕ) × ((y : List ℕ) → cond t (lines_from n d 0 2 [] y) (broken 1) ≡ lines_from n' d' 0 2 [] y))
    go true = inr (n, d, λ y. refl)
    go false = inl (λ y. refl)

-- a sheet whose first line is bad
first-is-bad : (s : List ℕ) → ((line after t : List ℕ) → before lf line ≡ line → s ≡ line ++ (lf ∷ after) → sheet_of (line ++ (lf ∷ t)) ≡ broken 1) → GoodUpTo s 1
unfolding ends
first-is-bad s h =
    record {
      front = [];
      rest = s;
      parts = refl;
      lines = inl refl;
      place = refl;
      good_before = some-sheet;
      bad_here = λ line after p e b. let f = ap is_broken (ap sheet_of (append_assoc line (lf ∷ []) b.0) ∙ h line after b.0 p e) in absurd (false≢true (sym b.1 ∙ f));
    }

-- and so is line l, where no sheet that begins with it is accepted
bad-whatever : (l x : List ℕ) (k : ℕ) → before lf l ≡ l → ((y : List ℕ) → sheet_of (l ++ (lf ∷ y)) ≡ broken 1) → broken 1 ≡ broken k → GoodUpTo (l ++ (lf ∷ x)) k
bad-whatever l x k p c e =
    let q : 1 ≡ k = cc in
    subst (GoodUpTo (l ++ (lf ∷ x))) q
    (first-is-bad (l ++ (lf ∷ x))
    (λ line after t u g.
    let same : l ≡ line = sym (cut-whole l x p) ∙ same_line (l ++ (lf ∷ x)) line after u g in
    ap (λ (z : List ℕ). sheet_of (z ++ (lf ∷ t))) (sym same) ∙ c t))

-- a sheet whose first line l is good, so that the lines x after it decide
later-is-bad : (n d : ℕ) (l x : List ℕ) (k : ℕ) → before lf l ≡ l → ((y : List ℕ) → sheet_of (l ++ (lf ∷ y)) ≡ lines_from n d 0 2 [] y) → BadFrom n d 0 2 x k
    → GoodUpTo (l ++ (lf ∷ x)) k
later-is-bad n d l x k p q b =
    record {
      front = l ++ (lf ∷ b.front);
      rest = b.rest;
      parts = parts_more l x b.front b.rest b.parts;
      lines = lines_more l b.front b.lines;
      place = omega (arith, b.place, ends-line l b.front p);
      good_before = (b.tail, ap is_broken (ap sheet_of (append_assoc l (lf ∷ b.front) b.tail) ∙ q (b.front ++ b.tail)) ∙ b.good_before);
      bad_here = λ line after e f g. not-accepted line after e f g.0 g.1;
    }
  where
    parts-of : (line t : List ℕ) → ((l ++ (lf ∷ b.front)) ++ (line ++ (lf ∷ []))) ++ t ≡ l ++ (lf ∷ (b.front ++ (line ++ (lf ∷ t))))
    parts-of line t = simp append_assoc

    not-accepted : (line after : List ℕ) → before lf line ≡ line → b.rest ≡ line ++ (lf ∷ after) → (t : List ℕ)
        → Accepted (((l ++ (lf ∷ b.front)) ++ (line ++ (lf ∷ []))) ++ t) → ⊥
    not-accepted line after e f t g =
        let h = ap is_broken (ap sheet_of (parts-of line t) ∙ q (b.front ++ (line ++ (lf ∷ t))) ∙ b.bad_here line after t e f) in
        false≢true (sym g ∙ h)

-- up to the place of refusal 1 the sheet is good
good-up-to : (s : List ℕ) (k : ℕ) → sheet_of s ≡ broken k → GoodUpTo s k
good-up-to s k e = ⊎_elim line loose (lt-or-le (length (before lf s)) (length s))
  where
    loose : length s ≤ length (before lf s) → GoodUpTo s k
    loose u =
        let f = sym (sheet-loose s (before lf s) refl u) ∙ e in
        let q : 1 ≡ k = cc in
        subst (GoodUpTo s) q (first-is-bad s (λ l after t p g. absurd (no_line s l after u p g)))

    line : length (before lf s) < length s → GoodUpTo s k
    line r =
        let l = before lf s in
        let x = drop (suc (length l)) s in
        let f : s ≡ l ++ (lf ∷ x) = before-found lf s r in
        let c : (y : List ℕ) → sheet_of (l ++ (lf ∷ y)) ≡ after_first (tracks_line l) y = λ y. sheet-cut l y (cut-whole l y (cut-plain s)) in
        let u : after_first (tracks_line l) x ≡ broken k = sym (c x) ∙ ap sheet_of (sym f) ∙ e in
        subst (λ (y : List ℕ). GoodUpTo y k) (sym f)
        (⊎_elim (λ b. bad-whatever l x k (cut-plain s) (λ y. c y ∙ b y) (sym (b x) ∙ u)) (λ b. later-is-bad b.0 b.1 l x k (cut-plain s) (λ y. c y ∙ b.2 y) (bad-from (length x) b.0 b.1 0 2 x k (omega arith) (sym (b.2 x) ∙ u)))
        (first-decides (tracks_line l)))

-- THE PLACE OF REFUSAL 1 IS THE FIRST BAD LINE
pub first-bad-line : (s : List ℕ) (k : ℕ) → sheet_of s ≡ broken k → FirstBadLine s k
first-bad-line s k e = record { bad = λ h. absurd (false≢true (sym h ∙ ap is_broken e)); first = good-up-to s k e }
