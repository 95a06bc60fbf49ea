-- The first line of a sheet, and what a whole sheet keeps from it. Assumes nothing.
use Prim.Native.Nat.{ℕ, ◌+◌, ◌*◌, ◌≤◌, ◌<◌}
use mathlib.Core.Path.{◌≡◌, refl, sym, ◌∙◌}
use mathlib.Core.List.{List, [], ◌∷◌}
use mathlib.Core.Bool.{Bool, true, false, cond, ◌||◌}
use mathlib.Core.Logic.{⊎_elim}
use native.Mathlib.Omega.{arith}
use native.Mathlib.Nat.{zero-mul}
use lib.ListN.{length, get_or, drop}
use lib.Dec.{eqb}
use borrow.Author.Tests.{lt-ltb, le-ltb, ne_eqb, eqb-true}
use Rattle.words.proofs.Choices.{lt-or-le}
use Rattle.words.proofs.Bounds.{at_most-at}
use Rattle.text.specs.Field.{before}
use Rattle.text.specs.Number.{largest}
use Rattle.std.proofs.Common.{is_err}
use Rattle.text.specs.Line.{Got, good, bad, answer_of}
use Rattle.text.proofs.Written.{line_of-was}
use Rattle.sheet.specs.Grammar.{lf, tab, tracks_word, tracks_line, whole, broken, lines_from, after_first, sheet_of}
use Rattle.sheet.specs.Rendering.{Sheetable}
use Rattle.sheet.proofs.Arcs.{Kept, lines-keeps}

-- a first line without its LF, and one with it
pub sheet-loose : (s line : List ℕ) → line ≡ before lf s → length s ≤ length line → sheet_of s ≡ broken 1
unfolding sheet_of
sheet-loose s line q h = rw (← q, le-ltb (length line) (length s) h)

-- a first line with its LF
pub sheet-line : (s line : List ℕ) → line ≡ before lf s → length line < length s → sheet_of s ≡ after_first (tracks_line line) (drop (length line + 1) s)
unfolding sheet_of
sheet-line s line q h = rw (← q, lt-ltb (length line) (length s) h)

-- ---- its numbers

-- they are not two numbers
pub first-err : (g : Got) (cs : List ℕ) → is_err (answer_of g) ≡ true → after_first g cs ≡ broken 1
first-err (good vs) cs e = let z : ◌≡◌ {A = ℕ} 0 1 = cc in absurd (omega arith)
first-err (bad j vs) cs e = refl

-- d is 2 or 3
pub first_in : (vs cs : List ℕ) → length vs ≡ 2 → 2 ≤ get_or vs 1 0 → get_or vs 1 0 ≤ 3
    → after_first (good vs) cs ≡ lines_from (get_or vs 0 0) (get_or vs 1 0) 0 2 [] cs
first_in [] cs l lo hi = absurd (omega arith)
first_in (n ∷ []) cs l lo hi = absurd (omega arith)
first_in (n ∷ (d ∷ vs)) cs l lo hi =
    ⊎_elim (λ s. let q : d ≡ 2 = omega arith in rw q) (λ s. let q : d ≡ 3 = omega arith in rw q) (lt-or-le d 3)

-- d is another number
pub first-other : (vs cs : List ℕ) → (get_or vs 1 0 ≡ 2 → ⊥) → (get_or vs 1 0 ≡ 3 → ⊥) → after_first (good vs) cs ≡ broken 1
first-other [] cs a b = refl
first-other (n ∷ []) cs a b = refl
first-other (n ∷ (d ∷ vs)) cs a b = rw (ne_eqb d 2 a, ne_eqb d 3 b)

-- ---- the first line of a whole sheet

-- its numbers, the lines after it, and what they keep
pub record Begun (n d m : ℕ) (s words asks line : List ℕ) : Type 0 where
  pub room : length line < length s
  pub at_least : 2 ≤ d
  pub at_most : d ≤ 3
  pub after : lines_from n d 0 2 [] (drop (length line + 1) s) ≡ whole n d m words asks
  pub extra : List ℕ
  pub says : tracks_line line ≡ good (n ∷ (d ∷ extra))
  pub kept : Kept n d 0 n d m words asks

-- a sheet that is whole has N and d, 2 or 3, on line 1
first-was : (g : Got) (cs : List ℕ) (n d m : ℕ) (words asks : List ℕ) → after_first g cs ≡ whole n d m words asks
    → (2 ≤ d) × (d ≤ 3) × (lines_from n d 0 2 [] cs ≡ whole n d m words asks) × ((vs : List ℕ) × (g ≡ good (n ∷ (d ∷ vs))))
first-was (bad j us) cs n d m words asks e = let z : ◌≡◌ {A = ℕ} 0 1 = cc in absurd (omega arith)
first-was (good []) cs n d m words asks e = let z : ◌≡◌ {A = ℕ} 0 1 = cc in absurd (omega arith)
first-was (good (x ∷ [])) cs n d m words asks e = let z : ◌≡◌ {A = ℕ} 0 1 = cc in absurd (omega arith)
first-was (good (x ∷ (y ∷ vs))) cs n d m words asks e = go (eqb y 2) refl (eqb y 3) refl e
  where
    same : 2 ≤ y → y ≤ 3 → lines_from x y 0 2 [] cs ≡ whole n d m words asks
        → (2 ≤ d) × (d ≤ 3) × (lines_from n d 0 2 [] cs ≡ whole n d m words asks) × ((us : List ℕ) × (good (x ∷ (y ∷ vs)) ≡ good (n ∷ (d ∷ us))))
    same lo hi e =
        let k = lines-keeps x y 0 2 [] cs n d m words asks e in
        let p = k.nodes in
        let q = k.criteria in
        (omega arith, omega arith, rw (p, q) at e, (vs, rw (p, q)))

    go : (t : Bool) → eqb y 2 ≡ t → (u : Bool) → eqb y 3 ≡ u → cond (t || u) (lines_from x y 0 2 [] cs) (broken 1) ≡ whole n d m words asks
        → (2 ≤ d) × (d ≤ 3) × (lines_from n d 0 2 [] cs ≡ whole n d m words asks) × ((us : List ℕ) × (good (x ∷ (y ∷ vs)) ≡ good (n ∷ (d ∷ us))))
    go true a u b e = same (omega (arith, eqb-true y 2 a)) (omega (arith, eqb-true y 2 a)) e
    go false a true b e = same (omega (arith, eqb-true y 3 b)) (omega (arith, eqb-true y 3 b)) e
    go false a false b e = let z : ◌≡◌ {A = ℕ} 0 1 = cc in absurd (omega arith)

-- the same of a whole sheet whose first line was cut
pub sheet-begun : (n d m : ℕ) (s words asks line : List ℕ) → line ≡ before lf s → sheet_of s ≡ whole n d m words asks → Begun n d m s words asks line
sheet-begun n d m s words asks line q e =
    ⊎_elim (λ r.
    let b = first-was (tracks_line line) (drop (length line + 1) s) n d m words asks (sym (sheet-line s line q r) ∙ e) in
    record {
      room = r;
      at_least = b.0;
      at_most = b.1;
      after = b.2;
      extra = b.3.0;
      says = b.3.1;
      kept = lines-keeps n d 0 2 [] (drop (length line + 1) s) n d m words asks b.2;
    })
    (λ u. let f = sym (sheet-loose s line q u) ∙ e in let z : ◌≡◌ {A = ℕ} 0 1 = cc in absurd (omega arith))
    (lt-or-le (length line) (length s))

-- what a whole sheet says can be written
pub sheetable : (n d m : ℕ) (s words asks : List ℕ) → sheet_of s ≡ whole n d m words asks → Sheetable n d m words asks
sheetable n d m s words asks e =
    let b = sheet-begun n d m s words asks (before lf s) refl e in
    let k = b.kept in
    let z : 0 * (d + 2) ≡ 0 = zero-mul (d + 2) in
    record {
      at_least = b.at_least;
      at_most = b.at_most;
      arcs = k.limit (omega arith);
      arc_words = omega (arith, k.count);
      asked = k.asked;
      nodes_small = at_most-at largest (n ∷ (d ∷ b.extra)) 0 (line_of-was tab tracks_word 2 (before lf s) (n ∷ (d ∷ b.extra)) b.says).2;
      words_small = k.words_small;
      asks_small = k.asks_small;
    }
