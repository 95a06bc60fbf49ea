-- The rows that each weighing function goes through, decided from its branches. Assumes nothing.
use Prim.Native.Nat.{ℕ, ◌+◌, ◌*◌, ◌/◌, ◌%◌, ◌≤◌, ◌<◌}
use mathlib.Core.Path.{◌≡◌, sym, ap, ◌∙◌, subst}
use mathlib.Core.Bool.{Bool, cond, not, ◌||◌}
use mathlib.Core.List.{List, [], ◌∷◌}
use lib.ListN.{get_or}
use lib.Dec.{T, leb, ltb, eqb}
use borrow.Author.Tests.{eq-eqb, ne_eqb}
use Rattle.words.specs.Loops.{any}
use Rattle.words.specs.Pieces.{at}
use Rattle.words.specs.Rows.{Row, clear, refused, weigh, each}
use Rattle.words.proofs.Choices.{cond_cases, cond-true, cond-false, or_left, or_right, or-neither}
use Rattle.words.proofs.Rows.{either, refused-not-clear, weigh-none, weigh-held, weigh-passed, clear-cons, each-refused}
use Rattle.request.specs.Rows.{outside, criteria_row, size_rows, ratio_row, arc_words_row, arc_fault, fault_row, arc_row}
use Rattle.request.proofs.Tests.{lt-holds, lt-fails, le-holds, le-fails}

-- a row that alone is clear does not hold, and one that alone refuses does
pub row-passed : (r : Row) → weigh (r ∷ []) ≡ clear → T (not r.holds)
row-passed r e = (clear-cons r [] e).0

pub row-held : (r : Row) (f p : ℕ) → weigh (r ∷ []) ≡ refused f p → T r.holds × (refused r.number r.place ≡ refused f p)
row-held r f p e =
    either (T r.holds × (refused r.number r.place ≡ refused f p)) r.holds
    (λ t. (t, sym (weigh-held r [] t) ∙ e))
    (λ t. absurd (refused-not-clear f p (sym e ∙ weigh-passed r [] t ∙ weigh-none)))

-- ---- rows 2 to 5

module _ (n d s k : ℕ) where
  pub sizes-2 : T (outside 1 64 n) → weigh (size_rows n d s k) ≡ refused 2 0
  unfolding size_rows
  sizes-2 t = weigh-held _ _ t

  pub sizes-3 : (f p : ℕ) → T (not (outside 1 64 n)) → weigh (criteria_row d ∷ []) ≡ refused f p → weigh (size_rows n d s k) ≡ refused f p
  unfolding size_rows
  sizes-3 f p a e = let held = row-held (criteria_row d) f p e in weigh-passed _ _ a ∙ weigh-held _ _ held.0 ∙ held.1

  pub sizes-4 : T (not (outside 1 64 n)) → T (not (outside 2 3 d)) → n ≤ s → weigh (size_rows n d s k) ≡ refused 4 0
  unfolding size_rows
  sizes-4 a b h = weigh-passed _ _ a ∙ weigh-passed _ _ b ∙ weigh-held _ _ (le-holds h)

  pub sizes-5 : T (not (outside 1 64 n)) → T (not (outside 2 3 d)) → s < n → T (outside 0 63 k) → weigh (size_rows n d s k) ≡ refused 5 0
  unfolding size_rows
  sizes-5 a b h t = weigh-passed _ _ a ∙ weigh-passed _ _ b ∙ weigh-passed _ _ (le-fails h) ∙ weigh-held _ _ t

  pub sizes-clear : T (not (outside 1 64 n)) → T (not (outside 2 3 d)) → s < n → T (not (outside 0 63 k)) → weigh (size_rows n d s k) ≡ clear
  unfolding size_rows
  sizes-clear a b h t = weigh-passed _ _ a ∙ weigh-passed _ _ b ∙ weigh-passed _ _ (le-fails h) ∙ weigh-passed _ _ t ∙ weigh-none

-- ---- row 6

module _ (ratios : List ℕ) (j : ℕ) where
  abbrev p : ℕ
  p = get_or ratios (j * 2) 0

  abbrev q : ℕ
  q = get_or ratios (j * 2 + 1) 0

  pub ratio-q : T (outside 1 1000 q) → T (ratio_row ratios j).holds
  unfolding ratio_row
  ratio-q t = or_left (outside 1 1000 q) (outside 0 q p) t

  pub ratio-p : T (outside 0 q p) → T (ratio_row ratios j).holds
  unfolding ratio_row
  ratio-p t = or_right (outside 1 1000 q) (outside 0 q p) t

  pub ratio-good : T (not (outside 1 1000 q)) → T (not (outside 0 q p)) → T (not (ratio_row ratios j).holds)
  unfolding ratio_row
  ratio-good t u = or-neither (outside 1 1000 q) (outside 0 q p) t u

  -- the first bad ratio
  pub ratios-refused : (n : ℕ) → j < n → T (ratio_row ratios j).holds → ((i : ℕ) → i < j → T (not (ratio_row ratios i).holds)) → weigh (each (ratio_row ratios) n) ≡ refused 6 (j + 1)
  unfolding ratio_row
  ratios-refused n l t h = each-refused (ratio_row ratios) n j l t h

-- ---- row 7

module _ (words w : ℕ) where
  pub words-over : 0 < words % w → weigh (arc_words_row words w ∷ []) ≡ refused 7 0
  unfolding arc_words_row
  words-over h = weigh-held _ _ (or_left (ltb 0 (words % w)) (ltb 512 (words / w)) (lt-holds h))

  pub words-many : 512 < words / w → weigh (arc_words_row words w ∷ []) ≡ refused 7 0
  unfolding arc_words_row
  words-many h = weigh-held _ _ (or_right (ltb 0 (words % w)) (ltb 512 (words / w)) (lt-holds h))

  pub words-good : words % w ≤ 0 → words / w ≤ 512 → weigh (arc_words_row words w ∷ []) ≡ clear
  unfolding arc_words_row
  words-good h g = weigh-passed _ _ (or-neither (ltb 0 (words % w)) (ltb 512 (words / w)) (lt-fails h) (lt-fails g)) ∙ weigh-none

-- ---- row 8 with 17

-- an arc's fault is 8, 17 or none
pub fault-cases {κ} : (P : ℕ → Type κ) (n d : ℕ) (w : List ℕ) → P 8 → P 17 → P 0 → P (arc_fault n d w)
unfolding arc_fault
fault-cases P n d w eight seventeen none =
    cond_cases P (leb n (get_or w 0 0) || leb n (get_or w 1 0)) (λ _. eight)
    (λ _. cond_cases P (eqb (get_or w 0 0) (get_or w 1 0)) (λ _. seventeen) (λ _. cond_cases P (any (λ j. ltb 1000000 (get_or w (j + 2) 0)) d) (λ _. eight) (λ _. none)))

module _ (n d : ℕ) (w : List ℕ) where
  abbrev over : Bool
  over = any (λ j. ltb 1000000 (get_or w (j + 2) 0)) d

  abbrev off : Bool
  off = leb n (get_or w 0 0) || leb n (get_or w 1 0)

  abbrev costly : ℕ
  costly = cond over 8 0

  abbrev looped : ℕ
  looped = cond (eqb (get_or w 0 0) (get_or w 1 0)) 17 costly

  pub fault-tail : n ≤ get_or w 0 0 → arc_fault n d w ≡ 8
  unfolding arc_fault
  fault-tail h = cond-true off 8 looped (or_left (leb n (get_or w 0 0)) (leb n (get_or w 1 0)) (le-holds h))

  pub fault-head : n ≤ get_or w 1 0 → arc_fault n d w ≡ 8
  unfolding arc_fault
  fault-head h = cond-true off 8 looped (or_right (leb n (get_or w 0 0)) (leb n (get_or w 1 0)) (le-holds h))

  -- its nodes are in range
  module _ (tail_in : get_or w 0 0 < n) (head_in : get_or w 1 0 < n) where
    on : T (not off)
    on = or-neither (leb n (get_or w 0 0)) (leb n (get_or w 1 0)) (le-fails tail_in) (le-fails head_in)

    pub fault-loop : get_or w 0 0 ≡ get_or w 1 0 → arc_fault n d w ≡ 17
    unfolding arc_fault
    fault-loop e = cond-false off 8 looped on ∙ ap (λ (b : Bool). cond b 17 costly) (eq-eqb (get_or w 0 0) (get_or w 1 0) e)

    -- and they are two
    module _ (two : get_or w 0 0 ≡ get_or w 1 0 → ⊥) where
      past : arc_fault n d w ≡ costly
      unfolding arc_fault
      past = cond-false off 8 looped on ∙ ap (λ (b : Bool). cond b 17 costly) (ne_eqb (get_or w 0 0) (get_or w 1 0) two)

      pub fault-cost : T (any (λ j. ltb 1000000 (get_or w (j + 2) 0)) d) → arc_fault n d w ≡ 8
      fault-cost t = past ∙ cond-true over 8 0 t

      pub fault-none : T (not (any (λ j. ltb 1000000 (get_or w (j + 2) 0)) d)) → arc_fault n d w ≡ 0
      fault-none t = past ∙ cond-false over 8 0 t

-- an arc's row alone
pub fault-refused : (n d a f : ℕ) (w : List ℕ) → arc_fault n d w ≡ f → 0 < f → weigh (fault_row (arc_fault n d w) a ∷ []) ≡ refused f a
fault-refused n d a f w e h = ap (λ (z : ℕ). weigh (fault_row z a ∷ [])) e ∙ weigh-held (fault_row f a) [] (lt-holds h)

pub fault-clear : (n d a : ℕ) (w : List ℕ) → arc_fault n d w ≡ 0 → weigh (fault_row (arc_fault n d w) a ∷ []) ≡ clear
fault-clear n d a w e = ap (λ (z : ℕ). weigh (fault_row z a ∷ [])) e ∙ weigh-passed (fault_row 0 a) [] tt ∙ weigh-none

module _ (n d : ℕ) (arcs : List ℕ) (a : ℕ) where
  pub arc-good : arc_fault n d (at (d + 2) arcs a) ≤ 0 → T (not (arc_row n d arcs a).holds)
  unfolding arc_row
  arc-good h = lt-fails h

  -- the first bad arc
  pub arcs-refused : (m f : ℕ) → a < m → f ≡ arc_fault n d (at (d + 2) arcs a) → 0 < f → ((i : ℕ) → i < a → T (not (arc_row n d arcs i).holds)) → weigh (each (arc_row n d arcs) m) ≡ refused f a
  unfolding arc_row
  arcs-refused m f l e pos h =
      each-refused (arc_row n d arcs) m a l (lt-holds (rw e at pos)) h ∙ ap (λ (z : ℕ). refused z a) (sym e)

-- the arc's words are w: its row alone, in its place among the arcs
module _ (n d : ℕ) (arcs : List ℕ) (a : ℕ) (w : List ℕ) (is : w ≡ at (d + 2) arcs a) where
  same-row : fault_row (arc_fault n d w) a ≡ arc_row n d arcs a
  unfolding arc_row
  same-row = ap (λ (v : List ℕ). fault_row (arc_fault n d v) a) is

  pub arc-passed : weigh (fault_row (arc_fault n d w) a ∷ []) ≡ clear → T (not (arc_row n d arcs a).holds)
  arc-passed e = subst (λ (r : Row). T (not r.holds)) same-row (row-passed _ e)

  pub arc-stops : (m f p : ℕ) → a < m → ((i : ℕ) → i < a → T (not (arc_row n d arcs i).holds)) → weigh (fault_row (arc_fault n d w) a ∷ []) ≡ refused f p
      → weigh (each (arc_row n d arcs) m) ≡ refused f p
  arc-stops m f p l h e =
      let held = row-held (arc_row n d arcs a) f p (ap (λ (r : Row). weigh (r ∷ [])) (sym same-row) ∙ e) in
      each-refused (arc_row n d arcs) m a l held.0 h ∙ held.1
