-- The places of a cell, by division: a place to look from in each ladder. Assumes nothing.
use Prim.Native.Nat.{ℕ, ◌-◌, ◌≤◌, ◌<◌}
use mathlib.Core.Path.{◌≡◌, ◌∙◌}
use mathlib.Core.List.{List}
use native.Mathlib.Nat.{le_refl}
use native.Mathlib.Decide.{ℕ_discrete}
use native.Mathlib.Omega.{arith}
use lib.ListN.{length, get_or, set, length-set}
use lib.Seq.{get_or-set_same, get_or-set_other}

-- those from j on are within their counts
pub record Digits (counts : List ℕ) (graded : ℕ) (places : List ℕ) (j : ℕ) : Type 0 where
  pub inside : j ≤ graded
  pub two : length places ≡ 2
  pub below : (i : ℕ) → j ≤ i → i < graded → get_or places i 0 < get_or counts i 0

pub none-divided : (counts : List ℕ) (graded : ℕ) (places : List ℕ) → length places ≡ 2 → Digits counts graded places graded
none-divided counts graded places e = record { inside = le_refl graded; two = e; below = λ i l h. absurd (omega arith) }

-- place j - 1, a remainder
pub one-divided : (counts : List ℕ) (graded : ℕ) (places : List ℕ) (j : ℕ) → Digits counts graded places j → graded ≤ 2 → 0 < j → (n : ℕ) → n < get_or counts (j - 1) 0
    → Digits counts graded (set places (j - 1) n) (j - 1)
one-divided counts graded places j g few some n h = record {
  inside = omega (arith, g.inside);
  two = length-set places (j - 1) n ∙ g.two;
  below = λ i l m. go i l m (ℕ_discrete i (j - 1));
}
  where
    go : (i : ℕ) → j - 1 ≤ i → i < graded → Dec (i ≡ j - 1) → get_or (set places (j - 1) n) i 0 < get_or counts i 0
    go i l m (yes e) = rw (e, get_or-set_same places (j - 1) n 0 (omega (arith, g.two, g.inside))) h
    go i l m (no f) = rw (get_or-set_other places (j - 1) i n 0 f) (g.below i (omega arith) m)
