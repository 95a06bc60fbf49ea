-- The comparison of a candidate with a cell, as the code makes it. Assumes nothing.
use Prim.Native.Nat.{ℕ, ◌-◌, ◌≤◌}
use mathlib.Core.Path.{◌≡◌, sym, ap, ap₂, ◌∙◌}
use mathlib.Core.Bool.{Bool, true, false, not, ◌||◌}
use mathlib.Core.List.{List}
use native.Mathlib.Omega.{arith}
use lib.ListN.{get_or, take}
use lib.Seq.{get_or-take}
use lib.Dec.{ltb}
use Rattle.request.specs.Request.{lower}
use Rattle.labels.specs.Words.{wins_over}

module _ (d : ℕ) (l old : List ℕ) where
  -- an empty cell
  pub wins-empty : ltb 0 (get_or old d 0) ≡ false → true ≡ wins_over d l old
  unfolding wins_over
  wins-empty e = sym (ap (λ (b : Bool). not b || lower d (take d l) (take d old)) e)

  -- a filled one: the last costs decide
  pub wins-filled : 1 ≤ d → ltb 0 (get_or old d 0) ≡ true → ltb (get_or l (d - 1) 0) (get_or old (d - 1) 0) ≡ wins_over d l old
  unfolding wins_over lower
  wins-filled h e =
      ap₂ (λ (x y : ℕ). ltb x y) (sym (get_or-take d l (d - 1) 0 (omega arith))) (sym (get_or-take d old (d - 1) 0 (omega arith)))
      ∙ sym (ap (λ (b : Bool). not b || ltb (get_or (take d l) (d - 1) 0) (get_or (take d old) (d - 1) 0)) e)
