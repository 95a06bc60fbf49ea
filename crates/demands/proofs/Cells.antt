-- "A label's cell is j1 for d = 2 and j1 × B2 + j2 for d = 3", of what the build is asked: the one numbering over d, at the two. Assumes nothing.
use Prim.Native.Nat.{ℕ, ◌+◌, ◌-◌, ◌*◌}
use mathlib.Core.Path.{◌≡◌, ap, ◌∙◌}
use mathlib.Core.List.{List}
use native.Mathlib.Omega.{arith}
use lib.ListN.{get_or}
use Rattle.words.specs.Loops.{up_to}
use Rattle.words.specs.Radix.{radix}
use Rattle.request.specs.declared.Request.{Request}
use Rattle.request.specs.Request.{asked}
use Rattle.request.specs.Shape.{buckets, position, cell}

-- a number of one digit, and of two
one-digit : (b g : ℕ → ℕ) → radix b g 1 ≡ g 0
unfolding radix up_to
one-digit b g = omega arith

two_digits : (b g : ℕ → ℕ) → radix b g 2 ≡ g 0 * b 1 + g 1
unfolding radix up_to
two_digits b g = ap (λ (x : ℕ). x * b 1 + g 1) (one-digit b g)

module _ (q : Request) (arcs xs : List ℕ) where
  pub cell-two : q.criteria ≡ 2 → cell (asked q arcs) xs ≡ position (asked q arcs) 0 (get_or xs 0 0)
  unfolding cell
  cell-two d =
      let digit : ℕ → ℕ = λ j. position (asked q arcs) j (get_or xs j 0) in
      ap (λ (n : ℕ). radix (buckets (asked q arcs)) digit (n - 1)) d ∙ one-digit (buckets (asked q arcs)) digit

  pub cell-three : q.criteria ≡ 3
      → cell (asked q arcs) xs ≡ position (asked q arcs) 0 (get_or xs 0 0) * buckets (asked q arcs) 1 + position (asked q arcs) 1 (get_or xs 1 0)
  unfolding cell
  cell-three d =
      let digit : ℕ → ℕ = λ j. position (asked q arcs) j (get_or xs j 0) in
      ap (λ (n : ℕ). radix (buckets (asked q arcs)) digit (n - 1)) d ∙ two_digits (buckets (asked q arcs)) digit
