-- Texts one after another: where the next ends, and that there is room for it. Assumes nothing.
use Prim.Native.Nat.{ℕ, ◌+◌, ◌-◌, ◌≤◌}
use mathlib.Core.Path.{◌≡◌, sym, ap, ◌∙◌}
use mathlib.Core.List.{List}
use native.Mathlib.Omega.{arith}
use lib.ListN.{length, length-append}
use Rattle.words.specs.Pieces.{write, join}
use Rattle.words.proofs.Pieces.{join-zero, join-next, join-add}
use Rattle.words.proofs.Writes.{write-none}

module _ (f : ℕ → List ℕ) where
  -- the next ends so many bytes on
  pub join-end : (i : ℕ) → length (join f (i + 1)) ≡ length (join f i) + length (f i)
  join-end i = ap length (join-next f i) ∙ length-append (join f i) (f i)

  -- the first i take no more bytes than all m
  pub join-room : (i m : ℕ) → i ≤ m → length (join f i) ≤ length (join f m)
  join-room i m h =
      let e : i + (m - i) ≡ m = omega arith in
      let l : length (join f (i + (m - i))) ≡ length (join f i) + length (join (λ k. f (i + k)) (m - i)) =
      ap length (join-add f i (m - i)) ∙ length-append (join f i) (join (λ k. f (i + k)) (m - i)) in
      omega (arith, ap (λ (k : ℕ). length (join f k)) e)

  -- none of them
  pub join-none : (l : List ℕ) (at : ℕ) → (at ≡ at + length (join f 0)) × (l ≡ write l at (join f 0))
  join-none l at = (omega (arith, ap (length {A = ℕ}) (join-zero f)), sym (ap (write l at) (join-zero f) ∙ write-none l at))
