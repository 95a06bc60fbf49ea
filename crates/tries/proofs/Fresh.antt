-- Passing over what is empty or kept, cell by cell. Assumes nothing.
use Prim.Native.Nat.{ℕ, ◌+◌, ◌*◌, ◌≤◌, ◌<◌}
use mathlib.Core.Path.{◌≡◌, sym, ap, ◌∙◌, subst}
use mathlib.Core.Bool.{true, false}
use mathlib.Core.List.{List}
use native.Mathlib.Omega.{arith}
use lib.ListN.{get_or}
use Rattle.words.specs.Pieces.{at}
use Rattle.words.proofs.Loops.{below_next}
use Rattle.words.proofs.Pieces.{piece-word}
use Rattle.rounds.specs.Passing.{Quiet, quiet}
use Rattle.rounds.proofs.Quiet.{quiet_is, loud-full}
use Rattle.tries.specs.Tries.{AllQuiet, First}

-- none is passed over at first
pub none-past : (d : ℕ) (F : List ℕ) (c : ℕ) → AllQuiet d F c c
none-past d F c k l m = absurd (omega arith)

-- when all from c up to i are quiet, and w words are a label
module _ (d w : ℕ) (F : List ℕ) (c i : ℕ) (e : w ≡ d + 2) (g : AllQuiet d F c i) where
  -- where cell i has its step
  step-word : get_or (at (d + 2) F i) d 0 ≡ get_or F (i * w + d) 0
  step-word = piece-word (d + 2) F i d (omega arith) ∙ ap (λ (n : ℕ). get_or F (i * n + d) 0) (sym e)

  -- cell i is not quiet
  pub found : (high : ℕ) → i < high → c ≤ i → quiet (get_or F (i * w + d) 0) ≡ false → First d F c high i
  found high l h q = record { reached = h; inside = l; between = g; full = λ z. loud-full (get_or F (i * w + d) 0) q (sym step-word ∙ z) }

  -- cell i is quiet too
  pub one-past : quiet (get_or F (i * w + d) 0) ≡ true → AllQuiet d F c (i + 1)
  one-past q k a b = below_next (λ (k : ℕ). c ≤ k → Quiet (get_or (at (d + 2) F k) d 0)) i (λ k b a. g k a b)
      (λ _. subst Quiet (sym step-word) (quiet_is (get_or F (i * w + d) 0) q)) k b a
