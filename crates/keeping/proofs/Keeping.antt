-- A label kept word by word. Assumes nothing.
use Prim.Native.Nat.{ℕ, ◌+◌, ◌≤◌, ◌<◌}
use mathlib.Core.Path.{◌≡◌, sym, ap, ◌∙◌}
use mathlib.Core.Bool.{Bool, true, false, cond}
use mathlib.Core.List.{List, [], ◌∷◌, ◌++◌, append_assoc}
use native.Mathlib.Omega.{arith}
use lib.ListN.{length, get_or, set, take, drop, replicate, length-append}
use lib.Seq.{take-take}
use lib.Dec.{ltb}
use Rattle.words.specs.Pieces.{part, write}
use Rattle.words.proofs.Writes.{length_part, get_or-part, write-part, set-behind, part-more, get_or-write-below}
use Rattle.rounds.specs.Label.{label}
use Rattle.keeping.specs.Kept.{keep_words}

module _ (xs : List ℕ) (at to d : ℕ) (below : at + d + 2 ≤ to) (room : to + d + 2 ≤ length xs) where
  -- one cost more
  pub one-cost : (ls : List ℕ) (k : ℕ) → k < d → ls ≡ write xs to (part xs at k) → set ls (to + k) (get_or ls (at + k) 0) ≡ write xs to (part xs at (k + 1))
  one-cost ls k h e =
      let P : List ℕ = part xs at k in
      ap (λ (l : List ℕ). set l (to + k) (get_or l (at + k) 0)) e
      ∙ ap (set (write xs to P) (to + k)) (get_or-write-below xs to P (at + k) (omega arith))
      ∙ set-behind xs to P k (get_or xs (at + k) 0) (length_part xs at k (omega arith))
      ∙ ap (write xs to) (sym (part-more xs at k (omega arith)))

  -- step 2, from 0
  pub two-more : (ls : List ℕ) → ls ≡ write xs to (part xs at d) → set (set ls (to + d) 2) (to + d + 1) 0 ≡ write xs to (label (part xs at d) 2 0)
  two-more ls e =
      let P : List ℕ = part xs at d in
      let long : length P ≡ d = length_part xs at d (omega arith) in
      let more : length (P ++ (2 ∷ [])) ≡ d + 1 = length-append P (2 ∷ []) ∙ omega arith in
      let place : to + d + 1 ≡ to + (d + 1) = omega arith in
      ap (λ (l : List ℕ). set (set l (to + d) 2) (to + d + 1) 0) e
      ∙ ap (λ (l : List ℕ). set l (to + d + 1) 0) (set-behind xs to P d 2 long)
      ∙ ap (λ (n : ℕ). set (write xs to (P ++ (2 ∷ []))) n 0) place
      ∙ set-behind xs to (P ++ (2 ∷ [])) (d + 1) 0 more
      ∙ ap (write xs to) (append_assoc P (2 ∷ []) (0 ∷ []))

  -- its step
  pub step-word : get_or (part xs at (d + 2)) d 0 ≡ get_or xs (at + d) 0
  step-word = get_or-part xs at (d + 2) d (omega arith)

  -- a filled label
  pub keep-filled : ltb 0 (get_or xs (at + d) 0) ≡ true → write xs to (label (part xs at d) 2 0) ≡ write xs to (keep_words d (part xs at (d + 2)))
  unfolding keep_words
  keep-filled e =
      ap (λ (l : List ℕ). write xs to (label l 2 0)) (sym (take-take d (d + 2) (drop at xs) (omega arith)))
      ∙ sym (ap (λ (b : Bool). write xs to (cond b (label (take d (part xs at (d + 2))) 2 0) (replicate (d + 2) 0))) (ap (ltb 0) step-word ∙ e))

  -- an empty one, where an empty one stands
  pub keep-empty : ltb 0 (get_or xs (at + d) 0) ≡ false → part xs to (d + 2) ≡ replicate (d + 2) 0 → xs ≡ write xs to (keep_words d (part xs at (d + 2)))
  unfolding keep_words
  keep-empty z e =
      sym (ap (λ (b : Bool). write xs to (cond b (label (take d (part xs at (d + 2))) 2 0) (replicate (d + 2) 0))) (ap (ltb 0) step-word ∙ z)
      ∙ ap (write xs to) (sym e)
      ∙ write-part xs to (d + 2))
