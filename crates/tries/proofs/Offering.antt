-- A label offered to a cell of a block: the write of one cell as a write of the block. Assumes nothing.
use Prim.Native.Nat.{ℕ, ◌+◌, ◌-◌, ◌*◌, ◌≤◌}
use mathlib.Core.Path.{◌≡◌, sym, ap, ap₂, ◌∙◌}
use mathlib.Core.Bool.{cond}
use mathlib.Core.List.{List, ◌++◌}
use native.Mathlib.Omega.{arith}
use lib.ListN.{length, take, drop}
use Rattle.words.specs.Pieces.{part, at, put, write}
use Rattle.words.proofs.Choices.{cond_cases}
use Rattle.words.proofs.Writes.{length_part, part-part, lent-in}
use Rattle.labels.specs.Words.{wins_over}
use Rattle.rounds.specs.Label.{label, sum}
use Rattle.tries.specs.Tries.{offered, extended}

-- what `place` leaves, from its part of the words
pub offer-law : (d : ℕ) (cand ls ys : List ℕ) (to span cell r k : ℕ) → r ≡ cell * (d + 2) → r + (d + 2) ≤ span → to + span ≤ length ls → length cand ≡ d + 2 → k ≡ d + 2
    → ys ≡ cond (wins_over d cand (part ls (to + r) k)) cand (part ls (to + r) k)
    → take (to + r) ls ++ (ys ++ drop k (drop (to + r) ls)) ≡ write ls to (offered d (part ls to span) cell cand)
unfolding offered at put
offer-law d cand ls ys to span cell r k e-r fits room long e-k e-ys =
    let B : List ℕ = part ls to span in
    let old : part ls (to + r) k ≡ part B r (d + 2) = rw e-k (sym (part-part ls to span r (d + 2) fits)) in
    let new : ys ≡ cond (wins_over d cand (part B r (d + 2))) cand (part B r (d + 2)) = e-ys ∙ ap (λ (l : List ℕ). cond (wins_over d cand l) cand l) old in
    let whole : length B ≡ span = length_part ls to span room in
    let part-long : length (part B r (d + 2)) ≡ d + 2 = length_part B r (d + 2) (omega arith) in
    let size : length ys ≡ k =
    ap length new
    ∙ cond_cases (λ (l : List ℕ). length l ≡ d + 2) (wins_over d cand (part B r (d + 2))) (λ _. long) (λ _. part-long)
    ∙ sym e-k in
    lent-in ls to span r k ys size (omega arith) room
    ∙ ap (λ (l : List ℕ). write ls to (write B r l)) new
    ∙ ap (λ (q : ℕ). write ls to (write B q (cond (wins_over d cand (part B q (d + 2))) cand (part B q (d + 2))))) e-r

-- what `add_costs` makes, from its parts of the buffers
pub made-law : (d w at a c : ℕ) (labels arcs ys : List ℕ) → ys ≡ label (sum (take d (part labels at (at + w - at))) (drop 2 (part arcs (a * w) (a * w + w - a * w)))) (a + 3) c
    → ys ≡ extended d (part labels at w) (part arcs (a * w) w) a c
unfolding extended
made-law d w at a c labels arcs ys e =
    let x : at + w - at ≡ w = omega arith in
    let y : a * w + w - a * w ≡ w = omega arith in
    e ∙ ap₂ (λ (m n : ℕ). label (sum (take d (part labels at m)) (drop 2 (part arcs (a * w) n))) (a + 3) c) x y
