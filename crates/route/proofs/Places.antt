-- Where a label's words lie: nothing wraps, and what a buffer that may end too soon has of a piece. Assumes nothing.
use Prim.Native.Nat.{ℕ, ◌+◌, ◌-◌, ◌*◌, ◌≤◌, ◌<◌, min}
use mathlib.Core.Path.{◌≡◌, sym, ap, ap₂, ◌∙◌}
use mathlib.Core.List.{List}
use mathlib.Core.Logic.{⊎_elim}
use native.Mathlib.Nat.{mul-le-mul}
use native.Mathlib.Omega.{arith}
use lib.ListN.{length, get_or, take, drop, length-drop, drop_of_length-le}
use lib.Seq.{take-nil, take_all}
use Rattle.words.specs.Pieces.{at}
use Rattle.words.proofs.Choices.{lt-or-le}
use Rattle.words.proofs.Pieces.{piece-word}
use Rattle.request.specs.Request.{Req, width}
use Rattle.request.specs.Shape.{cells}
use Rattle.request.specs.Accepted.{Regular, Small, Fits}
use Rattle.request.proofs.Answers.{cells-few}
use Rattle.rounds.specs.Label.{step}
use Rattle.rounds.specs.Rounds.{label_in}

-- ---- nothing wraps

-- what finding a label asks of its sizes
pub record Within (nodes criteria cells i : ℕ) : Type 0 where
  pub nodes_few : nodes ≤ 64
  pub criteria_few : criteria ≤ 3
  pub cells_few : cells ≤ 1048576
  pub layers_few : i ≤ 63

-- the number of a label, whatever node and cell are given
pub label-fits : {n d cells i v c : ℕ} → Within n d cells i → v < 4294967296 → c < 4294967296
    → (i * n ≤ 4032) × ((i * n + v) * cells ≤ 4503603855228928) × ((i * n + v) * cells + c ≤ 9007199254740992)
label-fits {n} {d} {cells} {i} {v} {c} s hv hc =
    let a : i * n ≤ 4032 = mul-le-mul {n₂ = 63} {m₂ = 64} s.layers_few s.nodes_few in
    let b : (i * n + v) * cells ≤ 4503603855228928 = mul-le-mul {n₂ = 4294971328} {m₂ = 1048576} (omega arith) s.cells_few in
    (a, b, omega arith)

-- a layer of an accepted request is within
pub within-asked : (R : Req) → Regular R → Small R → Fits R → {n i : ℕ} → n ≡ cells R → i ≤ R.hops → Within R.nodes R.criteria n i
within-asked R ok small fits e h = record {
  nodes_few = small.nodes_few;
  criteria_few = small.three;
  cells_few = (let c = cells-few R ok fits in omega arith);
  layers_few = (let k = small.hops_few in omega arith);
}

-- ---- a piece of a buffer that may end too soon

module _ (xs : List ℕ) (k w : ℕ) where
  -- it ends before the piece begins
  pub piece-none : length xs ≤ k * w → take (length xs - length xs) (drop (length xs) xs) ≡ at w xs k
  unfolding at
  piece-none h =
      let n : length xs ≤ length xs = omega arith in
      ap (take (length xs - length xs)) (drop_of_length-le xs n) ∙ take-nil (length xs - length xs)
      ∙ sym (ap (take w) (drop_of_length-le xs h) ∙ take-nil w)

  -- it ends within the piece
  pub piece-some : length xs ≤ k * w + w → take (length xs - k * w) (drop (k * w) xs) ≡ at w xs k
  unfolding at
  piece-some h =
      let n = length-drop (k * w) xs in
      take_all (length xs - k * w) (drop (k * w) xs) (omega arith) ∙ sym (take_all w (drop (k * w) xs) (omega arith))

  -- from its first word to its last, as far as the buffer has them
  pub piece-cut : (a b : ℕ) → a ≡ min (length xs) (k * w) → b ≡ min (length xs) (k * w + w) → take (b - a) (drop a xs) ≡ at w xs k
  unfolding at
  piece-cut a b p q =
      ⊎_elim
      (λ (g : k * w < length xs).
      let first : a ≡ k * w = omega arith in
      ⊎_elim
      (λ (h : k * w + w < length xs).
      let last : b ≡ k * w + w = omega arith in
      let wide : k * w + w - k * w ≡ w = omega arith in
      ap₂ (λ (x y : ℕ). take (y - x) (drop x xs)) first last ∙ ap (λ (n : ℕ). take n (drop (k * w) xs)) wide)
      (λ (h : length xs ≤ k * w + w).
      let last : b ≡ length xs = omega arith in
      ap₂ (λ (x y : ℕ). take (y - x) (drop x xs)) first last ∙ piece-some h)
      (lt-or-le (k * w + w) (length xs)))
      (λ (h : length xs ≤ k * w).
      let first : a ≡ length xs = omega arith in
      let last : b ≡ length xs = omega arith in
      ap₂ (λ (x y : ℕ). take (y - x) (drop x xs)) first last ∙ piece-none h)
      (lt-or-le (k * w) (length xs))

-- a label found by its place among so many cells
pub label_is : (R : Req) (W X : List ℕ) (n i v c : ℕ) → n ≡ cells R → X ≡ at (width R) W ((i * R.nodes + v) * n + c) → X ≡ label_in R W i v c
unfolding label_in
label_is R W X n i v c e h = h ∙ ap (λ (k : ℕ). at (width R) W ((i * R.nodes + v) * k + c)) e

-- its step is the word so many places behind its first
pub step-at : (R : Req) (W : List ℕ) (n i v c s : ℕ) → n ≡ cells R → s ≡ get_or W (((i * R.nodes + v) * n + c) * width R + R.criteria) 0 → s ≡ step R (label_in R W i v c)
unfolding label_in step
step-at R W n i v c s e h =
    h ∙ sym (piece-word (width R) W ((i * R.nodes + v) * n + c) R.criteria (omega arith))
    ∙ ap (λ (k : ℕ). get_or (at (width R) W ((i * R.nodes + v) * k + c)) R.criteria 0) e
