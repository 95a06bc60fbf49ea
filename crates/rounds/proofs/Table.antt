-- The table at document 01's index. Assumes nothing.
use Prim.Native.Nat.{ℕ, ◌+◌, ◌*◌, ◌≤◌, ◌<◌}
use mathlib.Core.Path.{◌≡◌, sym, ap, ◌∙◌}
use mathlib.Core.List.{List}
use native.Mathlib.Nat.{zero-add, mul_assoc}
use native.Mathlib.Omega.{arith}
use lib.ListN.{length}
use lib.Arith.{digits_lt}
use Rattle.words.specs.Pieces.{part, at, write}
use Rattle.words.proofs.Pieces.{at_at, join-at, join-length, piece-end}
use Rattle.words.proofs.Writes.{part-write-inside}
use Rattle.request.specs.Request.{Req, width}
use Rattle.request.specs.Shape.{cells, label_count}
use Rattle.request.specs.Accepted.{Regular}
use Rattle.rounds.specs.Rounds.{span, block, layer, table, label_in, label_of, label_at}
use Rattle.rounds.proofs.Round.{layer-length}

module _ (R : Req) (ok : Regular R) where
  pub table-length : length (table R) ≡ (R.hops + 1) * (R.nodes * span R)
  unfolding table
  table-length = join-length (R.nodes * span R) (layer R) (R.hops + 1) (λ i _. layer-length R ok i)

  -- (K+1) × N × C labels of d+2 words
  pub table-words : label_count R * width R ≡ length (table R)
  unfolding label_count
  table-words =
      mul_assoc (R.hops + 1) (R.nodes * cells R) (width R)
      ∙ ap (λ (n : ℕ). (R.hops + 1) * n) (mul_assoc R.nodes (cells R) (width R))
      ∙ sym table-length

  module _ (i v c : ℕ) (hi : i ≤ R.hops) (hv : v < R.nodes) (hc : c < cells R) where
    -- "The label of layer i, node v, cell c starts at word ((i × N + v) × C + c) × (d+2)"
    pub table-label : label_in R (table R) i v c ≡ label_at R i v c
    unfolding label_in label_at label_of block table
    table-label =
        sym (at_at (width R) (cells R) (table R) (i * R.nodes + v) c hc)
        ∙ ap (λ (B : List ℕ). at (width R) B c) (sym (at_at (span R) R.nodes (table R) i v hv) ∙ ap (λ (L : List ℕ). at (span R) L v) (join-at (R.nodes * span R) (layer R) (R.hops + 1) (λ k _. layer-length R ok k) i (omega arith)))

    place_in : ((i * R.nodes + v) * cells R + c) * width R + width R ≤ length (table R)
    place_in =
        let n : i * R.nodes + v < (R.hops + 1) * R.nodes = digits_lt (let z : i < R.hops + 1 = omega arith in z) hv in
        let e = piece-end (width R) ((R.hops + 1) * R.nodes * cells R) ((i * R.nodes + v) * cells R + c) (digits_lt n hc) in
        let x = mul_assoc ((R.hops + 1) * R.nodes) (cells R) (width R) in
        let y = mul_assoc (R.hops + 1) R.nodes (span R) in
        let t = table-length in
        omega arith

    -- and so in any words whose front is the table
    pub front-label : (xs : List ℕ) → length (table R) ≤ length xs → label_in R (write xs 0 (table R)) i v c ≡ label_at R i v c
    unfolding at label_in
    front-label xs room =
        ap (λ (k : ℕ). part (write xs 0 (table R)) k (width R)) (sym (zero-add (((i * R.nodes + v) * cells R + c) * width R)))
        ∙ part-write-inside xs 0 (table R) (((i * R.nodes + v) * cells R + c) * width R) (width R) (rw zero-add room) place_in
        ∙ table-label
