-- What `keep_layer` leaves and notes, as the layer's definitions have it. Assumes nothing.
use Prim.Native.Nat.{ℕ, ◌+◌, ◌*◌, ◌≤◌}
use mathlib.Core.Path.{◌≡◌, refl, ap, ap₂, ◌∙◌, subst}
use mathlib.Core.List.{List}
use lib.ListN.{length}
use Rattle.words.specs.Pieces.{part, at, write, join}
use Rattle.request.specs.Request.{Req}
use Rattle.request.specs.Shape.{cells}
use Rattle.rounds.specs.Label.{costs, step, filled, empty, kept}
use Rattle.rounds.specs.Rounds.{span, block, keep_cell, keep_block, keep_all, filled_in}
use Rattle.keeping.specs.declared.Note.{Note}
use Rattle.keeping.specs.Kept.{keep_words, kept_block, filled_of, NotedAll}
use Rattle.tries.specs.declared.Frame.{Frame}
use Rattle.tries.proofs.Frames.{span-is}
use Rattle.tries.specs.Tries.{asked_by}
use Rattle.table.specs.Build.{layer_in, Notes}

-- with d criteria and C cells
module _ (R : Req) where
  block-is : (F : List ℕ) → kept_block R.criteria (cells R) F ≡ keep_block R F
  unfolding kept_block keep_words keep_block keep_cell filled step kept costs empty
  block-is F = refl

  layer_is : (L : List ℕ) → join (λ v. kept_block R.criteria (cells R) (at (span R) L v)) R.nodes ≡ keep_all R L
  unfolding kept_block keep_words keep_all keep_block keep_cell filled step kept costs empty block
  layer_is L = refl

  notes-are : (L : List ℕ) (ns : List Note) → R.nodes ≤ length ns → NotedAll R.criteria (cells R) L R.nodes ns → Notes R L ns
  unfolding NotedAll filled_of filled_in filled step block
  notes-are L ns long all = record {
    long = long;
    counts = λ v h. (all v h).count;
    ranges = λ v h. record { ordered = (all v h).ordered; inside = (all v h).inside; before = (all v h).before; after = (all v h).after };
  }

-- as the frame has the numbers
module _ (s : Frame) where
  pub block_words : s.cells * (s.d + 2) ≡ span (asked_by s)
  block_words = ap₂ (λ (x y : ℕ). x * (y + 2)) s.framed.cells_is s.framed.d_is

  pub layer-words : s.request.nodes * (s.cells * (s.d + 2)) ≡ s.request.nodes * span (asked_by s)
  layer-words = ap (λ (n : ℕ). s.request.nodes * n) block_words

  pub layer-size : s.request.nodes * s.span ≡ s.request.nodes * span (asked_by s)
  layer-size = ap (λ (n : ℕ). s.request.nodes * n) (span-is s.framed)

  module _ (xs : List ℕ) (prev base : ℕ) where
    pub kept-layer : (ls : List ℕ) → ls ≡ write xs base (join (λ v. kept_block s.d s.cells (at (s.cells * (s.d + 2)) (part xs prev (s.request.nodes * (s.cells * (s.d + 2)))) v)) s.request.nodes)
        → ls ≡ write xs base (keep_all (asked_by s) (layer_in (asked_by s) xs prev))
    kept-layer ls e =
        e
        ∙ ap₂ (λ (c d : ℕ). write xs base (join (λ v. kept_block d c (at (c * (d + 2)) (part xs prev (s.request.nodes * (c * (d + 2)))) v)) s.request.nodes)) s.framed.cells_is s.framed.d_is
        ∙ ap (write xs base) (layer_is (asked_by s) (layer_in (asked_by s) xs prev))

    pub layer-notes : (ns : List Note) → s.request.nodes ≤ length ns → NotedAll s.d s.cells (part xs prev (s.request.nodes * (s.cells * (s.d + 2)))) s.request.nodes ns
        → Notes (asked_by s) (layer_in (asked_by s) xs prev) ns
    layer-notes ns long all =
        let R = asked_by s in
        notes-are R (layer_in R xs prev) ns long
        (subst (λ (d : ℕ). NotedAll d (cells R) (part xs prev (s.request.nodes * (cells R * (d + 2)))) s.request.nodes ns) s.framed.d_is
        (subst (λ (c : ℕ). NotedAll s.d c (part xs prev (s.request.nodes * (c * (s.d + 2)))) s.request.nodes ns) s.framed.cells_is all))
