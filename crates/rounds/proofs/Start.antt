-- Layer 0: the start, alone, in the source's cell 0. Assumes nothing.
use Prim.Native.Nat.{ℕ, ◌+◌, ◌*◌, ◌<◌}
use mathlib.Core.Path.{◌≡◌, refl, sym, ap, ap₂, ◌∙◌, subst}
use mathlib.Core.List.{List}
use native.Mathlib.Nat.{zero-mul}
use native.Mathlib.Omega.{arith}
use lib.ListN.{length, get_or, replicate}
use lib.Dec.{T, eqb, eqb→eq, eqb_refl}
use Rattle.words.specs.Pieces.{at, put}
use Rattle.words.specs.Radix.{radix}
use Rattle.words.proofs.Choices.{cond_cases, cond-true}
use Rattle.words.proofs.Loops.{up_to-keeps}
use Rattle.words.proofs.Pieces.{put-length, at-put, at-put-same, join-length, join-at}
use Rattle.request.specs.Request.{Req, width}
use Rattle.request.specs.Shape.{buckets, position, cells, cell}
use Rattle.request.specs.Accepted.{Regular}
use Rattle.request.proofs.Cells.{UnderTop, cell-lt, position-none}
use Rattle.rounds.specs.Label.{costs, filled, start}
use Rattle.rounds.specs.Rounds.{span, block, blank, start_block, start_layer}
use Rattle.rounds.proofs.Labels.{zero-costs, start-length, start-costs, start-filled, blank-length, blank-empty}
use Rattle.rounds.proofs.Ties.{Fair}
use Rattle.rounds.proofs.Node.{Good}

pub start_block-length : (R : Req) (v : ℕ) → length (start_block R v) ≡ span R
unfolding start_block
start_block-length R v =
    cond_cases (λ (Z : List ℕ). length Z ≡ span R) (eqb v R.source) (λ _. put-length (width R) (blank R) 0 (start R) ∙ blank-length R) (λ _. blank-length R)

pub start_layer-length : (R : Req) → length (start_layer R) ≡ R.nodes * span R
unfolding start_layer
start_layer-length R = join-length (span R) (start_block R) R.nodes (λ v _. start_block-length R v)

pub start-block : (R : Req) (v : ℕ) → v < R.nodes → block R (start_layer R) v ≡ start_block R v
unfolding start_layer block
start-block R v h = join-at (span R) (start_block R) R.nodes (λ u _. start_block-length R u) v h

module _ (R : Req) (ok : Regular R) where
  -- costs 0 are in cell 0
  pub cell-zero : cell R (replicate R.criteria 0) ≡ 0
  unfolding cell radix
  cell-zero =
      up_to-keeps (λ j n. n * buckets R j + position R j (get_or (replicate R.criteria 0) j 0)) (λ _ n. n ≡ 0) 0 R.graded refl
      (λ j n l e. ap₂ (λ (x y : ℕ). x * buckets R j + y) e (ap (position R j) (zero-costs R j) ∙ position-none R ok j l) ∙ omega (arith, zero-mul (buckets R j)))

  pub under-zero : UnderTop R (replicate R.criteria 0)
  unfolding UnderTop
  under-zero j _ = omega (arith, zero-costs R j)

  pub cells-pos : 0 < cells R
  cells-pos = omega (arith, cell-lt R ok (replicate R.criteria 0) under-zero)

  pub start-label : at (width R) (start_block R R.source) 0 ≡ start R
  unfolding start_block
  start-label =
      ap (λ (z : List ℕ). at (width R) z 0) (cond-true (eqb R.source R.source) (put (width R) (blank R) 0 (start R)) (blank R) (eqb_refl R.source))
      ∙ at-put-same (width R) (blank R) 0 (start R) (start-length R) (cells R) (blank-length R) cells-pos

  pub start-good : (Low : List ℕ → List ℕ → Type 0) → Fair R.rule Low → Good R Low (start_block R R.source) 0 (replicate R.criteria 0)
  start-good Low fair = record {
    full = subst (λ z. T (filled R z)) (sym start-label) (start-filled R);
    low = subst (Low (replicate R.criteria 0)) (sym (ap (costs R) start-label ∙ start-costs R)) (fair.same (replicate R.criteria 0));
  }

  -- it is there alone
  pub start-only : (v c : ℕ) → c < cells R → T (filled R (at (width R) (start_block R v) c)) → (v ≡ R.source) × (c ≡ 0)
  unfolding start_block
  start-only v c h =
      cond_cases (λ (Z : List ℕ). T (filled R (at (width R) Z c)) → (v ≡ R.source) × (c ≡ 0)) (eqb v R.source)
      (λ t. at-put (width R) (blank R) 0 (start R) (start-length R) (λ z. T (filled R z) → (v ≡ R.source) × (c ≡ 0)) (cells R) (blank-length R) c h
      (λ e _. (eqb→eq v R.source t, e)) (λ u. absurd (blank-empty R c u)))
      (λ _ u. absurd (blank-empty R c u))
