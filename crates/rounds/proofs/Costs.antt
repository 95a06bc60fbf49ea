-- Every label's costs are at most its layer's number times the largest arc cost. Assumes nothing.
use Prim.Native.Nat.{ℕ, zero, suc, ◌+◌, ◌*◌, ◌≤◌, ◌<◌}
use mathlib.Core.Path.{◌≡◌, ap, ap₂, ◌∙◌, subst}
use mathlib.Core.List.{List}
use native.Mathlib.Nat.{suc-mul, mul-le-mul_right}
use native.Mathlib.Omega.{arith}
use lib.ListN.{get_or}
use lib.Dec.{T}
use Rattle.words.specs.Pieces.{at}
use Rattle.request.specs.Request.{Req, width, arc_costs, tail, reach}
use Rattle.request.specs.Shape.{largest, top, cells}
use Rattle.request.specs.Accepted.{Regular}
use Rattle.request.proofs.Tops.{arc-le}
use Rattle.rounds.specs.Label.{costs, filled, candidate}
use Rattle.rounds.specs.Rounds.{block, start_block, start_layer, keep_block, layer, label_of, label_at}
use Rattle.rounds.proofs.Labels.{get_or-sum, zero-costs, start-costs, kept-costs, came-costs}
use Rattle.rounds.proofs.Start.{start-block, start-label, start-only}
use Rattle.rounds.proofs.Node.{Origin, of-old, of-arc}
use Rattle.rounds.proofs.Round.{keep_at, keep-filled, block-whole, label-long, origin}

-- costs xs are at most i times the largest arc costs
unfoldable pub Within : Req → ℕ → List ℕ → Type 0
Within R i xs = (j : ℕ) → get_or xs j 0 ≤ i * largest R j

module _ (R : Req) (ok : Regular R) where
  abbrev Costs : ℕ → Type 0
  Costs i = (v c : ℕ) → v < R.nodes → c < cells R → T (filled R (label_at R i v c)) → Within R i (costs R (label_at R i v c))

  start-within : Costs 0
  unfolding Within label_at label_of layer
  start-within v c hv hc t j =
      let t' = subst (λ (z : List ℕ). T (filled R (at (width R) z c))) (start-block R v hv) t in
      let p = start-only R ok v c hc t' in
      let e : at (width R) (block R (start_layer R) v) c ≡ at (width R) (start_block R R.source) 0 =
      ap (λ (z : List ℕ). at (width R) z c) (start-block R v hv) ∙ ap₂ (λ (x y : ℕ). at (width R) (start_block R x) y) p.0 p.1 in
      let z : get_or (costs R (at (width R) (block R (start_layer R) v) c)) j 0 ≡ 0 = ap (λ (l : List ℕ). get_or (costs R l) j 0) (e ∙ start-label R ok) ∙ ap (λ (l : List ℕ). get_or l j 0) (start-costs R) ∙ zero-costs R j in
      omega arith

  next-within : (i : ℕ) → Costs i → Costs (suc i)
  unfolding Within label_at label_of candidate
  next-within i old v c hv hc t j = go (origin R ok i v c hv hc t)
    where
      go : Origin R (λ a. block R (layer R i) (tail R a)) v (keep_block R (block R (layer R i) v)) c (label_at R (suc i) v c) → get_or (costs R (label_at R (suc i) v c)) j 0 ≤ suc i * largest R j
      go (of-old u e) =
          let w = block-whole R ok i v hv in
          let t' = keep-filled R (block R (layer R i) v) w c hc u in
          let same = ap (λ (l : List ℕ). get_or (costs R l) j 0) (e ∙ keep_at R (block R (layer R i) v) w c hc t') ∙ ap (λ (l : List ℕ). get_or l j 0) (kept-costs R (at (width R) (block R (layer R i) v) c) (label-long R ok i v c hv hc)) in
          let h = old v c hv hc t' j in
          let s = suc-mul i (largest R j) in
          omega arith
      go (of-arc a f in-a here in_f u k e) =
          let l : List ℕ = at (width R) (block R (layer R i) (tail R a)) f in
          let hu = ok.tail_in a in-a in
          let same = ap (λ (l : List ℕ). get_or (costs R l) j 0) e ∙ ap (λ (l : List ℕ). get_or l j 0) (came-costs R ok a in-a l (label-long R ok i (tail R a) f hu in_f) f) ∙ get_or-sum (costs R l) (arc_costs R a) j in
          let h = old (tail R a) f hu in_f u j in
          let g = arc-le R a in-a j in
          let s = suc-mul i (largest R j) in
          omega arith

  -- THE COSTS OF LAYER i
  pub layer-costs : (i : ℕ) → Costs i
  layer-costs zero = start-within
  layer-costs (suc i) = next-within i (layer-costs i)

-- so a candidate of a layer before the last lies in its ladders
pub room-for-arc : (R : Req) (i : ℕ) (xs : List ℕ) → suc i ≤ reach R → Within R i xs → (j : ℕ) → get_or xs j 0 + largest R j ≤ top R j
unfolding Within top
room-for-arc R i xs l w j =
    let h = w j in
    let s = suc-mul i (largest R j) in
    let m : suc i * largest R j ≤ reach R * largest R j = mul-le-mul_right (largest R j) l in
    omega arith
