-- On the table that the build draws up every filled label's chain is whole, and its arcs are the label's route. Assumes nothing.
use Prim.Native.Nat.{ℕ, zero, suc, ◌+◌, ◌-◌, ◌*◌, ◌≤◌, ◌<◌, zero-le, suc-le-suc}
use mathlib.Core.Path.{◌≡◌, refl, sym, ap, ap₂, ◌∙◌, subst}
use mathlib.Core.List.{List, []}
use native.Mathlib.Nat.{le_of_lt, zero-add}
use native.Mathlib.Omega.{arith}
use lib.ListN.{length, replicate, length-replicate}
use lib.Dec.{T}
use Rattle.words.specs.Pieces.{part, at, write}
use Rattle.words.proofs.Choices.{is_true}
use Rattle.words.proofs.Pieces.{piece-end, join-at, at_at}
use Rattle.words.proofs.Writes.{part-part, part-write-same}
use Rattle.request.specs.Request.{Req, width, arc_count, tail, head, arc_costs, reach}
use Rattle.request.specs.Shape.{cells}
use Rattle.request.specs.Accepted.{Regular}
use Rattle.rounds.specs.Label.{costs, step, from, filled, start, kept, sum, candidate, came}
use Rattle.rounds.specs.Rounds.{span, block, start_block, keep_block, layer, table, label_of, label_at, label_in}
use Rattle.rounds.proofs.Labels.{costs-length, step_label, from-label, start-costs, kept-costs, candidate-length, came-costs}
use Rattle.rounds.proofs.Start.{start-block, start-label, start-only}
use Rattle.rounds.proofs.Node.{Origin, of-old, of-arc}
use Rattle.rounds.proofs.Round.{layer-length, keep_at, keep-filled, origin, block-whole, label-long}
use Rattle.rounds.proofs.Table.{table-length}
use Rattle.cover.specs.Cover.{route}
use Rattle.cover.proofs.Routes.{route-kept, route-arc}
use Rattle.route.specs.Chain.{whole, push, start_holds, kept_holds, arc_holds, chain}
use Rattle.route.specs.Walked.{Fronts}
use Rattle.route.specs.Links.{spot}
use Rattle.route.proofs.Holding.{start-true, kept-true, arc-true}
use Rattle.route.proofs.Leading.{lead-start, lead-kept, lead-came}
use Rattle.route.proofs.Following.{chain-ends, chain-kept, chain-came}

-- ---- a label of the table

-- what the build leaves has the table in front
pub build-fronts : (R : Req) (labels : List ℕ) → length (table R) ≤ length labels → Fronts R (write labels 0 (table R))
unfolding Fronts
build-fronts R labels h = part-write-same labels 0 (table R) (omega arith)

module _ (R : Req) (ok : Regular R) where
  abbrev M : ℕ
  M = R.nodes * span R

  module _ (W : List ℕ) (front : Fronts R W) where
    layer-in : (i : ℕ) → i ≤ R.hops → at (R.nodes * span R) W i ≡ layer R i
    unfolding Fronts at table
    layer-in i h =
        let e : i * M + M ≤ length (table R) = subst (λ (n : ℕ). i * M + M ≤ n) (sym (table-length R ok)) (piece-end M (R.hops + 1) i (omega arith)) in
        let z = zero-add (i * M) in
        sym (part-part W 0 (length (table R)) (i * M) M e ∙ ap (λ (a : ℕ). part W a M) z) ∙ ap (λ (X : List ℕ). part X (i * M) M) front ∙ in_table
      where
        in_table : part (table R) (i * M) M ≡ layer R i
        in_table = join-at M (layer R) (R.hops + 1) (λ j _. layer-length R ok j) i (omega arith)

    -- the label of layer i, node v, cell c is the rounds' own
    pub label-in : (i v c : ℕ) → i ≤ R.hops → v < R.nodes → c < cells R → label_in R W i v c ≡ label_at R i v c
    unfolding label_in label_at label_of block
    label-in i v c hi hv hc =
        sym (ap (λ (X : List ℕ). at (width R) X c) (at_at (span R) R.nodes W i v hv) ∙ at_at (width R) (cells R) W (i * R.nodes + v) c hc)
        ∙ ap (λ (X : List ℕ). at (width R) (at (span R) X v) c) (layer-in i hi)

    -- ---- where it leads

    -- a start ends the chain
    ends : (v c : ℕ) → v < R.nodes → c < cells R → T (filled R (label_at R 0 v c)) → chain R W 0 v c ≡ whole []
    unfolding label_at label_of layer start
    ends v c hv hc t =
        let b = start-block R v hv in
        let p = start-only R ok v c hc (subst (λ (X : List ℕ). T (filled R (at (width R) X c))) b t) in
        let l : List ℕ = label_in R W 0 v c in
        let e : label_in R W 0 v c ≡ start R =
        label-in 0 v c zero-le hv hc ∙ ap (λ (X : List ℕ). at (width R) X c) b ∙ ap₂ (λ (x y : ℕ). at (width R) (start_block R x) y) p.0 p.1 ∙ start-label R ok in
        let n = length-replicate R.criteria zero in
        let one : step R l ≡ 1 = ap (step R) e ∙ step_label R (replicate R.criteria 0) 1 0 n in
        let t : T (start_holds R 0 l v c) =
        start-true R 0 l v c
        (record {
          step_is = one;
          layer_is = refl;
          node_is = p.0;
          cell_is = p.1;
          from_is = ap (from R) e ∙ from-label R (replicate R.criteria 0) 1 0 n;
          costs_are = ap (costs R) e ∙ start-costs R;
        }) in
        chain-ends R W 0 v c (sym (lead-start R W 0 v c l refl one (sym (is_true (start_holds R 0 l v c) t))))

    module _ (i v c : ℕ) (hi : suc i ≤ R.hops) (hv : v < R.nodes) (hc : c < cells R) where
      abbrev l : List ℕ
      l = label_in R W (suc i) v c

      below : (u f : ℕ) → u < R.nodes → f < cells R → label_in R W (suc i - 1) u f ≡ label_at R i u f
      below u f hu hf = let e : suc i - 1 ≡ i = omega arith in ap (λ (k : ℕ). label_in R W k u f) e ∙ label-in i u f (le_of_lt hi) hu hf

      -- a kept label leads to the label that it was kept from
      keeps : label_at R (suc i) v c ≡ kept R (label_at R i v c) → chain R W (suc i) v c ≡ chain R W i v c
      unfolding kept label_at label_of reach
      keeps e =
          let n = label-long R ok i v c hv hc in
          let d = costs-length R (label_at R i v c) n in
          let q : l ≡ kept R (label_at R i v c) = label-in (suc i) v c hi hv hc ∙ e in
          let s : step R l ≡ 2 = ap (step R) q ∙ step_label R (costs R (label_at R i v c)) 2 0 d in
          let f : from R l ≡ 0 = ap (from R) q ∙ from-label R (costs R (label_at R i v c)) 2 0 d in
          let same : costs R l ≡ costs R (label_in R W (suc i - 1) v c) = ap (costs R) q ∙ kept-costs R (label_at R i v c) n ∙ ap (costs R) (sym (below v c hv hc)) in
          let k : suc i - 1 ≡ i = omega arith in
          let t : T (kept_holds R (suc i) l (label_in R W (suc i - 1) v c)) = kept-true R (suc i) l (label_in R W (suc i - 1) v c) s (suc-le-suc zero-le) f same in
          chain-kept R W (suc i) v c hi (spot (suc i - 1) v c)
          (sym (lead-kept R W (suc i) v c l refl (suc i - 1) refl _ refl s (sym (is_true (kept_holds R (suc i) l (label_in R W (suc i - 1) v c)) t))))
          ∙ ap (λ (j : ℕ). chain R W j v c) k

      -- a label that came by an arc leads to the label that it came from
      comes : (a f : ℕ) → a < arc_count R → head R a ≡ v → f < cells R → label_at R (suc i) v c ≡ came R a f (label_at R i (tail R a) f) → chain R W (suc i) v c ≡ push a (chain R W i (tail R a) f)
      unfolding came candidate label_at label_of reach
      comes a f in-a here in_f e =
          let hu = ok.tail_in a in-a in
          let old : List ℕ = label_at R i (tail R a) f in
          let n = label-long R ok i (tail R a) f hu in_f in
          let d = candidate-length R ok a in-a old n in
          let q : l ≡ came R a f old = label-in (suc i) v c hi hv hc ∙ e in
          let s : step R l ≡ 3 + a = ap (step R) q ∙ step_label R (candidate R a old) (3 + a) f d in
          let g : from R l ≡ f = ap (from R) q ∙ from-label R (candidate R a old) (3 + a) f d in
          let reached : List ℕ = label_in R W (suc i - 1) (tail R a) f in
          let same : costs R l ≡ sum (costs R reached) (arc_costs R a) =
          ap (costs R) q ∙ came-costs R ok a in-a old n f ∙ ap (λ (z : List ℕ). sum (costs R z) (arc_costs R a)) (sym (below (tail R a) f hu in_f)) in
          let t : T (arc_holds R (suc i) l v a reached) =
          arc-true R (suc i) l v a reached (omega arith) (suc-le-suc zero-le) in-a here (subst (λ (z : ℕ). z < cells R) (sym g) in_f) same in
          let k : suc i - 1 ≡ i = omega arith in
          let lead = lead-came R W (suc i) v c l refl (suc i - 1) refl a (tail R a) f reached (omega arith, omega arith) refl (sym g) refl (sym (is_true (arc_holds R (suc i) l v a reached) t)) in
          chain-came R W (suc i) v c hi a (spot (suc i - 1) (tail R a) f) (sym lead)
          ∙ ap (λ (j : ℕ). push a (chain R W j (tail R a) f)) k

    -- EVERY FILLED LABEL'S CHAIN IS WHOLE. By induction over the layers: a filled label of layer 0 is the start; one of a later layer was kept, or
    -- came by an arc, from a filled label of the layer before, whose chain is whole already and names that label's route.
    pub table-whole : (i v c : ℕ) → i ≤ R.hops → v < R.nodes → c < cells R → T (filled R (label_at R i v c)) → chain R W i v c ≡ whole (route R i v c)
    unfolding route label_at label_of block
    table-whole zero v c hi hv hc t = ends v c hv hc t
    table-whole (suc i) v c hi hv hc t = go (origin R ok i v c hv hc t) (λ u f. table-whole i u f (le_of_lt hi))
      where
        go : Origin R (λ a. block R (layer R i) (tail R a)) v (keep_block R (block R (layer R i) v)) c (label_at R (suc i) v c)
            → ((u f : ℕ) → u < R.nodes → f < cells R → T (filled R (label_at R i u f)) → chain R W i u f ≡ whole (route R i u f)) → chain R W (suc i) v c ≡ whole (route R (suc i) v c)
        go (of-old u e) rec =
            let w = block-whole R ok i v hv in
            let t' = keep-filled R (block R (layer R i) v) w c hc u in
            let e' : label_at R (suc i) v c ≡ kept R (label_at R i v c) = e ∙ keep_at R (block R (layer R i) v) w c hc t' in
            keeps i v c hi hv hc e' ∙ rec v c hv hc t' ∙ ap whole (sym (route-kept R i v c (label_at R i v c) (label-long R ok i v c hv hc) e'))
        go (of-arc a f in-a here in_f u k e) rec =
            let hu = ok.tail_in a in-a in
            comes i v c hi hv hc a f in-a here in_f e ∙ ap (push a) (rec (tail R a) f hu in_f u)
            ∙ ap whole (sym (route-arc R i v c ok a f in-a (label_at R i (tail R a) f) (label-long R ok i (tail R a) f hu in_f) e))
