-- Every walk of at most i arcs stands in layer i, in any sense that costs at one position carry over an arc. Assumes nothing.
use Prim.Native.Nat.{ℕ, zero, suc, ◌≤◌, ◌<◌}
use mathlib.Core.Path.{sym, subst}
use mathlib.Core.List.{List, [], ◌∷◌, ◌++◌}
use native.Mathlib.Nat.{le_of_lt, not-suc-le-zero, le_of_suc-le-suc}
use lib.ListN.{length, replicate}
use Rattle.words.specs.Pieces.{at}
use Rattle.request.specs.Request.{Req, width, arc_count, tail, head, arc_costs, reach}
use Rattle.request.specs.Shape.{cell}
use Rattle.request.specs.Accepted.{Regular}
use Rattle.rounds.specs.Label.{sum}
use Rattle.rounds.specs.Rounds.{block, layer, label_of, label_at}
use Rattle.rounds.proofs.Ties.{Fair}
use Rattle.rounds.proofs.Node.{Good, cand}
use Rattle.rounds.proofs.Start.{start-block, start-good, cells-pos}
use Rattle.rounds.proofs.Round.{round-tries, round_keeps, layer-length, label-long}
use Rattle.cover.specs.Walk.{Walk, sums, sums_from}
use Rattle.cover.specs.Cover.{route}
use Rattle.cover.proofs.Walks.{walk-ind, sums-snoc, length-snoc, under-label, under-cand, cand-cell}
use Rattle.cover.proofs.Sound.{sound}
use Rattle.cover.proofs.Carry.{Carries, Stands, stand-first, stand-arc}

module _ (R : Req) (ok : Regular R) (Low : List ℕ → List ℕ → Type 0) (fair : Fair R.rule Low) (N : ℕ → ℕ → ℕ → ℕ → Type 0) (carries : Carries R N) where
  abbrev At : ℕ → ℕ → ℕ → List ℕ → Type 0
  At i v h xs = Stands R Low N (block R (layer R i) v) h xs

  abbrev zeros : List ℕ
  zeros = replicate R.criteria 0

  -- the source's cell 0 holds a label in every layer: the start, and what a round keeps of it or puts in its place
  source-held : (i : ℕ) → Good R Low (block R (layer R i) R.source) 0 zeros
  unfolding layer label_of
  source-held zero = subst (λ (z : List ℕ). Good R Low z 0 zeros) (sym (start-block R R.source ok.source_in)) (start-good R ok Low fair)
  source-held (suc i) =
      let g = source-held i in
      let r = round_keeps R ok (layer R i) (layer-length R ok i) Low fair R.source 0 ok.source_in (cells-pos R ok) g.full in
      record { full = r.full; low = fair.chain _ _ _ g.low r.low }

  -- so the empty walk stands in every layer
  empty-walk : (i : ℕ) → i ≤ reach R → At i R.source 0 zeros
  unfolding label_at label_of
  empty-walk i h =
      let g = source-held i in
      let r = sound R ok i R.source 0 ok.source_in (cells-pos R ok) g.full in
      stand-first R ok Low fair N carries (block R (layer R i) R.source) g (under-label R (route R i R.source 0) i R.source 0 (label_at R i R.source 0) r h) r.own

  -- One arc more. The label that stands for the walk so far is extended by arc a in round i + 1: a try, whose cell at the head then holds that
  -- candidate or one that is low to it. Both lie under the ladder tops, so one cell means one position in each graded criterion.
  one-arc : (i a h : ℕ) (xs : List ℕ) → suc i ≤ reach R → a < arc_count R → At i (tail R a) h xs → At (suc i) (head R a) (suc h) (sum xs (arc_costs R a))
  unfolding label_at label_of layer
  one-arc i a h xs l in-a old =
      let F : List ℕ = block R (layer R i) (tail R a) in
      let c : ℕ = old.where_to in
      let hu = ok.tail_in a in-a in
      let size = label-long R ok i (tail R a) c hu old.inside in
      let r₀ = sound R ok i (tail R a) c hu old.inside old.full in
      let in_c = cand-cell R ok (route R i (tail R a) c) i a c (at (width R) F c) r₀ in-a size l in
      let g = round-tries R ok (layer R i) (layer-length R ok i) Low fair a c in-a old.inside old.full in_c in
      let c' : ℕ = cell R (cand R F a c) in
      let r = sound R ok (suc i) (head R a) c' (ok.head_in a in-a) in_c g.full in
      stand-arc R ok Low fair N carries F (block R (layer R (suc i)) (head R a)) h a xs old in_c
      (under-cand R ok (route R i (tail R a) c) i a c (at (width R) F c) r₀ in-a size l) g
      (under-label R (route R (suc i) (head R a) c') (suc i) (head R a) c' (label_at R (suc i) (head R a) c') r l)
      r.own

  -- what each layer from the walk's length on holds at its end
  abbrev From : List ℕ → ℕ → Type 0
  From ws v = (i : ℕ) → length ws ≤ i → i ≤ reach R → At i v (length ws) (sums R ws)

  more : (ws : List ℕ) (a : ℕ) → a < arc_count R → Walk R R.source ws (tail R a) → From ws (tail R a) → From (ws ++ a ∷ []) (head R a)
  unfolding sums
  more ws a in-a _ old zero l k = absurd (not-suc-le-zero (subst (λ (z : ℕ). z ≤ 0) (length-snoc ws a) l))
  more ws a in-a _ old (suc i) l k =
      subst (λ (z : ℕ). At (suc i) (head R a) z (sums R (ws ++ a ∷ []))) (sym (length-snoc ws a))
      (subst (λ (z : List ℕ). At (suc i) (head R a) (suc (length ws)) z) (sym (sums-snoc R zeros ws a))
      (one-arc i a (length ws) (sums R ws) k in-a (old i (le_of_suc-le-suc (subst (λ (z : ℕ). z ≤ suc i) (length-snoc ws a) l)) (le_of_lt k))))

  -- EVERY WALK STANDS. The induction is over the walk from its end, for all layers at once: "every layer i with h ≤ i ≤ K holds ..". A label of an
  -- earlier layer may not simply be carried forward as kept: a later candidate may have taken its cell, so each layer's label is found anew.
  pub every-walk : (ws : List ℕ) (v i : ℕ) → Walk R R.source ws v → length ws ≤ i → i ≤ reach R → Stands R Low N (block R (layer R i) v) (length ws) (sums R ws)
  unfolding sums sums_from
  every-walk ws v i walk = walk-ind R From more (λ j _. empty-walk j) ws v walk i
