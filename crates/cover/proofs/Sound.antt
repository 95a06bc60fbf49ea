-- Every filled label is a walk's: of layer i, a walk of at most i arcs with exactly its sums. Assumes nothing.
use Prim.Native.Nat.{ℕ, zero, suc, ◌≤◌, ◌<◌, zero-le}
use mathlib.Core.Path.{◌≡◌, refl, sym, ap, ◌∙◌, subst}
use mathlib.Core.List.{List, [], ◌∷◌, ◌++◌}
use native.Mathlib.Nat.{le_step}
use lib.ListN.{length}
use lib.Dec.{T}
use Rattle.words.specs.Pieces.{at}
use Rattle.request.specs.Request.{Req, width, tail, head}
use Rattle.request.specs.Shape.{cells, cell}
use Rattle.request.specs.Accepted.{Regular}
use Rattle.rounds.specs.Label.{costs, filled, start, kept}
use Rattle.rounds.specs.Rounds.{block, start_block, keep_block, layer, label_of, label_at}
use Rattle.rounds.proofs.Labels.{start-costs, kept-costs}
use Rattle.rounds.proofs.Start.{start-block, start-label, start-only, cell-zero}
use Rattle.rounds.proofs.Node.{Origin, of-old, of-arc, made}
use Rattle.rounds.proofs.Round.{keep_at, keep-filled, block-whole, label-long, origin}
use Rattle.cover.specs.Walk.{Walk, sums, sums_from}
use Rattle.cover.specs.Cover.{route}
use Rattle.cover.proofs.Walks.{Rooted, cand-rooted}
use Rattle.cover.proofs.Routes.{route-kept, route-arc}

module _ (R : Req) (ok : Regular R) where
  abbrev Sound : ℕ → Type 0
  Sound i = (v c : ℕ) → v < R.nodes → c < cells R → T (filled R (label_at R i v c)) → Rooted R (route R i v c) i v c (label_at R i v c)

  start-rooted : Rooted R [] 0 R.source 0 (start R)
  unfolding sums sums_from
  start-rooted = record { walk = refl; short = zero-le; exact = start-costs R; own = ap (cell R) (start-costs R) ∙ cell-zero R ok }

  -- layer 0 holds the start alone
  sound-zero : Sound 0
  unfolding label_at label_of layer route
  sound-zero v c hv hc =
      subst (λ (z : List ℕ). T (filled R (at (width R) z c)) → Rooted R [] 0 v c (at (width R) z c)) (sym (start-block R v hv))
      (λ t. let p = start-only R ok v c hc t in
      subst (λ (z : ℕ). Rooted R [] 0 z c (at (width R) (start_block R z) c)) (sym p.0)
      (subst (λ (z : ℕ). Rooted R [] 0 R.source z (at (width R) (start_block R R.source) z)) (sym p.1)
      (subst (λ (z : List ℕ). Rooted R [] 0 R.source 0 z) (sym (start-label R ok)) start-rooted)))

  -- a label of the next layer was kept, with the same route, or came by an arc, with the arc at the end of the tail's route
  sound-suc : (i : ℕ) → Sound i → Sound (suc i)
  unfolding label_at label_of
  sound-suc i sound v c hv hc t = go (origin R ok i v c hv hc t)
    where
      go : Origin R (λ a. block R (layer R i) (tail R a)) v (keep_block R (block R (layer R i) v)) c (label_at R (suc i) v c) → Rooted R (route R (suc i) v c) (suc i) v c (label_at R (suc i) v c)
      go (of-old u e) =
          let F : List ℕ = block R (layer R i) v in
          let w = block-whole R ok i v hv in
          let n = label-long R ok i v c hv hc in
          let t' = keep-filled R F w c hc u in
          let old = sound v c hv hc t' in
          let e' : label_at R (suc i) v c ≡ kept R (at (width R) F c) = e ∙ keep_at R F w c hc t' in
          let way : route R (suc i) v c ≡ route R i v c = route-kept R i v c (at (width R) F c) n e' in
          let same : costs R (label_at R (suc i) v c) ≡ costs R (at (width R) F c) = ap (costs R) e' ∙ kept-costs R (at (width R) F c) n in
          record {
            walk = subst (λ (z : List ℕ). Walk R R.source z v) (sym way) old.walk;
            short = subst (λ (z : List ℕ). length z ≤ suc i) (sym way) (le_step old.short);
            exact = same ∙ old.exact ∙ ap (sums R) (sym way);
            own = ap (cell R) same ∙ old.own;
          }
      go (of-arc a f in-a here in_f u k e) =
          let F : List ℕ = block R (layer R i) (tail R a) in
          let hu = ok.tail_in a in-a in
          let n = label-long R ok i (tail R a) f hu in_f in
          let ws : List ℕ = route R i (tail R a) f in
          let r = cand-rooted R ok ws i a f (at (width R) F f) (sound (tail R a) f hu in_f u) in-a n in
          subst (λ (z : List ℕ). Rooted R z (suc i) v c (label_at R (suc i) v c)) (sym (route-arc R i v c ok a f in-a (at (width R) F f) n e))
          (subst (λ (z : List ℕ). Rooted R (ws ++ a ∷ []) (suc i) v c z) (sym e)
          (subst (λ (z : ℕ). Rooted R (ws ++ a ∷ []) (suc i) z c (made R F a f)) here
          (subst (λ (z : ℕ). Rooted R (ws ++ a ∷ []) (suc i) (head R a) z (made R F a f)) (sym k) r)))

  -- EVERY LABEL IS A WALK'S, by induction over the layers
  pub sound : (i : ℕ) → Sound i
  sound zero = sound-zero
  sound (suc i) = sound-suc i (sound i)
