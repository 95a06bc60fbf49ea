-- A round, node by node: it is the arcs into each node, offered to the kept block. Assumes nothing.
use Prim.Native.Nat.{ℕ, zero, suc, ◌*◌, ◌≤◌, ◌<◌}
use mathlib.Core.Path.{◌≡◌, refl, sym, ap, ◌∙◌, subst}
use mathlib.Core.Bool.{cond}
use mathlib.Core.List.{List}
use native.Mathlib.Decide.{ℕ_discrete}
use native.Mathlib.Nat.{le_refl, le_trans}
use lib.ListN.{length}
use lib.Dec.{T, not_T, eqb, eqb→eq, eqb_refl}
use Rattle.words.specs.Loops.{up_to}
use Rattle.words.specs.Pieces.{at, put}
use Rattle.words.proofs.Choices.{cond_cases, cond-true, cond-false}
use Rattle.words.proofs.Loops.{up_to-keeps}
use Rattle.words.proofs.Pieces.{at_length, put-length, at-put-same, at-put-other, join-length, join-at}
use Rattle.request.specs.Request.{Req, width, arc_count, tail, head}
use Rattle.request.specs.Shape.{cells, cell}
use Rattle.request.specs.Accepted.{Regular}
use Rattle.rounds.specs.Label.{costs, filled, empty, kept}
use Rattle.rounds.specs.Rounds.{span, block, try_arc, keep_cell, keep_block, keep_all, arc_step, round, layer, label_of, label_at}
use Rattle.rounds.proofs.Labels.{empty-length, empty-not-filled, kept-length, kept-costs, kept-filled}
use Rattle.rounds.proofs.Start.{start_layer-length}
use Rattle.rounds.proofs.Ties.{Fair}
use Rattle.rounds.proofs.Node.{Good, Origin, cand, node_arc, node_block, try_arc-length, node-origin, some-keep, node-tries}

-- ---- what is kept of a block

module _ (R : Req) where
  pub keep_cell-length : (l : List ℕ) → length l ≡ width R → length (keep_cell R l) ≡ width R
  unfolding keep_cell
  keep_cell-length l e = cond_cases (λ (z : List ℕ). length z ≡ width R) (filled R l) (λ _. kept-length R l e) (λ _. empty-length R)

  module _ (F : List ℕ) (whole : length F ≡ span R) where
    cell-sized : (c : ℕ) → c < cells R → length (keep_cell R (at (width R) F c)) ≡ width R
    cell-sized c h = keep_cell-length (at (width R) F c) (at_length (width R) F (cells R) whole c h)

    pub keep_block-length : length (keep_block R F) ≡ span R
    unfolding keep_block
    keep_block-length = join-length (width R) (λ c. keep_cell R (at (width R) F c)) (cells R) cell-sized

    keep-cell : (c : ℕ) → c < cells R → at (width R) (keep_block R F) c ≡ keep_cell R (at (width R) F c)
    unfolding keep_block
    keep-cell c h = join-at (width R) (λ c. keep_cell R (at (width R) F c)) (cells R) cell-sized c h

    -- a filled label is kept
    pub keep_at : (c : ℕ) → c < cells R → T (filled R (at (width R) F c)) → at (width R) (keep_block R F) c ≡ kept R (at (width R) F c)
    unfolding keep_cell
    keep_at c h t = keep-cell c h ∙ cond-true (filled R (at (width R) F c)) (kept R (at (width R) F c)) (empty R) t

    -- and no other
    pub keep-filled : (c : ℕ) → c < cells R → T (filled R (at (width R) (keep_block R F) c)) → T (filled R (at (width R) F c))
    unfolding keep_cell
    keep-filled c h t =
        cond_cases (λ (z : List ℕ). T (filled R z) → T (filled R (at (width R) F c))) (filled R (at (width R) F c)) (λ u _. u) (λ _ u. absurd (empty-not-filled R u))
        (subst (λ (z : List ℕ). T (filled R z)) (keep-cell c h) t)

    -- so what a block holds, its kept block holds
    pub keep-good : (Low : List ℕ → List ℕ → Type 0) (c : ℕ) → c < cells R → (zs : List ℕ) → Good R Low F c zs → Good R Low (keep_block R F) c zs
    keep-good Low c h zs g =
        let size = at_length (width R) F (cells R) whole c h in
        let e : at (width R) (keep_block R F) c ≡ kept R (at (width R) F c) = keep_at c h g.full in
        record {
          full = subst (λ z. T (filled R z)) (sym e) (kept-filled R (at (width R) F c) size);
          low = subst (Low zs) (sym (ap (costs R) e ∙ kept-costs R (at (width R) F c) size)) g.low;
        }

-- ---- a round is, for each node, the arcs into it

module _ (R : Req) (ok : Regular R) (L : List ℕ) (whole : length L ≡ R.nodes * span R) where
  abbrev Fs : ℕ → List ℕ
  Fs a = block R L (tail R a)

  abbrev Keep : ℕ → List ℕ
  Keep v = keep_block R (block R L v)

  pub block-length : (X : List ℕ) → length X ≡ R.nodes * span R → (v : ℕ) → v < R.nodes → length (block R X v) ≡ span R
  unfolding block
  block-length X e v h = at_length (span R) X R.nodes e v h

  pub keep-sized : (v : ℕ) → v < R.nodes → length (Keep v) ≡ span R
  keep-sized v h = keep_block-length R (block R L v) (block-length L whole v h)

  pub keep_all-length : length (keep_all R L) ≡ R.nodes * span R
  unfolding keep_all
  keep_all-length = join-length (span R) Keep R.nodes keep-sized

  pub arcs-sized : (a : ℕ) → a < arc_count R → length (Fs a) ≡ span R
  arcs-sized a l = block-length L whole (tail R a) (ok.tail_in a l)

  -- one arc changes its head's block and no other
  arc-block : (m : ℕ) (X : List ℕ) → m < arc_count R → length X ≡ R.nodes * span R → (v : ℕ) → v < R.nodes → Dec (v ≡ head R m) → block R (arc_step R L m X) v ≡ node_arc R Fs v m (block R X v)
  unfolding arc_step block node_arc
  arc-block m X l e v h d = go (try_arc-length R (Fs m) m (block R X (head R m)) ∙ block-length X e (head R m) (ok.head_in m l)) d
    where
      go : length (try_arc R (Fs m) m (block R X (head R m))) ≡ span R → Dec (v ≡ head R m) → at (span R) (put (span R) X (head R m) (try_arc R (Fs m) m (block R X (head R m)))) v ≡ cond (eqb (head R m) v) (try_arc R (Fs m) m (at (span R) X v)) (at (span R) X v)
      go size (yes q) =
          ap (at (span R) (put (span R) X (head R m) (try_arc R (Fs m) m (block R X (head R m))))) q
          ∙ at-put-same (span R) X (head R m) (try_arc R (Fs m) m (block R X (head R m))) size R.nodes e (ok.head_in m l)
          ∙ ap (λ (z : ℕ). try_arc R (Fs m) m (at (span R) X z)) (sym q)
          ∙ sym (cond-true (eqb (head R m) v) (try_arc R (Fs m) m (at (span R) X v)) (at (span R) X v) (subst (λ (z : ℕ). T (eqb (head R m) z)) (sym q) (eqb_refl (head R m))))
      go size (no f) =
          at-put-other (span R) X (head R m) (try_arc R (Fs m) m (block R X (head R m))) size v f
          ∙ sym (cond-false (eqb (head R m) v) (try_arc R (Fs m) m (at (span R) X v)) (at (span R) X v) (not_T (eqb (head R m) v) (λ t. f (sym (eqb→eq (head R m) v t)))))

  record Split (m : ℕ) (X : List ℕ) : Type 0 where
    len : length X ≡ R.nodes * span R
    each : (v : ℕ) → v < R.nodes → block R X v ≡ up_to (node_arc R Fs v) (Keep v) m

  split-next : (m : ℕ) (X : List ℕ) → m < arc_count R → Split m X → Split (suc m) (arc_step R L m X)
  unfolding up_to arc_step
  split-next m X l s = record {
    len = put-length (span R) X (head R m) (try_arc R (Fs m) m (block R X (head R m))) ∙ s.len;
    each = λ v h. arc-block m X l s.len v h (ℕ_discrete v (head R m)) ∙ ap (node_arc R Fs v m) (s.each v h);
  }

  -- the first m arcs
  some-arcs : (m : ℕ) → m ≤ arc_count R → Split m (up_to (arc_step R L) (keep_all R L) m)
  unfolding keep_all block up_to
  some-arcs m h =
      up_to-keeps (arc_step R L) Split (keep_all R L) m
      (record { len = join-length (span R) Keep R.nodes keep-sized; each = λ v h. join-at (span R) Keep R.nodes keep-sized v h })
      (λ k X l s. split-next k X (le_trans l h) s)

  split : Split (arc_count R) (round R L)
  unfolding round
  split = some-arcs (arc_count R) (le_refl (arc_count R))

  pub round-length : length (round R L) ≡ R.nodes * span R
  round-length = split.len

  -- THE ROUND, node by node
  pub round-block : (v : ℕ) → v < R.nodes → block R (round R L) v ≡ node_block R (λ a. block R L (tail R a)) v (keep_block R (block R L v))
  unfolding node_block
  round-block v h = split.each v h

  module _ (Low : List ℕ → List ℕ → Type 0) (fair : Fair R.rule Low) where
    pub round-tries : (a f : ℕ) → a < arc_count R → f < cells R → T (filled R (at (width R) (block R L (tail R a)) f)) → cell R (cand R (block R L (tail R a)) a f) < cells R
        → Good R Low (block R (round R L) (head R a)) (cell R (cand R (block R L (tail R a)) a f)) (cand R (block R L (tail R a)) a f)
    round-tries a f in-a in_f t in_c =
        subst (λ (z : List ℕ). Good R Low z (cell R (cand R (Fs a) a f)) (cand R (Fs a) a f)) (sym (round-block (head R a) (ok.head_in a in-a)))
        (node-tries R ok Fs arcs-sized (head R a) (Keep (head R a)) (keep-sized (head R a) (ok.head_in a in-a)) Low fair a f in-a refl in_f t in_c)

    -- what the layer before held is kept, and stays or is bettered, after any number of arcs
    pub some_good : (m : ℕ) → m ≤ arc_count R → (v c : ℕ) → v < R.nodes → c < cells R → (zs : List ℕ) → Good R Low (block R L v) c zs → Good R Low (block R (up_to (arc_step R L) (keep_all R L) m) v) c zs
    some_good m h v c hv hc zs g =
        subst (λ (z : List ℕ). Good R Low z c zs) (sym ((some-arcs m h).each v hv))
        (some-keep R ok Fs arcs-sized v (Keep v) (keep-sized v hv) Low fair m h c hc zs (keep-good R (block R L v) (block-length L whole v hv) Low c hc zs g))

    pub round_keeps : (v c : ℕ) → v < R.nodes → c < cells R → T (filled R (label_of R L v c)) → Good R Low (block R (round R L) v) c (costs R (label_of R L v c))
    unfolding label_of round
    round_keeps v c hv hc t =
        some_good (arc_count R) (le_refl (arc_count R)) v c hv hc (costs R (at (width R) (block R L v) c)) (record { full = t; low = fair.same (costs R (at (width R) (block R L v) c)) })

-- ---- layers

module _ (R : Req) (ok : Regular R) where
  pub layer-length : (i : ℕ) → length (layer R i) ≡ R.nodes * span R
  unfolding layer
  layer-length zero = start_layer-length R
  layer-length (suc i) = round-length R ok (layer R i) (layer-length i)

  -- a node's block of it has C labels, and a label d+2 words
  pub block-whole : (i v : ℕ) → v < R.nodes → length (block R (layer R i) v) ≡ span R
  unfolding block
  block-whole i v hv = at_length (span R) (layer R i) R.nodes (layer-length i) v hv

  pub label-long : (i v c : ℕ) → v < R.nodes → c < cells R → length (at (width R) (block R (layer R i) v) c) ≡ width R
  label-long i v c hv hc = at_length (width R) (block R (layer R i) v) (cells R) (block-whole i v hv) c hc

  -- a filled label of the next layer was kept, or came by an arc
  pub origin : (i v c : ℕ) → v < R.nodes → c < cells R → T (filled R (label_at R (suc i) v c))
      → Origin R (λ a. block R (layer R i) (tail R a)) v (keep_block R (block R (layer R i) v)) c (label_at R (suc i) v c)
  unfolding label_at label_of layer
  origin i v c hv hc =
      subst (λ (z : List ℕ). T (filled R (at (width R) z c)) → Origin R (λ a. block R (layer R i) (tail R a)) v (keep_block R (block R (layer R i) v)) c (at (width R) z c))
      (sym (round-block R ok (layer R i) (layer-length i) v hv))
      (node-origin R ok (λ a. block R (layer R i) (tail R a)) (arcs-sized R ok (layer R i) (layer-length i)) v (keep_block R (block R (layer R i) v))
      (keep-sized R ok (layer R i) (layer-length i) v hv) c hc)
