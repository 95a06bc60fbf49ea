-- What a layer kept was tried already: layer 0 keeps nothing, and a round tries what it keeps. So in the next round a try of a kept label
-- changes nothing. The proof in words stands above the definitions. Assumes nothing.
use Prim.Native.Nat.{ℕ, zero, suc, ◌+◌, ◌*◌, ◌≤◌, ◌<◌}
use mathlib.Core.Path.{◌≡◌, refl, sym, ap, ap₂, ◌∙◌, subst}
use mathlib.Core.List.{List}
use mathlib.Core.Logic.{⊎_elim}
use native.Mathlib.Nat.{le_trans}
use native.Mathlib.Omega.{arith}
use lib.ListN.{length, replicate, length-replicate}
use lib.Dec.{T, ltb, lt→ltb}
use borrow.Author.Tests.{le-ltb}
use Rattle.words.specs.Loops.{up_to}
use Rattle.words.specs.Pieces.{at}
use Rattle.words.proofs.Choices.{cond_cases, cond-false, false-is}
use Rattle.words.proofs.Loops.{up_to-keeps, up_to-idle}
use Rattle.words.proofs.Pieces.{at_length}
use Rattle.request.specs.Request.{Req, width, arc_count, arc_costs, tail, head, reach}
use Rattle.request.specs.Shape.{cells, cell}
use Rattle.request.specs.Accepted.{Regular}
use Rattle.request.proofs.Cells.{UnderTop, cell-lt}
use Rattle.request.proofs.Tops.{arc-le}
use Rattle.rounds.specs.Label.{costs, step, filled, start, sum, candidate, came, wins}
use Rattle.rounds.specs.Rounds.{span, block, start_block, start_layer, keep_block, keep_all, offer, try_cell, arc_step, round, layer, label_of, label_at}
use Rattle.rounds.specs.Passing.{Room, Taken, Tried, AllTried, Quiet}
use Rattle.rounds.proofs.Costs.{layer-costs, room-for-arc}
use Rattle.rounds.proofs.Labels.{get_or-sum, step_label, kept-costs}
use Rattle.rounds.proofs.Start.{start-block, start-label, start-only}
use Rattle.rounds.proofs.Ties.{Fair, Stays, stay-low, stays-held}
use Rattle.rounds.proofs.Node.{Good, Origin, of-old, of-arc, cand, made, made-costs, cand-length, try_cell-length, try-good, node-origin}
use Rattle.rounds.proofs.Round.{block-length, arcs-sized, keep-sized, keep_at, keep-filled, round-length, round-block, some_good, round-tries, layer-length}

-- ---- a layer has room

-- an arc from a block with room leads to a cell
pub room-cell : (R : Req) (ok : Regular R) (F : List ℕ) → Room R F → (a c : ℕ) → a < arc_count R → c < cells R → T (filled R (at (width R) F c)) → cell R (cand R F a c) < cells R
unfolding Room candidate UnderTop
room-cell R ok F room a c in-a in_c t =
    cell-lt R ok (cand R F a c) (λ j _. omega (arith, room c in_c t j, arc-le R a in-a j, get_or-sum (costs R (at (width R) F c)) (arc_costs R a) j))

pub layer-room : (R : Req) → Regular R → (i v : ℕ) → suc i ≤ reach R → v < R.nodes → Room R (block R (layer R i) v)
unfolding Room label_at label_of
layer-room R ok i v h hv c hc t = room-for-arc R i (costs R (at (width R) (block R (layer R i) v) c)) h (layer-costs R ok i v c hv hc t)

-- ---- a label that does not take its cell's place, as what the cell holds

module _ (R : Req) (ok : Regular R) (fair : Fair R.rule (Stays R.rule)) (F : List ℕ) (whole : length F ≡ span R) (a c : ℕ) (in-a : a < arc_count R) (in_c : c < cells R) where
  pub taken-good : (B : List ℕ) → Taken R F a c B → Good R (Stays R.rule) B (cell R (cand R F a c)) (cand R F a c)
  unfolding Taken
  taken-good B t =
      let r = stay-low R (Stays R.rule) fair (made R F a c) (at (width R) B (cell R (cand R F a c))) t in
      record { full = r.0; low = subst (λ z. Stays R.rule z (costs R (at (width R) B (cell R (cand R F a c))))) (made-costs R ok F whole a c in-a in_c) r.1 }

  pub good-taken : (B : List ℕ) → Good R (Stays R.rule) B (cell R (cand R F a c)) (cand R F a c) → Taken R F a c B
  unfolding Taken
  good-taken B g =
      stays-held R (made R F a c) (at (width R) B (cell R (cand R F a c))) g.full
      (subst (λ z. Stays R.rule z (costs R (at (width R) B (cell R (cand R F a c))))) (sym (made-costs R ok F whole a c in-a in_c)) g.low)

-- ---- tries that change nothing

-- of an empty label
pub empty-same : (R : Req) (F : List ℕ) (a c : ℕ) (B : List ℕ) → step R (at (width R) F c) ≡ 0 → try_cell R F a c B ≡ B
unfolding try_cell filled
empty-same R F a c B e = cond-false (ltb 0 (step R (at (width R) F c))) (offer R (cell R (cand R F a c)) (made R F a c) B) B (false-is (le-ltb 0 (step R (at (width R) F c)) (omega arith)))

-- of a kept label that was tried already
pub kept_same : (R : Req) (F : List ℕ) (a c : ℕ) (B : List ℕ) → c < cells R → Tried R F a B → step R (at (width R) F c) ≡ 2 → try_cell R F a c B ≡ B
unfolding Tried Taken try_cell offer
kept_same R F a c B in_c tried e =
    cond_cases (λ (X : List ℕ). X ≡ B) (filled R (at (width R) F c))
    (λ _. cond-false (wins R (made R F a c) (at (width R) B (cell R (cand R F a c)))) _ B (tried c in_c e))
    (λ _. refl)

-- what is kept is filled, and no arc's label is
step-filled : (R : Req) (l : List ℕ) → step R l ≡ 2 → T (filled R l)
unfolding filled
step-filled R l e = lt→ltb 0 (step R l) (omega arith)

came-step : (R : Req) (ok : Regular R) (F : List ℕ) → length F ≡ span R → (a c : ℕ) → a < arc_count R → c < cells R → step R (made R F a c) ≡ 3 + a
unfolding came
came-step R ok F whole a c in-a in_c = step_label R (cand R F a c) (3 + a) c (cand-length R ok F whole a c in-a in_c)

-- and what was tried stays so while the arc's cells are tried
pub tried-next : (R : Req) (ok : Regular R) → Fair R.rule (Stays R.rule) → (F : List ℕ) → length F ≡ span R → Room R F → (a f : ℕ) → a < arc_count R → f < cells R
    → (B : List ℕ) → length B ≡ span R → Tried R F a B → Tried R F a (try_cell R F a f B)
unfolding Tried
tried-next R ok fair F whole room a f in-a in_f B size tried c in_c e =
    let in_cell = room-cell R ok F room a c in-a in_c (step-filled R (at (width R) F c) e) in
    good-taken R ok fair F whole a c in-a in_c (try_cell R F a f B)
    (try-good R ok (λ _. F) (λ _ _. whole) 0 B size (Stays R.rule) fair a f in-a in_f B size (cell R (cand R F a c)) in_cell (cand R F a c)
    (taken-good R ok fair F whole a c in-a in_c B (tried c in_c e)))

-- so trying a quiet cell, first of all or after any cells, changes nothing
module _ (R : Req) (ok : Regular R) (fair : Fair R.rule (Stays R.rule)) (F : List ℕ) (whole : length F ≡ span R) (room : Room R F) (a : ℕ) (in-a : a < arc_count R)
    (B : List ℕ) (size : length B ≡ span R) (tried : Tried R F a B) where
  pub some-tried : (n : ℕ) → n ≤ cells R → Tried R F a (up_to (try_cell R F a) B n)
  some-tried n h =
      (up_to-keeps (try_cell R F a) (λ _ X. (length X ≡ span R) × Tried R F a X) B n (size, tried)
      (λ f X l r. (try_cell-length R F a f X ∙ r.0, tried-next R ok fair F whole room a f in-a (le_trans l h) X r.0 r.1))).1

  quiet_same : (n : ℕ) → n ≤ cells R → (c : ℕ) → c < cells R → Quiet (step R (at (width R) F c)) → try_cell R F a c (up_to (try_cell R F a) B n) ≡ up_to (try_cell R F a) B n
  quiet_same n h c in_c =
      ⊎_elim (empty-same R F a c (up_to (try_cell R F a) B n)) (kept_same R F a c (up_to (try_cell R F a) B n) in_c (some-tried n h))

  pub quiet-cells : (m n : ℕ) → m ≤ n → n ≤ cells R → ((c : ℕ) → m ≤ c → c < n → Quiet (step R (at (width R) F c))) → up_to (try_cell R F a) B n ≡ up_to (try_cell R F a) B m
  quiet-cells m n h k quiet = up_to-idle (try_cell R F a) B m n h (λ c l g. quiet_same m (le_trans h k) c (le_trans g k) (quiet c l g))

-- labels of the same costs make the same candidate
same-cand : (R : Req) (a : ℕ) (l l' : List ℕ) → costs R l ≡ costs R l' → candidate R a l ≡ candidate R a l'
unfolding candidate
same-cand R a l l' e = ap (λ (xs : List ℕ). sum xs (arc_costs R a)) e

-- ---- in a round over a layer whose kept labels were tried, before each arc

module _ (R : Req) (ok : Regular R) (fair : Fair R.rule (Stays R.rule)) (L : List ℕ) (whole : length L ≡ R.nodes * span R)
    (rooms : (v : ℕ) → v < R.nodes → Room R (block R L v)) where
  abbrev Tail : ℕ → List ℕ
  Tail a = block R L (tail R a)

  in_cell : (a c : ℕ) → a < arc_count R → c < cells R → T (filled R (at (width R) (Tail a) c)) → cell R (cand R (Tail a) a c) < cells R
  in_cell a c in-a in_c t = room-cell R ok (Tail a) (rooms (tail R a) (ok.tail_in a in-a)) a c in-a in_c t

  -- THE KEPT LABELS OF ITS TAIL WERE TRIED
  pub round-tried : AllTried R L → (m : ℕ) → m ≤ arc_count R → (a : ℕ) → a < arc_count R → Tried R (Tail a) a (block R (up_to (arc_step R L) (keep_all R L) m) (head R a))
  unfolding AllTried Tried
  round-tried tried m h a in-a c in_c e =
      let size = arcs-sized R ok L whole a in-a in
      good-taken R ok fair (Tail a) size a c in-a in_c (block R (up_to (arc_step R L) (keep_all R L) m) (head R a))
      (some_good R ok L whole (Stays R.rule) fair m h (head R a) (cell R (cand R (Tail a) a c)) (ok.head_in a in-a)
      (in_cell a c in-a in_c (step-filled R (at (width R) (Tail a) c) e)) (cand R (Tail a) a c)
      (taken-good R ok fair (Tail a) size a c in-a in_c (block R L (head R a)) (tried a in-a c in_c e)))

  -- ---- a label that a round kept has its costs from the layer before

  pub kept-old : (v c : ℕ) → v < R.nodes → c < cells R → step R (at (width R) (block R (round R L) v) c) ≡ 2
      → T (filled R (at (width R) (block R L v) c)) × (costs R (at (width R) (block R (round R L) v) c) ≡ costs R (at (width R) (block R L v) c))
  kept-old v c hv hc e = go (subst (λ (B : List ℕ). T (filled R (at (width R) B c)) → Origin R Tail v (keep_block R F) c (at (width R) B c)) (sym (round-block R ok L whole v hv))
      (node-origin R ok Tail (arcs-sized R ok L whole) v (keep_block R F) (keep-sized R ok L whole v hv) c hc) (step-filled R l e))
    where
      F : List ℕ
      F = block R L v

      l : List ℕ
      l = at (width R) (block R (round R L) v) c

      size : length F ≡ span R
      size = block-length R ok L whole L whole v hv

      go : Origin R Tail v (keep_block R F) c l → T (filled R (at (width R) F c)) × (costs R l ≡ costs R (at (width R) F c))
      go (of-old u same) =
          let t = keep-filled R F size c hc u in
          (t, ap (costs R) (same ∙ keep_at R F size c hc t) ∙ kept-costs R (at (width R) F c) (at_length (width R) F (cells R) size c hc))
      go (of-arc a f in-a here in_f u k same) =
          let s = ap (step R) same ∙ came-step R ok (Tail a) (arcs-sized R ok L whole a in-a) a f in-a in_f in
          absurd (omega arith)

  -- A ROUND TRIES WHAT IT KEEPS
  pub round-leaves-tried : AllTried R (round R L)
  unfolding AllTried Tried
  round-leaves-tried a in-a c in_c e =
      let F' : List ℕ = block R (round R L) (tail R a) in
      let old = kept-old (tail R a) c (ok.tail_in a in-a) in_c e in
      let same : cand R (Tail a) a c ≡ cand R F' a c = same-cand R a (at (width R) (Tail a) c) (at (width R) F' c) (sym old.1) in
      good-taken R ok fair F' (block-length R ok L whole (round R L) (round-length R ok L whole) (tail R a) (ok.tail_in a in-a)) a c in-a in_c (block R (round R L) (head R a))
      (subst (λ (xs : List ℕ). Good R (Stays R.rule) (block R (round R L) (head R a)) (cell R xs) xs) same
      (round-tries R ok L whole (Stays R.rule) fair a c in-a in_c old.0 (in_cell a c in-a in_c old.0)))

-- ---- every layer

-- a start is not kept
start-tried : (R : Req) → Regular R → AllTried R (start_layer R)
unfolding AllTried Tried start
start-tried R ok a in-a c in_c e =
    let v = tail R a in
    let b = start-block R v (ok.tail_in a in-a) in
    let t = subst (λ (B : List ℕ). T (filled R (at (width R) B c))) b (step-filled R (at (width R) (block R (start_layer R) v) c) e) in
    let p = start-only R ok v c in_c t in
    let one : step R (at (width R) (block R (start_layer R) v) c) ≡ 1 =
    ap (λ (B : List ℕ). step R (at (width R) B c)) b
    ∙ ap₂ (λ (x y : ℕ). step R (at (width R) (start_block R x) y)) p.0 p.1
    ∙ ap (step R) (start-label R ok)
    ∙ step_label R (replicate R.criteria 0) 1 0 (length-replicate R.criteria 0) in
    absurd (omega arith)

-- SO EVERY LAYER'S KEPT LABELS WERE TRIED
pub layer-tried : (R : Req) → Regular R → Fair R.rule (Stays R.rule) → (i : ℕ) → i ≤ reach R → AllTried R (layer R i)
unfolding layer
layer-tried R ok fair zero h = start-tried R ok
layer-tried R ok fair (suc i) h = round-leaves-tried R ok fair (layer R i) (layer-length R ok i) (λ v hv. layer-room R ok i v h hv)
