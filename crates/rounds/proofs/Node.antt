-- The arcs into one node v, offered in table order to its block, where arc a's tail has the block F a: where each label comes from, and that each
-- try is there or bettered. Assumes nothing.
use Prim.Native.Nat.{ℕ, ◌≤◌, ◌<◌}
use mathlib.Core.Path.{◌≡◌, refl, sym, ◌∙◌, subst}
use mathlib.Core.Bool.{cond}
use mathlib.Core.List.{List}
use native.Mathlib.Nat.{le_refl, le_trans}
use lib.ListN.{length}
use lib.Dec.{T, T_not, eqb, eqb→eq, eqb_refl}
use Rattle.words.specs.Loops.{up_to}
use Rattle.words.specs.Pieces.{at, put}
use Rattle.words.proofs.Choices.{cond_cases}
use Rattle.words.proofs.Loops.{up_to-keeps, up_to-sets}
use Rattle.words.proofs.Pieces.{at_length, put-length, at-put, at-put-same}
use Rattle.request.specs.Request.{Req, width, arc_count, head}
use Rattle.request.specs.Shape.{cells, cell}
use Rattle.request.specs.Accepted.{Regular}
use Rattle.rounds.specs.Label.{costs, filled, wins, candidate, came}
use Rattle.rounds.specs.Rounds.{span, offer, try_cell, try_arc}
use Rattle.rounds.proofs.Labels.{candidate-length, came-length, came-filled, came-costs}
use Rattle.rounds.proofs.Ties.{Fair, win-low, stay-low}

-- arc a, where it leads into v, and all arcs
unfoldable pub node_arc : Req → (ℕ → List ℕ) → ℕ → ℕ → List ℕ → List ℕ
node_arc R F v a B = let r = try_arc R (F a) a B in cond (eqb (head R a) v) r B

unfoldable pub node_block : Req → (ℕ → List ℕ) → ℕ → List ℕ → List ℕ
node_block R F v B = up_to (node_arc R F v) B (arc_count R)

-- the costs and the label that a try of arc a from cell f of block F makes
abbrev pub cand : Req → List ℕ → ℕ → ℕ → List ℕ
cand R F a f = candidate R a (at (width R) F f)

abbrev pub made : Req → List ℕ → ℕ → ℕ → List ℕ
made R F a f = came R a f (at (width R) F f)

-- cell c of block B holds a label that is low to costs zs
pub record Good (R : Req) (Low : List ℕ → List ℕ → Type 0) (B : List ℕ) (c : ℕ) (zs : List ℕ) : Type 0 where
  pub full : T (filled R (at (width R) B c))
  pub low : Low zs (costs R (at (width R) B c))

-- label l, in cell c of the block after the arcs into v, was in B, or came by an arc
pub data Origin (R : Req) (F : ℕ → List ℕ) (v : ℕ) (B : List ℕ) (c : ℕ) (l : List ℕ) : Type 0 where
  of-old : T (filled R (at (width R) B c)) → l ≡ at (width R) B c → Origin R F v B c l
  of-arc : (a f : ℕ) → a < arc_count R → head R a ≡ v → f < cells R → T (filled R (at (width R) (F a) f)) → c ≡ cell R (cand R (F a) a f) → l ≡ made R (F a) a f → Origin R F v B c l

-- ---- lengths: a store never changes one

pub try_cell-length : (R : Req) (F : List ℕ) (a f : ℕ) (B : List ℕ) → length (try_cell R F a f B) ≡ length B
unfolding try_cell offer
try_cell-length R F a f B =
    cond_cases (λ (Z : List ℕ). length Z ≡ length B) (filled R (at (width R) F f))
    (λ _. cond_cases (λ (Z : List ℕ). length Z ≡ length B) (wins R (made R F a f) (at (width R) B (cell R (cand R F a f)))) (λ _. put-length (width R) B (cell R (cand R F a f)) (made R F a f)) (λ _. refl))
    (λ _. refl)

pub try_arc-length : (R : Req) (F : List ℕ) (a : ℕ) (B : List ℕ) → length (try_arc R F a B) ≡ length B
unfolding try_arc
try_arc-length R F a B =
    up_to-keeps (try_cell R F a) (λ _ (X : List ℕ). length X ≡ length B) B (cells R) refl (λ f X _ e. try_cell-length R F a f X ∙ e)

-- ---- one offer, to a block of C labels

module _ (R : Req) (B : List ℕ) (whole : length B ≡ span R) (c : ℕ) (l : List ℕ) (size : length l ≡ width R) where
  pub put_keeps {κ} : (P : List ℕ → Type κ) (j : ℕ) → j < cells R → (j ≡ c → P l) → P (at (width R) B j) → P (at (width R) (put (width R) B c l) j)
  put_keeps P j h = at-put (width R) B c l size P (cells R) whole j h

  module _ (Low : List ℕ → List ℕ → Type 0) (fair : Fair R.rule Low) (t : T (filled R l)) where
    pub put-hit : (zs : List ℕ) → c < cells R → Low zs (costs R l) → Good R Low (put (width R) B c l) c zs
    put-hit zs in_c h =
        let e = at-put-same (width R) B c l size (cells R) whole in_c in
        record { full = subst (λ z. T (filled R z)) (sym e) t; low = subst (λ z. Low zs (costs R z)) (sym e) h }

    pub offer-good : (j : ℕ) → j < cells R → (zs : List ℕ) → Good R Low B j zs → Good R Low (offer R c l B) j zs
    unfolding offer
    offer-good j h zs g =
        cond_cases (λ Z. Good R Low Z j zs) (wins R l (at (width R) B c))
        (λ u. let r = put_keeps (λ z. T (filled R z) × Low zs (costs R z)) j h
        (λ e. (
          t,
          fair.chain _ _ _ (subst (λ z. Low zs (costs R (at (width R) B z))) e g.low)
              (win-low R Low fair l (at (width R) B c) u (subst (λ z. T (filled R (at (width R) B z))) e g.full)),
        ))
        (g.full, g.low) in record { full = r.0; low = r.1 })
        (λ _. g)

    pub offer-hit : c < cells R → Good R Low (offer R c l B) c (costs R l)
    unfolding offer
    offer-hit in_c =
        cond_cases (λ Z. Good R Low Z c (costs R l)) (wins R l (at (width R) B c))
        (λ u. put-hit _ in_c (fair.same (costs R l)))
        (λ u. let r = stay-low R Low fair l (at (width R) B c) u in record { full = r.0; low = r.1 })

-- ---- what a try makes

module _ (R : Req) (ok : Regular R) (F : List ℕ) (whole : length F ≡ span R) (a f : ℕ) (in-a : a < arc_count R) (in_f : f < cells R) where
  abbrev l : List ℕ
  l = at (width R) F f

  size : length (at (width R) F f) ≡ width R
  size = at_length (width R) F (cells R) whole f in_f

  pub cand-length : length (cand R F a f) ≡ R.criteria
  cand-length = candidate-length R ok a in-a l size

  made-length : length (made R F a f) ≡ width R
  made-length = came-length R ok a in-a l size f

  made-filled : T (filled R (made R F a f))
  made-filled = came-filled R ok a in-a l size f

  pub made-costs : costs R (made R F a f) ≡ cand R F a f
  made-costs = came-costs R ok a in-a l size f

-- ---- the arcs into v

module _ (R : Req) (ok : Regular R) (F : ℕ → List ℕ) (sized : (a : ℕ) → a < arc_count R → length (F a) ≡ span R) (v : ℕ) (B : List ℕ) (whole : length B ≡ span R) where
  record Inv (X : List ℕ) : Type 0 where
    len : length X ≡ span R
    origin : (c : ℕ) → c < cells R → T (filled R (at (width R) X c)) → Origin R F v B c (at (width R) X c)

  try-inv : (a f : ℕ) (X : List ℕ) → a < arc_count R → head R a ≡ v → f < cells R → Inv X → Inv (try_cell R (F a) a f X)
  unfolding try_cell offer
  try-inv a f X in-a here in_f inv =
      let l : List ℕ = made R (F a) a f in
      let c : ℕ = cell R (cand R (F a) a f) in
      let size = made-length R ok (F a) (sized a in-a) a f in-a in_f in
      cond_cases Inv (filled R (at (width R) (F a) f))
      (λ t. cond_cases Inv (wins R l (at (width R) X c))
      (λ _. record {
        len = put-length (width R) X c l ∙ inv.len;
        origin = λ j h. put_keeps R X inv.len c l size (λ z. T (filled R z) → Origin R F v B j z) j h
            (λ e _. of-arc a f in-a here in_f t e refl) (inv.origin j h);
      })
      (λ _. inv))
      (λ _. inv)

  arc-inv : (a : ℕ) (X : List ℕ) → a < arc_count R → Inv X → Inv (node_arc R F v a X)
  unfolding node_arc try_arc
  arc-inv a X h inv =
      cond_cases Inv (eqb (head R a) v)
      (λ t. up_to-keeps (try_cell R (F a) a) (λ _. Inv) X (cells R) inv (λ f Y l. try-inv a f Y h (eqb→eq (head R a) v t) l))
      (λ _. inv)

  old-inv : Inv B
  old-inv = record { len = whole; origin = λ c _ t. of-old t refl }

  node-inv : Inv (node_block R F v B)
  unfolding node_block
  node-inv = up_to-keeps (node_arc R F v) (λ _. Inv) B (arc_count R) old-inv (λ a X. arc-inv a X)

  pub node-origin : (c : ℕ) → c < cells R → T (filled R (at (width R) (node_block R F v B) c)) → Origin R F v B c (at (width R) (node_block R F v B) c)
  node-origin = node-inv.origin

  module _ (Low : List ℕ → List ℕ → Type 0) (fair : Fair R.rule Low) where
    -- one try
    pub try-good : (a f : ℕ) → a < arc_count R → f < cells R → (X : List ℕ) → length X ≡ span R → (j : ℕ) → j < cells R → (zs : List ℕ) → Good R Low X j zs → Good R Low (try_cell R (F a) a f X) j zs
    unfolding try_cell
    try-good a f in-a in_f X len j h zs g =
        cond_cases (λ Z. Good R Low Z j zs) (filled R (at (width R) (F a) f))
        (λ t. offer-good R X len (cell R (cand R (F a) a f)) (made R (F a) a f) (made-length R ok (F a) (sized a in-a) a f in-a in_f) Low fair (made-filled R ok (F a) (sized a in-a) a f in-a in_f) j h zs g)
        (λ _. g)

    arc-good : (a : ℕ) → a < arc_count R → (X : List ℕ) → Inv X → (j : ℕ) → j < cells R → (zs : List ℕ) → Good R Low X j zs → Good R Low (node_arc R F v a X) j zs
    unfolding node_arc try_arc
    arc-good a h X inv j in-j zs g =
        cond_cases (λ Z. Good R Low Z j zs) (eqb (head R a) v)
        (λ t. (up_to-keeps (try_cell R (F a) a) (λ _ Y. Inv Y × Good R Low Y j zs) X (cells R) (inv, g)
        (λ f Y l r. (try-inv a f Y h (eqb→eq (head R a) v t) l r.0, try-good a f h l Y r.0.len j in-j zs r.1))).1)
        (λ _. g)

    -- what B held is there, or bettered, after any number of arcs
    pub some-keep : (m : ℕ) → m ≤ arc_count R → (c : ℕ) → c < cells R → (zs : List ℕ) → Good R Low B c zs → Good R Low (up_to (node_arc R F v) B m) c zs
    some-keep m h c in_c zs g =
        (up_to-keeps (node_arc R F v) (λ _ X. Inv X × Good R Low X c zs) B m (old-inv, g)
        (λ a X l r. (arc-inv a X (le_trans l h) r.0, arc-good a (le_trans l h) X r.0 c in_c zs r.1))).1

    pub node-keeps : (c : ℕ) → c < cells R → (zs : List ℕ) → Good R Low B c zs → Good R Low (node_block R F v B) c zs
    unfolding node_block
    node-keeps = some-keep (arc_count R) (le_refl (arc_count R))

    -- and so is each try whose cell is in range
    module _ (a f : ℕ) (in-a : a < arc_count R) (here : head R a ≡ v) (in_f : f < cells R) (t : T (filled R (at (width R) (F a) f))) (in_c : cell R (cand R (F a) a f) < cells R) where
      abbrev Hit : List ℕ → Type 0
      Hit X = Good R Low X (cell R (cand R (F a) a f)) (costs R (made R (F a) a f))

      try-hit : (X : List ℕ) → Inv X → Hit (try_cell R (F a) a f X)
      unfolding try_cell
      try-hit X inv =
          cond_cases Hit (filled R (at (width R) (F a) f))
          (λ u. offer-hit R X inv.len (cell R (cand R (F a) a f)) (made R (F a) a f) (made-length R ok (F a) (sized a in-a) a f in-a in_f) Low fair (made-filled R ok (F a) (sized a in-a) a f in-a in_f) in_c)
          (λ u. absurd (T_not (filled R (at (width R) (F a) f)) u t))

      arc-hit : (X : List ℕ) → Inv X → Hit (node_arc R F v a X)
      unfolding node_arc try_arc
      arc-hit X inv =
          cond_cases Hit (eqb (head R a) v)
          (λ _. up_to-sets (try_cell R (F a) a) Inv Hit X (cells R) f in_f inv
          (λ k Y m. try-inv a k Y in-a here m) try-hit (λ k Y m i. try-good a k in-a m Y i.len (cell R (cand R (F a) a f)) in_c (costs R (made R (F a) a f))))
          (λ u. absurd (T_not (eqb (head R a) v) u (subst (λ (z : ℕ). T (eqb (head R a) z)) here (eqb_refl (head R a)))))

      pub node-tries : Good R Low (node_block R F v B) (cell R (cand R (F a) a f)) (cand R (F a) a f)
      unfolding node_block
      node-tries =
          subst (Good R Low (up_to (node_arc R F v) B (arc_count R)) (cell R (cand R (F a) a f))) (made-costs R ok (F a) (sized a in-a) a f in-a in_f)
          (up_to-sets (node_arc R F v) Inv Hit B (arc_count R) a in-a old-inv
          (λ k X m. arc-inv k X m) arc-hit (λ k X m i. arc-good k m X i (cell R (cand R (F a) a f)) in_c (costs R (made R (F a) a f))))
