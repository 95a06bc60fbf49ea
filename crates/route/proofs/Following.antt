-- The chain of a label by where it leads: layers fall, so that the labels which may be looked at always suffice. Assumes nothing.
use Prim.Native.Nat.{ℕ, zero, suc, ◌+◌, ◌-◌, ◌≤◌, ◌<◌}
use mathlib.Core.Path.{◌≡◌, refl, sym, ap, ◌∙◌}
use mathlib.Core.Bool.{Bool, true, false, cond, not}
use mathlib.Core.List.{List, [], ◌∷◌, ◌++◌}
use native.Mathlib.Nat.{not-suc-le-zero, zero-add}
use native.Mathlib.Omega.{arith}
use lib.ListN.{length, set}
use lib.Dec.{T}
use Rattle.std.proofs.Common.{Result, Ok, Err}
use Rattle.words.specs.Pieces.{write}
use Rattle.words.proofs.Writes.{write-part, set-behind}
use Rattle.request.specs.Request.{Req, tail, reach}
use Rattle.request.specs.declared.Refusal.{Refusal}
use Rattle.request.specs.declared.Refusal.TheVariants as refusal
use Rattle.rounds.specs.Rounds.{label_in}
use Rattle.rounds.specs.Label.{step, from}
use Rattle.cover.proofs.Walks.{length-snoc}
use Rattle.route.specs.Chain.{Chain, whole, broken, push, start_holds, kept_holds, arc_holds, chain_in, chain}
use Rattle.route.specs.Links.{spot, link_of, trail_of}
use Rattle.route.specs.Answer.{arcs_of, break_layer}
use Rattle.route.specs.declared.store.Spot.{Spot}
use Rattle.route.specs.declared.store.Link.{Link}
use Rattle.route.specs.declared.store.Link.TheVariants as link
use Rattle.route.proofs.Sound.{chain-short}
use Rattle.route.proofs.Holding.{kept-facts, arc-facts}
use Rattle.route.proofs.Leading.{kept-before, came-before, fails-here}

-- ---- enough labels

-- a choice whose sides are equal where they are picked
cond_same {ℓ} : {A : Type ℓ} (b : Bool) {x y x' y' : A} → (T b → x ≡ x') → (T (not b) → y ≡ y') → cond b x y ≡ cond b x' y'
cond_same true f g = f tt
cond_same false f g = g tt

-- a function of a choice is a choice
cond_map {ℓ κ} : {A : Type ℓ} {B : Type κ} (f : A → B) (b : Bool) (x y : A) → f (cond b x y) ≡ cond b (f x) (f y)
cond_map f true x y = refl
cond_map f false x y = refl

module _ (R : Req) (W : List ℕ) where
  -- two numbers of labels that are over the layer give one chain
  enough : (n m i v c : ℕ) → i < n → i < m → chain_in R W n i v c ≡ chain_in R W m i v c
  unfolding chain_in
  enough zero m i v c h g = absurd (not-suc-le-zero h)
  enough (suc n) zero i v c h g = absurd (not-suc-le-zero g)
  enough (suc n) (suc m) i v c h g =
      let l : List ℕ = label_in R W i v c in
      let a : ℕ = step R l - 3 in
      let old : List ℕ = label_in R W (i - 1) v c in
      let reached : List ℕ = label_in R W (i - 1) (tail R a) (from R l) in
      cond_same (start_holds R i l v c) (λ _. refl)
      (λ _. cond_same (kept_holds R i l old)
      (λ t. let b = (kept-facts R i l old t).before in enough n m (i - 1) v c (omega arith) (omega arith))
      (λ _. cond_same (arc_holds R i l v a reached)
      (λ t. let b = (arc-facts R i l v a reached t).before in ap (push a) (enough n m (i - 1) (tail R a) (from R l) (omega arith) (omega arith)))
      (λ _. refl)))

  -- ---- the chain by the link

  abbrev linked : ℕ → ℕ → Result Link Refusal → Chain
  linked n i (Err r) = broken i
  linked n i (Ok link.Ends) = whole []
  linked n i (Ok (link.Kept s)) = chain_in R W n s.layer s.node s.cell
  linked n i (Ok (link.Came a s)) = push a (chain_in R W n s.layer s.node s.cell)

  chain-linked : (i v c : ℕ) → chain R W i v c ≡ linked (reach R) i (link_of R W i v c)
  unfolding chain chain_in link_of
  chain-linked i v c =
      let l : List ℕ = label_in R W i v c in
      let a : ℕ = step R l - 3 in
      let n : ℕ = reach R in
      let fails : Result Link Refusal = Err (refusal.Chain i) in
      let ends : Result Link Refusal = Ok link.Ends in
      let old : Result Link Refusal = Ok (link.Kept (spot (i - 1) v c)) in
      let came : Result Link Refusal = Ok (link.Came a (spot (i - 1) (tail R a) (from R l))) in
      let arcs : Bool = arc_holds R i l v a (label_in R W (i - 1) (tail R a) (from R l)) in
      let kept : Bool = kept_holds R i l (label_in R W (i - 1) v c) in
      sym (cond_map (linked n i) (start_holds R i l v c) ends (cond kept old (cond arcs came fails))
      ∙ ap (cond (start_holds R i l v c) (whole [])) (cond_map (linked n i) kept old (cond arcs came fails)
      ∙ ap (cond kept (chain_in R W n (i - 1) v c)) (cond_map (linked n i) arcs came fails)))

  module _ (i v c : ℕ) where
    -- a label that fails breaks its chain in its own layer
    pub chain-fails : (r : Refusal) → link_of R W i v c ≡ Err r → (chain R W i v c ≡ broken i) × (refusal.Chain i ≡ r)
    chain-fails r e = (chain-linked i v c ∙ ap (linked (reach R) i) e, fails-here R W i v c r e)

    pub chain-ends : link_of R W i v c ≡ Ok link.Ends → chain R W i v c ≡ whole []
    chain-ends e = chain-linked i v c ∙ ap (linked (reach R) i) e

    module _ (in-i : i ≤ reach R) where
      before : (s : Spot) → (0 < i) × (s.layer ≡ i - 1) → chain_in R W (reach R) s.layer s.node s.cell ≡ chain R W s.layer s.node s.cell
      unfolding chain
      before s h = let b = h.0 in let k = h.1 in enough (reach R) (suc (reach R)) s.layer s.node s.cell (omega arith) (omega arith)

      pub chain-kept : (s : Spot) → link_of R W i v c ≡ Ok (link.Kept s) → chain R W i v c ≡ chain R W s.layer s.node s.cell
      chain-kept s e = chain-linked i v c ∙ ap (linked (reach R) i) e ∙ before s (kept-before R W i v c s e)

      pub chain-came : (a : ℕ) (s : Spot) → link_of R W i v c ≡ Ok (link.Came a s) → chain R W i v c ≡ push a (chain R W s.layer s.node s.cell)
      chain-came a s e = chain-linked i v c ∙ ap (linked (reach R) i) e ∙ ap (push a) (before s (came-before R W i v c a s e))

-- ---- the chain from its answer

pub was-broken : (ch : Chain) (r : Refusal) → Err r ≡ trail_of ch → (ch ≡ broken (break_layer ch)) × (refusal.Chain (break_layer ch) ≡ r)
was-broken (broken k) r e = (refl, (cc))
was-broken (whole ws) r e = cc

pub was-whole : (ch : Chain) (n : ℕ) → Ok n ≡ trail_of ch → (ch ≡ whole (arcs_of ch)) × (n ≡ length (arcs_of ch))
was-whole (broken k) n e = cc
was-whole (whole ws) n e = (refl, (cc))

-- one that leads on to a whole chain: that has fewer arcs than its own layer
pub room-left : (R : Req) (W : List ℕ) (i : ℕ) (s : Spot) (k : ℕ) → (0 < i) × (s.layer ≡ i - 1) → Ok k ≡ trail_of (chain R W s.layer s.node s.cell) → k < i
room-left R W i s k h e =
    let b = h.0 in
    let l = h.1 in
    let n = (was-whole (chain R W s.layer s.node s.cell) k e).1 in
    let m = chain-short R W s.layer s.node s.cell in
    omega arith

-- ---- what following leaves: the answer and the route buffer

module _ (old : List ℕ) (ch : Chain) where
  unwritten : old ≡ write old 0 []
  unwritten = sym (write-part old 0 0)

  pub follow-fails : (i : ℕ) (r : Refusal) → ch ≡ broken i → refusal.Chain i ≡ r → (Err r ≡ trail_of ch) × (old ≡ write old 0 (arcs_of ch))
  follow-fails i r e q = (sym (ap trail_of e ∙ ap (λ (x : Refusal). Err x) q), unwritten ∙ sym (ap (λ (x : Chain). write old 0 (arcs_of x)) e))

  pub follow-ends : ch ≡ whole [] → (Ok 0 ≡ trail_of ch) × (old ≡ write old 0 (arcs_of ch))
  follow-ends e = (sym (ap trail_of e), unwritten ∙ sym (ap (λ (x : Chain). write old 0 (arcs_of x)) e))

  -- the chain before, and its answer t with the buffer `left`
  module _ (left : List ℕ) (earlier : Chain) (e-left : left ≡ write old 0 (arcs_of earlier)) where
    pub follow-kept : {t : Result ℕ Refusal} → t ≡ trail_of earlier → ch ≡ earlier → (t ≡ trail_of ch) × (left ≡ write old 0 (arcs_of ch))
    follow-kept h e = (h ∙ sym (ap trail_of e), e-left ∙ sym (ap (λ (x : Chain). write old 0 (arcs_of x)) e))

    module _ (a : ℕ) (e : ch ≡ push a earlier) where
      pub follow-broke : (r : Refusal) → Err r ≡ trail_of earlier → (Err r ≡ trail_of ch) × (left ≡ write old 0 (arcs_of ch))
      follow-broke r h = go earlier h e-left e
        where
          go : (x : Chain) → Err r ≡ trail_of x → left ≡ write old 0 (arcs_of x) → ch ≡ push a x → (Err r ≡ trail_of ch) × (left ≡ write old 0 (arcs_of ch))
          go (whole ws) h g q = cc
          go (broken k) h g q = (h ∙ sym (ap trail_of q), g ∙ sym (ap (λ (y : Chain). write old 0 (arcs_of y)) q))

      -- one arc more, behind those that are written
      pub follow-came : (k : ℕ) → Ok k ≡ trail_of earlier → (Ok (k + 1) ≡ trail_of ch) × (set left k a ≡ write old 0 (arcs_of ch))
      follow-came k h = go earlier h e-left e
        where
          go : (x : Chain) → Ok k ≡ trail_of x → left ≡ write old 0 (arcs_of x) → ch ≡ push a x → (Ok (k + 1) ≡ trail_of ch) × (set left k a ≡ write old 0 (arcs_of ch))
          go (broken j) h g q = cc
          go (whole ws) h g q =
              let n : k ≡ length ws = cc in
              let m = length-snoc ws a in
              let more : k + 1 ≡ length (ws ++ a ∷ []) = omega arith in (
                ap (λ (n : ℕ). Ok n) more ∙ sym (ap trail_of q),
                ap (λ (x : List ℕ). set x k a) g ∙ ap (λ (j : ℕ). set (write old 0 ws) j a) (sym (zero-add k))
                    ∙ set-behind old 0 ws k a (sym n) ∙ sym (ap (λ (y : Chain). write old 0 (arcs_of y)) q),
              )
