-- Where a label leads: its step says its kind, and the test of that kind decides. Assumes nothing.
use Prim.Native.Nat.{ℕ, ◌-◌, ◌≤◌, ◌<◌}
use mathlib.Core.Path.{◌≡◌, sym, ap, ap₂, ◌∙◌}
use mathlib.Core.Bool.{Bool, false, cond}
use mathlib.Core.List.{List}
use native.Mathlib.Omega.{arith}
use lib.Dec.{not_T}
use Rattle.std.proofs.Common.{Result, Ok, Err}
use Rattle.words.proofs.Choices.{cond_cases, is_false}
use Rattle.request.specs.Request.{Req, tail}
use Rattle.request.specs.declared.Refusal.{Refusal}
use Rattle.request.specs.declared.Refusal.TheVariants as refusal
use Rattle.rounds.specs.Rounds.{label_in}
use Rattle.rounds.specs.Label.{step, from}
use Rattle.route.specs.Chain.{start_holds, kept_holds, arc_holds}
use Rattle.route.specs.Links.{spot, link_of}
use Rattle.route.specs.declared.store.Spot.{Spot}
use Rattle.route.specs.declared.store.Link.{Link}
use Rattle.route.specs.declared.store.Link.TheVariants as link
use Rattle.route.proofs.Holding.{start-facts, kept-facts, arc-facts}

module _ (R : Req) (W : List ℕ) (i v c : ℕ) where
  abbrev l : List ℕ
  l = label_in R W i v c

  abbrev a : ℕ
  a = step R (label_in R W i v c) - 3

  abbrev before : List ℕ
  before = label_in R W (i - 1) v c

  abbrev reached : List ℕ
  reached = label_in R W (i - 1) (tail R (step R (label_in R W i v c) - 3)) (from R (label_in R W i v c))

  -- ---- the tests of the other kinds fail

  no_start : (step R (label_in R W i v c) ≡ 1 → ⊥) → start_holds R i (label_in R W i v c) v c ≡ false
  no_start h = is_false (start_holds R i l v c) (not_T (start_holds R i l v c) (λ t. h (start-facts R i l v c t).step_is))

  no-kept : (step R (label_in R W i v c) ≡ 2 → ⊥) → kept_holds R i (label_in R W i v c) (label_in R W (i - 1) v c) ≡ false
  no-kept h = is_false (kept_holds R i l before) (not_T (kept_holds R i l before) (λ t. h (kept-facts R i l before t).step_is))

  no-arc : step R (label_in R W i v c) < 3 → arc_holds R i (label_in R W i v c) v a reached ≡ false
  no-arc h = is_false (arc_holds R i l v a reached) (not_T (arc_holds R i l v a reached) (λ t. let p = (arc-facts R i l v a reached t).step_is in absurd (omega arith)))

  -- ---- so the test of the label's own kind decides, of a label X that was looked up

  module _ (X : List ℕ) (in-X : X ≡ label_in R W i v c) where
    same-step : step R X ≡ step R (label_in R W i v c)
    same-step = ap (step R) in-X

    pub lead-empty : step R X ≡ 0 → Err (refusal.Chain i) ≡ link_of R W i v c
    unfolding link_of
    lead-empty s =
        let e = same-step in
        rw (no_start (λ z. absurd (omega arith)), no-kept (λ z. absurd (omega arith)), no-arc (omega arith))

    pub lead-start : step R X ≡ 1 → {b : Bool} → b ≡ start_holds R i X v c → cond b (Ok link.Ends) (Err (refusal.Chain i)) ≡ link_of R W i v c
    unfolding link_of
    lead-start s {b} h =
        let e = same-step in
        let g : b ≡ start_holds R i l v c = h ∙ ap (λ (z : List ℕ). start_holds R i z v c) in-X in
        rw (g, no-kept (λ z. absurd (omega arith)), no-arc (omega arith))

    -- with the layer k before
    module _ (k : ℕ) (is_k : k ≡ i - 1) where
      pub lead-kept : (Y : List ℕ) → Y ≡ label_in R W k v c → step R X ≡ 2 → {b : Bool} → b ≡ kept_holds R i X Y → cond b (Ok (link.Kept (spot k v c))) (Err (refusal.Chain i)) ≡ link_of R W i v c
      unfolding link_of
      lead-kept Y in-Y s {b} h =
          let e = same-step in
          let g : b ≡ kept_holds R i l before = h ∙ ap₂ (kept_holds R i) in-X (in-Y ∙ ap (λ (n : ℕ). label_in R W n v c) is_k) in
          rw (g, is_k, no_start (λ z. absurd (omega arith)), no-arc (omega arith))

      -- and with the arc x, its tail u, the from word f and the label Z reached
      pub lead-came : (x u f : ℕ) (Z : List ℕ) → (3 ≤ step R X) × (x ≡ step R X - 3) → u ≡ tail R x → f ≡ from R X → Z ≡ label_in R W k u f
          → {b : Bool} → b ≡ arc_holds R i X v x Z → cond b (Ok (link.Came x (spot k u f))) (Err (refusal.Chain i)) ≡ link_of R W i v c
      unfolding link_of
      lead-came x u f Z s is-u is_f in-Z {b} h =
          let low = s.0 in
          let e = same-step in
          let p : x ≡ a = s.1 ∙ ap (λ (n : ℕ). n - 3) e in
          let q : u ≡ tail R a = is-u ∙ ap (tail R) p in
          let r : f ≡ from R l = is_f ∙ ap (from R) in-X in
          let y : Z ≡ reached = cc in
          let g : b ≡ arc_holds R i l v a reached = cc in
          rw (g, is_k, p, q, r, no_start (λ z. absurd (omega arith)), no-kept (λ z. absurd (omega arith)))

  -- ---- where it leads, if it does

  -- what is true of each of the four is true of where it leads
  lead-cases : (P : Result Link Refusal → Type 0) → P (Ok link.Ends) → (0 < i → P (Ok (link.Kept (spot (i - 1) v c))))
      → (0 < i → P (Ok (link.Came a (spot (i - 1) (tail R a) (from R l))))) → P (Err (refusal.Chain i)) → P (link_of R W i v c)
  unfolding link_of
  lead-cases P ends kept came broken =
      cond_cases P (start_holds R i l v c) (λ _. ends)
      (λ _. cond_cases P (kept_holds R i l (label_in R W (i - 1) v c)) (λ t. kept (kept-facts R i l (label_in R W (i - 1) v c) t).before)
      (λ _. cond_cases P (arc_holds R i l v a reached) (λ t. came (arc-facts R i l v a reached t).before) (λ _. broken)))

  -- a label that leads on has a layer before, and leads to it
  pub kept-before : (s : Spot) → link_of R W i v c ≡ Ok (link.Kept s) → (0 < i) × (s.layer ≡ i - 1)
  kept-before s = lead-cases (λ (x : Result Link Refusal). x ≡ Ok (link.Kept s) → (0 < i) × (s.layer ≡ i - 1)) (λ e. cc)
      (λ h e. (h, (let q : spot (i - 1) v c ≡ s = cc in sym (ap (λ (x : Spot). x.layer) q)))) (λ h e. cc) (λ e. cc)

  pub came-before : (x : ℕ) (s : Spot) → link_of R W i v c ≡ Ok (link.Came x s) → (0 < i) × (s.layer ≡ i - 1)
  came-before x s = lead-cases (λ (y : Result Link Refusal). y ≡ Ok (link.Came x s) → (0 < i) × (s.layer ≡ i - 1)) (λ e. cc) (λ h e. cc)
      (λ h e. (h, (let q : spot (i - 1) (tail R a) (from R l) ≡ s = cc in sym (ap (λ (z : Spot). z.layer) q)))) (λ e. cc)

  -- and one that fails does so in its own layer
  pub fails-here : (r : Refusal) → link_of R W i v c ≡ Err r → refusal.Chain i ≡ r
  fails-here r = lead-cases (λ (x : Result Link Refusal). x ≡ Err r → refusal.Chain i ≡ r) (λ e. cc) (λ h e. cc) (λ h e. cc) (λ e. cc)
