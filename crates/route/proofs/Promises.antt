-- What a reader may take from a read-back's answer: a route is a walk with exactly the answered costs, on any label buffer; on the table of the
-- build every filled label answers its route; each refusal, and the empty cell, is answered exactly when its row decides. Assumes nothing.
use Prim.Native.Nat.{ℕ, ◌*◌, ◌≤◌, ◌<◌}
use mathlib.Core.Path.{◌≡◌, refl, sym, ap, ◌∙◌, subst}
use mathlib.Core.Bool.{Bool, true, false, cond, not, ◌||◌}
use mathlib.Core.List.{List}
use native.Mathlib.Decide.{ℕ_discrete}
use native.Mathlib.Omega.{arith}
use lib.ListN.{length, length-take}
use lib.Dec.{T, leb, ltb, eqb, nltb→le}
use borrow.Author.Tests.{eqb-true, eqb-false, lt-ltb}
use Rattle.words.specs.Pieces.{write}
use Rattle.words.specs.Rows.{Weighed, clear, refused, weigh, row, Decides, NoneHolds, settle}
use Rattle.words.proofs.Rows.{weigh-clear-front, weigh-clear-back, clear-cons, refused-decides, decides-refused, none-clear, clear_none}
use Rattle.words.proofs.Choices.{is_true, or-neither}
use Rattle.request.specs.Request.{Req, width, reach}
use Rattle.request.specs.Shape.{cells, label_count}
use Rattle.request.specs.Rows.{rows}
use Rattle.request.specs.Accepted.{Accepted, Regular}
use Rattle.request.specs.Refusal.{number_of, place_of, refusal_of, Named}
use Rattle.request.specs.declared.Refusal.{Refusal}
use Rattle.request.proofs.Accepted.{accepted-regular}
use Rattle.request.proofs.Tests.{lt-fails, le-fails}
use Rattle.rounds.specs.Label.{costs, step, filled}
use Rattle.rounds.specs.Rounds.{table, label_at, label_in}
use Rattle.rounds.proofs.Table.{table-words}
use Rattle.cover.specs.Cover.{route}
use Rattle.route.specs.Chain.{Chain, whole, broken, chain}
use Rattle.route.specs.Answer.{breaks, arcs_of, back_rows, refusal, ended, ending_of, costs_after, route_after}
use Rattle.route.specs.Walked.{Walked, Sound, RouteRead, Fronts}
use Rattle.route.specs.declared.Ending.TheVariants as ending
use Rattle.route.proofs.Sound.{chain-sound}
use Rattle.route.proofs.Numbers.{early-number, back-named}
use Rattle.route.proofs.Answering.{refused-early, layer-asked, Placed, empty-cell, chain-broken, chain-whole, three, none, Answered, route-all}
use Rattle.route.proofs.Tables.{label-in, table-whole}

-- ---- an ending tells how the rows were weighed

-- a refusal is no route
pub no-route : (n p k : ℕ) → refusal n p ≡ ending.Route k → ⊥
unfolding refusal
no-route n p k = go (eqb n 15)
  where
    go : (b : Bool) → cond b ending.Empty (ending.Refused (refusal_of n p)) ≡ ending.Route k → ⊥
    go true e = cc
    go false e = cc

-- an empty cell has number 15
empty-number : (n p : ℕ) → refusal n p ≡ ending.Empty → n ≡ 15
unfolding refusal
empty-number n p = go (eqb n 15) refl
  where
    go : (b : Bool) → eqb n 15 ≡ b → cond b ending.Empty (ending.Refused (refusal_of n p)) ≡ ending.Empty → n ≡ 15
    go true q e = eqb-true n 15 q
    go false q e = cc

-- a refusal is that of its row's number and place, and no empty cell
refused-of : (n p : ℕ) (r : Refusal) → refusal n p ≡ ending.Refused r → (n ≡ 15 → ⊥) × (refusal_of n p ≡ r)
unfolding refusal
refused-of n p r = go (eqb n 15) refl
  where
    go : (b : Bool) → eqb n 15 ≡ b → cond b ending.Empty (ending.Refused (refusal_of n p)) ≡ ending.Refused r → (n ≡ 15 → ⊥) × (refusal_of n p ≡ r)
    go true q e = cc
    go false q e = ((λ k. eqb-false n 15 q k), (cc))

module _ (R : Req) (W : List ℕ) (room i v c : ℕ) where
  abbrev weighed : Weighed
  weighed = weigh (back_rows R W room i v c)

  abbrev arcs : List ℕ
  arcs = arcs_of (chain R W i v c)

  -- a route is answered only where no row holds
  route-clear : (n : ℕ) → ending_of R W room i v c ≡ ending.Route n → (weigh (back_rows R W room i v c) ≡ clear) × (n ≡ length (arcs_of (chain R W i v c)))
  unfolding ending_of
  route-clear n = go (weigh (back_rows R W room i v c)) refl
    where
      go : (w : Weighed) → weighed ≡ w → ended w (length arcs) ≡ ending.Route n → (weighed ≡ clear) × (n ≡ length arcs)
      go clear q e = (q, (cc))
      go (refused k p) q e = absurd (no-route k p n e)

  -- what no row's holding tells
  pub record Cleared : Type 0 where
    pub placed : Placed R W room i v c
    pub unbroken : T (not (breaks (chain R W i v c)))

  pub cleared : weigh (back_rows R W room i v c) ≡ clear → Cleared
  unfolding back_rows Accepted
  cleared e =
      let p = clear-cons _ _ (weigh-clear-back (rows R) _ e) in
      let q = clear-cons _ _ p.1 in
      let s = clear-cons _ _ q.1 in
      let t = clear-cons _ _ s.1 in
      let u = clear-cons _ _ t.1 in
      record {
        placed = record {
          accepted = weigh-clear-front (rows R) _ e;
          long = nltb→le (length W) (label_count R * width R) p.0;
          roomy = nltb→le room (reach R) q.0;
          inside = s.0;
        };
        unbroken = u.0;
      }

  -- ---- EXACTLY THE LISTED ANSWERS, by the law of rows

  -- a route where no row holds, and nowhere else
  pub none-route : NoneHolds (back_rows R W room i v c) → ending_of R W room i v c ≡ ending.Route (length (arcs_of (chain R W i v c)))
  unfolding ending_of
  none-route h = ap (λ (w : Weighed). ended w (length arcs)) (none-clear (back_rows R W room i v c) h)

  pub route-none : (n : ℕ) → ending_of R W room i v c ≡ ending.Route n → NoneHolds (back_rows R W room i v c)
  route-none n e = clear_none (back_rows R W room i v c) (route-clear n e).0

  -- a row that decides is answered
  pub decides-ending : (k : ℕ) → Decides (back_rows R W room i v c) k → ending_of R W room i v c ≡ refusal (row (back_rows R W room i v c) k).number (row (back_rows R W room i v c) k).place
  unfolding ending_of
  decides-ending k d = ap (λ (w : Weighed). ended w (length arcs)) (decides-refused (back_rows R W room i v c) k d)

  -- and a refusal is answered only where its row decides
  pub refused-decided : (r : Refusal) → ending_of R W room i v c ≡ ending.Refused r
      → (k : ℕ) × Decides (back_rows R W room i v c) k × ((row (back_rows R W room i v c) k).number ≡ number_of r) × ((row (back_rows R W room i v c) k).place ≡ place_of r)
  unfolding ending_of Named
  refused-decided r = go (weigh (back_rows R W room i v c)) refl
    where
      go : (w : Weighed) → weighed ≡ w → ended w (length arcs) ≡ ending.Refused r
          → (k : ℕ) × Decides (back_rows R W room i v c) k × ((row (back_rows R W room i v c) k).number ≡ number_of r) × ((row (back_rows R W room i v c) k).place ≡ place_of r)
      go clear q e = cc
      go (refused n p) q e =
          let x = refused-of n p r e in
          let h = back-named R W room i v c n p q x.0 in
          let d = refused-decides (back_rows R W room i v c) n p q in
          (d.0, d.1, d.2 ∙ sym h.0 ∙ ap number_of x.1, d.3 ∙ sym h.1 ∙ ap place_of x.1)

  -- an empty cell only where row 15 does
  pub empty-decided : ending_of R W room i v c ≡ ending.Empty → (k : ℕ) × Decides (back_rows R W room i v c) k × ((row (back_rows R W room i v c) k).number ≡ 15)
  unfolding ending_of
  empty-decided = go (weigh (back_rows R W room i v c)) refl
    where
      go : (w : Weighed) → weighed ≡ w → ended w (length arcs) ≡ ending.Empty → (k : ℕ) × Decides (back_rows R W room i v c) k × ((row (back_rows R W room i v c) k).number ≡ 15)
      go clear q e = cc
      go (refused n p) q e = let d = refused-decides (back_rows R W room i v c) n p q in (d.0, d.1, d.2 ∙ empty-number n p e)

  -- EMPTY, once the rows before it pass: exactly where the step is 0
  module _ (ok : Accepted R) (long : label_count R * width R ≤ length W) (roomy : reach R ≤ room) (inside : T (not (ltb R.hops i || leb R.nodes v || leb (cells R) c))) where
    abbrev placed : Placed R W room i v c
    placed = record { accepted = ok; long = long; roomy = roomy; inside = inside }

    pub empty-if : step R (label_in R W i v c) ≡ 0 → ending_of R W room i v c ≡ ending.Empty
    unfolding ending_of refusal filled
    empty-if z = ap (λ (w : Weighed). ended w (length arcs)) (empty-cell R W room i v c placed (ap (ltb 0) z))

    -- a filled label's chain breaks or is whole, and neither is an empty cell
    not-empty : filled R (label_in R W i v c) ≡ true → (ch : Chain) → chain R W i v c ≡ ch → ending_of R W room i v c ≡ ending.Empty → ⊥
    unfolding ending_of
    not-empty some (broken k) q e =
        let n = empty-number 16 k (sym (ap (λ (w : Weighed). ended w (length arcs)) (chain-broken R W room i v c placed some k q)) ∙ e) in absurd (omega arith)
    not-empty some (whole ws) q e =
        let n : ending.Route (length arcs) ≡ ending.Empty = sym (ap (λ (w : Weighed). ended w (length arcs)) (chain-whole R W room i v c placed some ws q)) ∙ e in cc

    pub empty-only : ending_of R W room i v c ≡ ending.Empty → step R (label_in R W i v c) ≡ 0
    unfolding filled
    empty-only e = go (ℕ_discrete (step R (label_in R W i v c)) 0)
      where
        go : Dec (step R (label_in R W i v c) ≡ 0) → step R (label_in R W i v c) ≡ 0
        go (yes z) = z
        go (no h) = absurd (not-empty (lt-ltb 0 (step R (label_in R W i v c)) (omega arith)) (chain R W i v c) refl e)

-- an empty cell is told of an accepted request alone
pub empty-accepted : (R : Req) (W : List ℕ) (room i v c : ℕ) → ending_of R W room i v c ≡ ending.Empty → Accepted R
unfolding ending_of Accepted
empty-accepted R W room i v c e = go (weigh (rows R)) refl
  where
    go : (w : Weighed) → weigh (rows R) ≡ w → weigh (rows R) ≡ clear
    go clear q = q
    go (refused n p) q =
        absurd (early-number R n p q (empty-number n p (sym (ap (λ (w : Weighed). ended w (length (arcs_of (chain R W i v c)))) (refused-early R W room i v c n p q)) ∙ e)))

-- ---- A ROUTE ON ANY LABEL BUFFER

module _ (R : Req) (W buffer : List ℕ) (i v c : ℕ) where
  -- a chain that does not break is whole, and sound
  whole_walks : (ch : Chain) → Sound R W i v c ch → T (not (breaks ch)) → Walked R (arcs_of ch) i v (costs R (label_in R W i v c))
  whole_walks (whole ws) s t = s.1
  whole_walks (broken k) s t = absurd t

  -- A route is answered only where no row holds, so the chain is whole and, by `chain-sound`, a walk with the label's costs; these are answered,
  -- and the arcs are written, all of them, since there is room for as many arcs as the asked layer's number.
  pub route-walks : (n : ℕ) → ending_of R W (length buffer) i v c ≡ ending.Route n → RouteRead R W buffer i v c n (arcs_of (chain R W i v c))
  unfolding costs_after route_after reach
  route-walks n e =
      let p = route-clear R W (length buffer) i v c n e in
      let q = cleared R W (length buffer) i v c p.0 in
      let w = whole_walks (chain R W i v c) (chain-sound R W i v c) q.unbroken in
      let m = q.placed.roomy in
      let h = w.short in
      let k = layer-asked R.hops R.nodes (cells R) i v c q.placed.inside in
      record {
        walk = w.walk;
        short = w.short;
        count = p.1;
        exact = ap (λ (x : Weighed). settle x (three (costs R (label_in R W i v c))) none) p.0 ∙ ap three w.exact;
        room = omega arith;
        written = ap (λ (x : Weighed). settle x (write buffer 0 (arcs_of (chain R W i v c))) buffer) p.0;
      }

-- ---- ON THE TABLE OF THE BUILD

module _ (R : Req) (ok : Accepted R) (W buffer : List ℕ) (front : Fronts R W) (roomy : reach R ≤ length buffer) (i v c : ℕ)
    (hi : i ≤ R.hops) (hv : v < R.nodes) (hc : c < cells R) (full : T (filled R (label_at R i v c))) where
  abbrev regular : Regular R
  regular = accepted-regular R ok

  long-enough : label_count R * width R ≤ length W
  unfolding Fronts
  long-enough = omega (arith, table-words R regular, ap length front, length-take (length (table R)) W)

  filled_in : filled R (label_in R W i v c) ≡ true
  filled_in = ap (filled R) (label-in R regular W front i v c hi hv hc) ∙ is_true (filled R (label_at R i v c)) full

  -- the read-back of a filled label answers its route: its arc count, its costs and its arcs
  pub table-route : Answered R W buffer i v c (ending.Route (length (route R i v c))) (three (costs R (label_at R i v c))) (write buffer 0 (route R i v c))
  table-route =
      let e = table-whole R regular W front i v c hi hv hc full in
      let s : arcs_of (chain R W i v c) ≡ route R i v c = ap arcs_of e in
      let inside = or-neither (ltb R.hops i || leb R.nodes v) (leb (cells R) c) (or-neither (ltb R.hops i) (leb R.nodes v) (lt-fails hi) (le-fails hv)) (le-fails hc) in
      route-all R W buffer i v c (chain-whole R W (length buffer) i v c (record { accepted = ok; long = long-enough; roomy = roomy; inside = inside }) filled_in (route R i v c) e)
      (length (route R i v c)) (ap length (sym s)) (three (costs R (label_at R i v c))) (write buffer 0 (route R i v c))
      (ap (λ (l : List ℕ). three (costs R l)) (sym (label-in R regular W front i v c hi hv hc))) (ap (write buffer 0) (sym s))

  -- and that route is a walk to the label's node, with exactly its costs and at most i arcs
  pub table-walks : RouteRead R W buffer i v c (length (route R i v c)) (route R i v c)
  table-walks =
      subst (RouteRead R W buffer i v c (length (route R i v c))) (ap arcs_of (table-whole R regular W front i v c hi hv hc full))
      (route-walks R W buffer i v c (length (route R i v c)) (sym table-route.0))
