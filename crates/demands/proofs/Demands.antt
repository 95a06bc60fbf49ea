-- The demands hold. Assumes nothing.
use Prim.Native.Nat.{ℕ, ◌+◌, ◌*◌, ◌≤◌, ◌<◌}
use mathlib.Core.Path.{◌≡◌, refl, sym, ap, ◌∙◌, subst}
use mathlib.Core.List.{List, [], ◌∷◌}
use mathlib.Core.Logic.{◌⊎◌, inl, inr}
use native.Mathlib.Omega.{arith}
use lib.ListN.{length, get_or}
use lib.Dec.{T, T_not}
use Rattle.words.specs.Pieces.{write}
use Rattle.words.specs.Radix.{volume}
use Rattle.words.specs.Rows.{Row, row, Decides, NoneHolds, Weighed, clear, refused, weigh, settle}
use Rattle.words.proofs.Rows.{decides-refused, none-clear, clear_none, refused-decides}
use Rattle.fences.specs.Fence.{bits, ceil}
use Rattle.fences.proofs.Growth.{buckets-le}
use Rattle.request.specs.declared.Request.{Request}
use Rattle.request.specs.Refusal.{answer}
use Rattle.request.specs.Request.{Req, asked, head, reach, ratio_p, ratio_q}
use Rattle.request.specs.Shape.{top, buckets, cells, ladders}
use Rattle.request.specs.Accepted.{Accepted, Regular}
use Rattle.request.proofs.Accepted.{accepted-regular}
use Rattle.rounds.specs.Label.{costs, filled}
use Rattle.rounds.specs.Rounds.{table, tries, label_at, label_in}
use Rattle.rounds.proofs.Table.{table-words, front-label}
use Rattle.rounds.proofs.Tries.{tries-le}
use Rattle.rounds.proofs.Costs.{Within, layer-costs}
use Rattle.cover.specs.Walk.{Walk, sums}
use Rattle.cover.specs.Cover.{Covers, route}
use Rattle.cover.proofs.Cover.{cover, reads-back, rule-fair}
use Rattle.sheet.specs.Answer.{told}
use Rattle.sheet.specs.Reader.{reader_rows, read_says, arcs_after, words_of}
use Rattle.sheet.specs.Grammar.{sheet_of}
use Rattle.sheet.specs.Writer.{writer_rows, write_says, sheet_after, written}
use Rattle.sheet.proofs.RoundTrips.{same_bytes, same_numbers}
use Rattle.table.specs.Build.{build_rows, built_of, built_said, ladders_after, labels_after}
use Rattle.table.proofs.Building.{clear-accepted, clear-rooms}
use Rattle.route.specs.Chain.{chain}
use Rattle.route.specs.Answer.{back_rows, said, ended, ending_of, arcs_of, route_after}
use Rattle.route.specs.Walked.{Fronts}
use Rattle.route.proofs.Promises.{none-route, route-walks, table-route, table-walks}
use Rattle.route.proofs.Tables.{build-fronts}
use Rattle.listing.specs.List as call
use Rattle.demands.specs.Demands.{Demand1, Demand2, Demand3, EveryBuild, AnyRoute}
use Rattle.demands.proofs.Named.{build-named, list-named, back-says, answer-says}
use Rattle.std.proofs.Common.{Ok}

-- the bucket counts of a request
buckets-bound : (R : Req) → Regular R → (j : ℕ) → j < R.graded → 0 < ratio_p R j → buckets R j ≤ 1 + bits (top R j) * ceil (ratio_q R j) (ratio_p R j)
unfolding buckets
buckets-bound R ok j l p = buckets-le (ratio_p R j) (ratio_q R j) (ok.ratio_in j l) p (top R j)

-- ---- what an answer of the build tells

-- it answered tries: no row held
accepted : (R : Req) (buffer labels : List ℕ) (t : ℕ) → built_of R (length buffer) (length labels) ≡ Ok t
    → (weigh (build_rows R (length buffer) (length labels)) ≡ clear) × (t ≡ tries R R.hops)
unfolding built_of
accepted R buffer labels t = go (weigh (build_rows R (length buffer) (length labels))) refl
  where
    go : (w : Weighed) → weigh (build_rows R (length buffer) (length labels)) ≡ w → answer w (tries R R.hops) ≡ Ok t → (weigh (build_rows R (length buffer) (length labels)) ≡ clear) × (t ≡ tries R R.hops)
    go clear q e = (q, (cc))
    go (refused n p) q e = let z : ◌≡◌ {A = ℕ} 0 1 = cc in absurd (omega arith)

-- where no row held, both buffers were written
written-after : (R : Req) (buffer labels : List ℕ) → weigh (build_rows R (length buffer) (length labels)) ≡ clear
    → (ladders_after R buffer (length labels) ≡ write buffer 0 (ladders R)) × (labels_after R (length buffer) labels ≡ write labels 0 (table R))
unfolding ladders_after labels_after
written-after R buffer labels e = (ap (λ (w : Weighed). settle w (write buffer 0 (ladders R)) buffer) e, ap (λ (w : Weighed). settle w (write labels 0 (table R)) labels) e)

-- of any refusal rows one decides or none holds
one-or-none : (rs : List Row) (w : Weighed) → weigh rs ≡ w → ((k : ℕ) × Decides rs k) ⊎ NoneHolds rs
one-or-none rs clear e = inr (clear_none rs e)
one-or-none rs (refused n p) e = let r = refused-decides rs n p e in inl (r.0, r.1)

pub demand1 : Demand1
unfolding NoneHolds built_of ladders_after labels_after ending_of read_says arcs_after write_says sheet_after route_after call.listed_of call.listing_after
demand1 = record {
  decided = λ rs. one-or-none rs (weigh rs) refl;
  not_both = λ rs k d h. T_not (row rs k).holds (h k d.inside) d.held;
  build_refused = λ q arcs buffer labels k d.
      let R = asked q arcs in
      let rs = build_rows R (length buffer) (length labels) in
      let e = decides-refused rs k d in (
        ap (λ (w : Weighed). built_said (answer w (tries R q.hops))) e ∙ answer-says rs _ _ (build-named R (length buffer) (length labels)) e,
        ap (λ (w : Weighed). settle w (write buffer 0 (ladders R)) buffer) e,
        ap (λ (w : Weighed). settle w (write labels 0 (table R)) labels) e,
      );
  build_accepted = λ q arcs buffer labels h.
      let R = asked q arcs in
      ap (λ (w : Weighed). answer w (tries R q.hops)) (none-clear (build_rows R (length buffer) (length labels)) h);
  read_refused = λ s arcs k d.
      let e = decides-refused (reader_rows s (length arcs)) k d in
      (ap (λ (w : Weighed). told w (length (words_of (sheet_of s)))) e, ap (λ (w : Weighed). settle w (write arcs 0 (words_of (sheet_of s))) arcs) e);
  read_accepted = λ s arcs h.
      let e = none-clear (reader_rows s (length arcs)) h in
      (ap (λ (w : Weighed). told w (length (words_of (sheet_of s)))) e, ap (λ (w : Weighed). settle w (write arcs 0 (words_of (sheet_of s))) arcs) e);
  write_refused = λ q arcs sheet k d.
      let e = decides-refused (writer_rows q arcs (length sheet)) k d in
      (ap (λ (w : Weighed). told w (length (written q arcs))) e, ap (λ (w : Weighed). settle w (write sheet 0 (written q arcs)) sheet) e);
  write_accepted = λ q arcs sheet h.
      let e = none-clear (writer_rows q arcs (length sheet)) h in
      (ap (λ (w : Weighed). told w (length (written q arcs))) e, ap (λ (w : Weighed). settle w (write sheet 0 (written q arcs)) sheet) e);
  back_refused = λ q arcs labels buffer i v c k d.
      let R = asked q arcs in
      let e = decides-refused (back_rows R labels (length buffer) i v c) k d in (
        ap (λ (w : Weighed). said (ended w (length (arcs_of (chain R labels i v c))))) e ∙ back-says R labels (length buffer) i v c _ _ e,
        ap (λ (w : Weighed). settle w (write buffer 0 (arcs_of (chain R labels i v c))) buffer) e,
      );
  back_accepted = λ q arcs labels room i v c h. none-route (asked q arcs) labels room i v c h;
  list_refused = λ s bytes k d.
      let rs = call.list_rows s (length bytes) in
      let e = decides-refused rs k d in (
        ap (λ (w : Weighed). call.said (answer w (length (call.listing_of (call.asks s))))) e ∙ answer-says rs _ _ (list-named s (length bytes)) e,
        ap (λ (w : Weighed). settle w (write bytes 0 (call.listing_of (call.asks s))) bytes) e,
      );
  list_accepted = λ s bytes h.
      let e = none-clear (call.list_rows s (length bytes)) h in
      (ap (λ (w : Weighed). answer w (length (call.listing_of (call.asks s)))) e, ap (λ (w : Weighed). settle w (write bytes 0 (call.listing_of (call.asks s))) bytes) e);
}

pub demand2 : Demand2
demand2 = record {
  tables = λ q arcs buffer labels t e. written-after (asked q arcs) buffer labels (accepted (asked q arcs) buffer labels t e).0;
  bytes = same_bytes;
  numbers = same_numbers;
}

-- ---- demand 3, of what the build leaves

module _ (q : Request) (arcs buffer labels : List ℕ) (t : ℕ) (e : built_of (asked q arcs) (length buffer) (length labels) ≡ Ok t) where
  abbrev R : Req
  R = asked q arcs

  abbrev W : List ℕ
  W = labels_after (asked q arcs) (length buffer) labels

  none-held : weigh (build_rows R (length buffer) (length labels)) ≡ clear
  none-held = (accepted R buffer labels t e).0

  accepts : Accepted R
  accepts = clear-accepted R (length buffer) (length labels) none-held

  ok : Regular R
  ok = accepted-regular R accepts

  -- the table stands in front
  front : Fronts R W
  front =
      let room = (clear-rooms R (length buffer) (length labels) none-held).1 in
      subst (Fronts R) (sym (written-after R buffer labels none-held).1) (build-fronts R labels (omega (arith, room, table-words R ok)))

  -- the label at its place in the buffer is the rounds' own
  label_is : (i v c : ℕ) → i ≤ q.hops → v < q.nodes → c < cells R → label_in R W i v c ≡ label_at R i v c
  label_is i v c hi hv hc =
      let room = (clear-rooms R (length buffer) (length labels) none-held).1 in
      let words = table-words R ok in
      let after = (written-after R buffer labels none-held).1 in
      ap (λ (X : List ℕ). label_in R X i v c) after ∙ front-label R ok i v c hi hv hc labels (omega arith)

  full_is : (i v c : ℕ) → i ≤ q.hops → v < q.nodes → c < cells R → T (filled R (label_in R W i v c)) → T (filled R (label_at R i v c))
  full_is i v c hi hv hc = subst (λ (l : List ℕ). T (filled R l)) (label_is i v c hi hv hc)

  -- a walk ends at a node
  end-in : (u : ℕ) (ws : List ℕ) (v : ℕ) → u < q.nodes → Walk R u ws v → v < q.nodes
  end-in u [] v h w = subst (λ (z : ℕ). z < q.nodes) w h
  end-in u (a ∷ ws) v h w = end-in (head R a) ws v (ok.head_in a w.0) w.2

  pub demand3 : Demand3 q arcs buffer labels t
  unfolding reach Within cells volume
  demand3 = record {
    cover = λ ws v i walk l k.
        let h = cover R ok (rule-fair R refl) ws v i walk l k in
        let s = sym (label_is i v h.cell k (end-in q.source ws v ok.source_in walk) h.inside) in
        record {
          cell = h.cell;
          inside = h.inside;
          full = subst (λ (x : List ℕ). T (filled R x)) s h.full;
          covers = subst (λ (x : List ℕ). Covers R (length ws) (sums R ws) (costs R x)) s h.covers;
        };
    back = λ i v c hi hv hc u.
        let r = reads-back R ok i v c hv hc (full_is i v c hi hv hc u) in
        record { arcs = route R i v c; walk = r.walk; short = r.short; exact = ap (costs R) (label_is i v c hi hv hc) ∙ r.exact };
    reads_back = λ buf i v c room hi hv hc u.
        let f = full_is i v c hi hv hc u in
        (route R i v c, sym (table-route R accepts W buf front room i v c hi hv hc f).0, table-walks R accepts W buf front room i v c hi hv hc f);
    tries_are = (accepted R buffer labels t e).1;
    tries_most = (let a = (accepted R buffer labels t e).1 in let b = tries-le R q.hops in omega arith);
    cells_are = refl;
    buckets_most = λ j l p. buckets-bound R ok j l p;
    costs_most = λ i v c hi hv hc u j. rw (ap (λ (l : List ℕ). get_or (costs R l) j 0) (label_is i v c hi hv hc)) (layer-costs R ok i v c hv hc (full_is i v c hi hv hc u) j);
  }

pub every-build : EveryBuild
every-build q arcs buffer labels t e = demand3 q arcs buffer labels t e

pub any-route : AnyRoute
any-route q arcs labels buffer i v c n e = route-walks (asked q arcs) labels buffer i v c n e
