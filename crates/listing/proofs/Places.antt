-- The labels of a table's last layer: each stands whole inside the table's words. Assumes nothing.
use Prim.Native.Nat.{ℕ, ◌+◌, ◌*◌, ◌≤◌, ◌<◌}
use mathlib.Core.Path.{◌≡◌, sym, ap, ◌∙◌}
use mathlib.Core.Bool.{Bool}
use mathlib.Core.List.{List}
use native.Mathlib.Nat.{mul-le-mul, mul_assoc, add-mul, one-mul}
use native.Mathlib.Omega.{arith}
use lib.ListN.{length, take}
use lib.Seq.{length-take-le}
use Rattle.words.specs.Pieces.{at}
use Rattle.words.proofs.Pieces.{piece-end}
use Rattle.words.proofs.Writes.{length_part}
use Rattle.request.specs.declared.Request.{Request}
use Rattle.request.specs.Request.{Req, asked, width}
use Rattle.request.specs.Shape.{cells, label_count}
use Rattle.request.specs.Accepted.{Regular, Small, Fits}
use Rattle.rounds.specs.Rounds.{label_in}
use Rattle.rounds.specs.Label.{costs, filled}
use Rattle.listing.specs.Listing.{last_label}
use Rattle.listing.specs.Print.{asked_in}
use Rattle.route.specs.declared.store.Spot.{Spot}
use Rattle.listing.specs.declared.tables.LabelTable.{LabelTable}

-- words W as many as the table of an accepted request has, of so many cells
pub record Tabled (R : Req) (W : List ℕ) (cell_count : ℕ) : Type 0 where
  pub regular : Regular R
  pub small : Small R
  pub fits : Fits R
  pub cells_is : cell_count ≡ cells R
  pub words : length W ≡ label_count R * width R

-- the words of a table's type are such
pub table_is : (t : LabelTable) → Tabled (asked_in t.store) t.store.labels.now t.store.cells
table_is t =
    let s = t.store in
    record {
      regular = s.regular;
      small = s.small;
      fits = s.fits;
      cells_is = s.cells_is;
      words = t.words;
    }

-- the numbers that make a place up are small: K × N; the nodes before, times C; the labels before, times d + 2
pub places-small : (q : Request) (C v c : ℕ) → (q.nodes ≤ 64) × (q.hops ≤ 63) × (q.criteria ≤ 3) × (C ≤ 1048576) × (v < q.nodes) × (c < C)
    → (q.hops * q.nodes ≤ 4032) × ((q.hops * q.nodes + v) * C ≤ 4293918720) × (((q.hops * q.nodes + v) * C + c) * (q.criteria + 2) ≤ 21474836480)
places-small q C v c p =
    let rows = mul-le-mul p.1 p.0 in
    let few : q.hops * q.nodes + v ≤ 4095 = omega (arith, p) in
    let blocks = mul-le-mul few p.3 in
    let near : (q.hops * q.nodes + v) * C + c ≤ 4294967296 = omega (arith, p) in
    let wide : q.criteria + 2 ≤ 5 = omega (arith, p) in
    (omega arith, omega arith, omega (arith, mul-le-mul near wide))

-- a label of the last layer is one of (K+1) × N × C
place_in : (n k C v c : ℕ) → v < n → c < C → (k * n + v) * C + c < (k + 1) * (n * C)
place_in n k C v c hv hc =
    let a : k * n + v < (k + 1) * n = omega (arith, add-mul k 1 n, one-mul n) in
    omega (arith, piece-end C ((k + 1) * n) (k * n + v) a, mul_assoc (k + 1) n C)

-- ---- in the words of a table

module _ (q : Request) (arcs W : List ℕ) (C : ℕ) (ok : Tabled (asked q arcs) W C) where
  -- the labels of one layer are few
  pub few-labels : q.nodes * C ≤ 1048576
  unfolding label_count
  few-labels =
      let a : 1 * (q.nodes * cells (asked q arcs)) ≤ (q.hops + 1) * (q.nodes * cells (asked q arcs)) = mul-le-mul (one q.hops) (le (q.nodes * cells (asked q arcs))) in
      let e : q.nodes * C ≡ q.nodes * cells (asked q arcs) = ap (λ (x : ℕ). q.nodes * x) ok.cells_is in
      omega (arith, ok.fits.labels_few, one-mul (q.nodes * cells (asked q arcs)))
    where
      one : (k : ℕ) → 1 ≤ k + 1
      one k = omega arith

      le : (x : ℕ) → x ≤ x
      le x = omega arith

  module _ (v c : ℕ) (hv : v < q.nodes) (hc : c < C) where
    -- the label ends inside the words
    pub place_end : ((q.hops * q.nodes + v) * C + c) * (q.criteria + 2) + (q.criteria + 2) ≤ length W
    unfolding label_count
    place_end =
        let e : (q.hops + 1) * (q.nodes * C) ≡ (q.hops + 1) * (q.nodes * cells (asked q arcs)) = ap (λ (x : ℕ). (q.hops + 1) * (q.nodes * x)) ok.cells_is in
        let f = ap (λ (x : ℕ). x * (q.criteria + 2)) e in
        omega (arith, ok.words, piece-end (q.criteria + 2) ((q.hops + 1) * (q.nodes * C)) ((q.hops * q.nodes + v) * C + c) (place_in q.nodes q.hops C v c hv hc))

    -- it is d + 2 words long
    pub label-long : length (last_label (asked q arcs) W v c) ≡ q.criteria + 2
    unfolding last_label label_in at
    label-long =
        ap (λ (x : ℕ). length (at (q.criteria + 2) W ((q.hops * q.nodes + v) * x + c))) (sym ok.cells_is)
        ∙ length_part W (((q.hops * q.nodes + v) * C + c) * (q.criteria + 2)) (q.criteria + 2) place_end

    -- d of them are its costs
    pub costs-long : length (costs (asked q arcs) (last_label (asked q arcs) W v c)) ≡ q.criteria
    unfolding costs
    costs-long = length-take-le q.criteria (last_label (asked q arcs) W v c) (omega (arith, label-long))

-- ---- as a table's methods find them

-- what is answered of the label at its spot is answered of the label
pub spot-filled : (t : LabelTable) (v c : ℕ) (s : Spot) (b : Bool) → s ≡ record { layer = t.store.request.hops; node = v; cell = c }
    → b ≡ filled (asked_in t.store) (label_in (asked_in t.store) t.store.labels.now s.layer s.node s.cell) → b ≡ filled (asked_in t.store) (last_label (asked_in t.store) t.store.labels.now v c)
unfolding last_label
spot-filled t v c s b e f = f ∙ ap (λ (s : Spot). filled (asked_in t.store) (label_in (asked_in t.store) t.store.labels.now s.layer s.node s.cell)) e

module _ (t : LabelTable) (v c : ℕ) (hv : v < t.store.request.nodes) (hc : c < t.store.cells) where
  -- the words at the label's spot are the label
  pub label_is : (s : Spot) (l : List ℕ) → s ≡ record { layer = t.store.request.hops; node = v; cell = c } → l ≡ label_in (asked_in t.store) t.store.labels.now s.layer s.node s.cell
      → l ≡ last_label (asked_in t.store) t.store.labels.now v c
  unfolding last_label
  label_is s l e f = f ∙ ap (λ (s : Spot). label_in (asked_in t.store) t.store.labels.now s.layer s.node s.cell) e

  -- it is d + 2 words long
  pub last-long : length (last_label (asked_in t.store) t.store.labels.now v c) ≡ t.store.request.criteria + 2
  last-long = label-long t.store.request t.store.arcs.now t.store.labels.now t.store.cells (table_is t) v c hv hc

  -- d of them are its costs
  pub cost-count : length (costs (asked_in t.store) (last_label (asked_in t.store) t.store.labels.now v c)) ≡ t.store.request.criteria
  cost-count = costs-long t.store.request t.store.arcs.now t.store.labels.now t.store.cells (table_is t) v c hv hc

  -- so are those of the words at its spot
  pub found-costs : (s : Spot) (l : List ℕ) → s ≡ record { layer = t.store.request.hops; node = v; cell = c } → l ≡ label_in (asked_in t.store) t.store.labels.now s.layer s.node s.cell
      → length (take t.store.request.criteria l) ≡ t.store.request.criteria
  found-costs s l e f = length-take-le t.store.request.criteria l (omega (arith, ap length (label_is s l e f), last-long))
