-- The build of an accepted request: its buffers weighed, its ladders filled, its frame. Assumes nothing.
use Prim.Native.Nat.{ℕ, zero, suc, ◌+◌, ◌-◌, ◌*◌, ◌≤◌, ◌<◌}
use mathlib.Core.Path.{◌≡◌, refl, sym, ap, ◌∙◌}
use mathlib.Core.List.{List, [], ◌∷◌}
use native.Mathlib.Nat.{le_trans, le_of_eq, mul-le-mul}
use native.Mathlib.Omega.{arith}
use lib.ListN.{length, get_or}
use lib.Dec.{nltb→le}
use Rattle.std.proofs.Common.{Ok, Err}
use Rattle.words.specs.Pieces.{part, write, join}
use Rattle.words.specs.Rows.{Weighed, clear, refused, weigh, settle}
use Rattle.words.proofs.Loops.{total_ext}
use Rattle.words.proofs.Pieces.{join-ext}
use Rattle.words.proofs.Rows.{weigh-append, weigh-front, weigh-held, weigh-passed, weigh-none, weigh-clear-front, weigh-clear-back, clear-cons}
use Rattle.words.proofs.Writes.{part-write-same}
use Rattle.fences.specs.Fence as fence
use Rattle.fences.proofs.Fences as fences
use Rattle.fences.proofs.Ladders as ladders-of
use Rattle.request.specs.Request.{Req, asked, width, ratio_p, ratio_q}
use Rattle.request.specs.Shape.{top, buckets, ladder, ladders, ladder_at, cells, label_count}
use Rattle.request.specs.Refusal.{number_of, place_of, answer}
use Rattle.request.specs.declared.Refusal.{Refusal}
use Rattle.request.specs.Rows.{rows}
use Rattle.request.specs.Accepted.{Accepted}
use Rattle.request.specs.Answer.{shape_of, Ladders}
use Rattle.request.specs.declared.Request.{Request}
use Rattle.request.specs.declared.Shape.{Shape}
use Rattle.request.proofs.Accepted.{accepted-regular, accepted-small, accepted-fits}
use Rattle.request.proofs.Answers.{cells-few}
use Rattle.request.proofs.Counts.{count-in}
use Rattle.request.proofs.Ladders.{ladders-length}
use Rattle.request.proofs.Named.{refusal-of}
use Rattle.request.proofs.Tests.{lt-holds, lt-fails}
use Rattle.request.proofs.Tops.{top-le}
use Rattle.rounds.specs.Rounds.{table, tries}
use Rattle.tries.specs.Frame.{Framed}
use Rattle.table.specs.Build.{build_rows, built_of, Laddered, ladders_after, labels_after, ladder_words}
use Rattle.rounds.proofs.Table.{table-words}

-- ---- the rows

module _ (R : Req) (ladder_room label_room : ℕ) where
  pub refused-early : (n p : ℕ) → weigh (rows R) ≡ refused n p → weigh (build_rows R ladder_room label_room) ≡ refused n p
  unfolding build_rows
  refused-early n p e = weigh-front (rows R) _ n p e

  module _ (ok : Accepted R) where
    pub short-ladders : ladder_room < length (ladders R) → weigh (build_rows R ladder_room label_room) ≡ refused 13 1
    unfolding build_rows Accepted
    short-ladders h = weigh-append (rows R) _ ok ∙ weigh-held _ _ (lt-holds h)

    pub short-labels : length (ladders R) ≤ ladder_room → label_room < label_count R * width R → weigh (build_rows R ladder_room label_room) ≡ refused 13 2
    unfolding build_rows Accepted
    short-labels h g = weigh-append (rows R) _ ok ∙ weigh-passed _ _ (lt-fails h) ∙ weigh-held _ _ (lt-holds g)

    pub all-clear : length (ladders R) ≤ ladder_room → label_count R * width R ≤ label_room → weigh (build_rows R ladder_room label_room) ≡ clear
    unfolding build_rows Accepted
    all-clear h g = weigh-append (rows R) _ ok ∙ weigh-passed _ _ (lt-fails h) ∙ weigh-passed _ _ (lt-fails g) ∙ weigh-none

-- no row holds: the request is accepted, and there is room for both
module _ (R : Req) (ladder_room label_room : ℕ) (e : weigh (build_rows R ladder_room label_room) ≡ clear) where
  pub clear-accepted : Accepted R
  unfolding build_rows Accepted
  clear-accepted = weigh-clear-front (rows R) _ e

  pub clear-rooms : (length (ladders R) ≤ ladder_room) × (label_count R * width R ≤ label_room)
  unfolding build_rows
  clear-rooms =
      let a = clear-cons _ _ (weigh-clear-back (rows R) _ e) in
      let b = clear-cons _ _ a.1 in
      (nltb→le ladder_room (length (ladders R)) a.0, nltb→le label_room (label_count R * width R) b.0)

-- ---- the answers

module _ (R : Req) (buffer labels : List ℕ) where
  -- what the rows' verdict makes of the answer and of the two buffers
  settled : (w : Weighed) → weigh (build_rows R (length buffer) (length labels)) ≡ w → (answer w (tries R R.hops) ≡ built_of R (length buffer) (length labels))
      × (settle w (write buffer 0 (ladders R)) buffer ≡ ladders_after R buffer (length labels)) × (settle w (write labels 0 (table R)) labels ≡ labels_after R (length buffer) labels)
  unfolding built_of ladders_after labels_after
  settled w e = (
    sym (ap (λ (w : Weighed). answer w (tries R R.hops)) e),
    sym (ap (λ (w : Weighed). settle w (write buffer 0 (ladders R)) buffer) e),
    sym (ap (λ (w : Weighed). settle w (write labels 0 (table R)) labels) e),
  )

  pub refused_all : (r : Refusal) → weigh (build_rows R (length buffer) (length labels)) ≡ refused (number_of r) (place_of r)
      → (Err r ≡ built_of R (length buffer) (length labels)) × (buffer ≡ ladders_after R buffer (length labels)) × (labels ≡ labels_after R (length buffer) labels)
  refused_all r e = let s = settled (refused (number_of r) (place_of r)) e in (ap Err (sym (refusal-of r)) ∙ s.0, s.1, s.2)

  pub built-all : weigh (build_rows R (length buffer) (length labels)) ≡ clear
      → (Ok (tries R R.hops) ≡ built_of R (length buffer) (length labels))
      × (write buffer 0 (ladders R) ≡ ladders_after R buffer (length labels)) × (write labels 0 (table R) ≡ labels_after R (length buffer) labels)
  built-all = settled clear

-- ---- the shape's numbers

module _ (q : Request) (arcs : List ℕ) (acc : Accepted (asked q arcs)) (s : Shape) (e : s ≡ shape_of (asked q arcs)) where
  abbrev R : Req
  R = asked q arcs

  pub criteria-in : (2 ≤ q.criteria) × (q.criteria ≤ 3)
  criteria-in = ((accepted-small (asked q arcs) acc).two, (accepted-small (asked q arcs) acc).three)

  pub shape-cells : s.cells ≡ cells (asked q arcs)
  shape-cells = ap (λ (x : Shape). x.cells) e

  pub cells_small : s.cells ≤ 1048576
  cells_small = rw shape-cells (cells-few R (accepted-regular R acc) (accepted-fits R acc))

  pub shape-labels : s.labels ≡ label_count (asked q arcs)
  shape-labels = ap (λ (x : Shape). x.labels) e

  counts_are : (j : ℕ) → j < q.criteria - 1 → get_or (s.b1 ∷ s.b2 ∷ []) j 0 ≡ buckets R j
  counts_are zero l = ap (λ (x : Shape). x.b1) e ∙ count-in R 0 l
  counts_are (suc zero) l = ap (λ (x : Shape). x.b2) e ∙ count-in R 1 l
  counts_are (suc (suc j)) l = absurd (let t = criteria-in in omega arith)

  pub ladder-room : ladder_words s.b1 s.b2 (q.criteria - 1) ≡ length (ladders (asked q arcs))
  unfolding ladder_words ladder_at
  ladder-room =
      total_ext (λ j. get_or (s.b1 ∷ s.b2 ∷ []) j 0 + 1) (λ j. buckets R j + 1) (q.criteria - 1) (λ j l. ap (λ (n : ℕ). n + 1) (counts_are j l))
      ∙ sym (ladders-length R)

  -- labels × (d+2) words are the table's
  pub table-room : s.labels * (q.criteria + 2) ≡ length (table (asked q arcs))
  table-room = ap (λ (n : ℕ). n * (q.criteria + 2)) shape-labels ∙ table-words R (accepted-regular R acc)

  -- ---- the ladders

  count_le : (j : ℕ) → j < q.criteria - 1 → get_or (s.b1 ∷ s.b2 ∷ []) j 0 ≤ fence.buckets (get_or q.ratios (j * 2) 0) (get_or q.ratios (j * 2 + 1) 0) 63000000
  unfolding buckets ratio_p ratio_q
  count_le j l =
      rw (counts_are j l)
      (fences.buckets-mono (ratio_p R j) (ratio_q R j) ((accepted-regular R acc).ratio_in j l) (top-le R (accepted-small R acc) j (omega arith)))

  pub can-fill : (room : ℕ) → length (ladders (asked q arcs)) ≤ room → Ladders q.ratios (s.b1 ∷ s.b2 ∷ []) (q.criteria - 1) room
  unfolding ratio_p ratio_q ladder_words
  can-fill room h = record {
    few = (let t = criteria-in in omega arith);
    q_pos = λ j l. (accepted-regular R acc).ratio_in j l;
    p_le = λ j l. (accepted-small R acc).ratio_order j l;
    count_le = count_le;
    fits = le_trans (le_of_eq ladder-room) h;
  }

  ladder-words : (j : ℕ) → j < q.criteria - 1 → fence.fences (get_or q.ratios (j * 2) 0) (get_or q.ratios (j * 2 + 1) 0) (get_or (s.b1 ∷ s.b2 ∷ []) j 0 + 1) ≡ ladder R j
  unfolding ladder ratio_p ratio_q buckets
  ladder-words j l = ap (λ (n : ℕ). fence.fences (ratio_p R j) (ratio_q R j) (n + 1)) (counts_are j l) ∙ sym (ladders-of.ladder-is (ratio_p R j) (ratio_q R j) (top R j))

  pub filled-ladders : join (λ j. fence.fences (get_or q.ratios (j * 2) 0) (get_or q.ratios (j * 2 + 1) 0) (get_or (s.b1 ∷ s.b2 ∷ []) j 0 + 1)) (q.criteria - 1) ≡ ladders (asked q arcs)
  unfolding ladders
  filled-ladders = join-ext _ (ladder R) (q.criteria - 1) ladder-words

  -- the ladders at the front of the buffer
  pub laddered : (buffer after : List ℕ) → length (ladders (asked q arcs)) ≤ length buffer → after ≡ write buffer 0 (ladders (asked q arcs)) → Laddered (asked q arcs) after
  laddered buffer after room f = ap (λ (x : List ℕ). part x 0 (length (ladders R))) f ∙ part-write-same buffer 0 (ladders R) (omega arith)

  -- ---- the frame

  pub framed : (buffer : List ℕ) → Laddered (asked q arcs) buffer → Framed (asked q arcs) buffer q.criteria (q.criteria + 2) s.cells (s.cells * (q.criteria + 2)) (s.b1 ∷ s.b2 ∷ [])
  framed buffer stand =
      let c = cells_small in
      let t = criteria-in in
      let m = mul-le-mul c (let u = t.1 in five u) in
      record {
        sized = record { words = refl; whole = refl; some = omega arith; few = t.1; small = omega arith; cells_small = c };
        regular = accepted-regular R acc;
        bounded = accepted-small R acc;
        fits = accepted-fits R acc;
        d_is = refl;
        cells_is = shape-cells;
        counts_are = counts_are;
        ladders_are = stand;
      }
    where
      five : {d : ℕ} → d ≤ 3 → d + 2 ≤ 5
      five h = omega arith
