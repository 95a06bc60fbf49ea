-- The three demands as theorems on the public functions' promises, each below the words of the person who asked. Assumes nothing.
use Rattle.std.specs.Prelude.{ℕ, ◌+◌, ◌-◌, ◌*◌, ◌≤◌, ◌<◌, ◌≡◌, cond, eqb, List, [], ◌∷◌, ◌⊎◌, length, get_or, T, Ok}
use Rattle.words.specs.Loops.{up_to}
use Rattle.words.specs.Pieces.{write}
use Rattle.words.specs.Rows.{Row, row, Decides, NoneHolds}
use Rattle.fences.specs.Fence.{bits, ceil}
use Rattle.request.specs.declared.Request.{Request}
use Rattle.request.specs.Request.{Req, asked, arc_count, ratio_p, ratio_q}
use Rattle.request.specs.Shape.{top, buckets, cells, ladders, largest}
use Rattle.rounds.specs.Label.{costs, filled}
use Rattle.rounds.specs.Rounds.{table, tries, label_in}
use Rattle.cover.specs.Walk.{Walk, sums}
use Rattle.cover.specs.Cover.{Covers}
use Rattle.route.specs.Chain.{chain}
use Rattle.route.specs.Answer.{back_rows, said, arcs_of, ending_of, route_after}
use Rattle.route.specs.Walked.{RouteRead}
use Rattle.route.specs.declared.Ending.TheVariants as ending
use Rattle.listing.specs.List as list
use Rattle.listing.specs.List.{asks, listing_of, list_rows, listed_of, listing_after}
use Rattle.sheet.specs.Grammar.{sheet_of}
use Rattle.sheet.specs.Reader.{words_of, reader_rows, read_says, arcs_after}
use Rattle.sheet.specs.Writer.{written, writer_rows, write_says, sheet_after}
use Rattle.sheet.specs.RoundTrip.{SameBytes, SameNumbers}
use Rattle.table.specs.Build.{build_rows, built_of, built_said, ladders_after, labels_after}

-- what a refused read-back tells of a row: number and place, but "an empty cell (number 15)" is told by its number alone
abbrev pub told_as : ℕ → ℕ → List ℕ
told_as n p = cond (eqb n 15) (15 ∷ []) (n ∷ p ∷ [])

-- "Any sheet, request, table or asked place gets its answer or the first refusal that applies in document 01's order; no caller has to check
-- first. A refused call leaves the lent buffers just as they came."
pub record Demand1 : Type 0 where
  -- of any refusal rows one decides or none holds, and not both: so each refusal below is given when its row holds and none before it, "and not
  -- otherwise"
  pub decided : (rs : List Row) → ((k : ℕ) × Decides rs k) ⊎ NoneHolds rs
  pub not_both : (rs : List Row) (k : ℕ) → Decides rs k → NoneHolds rs → ⊥
  -- the build: row k is the answer when it holds and none before it does, and both buffers stay
  pub build_refused : (q : Request) (arcs buffer labels : List ℕ) (k : ℕ) → Decides (build_rows (asked q arcs) (length buffer) (length labels)) k
      → (built_said (built_of (asked q arcs) (length buffer) (length labels))
      ≡ (row (build_rows (asked q arcs) (length buffer) (length labels)) k).number ∷ (row (build_rows (asked q arcs) (length buffer) (length labels)) k).place ∷ [])
      × (ladders_after (asked q arcs) buffer (length labels) ≡ buffer) × (labels_after (asked q arcs) (length buffer) labels ≡ labels)
  -- and the tries are the answer when no row holds
  pub build_accepted : (q : Request) (arcs buffer labels : List ℕ) → NoneHolds (build_rows (asked q arcs) (length buffer) (length labels))
      → built_of (asked q arcs) (length buffer) (length labels) ≡ Ok (tries (asked q arcs) q.hops)
  -- the reader
  pub read_refused : (s arcs : List ℕ) (k : ℕ) → Decides (reader_rows s (length arcs)) k
      → (read_says s (length arcs) ≡ (row (reader_rows s (length arcs)) k).number ∷ (row (reader_rows s (length arcs)) k).place ∷ []) × (arcs_after s arcs ≡ arcs)
  pub read_accepted : (s arcs : List ℕ) → NoneHolds (reader_rows s (length arcs))
      → (read_says s (length arcs) ≡ 0 ∷ 0 ∷ length (words_of (sheet_of s)) ∷ []) × (arcs_after s arcs ≡ write arcs 0 (words_of (sheet_of s)))
  -- the writer
  pub write_refused : (q : Request) (arcs sheet : List ℕ) (k : ℕ) → Decides (writer_rows q arcs (length sheet)) k
      → (write_says q arcs (length sheet) ≡ (row (writer_rows q arcs (length sheet)) k).number ∷ (row (writer_rows q arcs (length sheet)) k).place ∷ []) × (sheet_after q arcs sheet ≡ sheet)
  pub write_accepted : (q : Request) (arcs sheet : List ℕ) → NoneHolds (writer_rows q arcs (length sheet))
      → (write_says q arcs (length sheet) ≡ 0 ∷ 0 ∷ length (written q arcs) ∷ []) × (sheet_after q arcs sheet ≡ write sheet 0 (written q arcs))
  -- the read-back, on any words for a table and any asked place
  pub back_refused : (q : Request) (arcs labels buffer : List ℕ) (i v c k : ℕ) → Decides (back_rows (asked q arcs) labels (length buffer) i v c) k
      → (said (ending_of (asked q arcs) labels (length buffer) i v c)
      ≡ told_as (row (back_rows (asked q arcs) labels (length buffer) i v c) k).number (row (back_rows (asked q arcs) labels (length buffer) i v c) k).place)
      × (route_after (asked q arcs) labels buffer i v c ≡ buffer)
  pub back_accepted : (q : Request) (arcs labels : List ℕ) (room i v c : ℕ) → NoneHolds (back_rows (asked q arcs) labels room i v c)
      → ending_of (asked q arcs) labels room i v c ≡ ending.Route (length (arcs_of (chain (asked q arcs) labels i v c)))
  -- the lister's call, from a sheet's bytes to its listing's
  pub list_refused : (s bytes : List ℕ) (k : ℕ) → Decides (list_rows s (length bytes)) k
      → (list.said (listed_of s (length bytes)) ≡ (row (list_rows s (length bytes)) k).number ∷ (row (list_rows s (length bytes)) k).place ∷ [])
      × (listing_after s bytes ≡ bytes)
  pub list_accepted : (s bytes : List ℕ) → NoneHolds (list_rows s (length bytes))
      → (listed_of s (length bytes) ≡ Ok (length (listing_of (asks s)))) × (listing_after s bytes ≡ write bytes 0 (listing_of (asks s)))

-- "The tables equal, word by word, the rounds of source document 000 on the fences of document 01. A sheet that is read and written back gives the
-- same bytes; numbers that are written and read back are the same numbers, but that with two criteria the unused ratio comes back as 0 over 1."
pub record Demand2 : Type 0 where
  -- the ladders and the layers at the front of the two buffers, what lies beyond as it was
  pub tables : (q : Request) (arcs buffer labels : List ℕ) (t : ℕ) → built_of (asked q arcs) (length buffer) (length labels) ≡ Ok t
      → (ladders_after (asked q arcs) buffer (length labels) ≡ write buffer 0 (ladders (asked q arcs))) × (labels_after (asked q arcs) (length buffer) labels ≡ write labels 0 (table (asked q arcs)))
  pub bytes : SameBytes
  pub numbers : SameNumbers

-- layer i of the buffer W "holds a label at that camp" v that covers costs xs with the power h
pub record HoldsIn (R : Req) (W : List ℕ) (i v h : ℕ) (xs : List ℕ) : Type 0 where
  pub cell : ℕ
  pub inside : cell < cells R
  pub full : T (filled R (label_in R W i v cell))
  pub covers : Covers R h xs (costs R (label_in R W i v cell))

-- a label of the buffer W "reads back as a walk from the source, at most i arcs long, with exactly those sums"
pub record WalkIn (R : Req) (W : List ℕ) (i v c : ℕ) : Type 0 where
  pub arcs : List ℕ
  pub walk : Walk R R.source arcs v
  pub short : length arcs ≤ i
  pub exact : costs R (label_in R W i v c) ≡ sums R arcs

-- "Take an accepted request of K hops, M arcs and C cells a node, and any walk from the source to a camp with h arcs, h at most i, i at most K.
-- Layer i holds a label at that camp whose last cost is no greater and whose every other cost, times q^h, is at most (p+q)^h times the walk's, for
-- that criterion's ratio p over q. Every label reads back as a walk from the source, at most i arcs long, with exactly those sums. The reported
-- tries are those of document 01's rounds and at most K × M × C. C is the product of the bucket counts; with p at least 1, each is at most
-- 1 + (bits of the ladder's top) × (q/p rounded up)."
-- Of what the build leaves in the label buffer when it answers t tries:
pub record Demand3 (q : Request) (arcs buffer labels : List ℕ) (t : ℕ) : Type 0 where
  pub cover : (ws : List ℕ) (v i : ℕ) → Walk (asked q arcs) q.source ws v → length ws ≤ i → i ≤ q.hops
      → HoldsIn (asked q arcs) (labels_after (asked q arcs) (length buffer) labels) i v (length ws) (sums (asked q arcs) ws)
  pub back : (i v c : ℕ) → i ≤ q.hops → v < q.nodes → c < cells (asked q arcs) → T (filled (asked q arcs) (label_in (asked q arcs) (labels_after (asked q arcs) (length buffer) labels) i v c))
      → WalkIn (asked q arcs) (labels_after (asked q arcs) (length buffer) labels) i v c
  -- and so the read-back answers, into any route buffer of K words or more
  pub reads_back : (route : List ℕ) (i v c : ℕ) → q.hops ≤ length route → i ≤ q.hops → v < q.nodes → c < cells (asked q arcs)
      → T (filled (asked q arcs) (label_in (asked q arcs) (labels_after (asked q arcs) (length buffer) labels) i v c))
      → (ws : List ℕ) × (ending_of (asked q arcs) (labels_after (asked q arcs) (length buffer) labels) (length route) i v c ≡ ending.Route (length ws))
      × RouteRead (asked q arcs) (labels_after (asked q arcs) (length buffer) labels) route i v c (length ws) ws
  pub tries_are : t ≡ tries (asked q arcs) q.hops
  pub tries_most : t ≤ q.hops * (arc_count (asked q arcs) * cells (asked q arcs))
  pub cells_are : cells (asked q arcs) ≡ up_to (λ j n. n * buckets (asked q arcs) j) 1 (q.criteria - 1)
  pub buckets_most : (j : ℕ) → j < q.criteria - 1 → 0 < ratio_p (asked q arcs) j
      → buckets (asked q arcs) j ≤ 1 + bits (top (asked q arcs) j) * ceil (ratio_q (asked q arcs) j) (ratio_p (asked q arcs) j)
  -- what keeps every cost within its ladder
  pub costs_most : (i v c : ℕ) → i ≤ q.hops → v < q.nodes → c < cells (asked q arcs) → T (filled (asked q arcs) (label_in (asked q arcs) (labels_after (asked q arcs) (length buffer) labels) i v c))
      → (j : ℕ) → get_or (costs (asked q arcs) (label_in (asked q arcs) (labels_after (asked q arcs) (length buffer) labels) i v c)) j 0 ≤ i * largest (asked q arcs) j

-- of every build that answers tries
abbrev pub EveryBuild : Type 0
EveryBuild = (q : Request) (arcs buffer labels : List ℕ) (t : ℕ) → built_of (asked q arcs) (length buffer) (length labels) ≡ Ok t → Demand3 q arcs buffer labels t

-- and of any words for a table: a route that is answered is a walk from the source to the asked camp, with exactly the answered sums
abbrev pub AnyRoute : Type 0
AnyRoute =
    (q : Request) (arcs labels buffer : List ℕ) (i v c n : ℕ) → ending_of (asked q arcs) labels (length buffer) i v c ≡ ending.Route n
    → RouteRead (asked q arcs) labels buffer i v c n (arcs_of (chain (asked q arcs) labels i v c))
