-- The listing of a request by its refusal table: after the check, after the build, after the printing. Assumes nothing.
use Prim.Native.Nat.{ℕ, ◌+◌, ◌*◌, ◌≤◌, ◌<◌}
use mathlib.Core.Path.{◌≡◌, refl, sym, ap, ap₂, ◌∙◌, subst}
use mathlib.Core.Logic.{⊎_elim}
use mathlib.Core.Bool.{Bool, true, false, cond}
use mathlib.Core.List.{List}
use native.Mathlib.Omega.{arith}
use lib.ListN.{length, take}
use lib.Dec.{ltb}
use borrow.Author.Tests.{lt-ltb, le-ltb}
use Rattle.std.specs.Prelude.{Option, None, Some, Result, Ok, Err}
use Rattle.std.specs.Option.{ok_or}
use Rattle.words.specs.Pieces.{write}
use Rattle.words.specs.Rows.{Weighed, clear, refused, weigh, settle}
use Rattle.words.proofs.Choices.{lt-or-le}
use Rattle.words.proofs.Rows.{weigh-append, weigh-front, weigh-held, weigh-passed, weigh-none}
use Rattle.words.proofs.Writes.{part-write-same}
use Rattle.request.specs.declared.Request.{Request}
use Rattle.request.specs.declared.Refusal.{Refusal}
use Rattle.request.specs.declared.Refusal.TheVariants.{Room}
use Rattle.request.specs.declared.Shape.{Shape}
use Rattle.request.specs.Request.{Req, asked, width}
use Rattle.request.specs.Refusal.{refusal_of, answer}
use Rattle.request.specs.Shape.{ladders, label_count}
use Rattle.request.specs.Rows.{rows}
use Rattle.request.specs.Accepted.{Accepted}
use Rattle.request.specs.Answer.{shape_of, checked_of}
use Rattle.request.proofs.Accepted.{accepted-regular, accepted-small, accepted-fits}
use Rattle.request.proofs.Tests.{lt-holds, lt-fails}
use Rattle.rounds.specs.Rounds.{table, tries}
use Rattle.rounds.proofs.Table.{table-words}
use Rattle.table.specs.Build as build
use Rattle.table.proofs.Building.{short-labels, all-clear}
use Rattle.listing.specs.Print.{printed_of, bytes_after}
use Rattle.listing.specs.List.{listing_of, request_rows, request_listed, request_after}
use Rattle.listing.proofs.Places.{Tabled}

-- ---- the answer and the bytes

-- what the listing of a request answers, and leaves in the lent bytes
pub record Lists (R : Req) (bytes : List ℕ) (l : Result ℕ Refusal) (after : List ℕ) : Type 0 where
  pub says : l ≡ request_listed R (length bytes)
  pub left : after ≡ request_after R bytes

module _ (R : Req) (bytes : List ℕ) where
  -- what its rows decide, in the answer and in the bytes
  decided : (w : Weighed) → weigh (request_rows R (length bytes)) ≡ w → Lists R bytes (answer w (length (listing_of R))) (settle w (write bytes 0 (listing_of R)) bytes)
  unfolding request_listed request_after
  decided w e = record { says = sym (ap (λ (x : Weighed). answer x (length (listing_of R))) e); left = sym (ap (λ (x : Weighed). settle x (write bytes 0 (listing_of R)) bytes) e) }

  -- rows 2 to 10 with 17: a refusal of the check is the answer, and the bytes are as they came
  pub lists-early : (r : Refusal) → Err r ≡ checked_of R → Lists R bytes (Err r) bytes
  unfolding request_rows checked_of
  lists-early r e = go (weigh (rows R)) refl
    where
      go : (w : Weighed) → weigh (rows R) ≡ w → Lists R bytes (Err r) bytes
      go clear f = let a : ◌≡◌ {A = Result Shape Refusal} (Err r) (Ok (shape_of R)) = e ∙ ap (λ (w : Weighed). answer w (shape_of R)) f in let z : ◌≡◌ {A = ℕ} 0 1 = cc in absurd (omega arith)
      go (refused n p) f =
          let a : ◌≡◌ {A = Result Shape Refusal} (Err r) (Err (refusal_of n p)) = e ∙ ap (λ (w : Weighed). answer w (shape_of R)) f in
          let b : refusal_of n p ≡ r = cc in
          subst (λ (q : Refusal). Lists R bytes (Err q) bytes) b (decided (refused n p) (weigh-front (rows R) _ n p f))

  module _ (ok : Accepted R) where
    -- more label words than there are
    pub lists-many : 12288 < label_count R * width R → Lists R bytes (Err (Room 2)) bytes
    unfolding request_rows Accepted refusal_of
    lists-many h = decided (refused 13 2) (weigh-append (rows R) _ ok ∙ weigh-held _ _ (lt-holds h))

    -- the listing that was printed, or is longer
    pub lists-printed : label_count R * width R ≤ 12288 → (p : Option ℕ) (after : List ℕ) → p ≡ printed_of (listing_of R) (length bytes) → after ≡ bytes_after (listing_of R) bytes
        → Lists R bytes (ok_or p (Room 3)) after
    unfolding request_rows Accepted printed_of bytes_after refusal_of
    lists-printed h p after e f = ⊎_elim longer enough (lt-or-le (length bytes) (length (listing_of R)))
      where
        -- what was printed and what is left, by whether it is longer
        by : (b : Bool) → ltb (length bytes) (length (listing_of R)) ≡ b
            → (p ≡ cond b None (Some (length (listing_of R)))) × (after ≡ cond b bytes (write bytes 0 (listing_of R)))
        by b t = (e ∙ ap (λ (b : Bool). cond b None (Some (length (listing_of R)))) t, f ∙ ap (λ (b : Bool). cond b bytes (write bytes 0 (listing_of R))) t)

        -- it is longer
        longer : length bytes < length (listing_of R) → Lists R bytes (ok_or p (Room 3)) after
        longer l =
            let k = by true (lt-ltb (length bytes) (length (listing_of R)) l) in
            let d = decided (refused 13 3) (weigh-append (rows R) _ ok ∙ weigh-passed _ _ (lt-fails h) ∙ weigh-held _ _ (lt-holds l)) in
            record { says = ap (λ (o : Option ℕ). ok_or o (Room 3)) k.0 ∙ d.says; left = k.1 ∙ d.left }

        -- it fits
        enough : length (listing_of R) ≤ length bytes → Lists R bytes (ok_or p (Room 3)) after
        enough l =
            let k = by false (le-ltb (length bytes) (length (listing_of R)) l) in
            let d = decided clear (weigh-append (rows R) _ ok ∙ weigh-passed _ _ (lt-fails h) ∙ weigh-passed _ _ (lt-fails l) ∙ weigh-none) in
            record { says = ap (λ (o : Option ℕ). ok_or o (Room 3)) k.0 ∙ d.says; left = k.1 ∙ d.left }

-- ---- what the build tells, with ladder room that suffices

module _ (R : Req) (ok : Accepted R) (ladder_room : ℕ) (room : length (ladders R) ≤ ladder_room) where
  -- the build's verdict
  fitting : label_count R * width R ≤ 12288 → build.built_of R ladder_room 12288 ≡ Ok (tries R R.hops)
  unfolding build.built_of
  fitting h = ap (λ (w : Weighed). answer w (tries R R.hops)) (all-clear R ladder_room 12288 ok room h)

  -- and where the table does not fit
  many : 12288 < label_count R * width R → build.built_of R ladder_room 12288 ≡ Err (Room 2)
  unfolding build.built_of refusal_of
  many h = ap (λ (w : Weighed). answer w (tries R R.hops)) (short-labels R ladder_room 12288 ok room h)

  -- a refusal is 13, place 2
  pub build_refused : (r : Refusal) → Err r ≡ build.built_of R ladder_room 12288 → (12288 < label_count R * width R) × (r ≡ Room 2)
  build_refused r e = ⊎_elim
      (λ h. let a : ◌≡◌ {A = Result ℕ Refusal} (Err r) (Err (Room 2)) = e ∙ many h in (h, (cc)))
      (λ h. let a : ◌≡◌ {A = Result ℕ Refusal} (Err r) (Ok (tries R R.hops)) = e ∙ fitting h in let z : ◌≡◌ {A = ℕ} 0 1 = cc in absurd (omega arith))
      (lt-or-le 12288 (label_count R * width R))

  -- tries are the rounds', and the table fits
  pub build-tries : (t : ℕ) → Ok t ≡ build.built_of R ladder_room 12288 → (label_count R * width R ≤ 12288) × (t ≡ tries R R.hops)
  build-tries t e = ⊎_elim
      (λ h. let a : ◌≡◌ {A = Result ℕ Refusal} (Ok t) (Err (Room 2)) = e ∙ many h in let z : ◌≡◌ {A = ℕ} 0 1 = cc in absurd (omega arith))
      (λ h. let a : ◌≡◌ {A = Result ℕ Refusal} (Ok t) (Ok (tries R R.hops)) = e ∙ fitting h in (h, (cc)))
      (lt-or-le 12288 (label_count R * width R))

  -- and the table stands in front of the labels
  pub build-words : (labels : List ℕ) → length labels ≡ 12288 → label_count R * width R ≤ 12288 → build.labels_after R ladder_room labels ≡ write labels 0 (table R)
  unfolding build.labels_after
  build-words labels e h = ap (λ (w : Weighed). settle w (write labels 0 (table R)) labels) (all-clear R ladder_room (length labels) ok room (omega arith))

-- ---- the table's words

module _ (q : Request) (arcs : List ℕ) (ok : Accepted (asked q arcs)) (s : Shape) (e : s ≡ shape_of (asked q arcs)) where
  -- as many as the shape says
  pub shape-words : s.labels * (q.criteria + 2) ≡ label_count (asked q arcs) * width (asked q arcs)
  shape-words = ap (λ (x : Shape). x.labels * (q.criteria + 2)) e

  -- they are a table's
  pub tabled : Tabled (asked q arcs) (table (asked q arcs)) s.cells
  tabled = record {
    regular = accepted-regular (asked q arcs) ok;
    small = accepted-small (asked q arcs) ok;
    fits = accepted-fits (asked q arcs) ok;
    cells_is = ap (λ (x : Shape). x.cells) e;
    words = sym (table-words (asked q arcs) (accepted-regular (asked q arcs) ok));
  }

  -- the front of the labels is the table
  pub table-front : (labels after : List ℕ) → length labels ≡ 12288 → label_count (asked q arcs) * width (asked q arcs) ≤ 12288 → after ≡ write labels 0 (table (asked q arcs))
      → take (s.labels * (q.criteria + 2)) after ≡ table (asked q arcs)
  table-front labels after l h f =
      let t = table-words (asked q arcs) (accepted-regular (asked q arcs) ok) in
      ap₂ take (shape-words ∙ t) f ∙ part-write-same labels 0 (table (asked q arcs)) (omega arith)
