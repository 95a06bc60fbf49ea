-- One try, of a filled label, from the words of two blocks. Assumes nothing.
use Prim.Native.Nat.{ℕ, ◌+◌, ◌-◌, ◌*◌, ◌≤◌, ◌<◌}
use mathlib.Core.Path.{◌≡◌, refl, sym, ap, ap₂, ◌∙◌, subst}
use mathlib.Core.Bool.{Bool, true, false, cond}
use mathlib.Core.List.{List}
use native.Mathlib.Nat.{add_comm}
use native.Mathlib.Omega.{arith}
use lib.ListN.{length, get_or, take, drop}
use borrow.Author.Tests.{lt-ltb}
use Rattle.words.specs.Pieces.{part, at, put, write}
use Rattle.words.proofs.Choices.{true-is}
use Rattle.words.proofs.Writes.{length_part, get_or-part, write-part}
use Rattle.words.proofs.Pieces.{at_length, piece-end}
use Rattle.request.specs.declared.Request.{Request}
use Rattle.request.specs.Request.{Req, asked, width, arc_count, arc, arc_costs}
use Rattle.request.specs.Shape.{cells, cell, top}
use Rattle.request.proofs.Tops.{arc-le, top-le, cost-at}
use Rattle.request.proofs.Cells.{cell-ext}
use Rattle.rounds.specs.Label.{label, sum, costs, step, filled, candidate, came, wins}
use Rattle.rounds.specs.Rounds.{span, offer, try_cell}
use Rattle.rounds.specs.Passing.{Room}
use Rattle.rounds.proofs.Labels.{get_or-sum, came-length, came-costs, cost-word}
use Rattle.labels.specs.Words.{wins_over, FoundAt}
use Rattle.tries.specs.declared.Frame.{Frame}
use Rattle.tries.specs.Tries.{asked_by, offered, extended, made, Extends, Apart, Hinted}
use Rattle.tries.proofs.Frames.{width_is, span-is, label_is, arc-is, can-seek, cell_is, found-hints}

-- ---- on words, and as defined

-- a write of one piece, or of none
put-cond : (w : ℕ) (B : List ℕ) (c : ℕ) (l : List ℕ) (b : Bool) → put w B c (cond b l (at w B c)) ≡ cond b (put w B c l) B
unfolding put at
put-cond w B c l true = refl
put-cond w B c l false = write-part B (c * w) w

module _ (q : Request) (arcs : List ℕ) where
  abbrev R : Req
  R = asked q arcs

  wins-is : (l old : List ℕ) → wins_over q.criteria l old ≡ wins (asked q arcs) l old
  unfolding wins_over wins filled step costs
  wins-is l old = refl

  pub offered-is : (B : List ℕ) (c : ℕ) (l : List ℕ) → offered q.criteria B c l ≡ offer (asked q arcs) c l B
  unfolding offered offer
  offered-is B c l =
      ap (λ (b : Bool). put (q.criteria + 2) B c (cond b l (at (q.criteria + 2) B c))) (wins-is l (at (q.criteria + 2) B c))
      ∙ put-cond (q.criteria + 2) B c l (wins (asked q arcs) l (at (q.criteria + 2) B c))

  pub extended-is : (l : List ℕ) (a c : ℕ) → extended q.criteria l (arc (asked q arcs) a) a c ≡ came (asked q arcs) a c l
  unfolding extended came candidate costs arc_costs
  extended-is l a c = ap (λ (n : ℕ). label (sum (take q.criteria l) (drop 2 (arc (asked q arcs) a))) n c) (add_comm a 3)

-- ---- the label that is tried

-- the graded criteria are all but the last
pub graded-is : (s : Frame) → s.request.criteria - 1 ≡ s.d - 1
graded-is s = ap (λ (n : ℕ). n - 1) (sym s.framed.d_is)

module _ (s : Frame) (labels : List ℕ) (from to a c : ℕ) (apart : Apart (asked_by s) labels from to a) (in_c : c < cells (asked_by s)) where
  abbrev Q : Req
  Q = asked_by s

  abbrev F : List ℕ
  F = part labels from (span (asked_by s))

  abbrev B : List ℕ
  B = part labels to (span (asked_by s))

  abbrev l : List ℕ
  l = at (width (asked_by s)) (part labels from (span (asked_by s))) c

  -- its step word, in the buffer
  step-word : (r : ℕ) → r ≡ c * s.w → get_or labels (from + r + s.d) 0 ≡ step Q l
  unfolding step
  step-word r e =
      let w = s.framed.sized.words in
      sym (get_or-part labels (from + r) s.w s.d (omega arith))
      ∙ ap₂ (λ (x d : ℕ). get_or (part labels (from + x) s.w) d 0) e s.framed.d_is
      ∙ ap (λ (x : List ℕ). get_or x s.request.criteria 0) (label_is s.framed labels from c in_c)

  module _ (r : ℕ) (e : r ≡ c * s.w) where
    -- filled: one try
    is-filled : (get_or labels (from + r + s.d) 0 ≡ 0 → ⊥) → filled Q l ≡ true
    unfolding filled
    is-filled ne = let w = step-word r e in lt-ltb 0 (step Q l) (omega arith)

    module _ (in-a : a < arc_count (asked_by s)) (hint : List ℕ) (hinted : Hinted (asked_by s) hint) (ne : get_or labels (from + r + s.d) 0 ≡ 0 → ⊥) where
      -- the words of the label
      abbrev lab : List ℕ
      lab = part labels (from + r) s.w

      lab-is : lab ≡ l
      lab-is = ap (λ (x : ℕ). part labels (from + x) s.w) e ∙ label_is s.framed labels from c in_c

      made-is : made s labels (from + r) a c ≡ came Q a c l
      made-is =
          ap₂ (λ (x y : List ℕ). extended s.d x y a c) lab-is (arc-is s.framed a)
          ∙ ap (λ (d : ℕ). extended d l (arc Q a) a c) s.framed.d_is
          ∙ extended-is s.request s.arcs.now l a c

      whole : length F ≡ span Q
      whole = let b = apart.below in let i = apart.inside in length_part labels from (span Q) (omega arith)

      l-long : length l ≡ width Q
      l-long = at_length (width Q) F (cells Q) whole c in_c

      -- one arc more stays under the ladder tops
      candidate-under : (j : ℕ) → get_or (candidate Q a l) j 0 ≤ top Q j
      unfolding candidate Room
      candidate-under j =
          let m = apart.room c in_c (true-is (is-filled ne)) j in
          let g = arc-le Q a in-a j in
          let e = get_or-sum (costs Q l) (arc_costs Q a) j in
          omega arith

      came-at : (j : ℕ) → j < s.request.criteria → get_or (came Q a c l) j 0 ≡ get_or (candidate Q a l) j 0
      came-at j h =
          sym (cost-word Q (came Q a c l) j h) ∙ ap (λ (x : List ℕ). get_or x j 0) (came-costs Q s.framed.regular a in-a l l-long c)

      sum_fits : (k : ℕ) → k < s.d → get_or lab k 0 + get_or (part s.arcs.now (a * s.w) s.w) (k + 2) 0 ≤ 63000000
      unfolding candidate
      sum_fits k h =
          let d = s.framed.d_is in
          let x : get_or lab k 0 ≡ get_or (costs Q l) k 0 = ap (λ (z : List ℕ). get_or z k 0) lab-is ∙ sym (cost-word Q l k (omega arith)) in
          let y : get_or (part s.arcs.now (a * s.w) s.w) (k + 2) 0 ≡ get_or (arc_costs Q a) k 0 = ap (λ (z : List ℕ). get_or z (k + 2) 0) (arc-is s.framed a) ∙ sym (cost-at Q a k) in
          let u = candidate-under k in
          let t = top-le Q s.framed.bounded k (omega arith) in
          let g = get_or-sum (costs Q l) (arc_costs Q a) k in
          omega arith

      pub can-extend : Extends s labels (from + r) to a c hint
      can-extend =
          let w = width_is s.framed in
          let p = span-is s.framed in
          let n = s.framed.fits.labels_few in
          record {
            below = (let b = apart.below in let g = piece-end s.w (cells Q) c in_c in let h = s.framed.sized.whole in let k = s.framed.cells_is in let m = ap (λ (x : ℕ). x * s.w) k in omega arith);
            inside = (let i = apart.inside in omega arith);
            in_arcs = (let g = piece-end (width Q) (arc_count Q) a in-a in let h = s.framed.regular.whole in rw w (omega arith));
            arcs_few = (let g = s.framed.bounded.arcs_few in omega arith);
            cells_few = (let g = s.framed.sized.cells_small in let k = s.framed.cells_is in omega arith);
            sums = sum_fits;
            seeks = rw made-is (can-seek s.framed (graded-is s) (came Q a c l) hint
                (let g = came-length Q s.framed.regular a in-a l l-long c in let d = s.framed.d_is in omega arith) hinted
                (λ j h. rw (came-at j (omega arith)) (candidate-under j)));
          }

      module _ (n : ℕ) (places : List ℕ) (found : FoundAt s.counts (s.d - 1) s.ladders.now (made s labels (from + r) a c) n places) where
        found' : FoundAt s.counts (s.d - 1) s.ladders.now (came Q a c l) n places
        found' = subst (λ (x : List ℕ). FoundAt s.counts (s.d - 1) s.ladders.now x n places) made-is found

        in_cell : n ≡ cell Q (candidate Q a l)
        in_cell =
            cell_is s.framed (graded-is s) (came Q a c l) places n found'
            ∙ cell-ext Q (came Q a c l) (candidate Q a l) (λ j h. came-at j (omega arith))

        pub filled-hints : Hinted Q places
        filled-hints = found-hints s.framed (graded-is s) (came Q a c l) places n found'

        pub filled-try : write labels to (offered s.d (part labels to s.span) n (made s labels (from + r) a c)) ≡ write labels to (try_cell Q F a c B)
        unfolding try_cell
        filled-try =
            ap (λ (x : List ℕ). write labels to (offered s.d (part labels to s.span) n x)) made-is
            ∙ ap₂ (λ (d k : ℕ). write labels to (offered d (part labels to k) n (came Q a c l))) s.framed.d_is (span-is s.framed)
            ∙ ap (λ (k : ℕ). write labels to (offered s.request.criteria B k (came Q a c l))) in_cell
            ∙ ap (write labels to) (offered-is s.request s.arcs.now B (cell Q (candidate Q a l)) (came Q a c l))
            ∙ sym (ap (λ (b : Bool). write labels to (cond b (offer Q (cell Q (candidate Q a l)) (came Q a c l) B) B)) (is-filled ne))
