-- The sizes of a frame are the request's, and what lies where in the buffers. Assumes nothing.
use Prim.Native.Nat.{ℕ, ◌+◌, ◌-◌, ◌*◌, ◌≤◌, ◌<◌}
use mathlib.Core.Path.{◌≡◌, sym, ap, ap₂, ◌∙◌, subst}
use mathlib.Core.List.{List}
use native.Mathlib.Nat.{le_trans, pow-le-pow_right}
use native.Mathlib.Omega.{arith}
use lib.Dec.{lit<}
use lib.ListN.{length, get_or, length-take}
use Rattle.words.specs.Pieces.{part, at}
use Rattle.words.specs.Radix.{volume, radix}
use Rattle.words.proofs.Loops.{total_ext}
use Rattle.words.proofs.Pieces.{piece-end}
use Rattle.words.proofs.Radix.{volume-ext, volume-pow, radix-ext, radix-base}
use Rattle.words.proofs.Writes.{part-part}
use Rattle.fences.specs.Answer.{Slot}
use Rattle.request.specs.Request.{Req, width, arc}
use Rattle.request.specs.Shape.{buckets, cells, cell, position, top, ladder, ladders, ladder_at}
use Rattle.request.proofs.Ladders.{ladders-length, ladders-part, ladder-inside, in-ladder, place-position}
use Rattle.rounds.specs.Rounds.{span}
use Rattle.labels.specs.Words.{offset, ladder_in, Seeks, FoundAt}
use Rattle.tries.specs.Frame.{Framed}
use Rattle.tries.specs.Tries.{Hinted}

module _ {R : Req} {buffer : List ℕ} {d w n m : ℕ} {counts : List ℕ} (f : Framed R buffer d w n m counts) where
  pub width_is : w ≡ width R
  width_is = f.sized.words ∙ ap (λ (k : ℕ). k + 2) f.d_is

  pub span-is : m ≡ span R
  span-is = f.sized.whole ∙ ap₂ (λ (x y : ℕ). x * y) f.cells_is width_is

  -- ---- labels and arcs in their buffers

  pub label_is : (ls : List ℕ) (from c : ℕ) → c < cells R → part ls (from + c * w) w ≡ at (width R) (part ls from (span R)) c
  unfolding at
  label_is ls from c h =
      ap (λ (w : ℕ). part ls (from + c * w) w) width_is ∙ sym (part-part ls from (span R) (c * width R) (width R) (piece-end (width R) (cells R) c h))

  pub arc-is : (a : ℕ) → part R.arcs (a * w) w ≡ arc R a
  unfolding arc at
  arc-is a = ap (λ (w : ℕ). part R.arcs (a * w) w) width_is

  -- ---- ladders in theirs

  pub offset-is : (j : ℕ) → j ≤ R.graded → offset counts j ≡ ladder_at R j
  unfolding offset ladder_at
  offset-is j h = total_ext (λ i. get_or counts i 0 + 1) (λ i. buckets R i + 1) j (λ i l. ap (λ (n : ℕ). n + 1) (f.counts_are i (le_trans l h)))

  pub buffer-room : ladder_at R R.graded ≤ length buffer
  buffer-room =
      let e = ap length f.ladders_are ∙ ladders-length R in
      let m = length-take (length (ladders R)) buffer in
      let n = ladders-length R in
      omega arith

  pub ladder-is : (j : ℕ) → j < R.graded → ladder_in counts buffer j ≡ ladder R j
  unfolding ladder_in
  ladder-is j l =
      let n = ladders-length R in
      let e = ladder-inside R j l in
      let z : ladder_at R j ≡ 0 + ladder_at R j = omega arith in
      ap₂ (λ (x y : ℕ). part buffer x (y + 1)) (offset-is j (omega arith) ∙ z) (f.counts_are j l)
      ∙ sym (part-part buffer 0 (length (ladders R)) (ladder_at R j) (buckets R j + 1) (omega arith))
      ∙ ap (λ (x : List ℕ). part x (ladder_at R j) (buckets R j + 1)) f.ladders_are
      ∙ ladders-part R j l

  module _ (graded-is : R.graded ≡ d - 1) where
    -- ---- the counts make the cells

    pub volume_is : volume (λ i. get_or counts i 0) (d - 1) ≡ n
    unfolding cells
    volume_is =
        ap (volume (λ i. get_or counts i 0)) (sym graded-is)
        ∙ volume-ext (λ i. get_or counts i 0) (buckets R) R.graded f.counts_are
        ∙ sym f.cells_is

    volume-few : (k : ℕ) → k ≤ d - 1 → volume (λ i. get_or counts i 0) k ≤ 16777216
    volume-few k h =
        let t = f.sized.few in
        let few : (j : ℕ) → j < k → get_or counts j 0 ≤ 4096 = λ j l. rw (f.counts_are j (omega arith)) (f.fits.buckets_few j (omega arith)) in
        le_trans (volume-pow (λ i. get_or counts i 0) 4096 k few) (pow-le-pow_right {n = 4096} (lit< tt) {i = k} {j = 2} (omega arith))

    -- ---- costs under the ladder tops can be looked for

    module _ (cand hint : List ℕ) (long : d - 1 ≤ length cand) (hinted : Hinted R hint) (under : (j : ℕ) → j < R.graded → get_or cand j 0 ≤ top R j) where
      pub can-seek : Seeks counts (d - 1) buffer cand hint
      can-seek = record {
        few = (let t = f.sized.few in omega arith);
        two = hinted.two;
        long = long;
        room = rw (offset-is (d - 1) (omega arith)) (subst (λ (n : ℕ). ladder_at R n ≤ length buffer) graded-is buffer-room);
        small = volume-few;
        counts_few = λ j l. rw (f.counts_are j (omega arith)) (f.fits.buckets_few j (omega arith));
        hinted = λ j l. rw (f.counts_are j (omega arith)) (hinted.inside j (omega arith));
        inside = λ j l. rw (ladder-is j (omega arith)) (in-ladder R f.regular j (get_or cand j 0) (omega arith) (under j (omega arith)));
      }

    -- and what is found is the cell
    module _ (cand places : List ℕ) (place : ℕ) (found : FoundAt counts (d - 1) buffer cand place places) where
      place_is : (j : ℕ) → j < R.graded → get_or places j 0 ≡ position R j (get_or cand j 0)
      place_is j l = place-position R f.regular j (get_or cand j 0) (get_or places j 0) l (subst (λ (x : List ℕ). Slot x (get_or cand j 0) (get_or places j 0)) (ladder-is j l) (found.slot j (omega arith)))

      pub cell_is : place ≡ cell R cand
      unfolding cell
      cell_is =
          found.number
          ∙ ap (radix (λ i. get_or counts i 0) (λ i. get_or places i 0)) (sym graded-is)
          ∙ radix-base (λ i. get_or counts i 0) (buckets R) (λ i. get_or places i 0) R.graded f.counts_are
          ∙ radix-ext (buckets R) (λ i. get_or places i 0) (λ j. position R j (get_or cand j 0)) R.graded place_is

      pub found-hints : Hinted R places
      found-hints = record { two = found.two; inside = λ j l. rw (sym (f.counts_are j l)) (found.below j (omega arith)) }
