-- `fill_ladders`. The loop's invariant: the ladders before criterion j stand at the front, and end at `at`. Assumes nothing.
use mathlib.Core.Path.{◌≡◌, sym, ap, ap₂, ◌∙◌}
use Prim.Native.Nat.{ℕ, ◌+◌, ◌-◌, ◌≤◌, ◌<◌}
use mathlib.Core.List.{List}
use lib.ListN.{length, get_or}
use Rattle.fences.specs.Fence.{fences}
use Rattle.words.specs.Pieces.{part, write, join}
use Rattle.words.proofs.Loops.{total-zero, total-next}
use Rattle.words.proofs.Pieces.{join-zero}
use Rattle.words.proofs.Writes.{length-write, write-part}
use Rattle.request.proofs.Filling.{ladder_of, long_of, room_for, one_more}
use native.Mathlib.Omega.{arith}
use Rattle.request.proofs.fill_ladders.Goals as goal
use Rattle.request.proofs.fill_ladders.Goals.{At-loop-j}

-- nothing written
none : (xs ratios counts : List ℕ) → xs ≡ write xs 0 (join (ladder_of ratios counts) 0)
none xs ratios counts = sym (ap (write xs 0) (join-zero (ladder_of ratios counts)) ∙ write-part xs 0 0)

-- at the head of the loop: the buffer is as long as it came, and there is room for the next ladder
module _ (l : At-loop-j) where
  kept : length l.loop-j.ladders ≡ length l.args.ladders.now
  kept = ap length l.loop-j.invariant.1 ∙ length-write l.args.ladders.now 0 (join (ladder_of l.args.ratios l.args.counts) l.loop-j.j)

  room : l.loop-j.j < l.args.graded → l.loop-j.at + get_or l.args.counts l.loop-j.j 0 + 1 ≤ length l.args.ladders.now
  room t = let a = l.args in room_for a.ratios a.counts l.loop-j.j a.graded (length a.ladders.now) l.loop-j.at t l.loop-j.invariant.0 l.requires.fits

pub loop-j-init : goal.loop-j-init
loop-j-init c = let s = c.args in (sym (total-zero (long_of s.ratios s.counts)), none s.ladders.now s.ratios s.counts)

pub overflow_add-end : goal.overflow_add-end
overflow_add-end c = omega (arith, room (goal.at.overflow_add-end c).At-loop-j c.loop-j-test.true)

pub overflow_add-end-in-loop-j : goal.overflow_add-end-in-loop-j
overflow_add-end-in-loop-j c = omega (arith, room (goal.at.overflow_add-end-in-loop-j c).At-loop-j c.loop-j-test.true)

pub offset_bounds-ladders-at : goal.offset_bounds-ladders-at
offset_bounds-ladders-at c = omega (arith, room (goal.at.offset_bounds-ladders-at c).At-loop-j c.loop-j-test.true)

pub slice_bounds-fill-end : goal.slice_bounds-fill-end
slice_bounds-fill-end c = omega (arith, room (goal.at.slice_bounds-fill-end c).At-loop-j c.loop-j-test.true, kept (goal.at.slice_bounds-fill-end c).At-loop-j)

pub loop-j-preserved : goal.loop-j-preserved
loop-j-preserved c = let a = c.args in
    let j = c.loop-j.j in
    let h = room (goal.at.loop-j-preserved c).At-loop-j c.loop-j-test.true in
    let k = kept (goal.at.loop-j-preserved c).At-loop-j in
    let n = total-next (long_of a.ratios a.counts) j in
    let filled = c.fill.ensures
    ∙ ap₂ (λ (p q : ℕ). fences p q (length (part c.loop-j.ladders c.loop-j.at (c.loop-j.at + get_or a.counts j 0 + 1 - c.loop-j.at)))) c.ratio.ensures.0 c.ratio.ensures.1 in (
      omega arith,
      one_more a.ratios a.counts a.ladders.now c.loop-j.ladders c.fill.new.ladder j c.loop-j.at (c.loop-j.at + get_or a.counts j 0 + 1 - c.loop-j.at)
          c.loop-j.invariant.1 c.loop-j.invariant.0 (omega arith) (omega arith) filled,
    )
