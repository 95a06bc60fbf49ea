-- The ladders of a request, one after another: where each begins, and a cost's place in its ladder. Assumes nothing.
use Prim.Native.Nat.{ℕ, ◌+◌, ◌≤◌, ◌<◌}
use mathlib.Core.Path.{◌≡◌}
use native.Mathlib.Omega.{arith}
use lib.ListN.{length}
use Rattle.words.specs.Pieces.{part}
use Rattle.words.proofs.Loops.{total-suc, total_mono}
use Rattle.words.proofs.Pieces.{join-total, join-part}
use Rattle.fences.specs.Answer.{Bracket, Slot}
use Rattle.fences.proofs.Ladders as fence
use Rattle.request.specs.Request.{Req, ratio_p, ratio_q}
use Rattle.request.specs.Shape.{top, buckets, ladder, ladders, ladder_at, position}
use Rattle.request.specs.Accepted.{Regular}

module _ (R : Req) where
  pub ladder-length : (j : ℕ) → length (ladder R j) ≡ buckets R j + 1
  unfolding ladder buckets
  ladder-length j = fence.ladder-length (ratio_p R j) (ratio_q R j) (top R j)

  pub ladders-length : length (ladders R) ≡ ladder_at R R.graded
  unfolding ladders ladder_at
  ladders-length = join-total (ladder R) (λ j. buckets R j + 1) ladder-length R.graded

  -- ladder j among them
  pub ladders-part : (j : ℕ) → j < R.graded → part (ladders R) (ladder_at R j) (buckets R j + 1) ≡ ladder R j
  unfolding ladders ladder_at
  ladders-part j l = join-part (ladder R) (λ j. buckets R j + 1) ladder-length R.graded j l

  -- it ends within them
  pub ladder-inside : (j : ℕ) → j < R.graded → ladder_at R j + (buckets R j + 1) ≤ ladder_at R R.graded
  unfolding ladder_at
  ladder-inside j l = let e = total-suc (λ i. buckets R i + 1) j in let m = total_mono (λ i. buckets R i + 1) l in omega arith

  -- a cost that is at most the top lies in its ladder, and its place there is its position
  pub in-ladder : Regular R → (j c : ℕ) → j < R.graded → c ≤ top R j → Bracket (ladder R j) c 0
  unfolding ladder
  in-ladder ok j c l h = fence.ladder-bracket (ratio_p R j) (ratio_q R j) (ok.ratio_in j l) (top R j) c h

  pub place-position : Regular R → (j c r : ℕ) → j < R.graded → Slot (ladder R j) c r → r ≡ position R j c
  unfolding ladder position
  place-position ok j c r l s = fence.slot-position (ratio_p R j) (ratio_q R j) (ok.ratio_in j l) (top R j) c r s
