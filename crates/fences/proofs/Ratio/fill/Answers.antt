-- `fill`: each word written is the next fence, and no fence of the largest top's ladder is over twice that top and 1. Assumes nothing.
use mathlib.Core.Path.{sym, ap, ◌∙◌}
use mathlib.Core.List.{◌++◌}
use native.Mathlib.Omega.{arith}
use Rattle.fences.specs.Fence.{next}
use Rattle.fences.proofs.Fences.{fence-zero, fence-next, ladder-words}
use Rattle.fences.proofs.Ladders.{fences-none, fences-store}
use Rattle.fences.proofs.Ratio.fill.Goals as goal

pub loop-fence-init : goal.loop-fence-init
loop-fence-init c = let s = c.args.self in
    (sym (fence-zero s.p s.q), ap (λ l. l ++ c.args.ladder.now) (sym (fences-none s.p s.q)))

pub next_fence-b-requires : goal.next_fence-b-requires
next_fence-b-requires c = let s = c.args.self in
    let w = ladder-words s.p s.q s.q_positive s.p_within 63000000 c.loop-fence.fence-index (omega arith) in
    omega arith

pub loop-fence-preserved : goal.loop-fence-preserved
loop-fence-preserved c = let s = c.args.self in
    let l = c.loop-fence in (
      c.next_fence-b.ensures ∙ ap (next s.p s.q) l.invariant.0 ∙ sym (fence-next s.p s.q l.fence-index),
      fences-store s.p s.q c.args.ladder.now l.fence-index l.invariant.1 l.invariant.0 (omega arith),
    )
