-- `add_costs`. The loop's invariant: the first k words are the sums, the others as they were. Assumes nothing.
use mathlib.Core.Path.{◌≡◌, ap, ◌∙◌}
use Prim.Native.Nat.{ℕ}
use mathlib.Core.List.{◌++◌}
use lib.ListN.{take, drop, length-set}
use Rattle.labels.proofs.Candidates.{sums, one-sum, step-and-from}
use native.Mathlib.Omega.{arith}
use Rattle.labels.proofs.add_costs.Goals as goal

pub loop-k-preserved : goal.loop-k-preserved
loop-k-preserved c = let a = c.args in
    let l = c.loop-k in (
      omega arith,
      one-sum a.d a.out.now a.lab.now a.arc.now c.requires l.out l.k c.loop-k-test.true l.invariant.1,
      length-set l.out l.k _ ∙ l.invariant.2,
    )

pub returns : goal.returns
returns c = let a = c.args in
    let l = c.loop-k in
    let e : l.k ≡ a.d = omega arith in
    step-and-from a.d a.out.now a.lab.now a.arc.now c.requires l.out a.step a.from
    (l.invariant.1 ∙ ap (λ (n : ℕ). take n (sums a.d a.lab.now a.arc.now) ++ drop n a.out.now) e)
