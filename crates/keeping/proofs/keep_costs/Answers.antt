-- `keep_costs`. The loop's invariant: k costs are written. Assumes nothing.
use mathlib.Core.Path.{◌≡◌, refl, sym, ap, ◌∙◌}
use Prim.Native.Nat.{ℕ, ◌+◌}
use mathlib.Core.List.{List}
use lib.ListN.{set, length-set}
use Rattle.words.specs.Pieces.{part, write}
use Rattle.words.proofs.Writes.{write-part}
use Rattle.keeping.proofs.Keeping.{one-cost, two-more}
use native.Mathlib.Omega.{arith}
use Rattle.keeping.proofs.keep_costs.Goals as goal

-- nothing written
none : (xs : List ℕ) (at to : ℕ) → xs ≡ write xs to (part xs at 0)
none xs at to = sym (write-part xs to 0)

pub loop-k-init : goal.loop-k-init
loop-k-init c = let a = c.args in (none a.labels.now a.at a.to, refl)

pub loop-k-preserved : goal.loop-k-preserved
loop-k-preserved c = let a = c.args in
    let p = c.requires in
    let l = c.loop-k in (
      one-cost a.labels.now a.at a.to a.d p.0 p.1 l.labels l.k c.loop-k-test.true l.invariant.0,
      length-set l.labels (a.to + l.k) _ ∙ l.invariant.1,
    )

pub returns : goal.returns
returns c = let a = c.args in
    let p = c.requires in
    let l = c.loop-k in
    let e : l.k ≡ a.d = omega arith in
    ap (λ (s : ℕ). set (set l.labels (a.to + a.d) s) (a.to + a.d + 1) 0) c.word.ensures
    ∙ two-more a.labels.now a.at a.to a.d p.0 p.1 l.labels (l.invariant.0 ∙ ap (λ (n : ℕ). write a.labels.now a.to (part a.labels.now a.at n)) e)
