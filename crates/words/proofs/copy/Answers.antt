-- `copy`: the first i words are src's, the others as they were. Assumes nothing.
use Prim.Native.Nat.{ℕ}
use native.Mathlib.Omega.{arith}
use mathlib.Core.Path.{◌≡◌, ap, ◌∙◌}
use mathlib.Core.List.{List, ◌++◌, append-nil}
use lib.ListN.{length, get_or, set, take, drop, length-set}
use lib.Seq.{drop-length, take-length}
use Rattle.words.proofs.Writes.{copy_more}
use Rattle.words.proofs.copy.Goals as goal

pub loop-i-preserved : goal.loop-i-preserved
loop-i-preserved c =
    let i = c.loop-i.i in
    let s = c.args.src.now in (
      ap (λ (z : List ℕ). set z i (get_or s i 0)) c.loop-i.invariant.0 ∙ copy_more s c.args.part.now i (omega arith) (omega arith),
      length-set c.loop-i.part i (get_or s i 0) ∙ c.loop-i.invariant.1,
    )

pub returns : goal.returns
returns c =
    let p = c.args.part.now in
    let s = c.args.src.now in
    let e : c.loop-i.i ≡ length p = omega arith in
    let f : c.loop-i.i ≡ length s = omega arith in
    c.loop-i.invariant.0 ∙ ap (λ (n : ℕ). take c.loop-i.i s ++ drop n p) e ∙ ap (λ (r : List ℕ). take c.loop-i.i s ++ r) (drop-length p)
    ∙ append-nil _ ∙ ap (λ (n : ℕ). take n s) f ∙ take-length s
