-- `weigh_ratios`. The loop's invariant: no ratio before criterion j is bad. Assumes nothing.
use mathlib.Core.Path.{◌≡◌, sym, ◌∙◌}
use mathlib.Core.Bool.{not}
use lib.Dec.{T}
use Rattle.words.proofs.Choices.{true-is, false-is}
use Rattle.words.proofs.Loops.{below_next}
use Rattle.words.proofs.Rows.{each-clear}
use Rattle.request.specs.Rows.{ratio_row}
use Rattle.request.proofs.Branches.{ratio-q, ratio-p, ratio-good, ratios-refused}
use native.Mathlib.Omega.{arith}
use Rattle.request.proofs.weigh.weigh_ratios.Goals as goal
use Rattle.request.proofs.weigh.weigh_ratios.Goals.{then-outside-via-then-outside, then-outside-via-else-outside+then-outside-2}

pub returns-then-outside : goal.returns-then-outside
returns-then-outside c = let a = c.args in
    let l = c.loop-j in
    let first = ratios-refused a.ratios l.j a.graded c.loop-j-test.true in
    elim c.then-outside.branch [
      | then-outside-via-then-outside w ↦ sym (first (ratio-q a.ratios l.j (true-is (sym c.outside.ensures ∙ w.if-outside.true))) l.invariant)
      | then-outside-via-else-outside+then-outside-2 w ↦ sym (first (ratio-p a.ratios l.j (true-is (sym w.outside-else-outside.ensures ∙ w.if-outside-2.true))) l.invariant)
    ]

pub loop-j-preserved : goal.loop-j-preserved
loop-j-preserved c = let a = c.args in
    let l = c.loop-j in
    let q = false-is (sym c.outside.ensures ∙ c.if-outside.false) in
    let p = false-is (sym c.outside-else-outside.ensures ∙ c.if-outside-2.false) in
    below_next (λ i. T (not (ratio_row a.ratios i).holds)) l.j l.invariant (ratio-good a.ratios l.j q p)

pub returns : goal.returns
returns c = let a = c.args in
    let l = c.loop-j in
    let e : l.j ≡ a.graded = omega arith in
    sym (each-clear (ratio_row a.ratios) a.graded (λ i h. l.invariant i (rw e h)))
