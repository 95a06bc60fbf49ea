-- `store_arcs`: the words of the first i arcs are stored, and the lines from byte `at` on say the rest. Assumes nothing.
use Prim.Native.Nat.{ℕ, ◌+◌, ◌*◌, ◌≤◌}
use mathlib.Core.Path.{◌≡◌, ap, sym, ◌∙◌}
use native.Mathlib.Omega.{arith}
use native.Mathlib.Nat.{zero-mul, add-mul, one-mul}
use lib.ListN.{length, take}
use Rattle.words.specs.Pieces.{write}
use Rattle.words.proofs.Writes.{write-none}
use Rattle.text.specs.Field.{before}
use Rattle.text.proofs.Fields.{rest-is}
use Rattle.sheet.specs.Grammar.{lf, arc_word, sheet_of}
use Rattle.sheet.specs.Reader.{words_of}
use Rattle.sheet.proofs.LineKinds.{filled}
use Rattle.sheet.proofs.Stores.{Starts, starts, Steps, steps, steps-next, stored, mid-length, fills, going_end}
use Rattle.sheet.proofs.reader.store_arcs.Goals as goal
use Rattle.sheet.proofs.reader.store_arcs.Goals.{After-cut, After-cut-line}

-- the first line
first : (c : After-cut) → Starts c.args.sheet.now c.args.form c.cut.result.now
first c = starts c.args.sheet.now c.args.form c.cut.result.now c.cut.ensures c.requires.0

-- the line of one arc
here : (c : After-cut-line)
    → Steps c.args.sheet.now c.args.form.arcs c.loop-i.at (c.loop-i.i * (c.args.form.request.criteria + 2)) c.loop-i.i (c.args.form.request.criteria + 2) c.cut-line.result.now
here c =
    let a = c.args in
    let l = c.loop-i in
    let n = a.form.request.criteria + 2 in
    steps a.sheet.now a.form.arcs l.at (l.i * n) l.i n c.cut-line.result.now
    (ap (λ (d : ℕ). d + 2) (sym (starts a.sheet.now a.form c.cut.result.now c.cut.ensures c.requires.0).criteria))
    (c.cut-line.ensures ∙ ap (before lf) (rest-is a.sheet.now l.at))
    (omega arith) (omega arith) (omega arith) l.invariant.3

pub loop-i-init : goal.loop-i-init
loop-i-init c = let f = first (goal.at.loop-i-init c).After-cut in
    let z : 0 * (c.args.form.request.criteria + 2) ≡ 0 = zero-mul (c.args.form.request.criteria + 2) in
    (omega (arith, f.room), omega (arith, z), rw z (sym (write-none _ 0)), rw z f.going)

pub offset_bounds-arcs-p : goal.offset_bounds-arcs-p
offset_bounds-arcs-p c = omega (arith, (here (goal.at.offset_bounds-arcs-p c).After-cut-line).fits)

pub slice_bounds-arc_line-end : goal.slice_bounds-arc_line-end
slice_bounds-arc_line-end c = omega (arith, (here (goal.at.slice_bounds-arc_line-end c).After-cut-line).fits)

pub overflow_add-at-in-loop-i-2 : goal.overflow_add-at-in-loop-i-2
overflow_add-at-in-loop-i-2 c = omega (arith, (here (goal.at.overflow_add-at-in-loop-i-2 c).After-cut-line).room)

pub loop-i-preserved : goal.loop-i-preserved
loop-i-preserved c = let h = here (goal.at.loop-i-preserved c).After-cut-line in
    let a = c.args in
    let l = c.loop-i in
    let ws = words_of (sheet_of a.sheet.now) in
    let n = a.form.request.criteria + 2 in
    let w = c.arc_line in
    let r : l.i * n + n ≤ length l.arcs = omega (arith, h.fits) in
    let p : l.i * n + n ≡ (l.i + 1) * n = omega (arith, add-mul l.i 1 n, one-mul n) in
    let y = filled arc_word n _ h.vs _ w.new.words (mid-length l.arcs (l.i * n) n r) h.reads w.ensures.words_after in
    let x = steps-next a.sheet.now a.form.arcs l.at l.i n c.cut-line.result.now h in
    (x.0, x.1, stored a.arcs.now l.arcs ws h.vs w.new.words (l.i * n) n l.invariant.2 h.words h.width (omega arith) r y ∙ ap (λ (k : ℕ). write a.arcs.now 0 (take k ws)) p, x.2)

pub returns : goal.returns
returns c = let s = c.args.sheet.now in
    let l = c.loop-i in
    l.invariant.2 ∙ ap (write _ 0) (going_end s _ l.at _ l.i (omega arith) (omega arith) l.invariant.3) ∙ fills _ _ c.requires.1
