-- `put_arcs`: the arcs that are left make, behind those that are written, what all of them make. Assumes nothing.
use Prim.Native.Nat.{◌+◌, ◌/◌}
use mathlib.Core.Path.{refl, ap, ◌∙◌}
use native.Mathlib.Omega.{arith}
use lib.ListN.{length}
use Rattle.std.specs.Slice.Iter.{chunks_exact_rest, chunks_exact_size}
use Rattle.sheet.specs.Rendering.{arc_lines}
use Rattle.sheet.proofs.Puts.{ArcNext, arcs-all, arc-next, arcs-end}
use Rattle.sheet.proofs.writer.Content.put_arcs.Goals as goal
use Rattle.sheet.proofs.writer.Content.put_arcs.Goals.{In-Some}

-- the arc that comes
here : (c : In-Some) → ArcNext (c.args.self.now.request.criteria + 2) c.args.at (arc_lines (c.args.self.now.request.criteria + 2) (length c.args.self.now.arcs.now / (c.args.self.now.request.criteria + 2)) c.args.self.now.arcs.now) c.args.sheet.now
    c.in-Some.arc.now (chunks_exact_rest c.next.new.self) c.loop-arc.e c.loop-arc.sheet
here c =
    let a = c.args in
    let l = c.loop-arc in
    let step = c.in-Some.ensures.steps in
    arc-next (a.self.now.request.criteria + 2) a.at (arc_lines (a.self.now.request.criteria + 2) (length a.self.now.arcs.now / (a.self.now.request.criteria + 2)) a.self.now.arcs.now) a.sheet.now (chunks_exact_rest l.arc-iterator) c.in-Some.arc.now (chunks_exact_rest c.next.new.self) l.e l.sheet
    (omega arith) step.1.0 (step.1.1 ∙ l.invariant.0) l.invariant.2

pub loop-arc-init : goal.loop-arc-init
loop-arc-init c = let a = c.args in
    let i = c.chunks_exact-arc-items.ensures in
    let same = c.into_iter-arc-iterator.ensures.into_iter_gives in
    (ap chunks_exact_size same ∙ i.size, refl, arcs-all (a.self.now.request.criteria + 2) a.at a.self.now.arcs.now (chunks_exact_rest c.into_iter-arc-iterator.result) a.sheet.now (ap chunks_exact_rest same ∙ i.rest) a.self.now.ranged.multiple)

pub put_line-e-requires : goal.put_line-e-requires
put_line-e-requires c = omega (arith, (here (goal.at.put_line-e-requires c).In-Some).room, c.requires, c.loop-arc.invariant.1)

pub loop-arc-preserved : goal.loop-arc-preserved
loop-arc-preserved c = let p = c.put_line-e in
    (c.in-Some.ensures.steps.0 ∙ c.loop-arc.invariant.0, p.auto.out ∙ c.loop-arc.invariant.1, rw (p.ensures.value, p.ensures.out_after) (here (goal.at.loop-arc-preserved c).In-Some).left)

pub returns : goal.returns
returns c = let a = c.args in
    let l = c.loop-arc in
    let e = arcs-end (a.self.now.request.criteria + 2) a.at (arc_lines (a.self.now.request.criteria + 2) (length a.self.now.arcs.now / (a.self.now.request.criteria + 2)) a.self.now.arcs.now) a.sheet.now (chunks_exact_rest l.arc-iterator) l.e l.sheet (omega (arith, c.in-None.ensures.steps.1.0, l.invariant.0)) l.invariant.2 in
    record { value = e.0; sheet_after = e.1 }
