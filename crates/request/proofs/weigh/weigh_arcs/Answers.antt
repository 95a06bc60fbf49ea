-- `weigh_arcs`: the arc that comes is the piece at its place, and its row decides. Assumes nothing.
use mathlib.Core.Path.{◌≡◌, sym, ap, ◌∙◌}
use Prim.Native.Nat.{ℕ, ◌+◌, ◌*◌, ◌/◌, ◌<◌}
use mathlib.Core.Bool.{not}
use mathlib.Core.List.{[], ◌∷◌}
use native.Mathlib.Omega.{arith}
use lib.ListN.{length, drop}
use lib.Dec.{T}
use Rattle.std.specs.Iterator.Adapters.{enumerate_source}
use Rattle.std.specs.Slice.Iter.{chunks_exact_rest}
use Rattle.std.proofs.lemmas.List.{length_push}
use Rattle.std.proofs.lemmas.Result.{err_from_is_err_and}
use Rattle.words.specs.Pieces.{at}
use Rattle.words.specs.Rows.{weigh}
use Rattle.words.proofs.Loops.{below_next}
use Rattle.words.proofs.Rows.{each-clear}
use Rattle.request.specs.Rows.{arc_fault, fault_row, arc_row}
use Rattle.request.proofs.Branches.{arc-passed, arc-stops}
use Rattle.request.proofs.Chunks.{chunk-at, left-next, chunk-inside, all_taken}
use Rattle.request.proofs.weigh.weigh_arcs.Goals as goal
use Rattle.request.proofs.weigh.weigh_arcs.Goals.{In-Some}

-- the arc that has come: its number, its words, how long they are, and that it is one of the arcs
module _ (c : In-Some) where
  abbrev k : ℕ
  k = length c.loop-a.yielded

  number-is : c.in-Some.a ≡ k
  number-is = c.in-Some.ensures.steps.1 ∙ c.loop-a.invariant.1

  long : length c.in-Some.arc.now ≡ c.args.d + 2
  long = c.in-Some.ensures.steps.0.1.1 ∙ c.loop-a.invariant.2

  words-are : c.in-Some.arc.now ≡ at (c.args.d + 2) c.args.arcs.now k
  words-are = chunk-at (c.args.d + 2) k c.args.arcs.now _ c.in-Some.arc.now _ c.loop-a.invariant.3 c.in-Some.ensures.steps.0.1.0 long

  left-on : chunks_exact_rest (enumerate_source c.next.new.self) ≡ drop ((k + 1) * (c.args.d + 2)) c.args.arcs.now
  left-on = left-next (c.args.d + 2) k c.args.arcs.now _ c.in-Some.arc.now _ c.loop-a.invariant.3 c.in-Some.ensures.steps.0.1.0 long

  inside : k < length c.args.arcs.now / (c.args.d + 2)
  inside = chunk-inside (c.args.d + 2) k c.args.arcs.now _ c.in-Some.arc.now _ c.loop-a.invariant.3 c.in-Some.ensures.steps.0.1.0 long (omega arith)

pub loop-a-preserved : goal.loop-a-preserved
loop-a-preserved c = let s = c.args in
    let l = c.loop-a in
    let i = (goal.at.loop-a-preserved c).In-Some in
    let step = c.in-Some.ensures.steps in
    let more = length_push l.yielded (c.in-Some.a, c.in-Some.arc) in
    let here = ap (λ (a : ℕ). weigh (fault_row (arc_fault s.n s.d c.in-Some.arc.now) a ∷ [])) (sym (number-is i)) ∙ sym c.in_ok-weigh_arc.ensures in
    let good = arc-passed s.n s.d s.arcs.now (k i) c.in-Some.arc.now (words-are i) here in (
      (λ j h. below_next (λ j. T (not (arc_row s.n s.d s.arcs.now j).holds)) (k i) l.invariant.0 good j (omega arith)),
      step.2 ∙ ap (λ (a : ℕ). a + 1) l.invariant.1 ∙ sym more,
      step.0.0 ∙ l.invariant.2,
      left-on i ∙ ap (λ (n : ℕ). drop (n * (s.d + 2)) s.arcs.now) (sym more),
    )

pub returns-in_err-weigh_arc : goal.returns-in_err-weigh_arc
returns-in_err-weigh_arc c = let s = c.args in
    let i = (goal.at.returns-in_err-weigh_arc c).In-Some in
    let p = err_from_is_err_and c.from_residual.result c.from_residual.ensures.1 in
    let here = ap (λ (a : ℕ). weigh (fault_row (arc_fault s.n s.d c.in-Some.arc.now) a ∷ [])) (sym (number-is i)) ∙ sym c.in_err-weigh_arc.ensures in
    rw (p.1, p.2)
    (sym (arc-stops s.n s.d s.arcs.now (k i) c.in-Some.arc.now (words-are i) (length s.arcs.now / (s.d + 2)) _ _ (inside i) c.loop-a.invariant.0 here))

pub returns : goal.returns
returns c = let s = c.args in
    let l = c.loop-a in
    let few = all_taken (s.d + 2) (length l.yielded) s.arcs.now _ (omega arith) l.invariant.3 (omega (arith, c.in-None.ensures.steps.0.1.0, l.invariant.2)) in
    sym (each-clear (arc_row s.n s.d s.arcs.now) (length s.arcs.now / (s.d + 2)) (λ i h. l.invariant.0 i (omega arith)))
