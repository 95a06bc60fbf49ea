-- `run_rounds`. The loop's invariant: layers 0 to i stand at the front (`Drawn`). Assumes nothing.
use mathlib.Core.Path.{◌≡◌, sym, ap, ◌∙◌, subst}
use Prim.Native.Nat.{ℕ, ◌+◌, ◌*◌, ◌≤◌}
use native.Mathlib.Nat.{mul-le-mul}
use native.Mathlib.Omega.{arith}
use Rattle.words.specs.Pieces.{write}
use Rattle.request.specs.Request.{Req, arc_count}
use Rattle.request.specs.Shape.{cells}
use Rattle.rounds.specs.Rounds.{round}
use Rattle.rounds.proofs.Tries.{round_tries-le, tries-le}
use Rattle.rounds.proofs.Ties.{lower-stays}
use Rattle.tries.specs.declared.Frame.{Frame}
use Rattle.tries.specs.Tries.{asked_by}
use Rattle.table.specs.Build.{layer_in, Layered}
use Rattle.table.proofs.Keeping.{layer-size}
use Rattle.table.proofs.Passing.{layer_words}
use Rattle.table.proofs.Layers.{Drawn, first-drawn, next-layered, next_drawn, all-drawn}
use Rattle.table.proofs.run_rounds.Goals as goal
use Rattle.table.proofs.run_rounds.Goals.{At-loop-i, In-loop-i}

module _ (s : Frame) where
  -- 512 arcs of at most 1,048,576 cells a round, 63 rounds
  round-few : arc_count (asked_by s) * cells (asked_by s) ≤ 536870912
  round-few =
      let f = s.framed in
      let few : cells (asked_by s) ≤ 1048576 = omega (arith, f.cells_is, f.sized.cells_small) in
      mul-le-mul f.bounded.arcs_few few

  rounds-few : (i : ℕ) → i ≤ 63 → i * (arc_count (asked_by s) * cells (asked_by s)) ≤ 33822867456
  rounds-few i h = mul-le-mul h round-few

-- at the head of the loop
module _ (l : At-loop-i) where
  abbrev R : Req
  R = asked_by l.args.s.now

  -- a layer's words, counted by the frame
  size : l.args.s.now.request.nodes * l.args.s.now.span ≡ layer_words R
  size = layer-size l.args.s.now

-- in the loop: the layer of this round stands behind the layer before
layered : (b : In-loop-i) → (Layered (asked_by b.args.s.now) b.loop-i.labels b.loop-i.base (b.loop-i.base + layer_words (asked_by b.args.s.now)))
layered b =
    let l = b.loop-i in
    let s = b.args.s.now in
    next-layered (asked_by s) s.framed.regular b.args.labels.now l.labels l.base l.tries l.i l.invariant b.requires.room b.loop-i-test.true (lower-stays s.request.criteria)

pub loop-i-init : goal.loop-i-init
loop-i-init c = first-drawn (asked_by c.args.s.now) c.args.labels.now c.requires.started

pub run_round-tries-requires : goal.run_round-tries-requires
run_round-tries-requires c = let h = (goal.at.run_round-tries-requires c).At-loop-i in
    record { layered = subst (λ (n : ℕ). Layered (R h) c.loop-i.labels c.loop-i.base (c.loop-i.base + n)) (sym (size h)) (layered (goal.at.run_round-tries-requires c).In-loop-i) }

pub overflow_add-tries : goal.overflow_add-tries
overflow_add-tries c = let h = (goal.at.overflow_add-tries c).At-loop-i in
    let s = c.args.s.now in
    let few : c.loop-i.i ≤ 63 = omega (arith, s.framed.bounded.hops_few) in
    omega (
      arith,
      c.loop-i.invariant.count,
      tries-le (R h) c.loop-i.i,
      rounds-few s c.loop-i.i few,
      c.run_round-tries.ensures.value,
      round_tries-le (R h) (layer_in (R h) c.loop-i.labels c.loop-i.base),
      round-few s,
    )

pub loop-i-preserved : goal.loop-i-preserved
loop-i-preserved c = let h = (goal.at.loop-i-preserved c).At-loop-i in
    let l = c.loop-i in
    let x = c.run_round-tries in
    let made = x.ensures.labels_after ∙ ap (λ (n : ℕ). write l.labels (l.base + n) (round (R h) (layer_in (R h) l.labels l.base))) (size h) in
    subst (λ (n : ℕ). Drawn (R h) c.args.labels.now x.new.labels (l.base + n) (l.tries + x.result) (l.i + 1)) (sym (size h))
    (next_drawn (R h) c.args.s.now.framed.regular c.args.labels.now l.labels l.base l.tries l.i l.invariant c.requires.room c.loop-i-test.true x.new.labels x.result made x.ensures.value)

pub returns : goal.returns
returns c = let l = c.loop-i in
    let e : l.i ≡ c.args.s.now.request.hops = omega (arith, l.invariant.inside) in
    let r = all-drawn (asked_by c.args.s.now) c.args.labels.now l.labels l.base l.tries l.i l.invariant e in
    record { labels_after = r.0; value = r.1 }
