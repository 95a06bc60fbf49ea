-- `extend`: the scratch words hold the candidate, which is offered. Assumes nothing.
use mathlib.Core.Path.{◌≡◌, sym, ap, ◌∙◌, subst}
use Prim.Native.Nat.{ℕ, ◌+◌, ◌-◌, ◌*◌, ◌≤◌}
use mathlib.Core.List.{List, [], ◌∷◌, ◌++◌}
use lib.ListN.{length, get_or, take, drop, length-append}
use lib.Seq.{length-take-le, take_at}
use Rattle.words.specs.Pieces.{part, write}
use Rattle.words.proofs.Writes.{length_part}
use Rattle.labels.specs.Words.{Seeks, FoundAt}
use Rattle.tries.specs.declared.Frame.{Frame}
use Rattle.tries.specs.Tries.{offered, made}
use Rattle.tries.proofs.Offering.{made-law}
use native.Mathlib.Omega.{arith}
use Rattle.tries.proofs.Frame.extend.Goals as goal
use Rattle.tries.proofs.Frame.extend.Goals.{After-add_costs}

-- a label fits into the scratch words
abbrev scratch : List ℕ
scratch = 0 ∷ 0 ∷ 0 ∷ 0 ∷ 0 ∷ []

front_long : (s : Frame) → length (take s.w scratch) ≡ s.w
front_long s = length-take-le s.w scratch (omega (arith, s.framed.sized))

-- the scratch words after `add_costs`
module _ (c : After-add_costs) where
  scratch-long : length c.add_costs.new.out ≡ c.args.self.now.w
  scratch-long = c.add_costs.auto.out ∙ front_long c.args.self.now

  scratch-front : take c.args.self.now.w (c.add_costs.new.out ++ drop c.args.self.now.w scratch) ≡ c.add_costs.new.out
  scratch-front = take_at c.add_costs.new.out _ c.args.self.now.w scratch-long

  -- they hold the candidate
  scratch-is : (let a = c.args in c.add_costs.new.out ≡ made a.self.now a.labels.now a.at a.a a.c)
  scratch-is = let a = c.args in made-law a.self.now.d a.self.now.w a.at a.a a.c a.labels.now a.self.now.arcs.now c.add_costs.new.out (rw c.word.ensures at c.add_costs.ensures)

pub slice_bounds-add_costs-end : goal.slice_bounds-add_costs-end
slice_bounds-add_costs-end c = sym (front_long c.args.self.now)

pub add_costs-requires : goal.add_costs-requires
add_costs-requires c = let a = c.args in
    let x = c.requires in
    let w = c.args.self.now.framed.sized.words in
    let e1 : a.at + a.self.now.w - a.at ≡ a.self.now.w = omega arith in
    let e2 : a.a * a.self.now.w + a.self.now.w - a.a * a.self.now.w ≡ a.self.now.w = omega arith in
    record {
      out_long = front_long c.args.self.now ∙ w;
      lab_long = length_part a.labels.now a.at (a.at + a.self.now.w - a.at) (omega (arith, x.below, x.inside)) ∙ e1 ∙ w;
      arc_long = length_part a.self.now.arcs.now (a.a * a.self.now.w) (a.a * a.self.now.w + a.self.now.w - a.a * a.self.now.w) (omega (arith, x.in_arcs)) ∙ e2 ∙ w;
      small = λ k l. subst (λ (m : ℕ). get_or (part a.labels.now a.at m) k 0 + get_or (part a.self.now.arcs.now (a.a * a.self.now.w) (a.a * a.self.now.w + a.self.now.w - a.a * a.self.now.w)) (k + 2) 0 ≤ 63000000) (sym e1)
          (subst (λ (m : ℕ). get_or (part a.labels.now a.at a.self.now.w) k 0 + get_or (part a.self.now.arcs.now (a.a * a.self.now.w) m) (k + 2) 0 ≤ 63000000) (sym e2) (x.sums k l));
    }

pub slice_bounds-cand-end-2 : goal.slice_bounds-cand-end-2
slice_bounds-cand-end-2 c = let h = scratch-long (goal.at.slice_bounds-cand-end-2 c).After-add_costs in simp length-append (omega arith)

pub slice_bounds-offer_found-end : goal.slice_bounds-offer_found-end
slice_bounds-offer_found-end c = sym (ap length (scratch-front (goal.at.slice_bounds-offer_found-end c).After-add_costs) ∙ scratch-long (goal.at.slice_bounds-offer_found-end c).After-add_costs)

pub offer_found-requires : goal.offer_found-requires
offer_found-requires c = let a = c.args in
    let x = c.requires in
    let sought = subst (λ (l : List ℕ). Seeks a.self.now.counts (a.self.now.d - 1) a.self.now.ladders.now l a.places.now) (sym (scratch-front (goal.at.offer_found-requires c).After-add_costs ∙ scratch-is (goal.at.offer_found-requires c).After-add_costs)) x.seeks in record { seeks = sought; room = (ap length (scratch-front (goal.at.offer_found-requires c).After-add_costs) ∙ scratch-long (goal.at.offer_found-requires c).After-add_costs, x.inside) }

pub returns : goal.returns
returns c = let a = c.args in
    let e = scratch-front (goal.at.returns c).After-add_costs ∙ scratch-is (goal.at.returns c).After-add_costs in
    let r = c.offer_found in (
      r.ensures.0 ∙ ap (λ (l : List ℕ). write a.labels.now a.to (offered a.self.now.d (part a.labels.now a.to a.self.now.span) r.result l)) e,
      subst (λ (l : List ℕ). FoundAt a.self.now.counts (a.self.now.d - 1) a.self.now.ladders.now l r.result r.new.places) e r.ensures.1,
    )
