-- `try_arcs`: the arc that comes is the piece at its place, and its tries are its step of the round. Assumes nothing.
use mathlib.Core.Path.{◌≡◌, sym, ap, ◌∙◌}
use Prim.Native.Nat.{ℕ, ◌+◌, ◌*◌, ◌/◌, ◌≤◌, ◌<◌}
use native.Mathlib.Nat.{mul-le-mul}
use native.Mathlib.Omega.{arith}
use lib.ListN.{length, get_or, drop}
use Rattle.std.specs.Iterator.Adapters.{enumerate_source, enumerate_count}
use Rattle.std.specs.Slice.Iter.{chunks_exact_rest, chunks_exact_size}
use Rattle.std.proofs.lemmas.List.{length_push}
use Rattle.words.specs.Pieces.{part, at}
use Rattle.request.specs.Request.{Req, arc_count, tail, head}
use Rattle.request.specs.Shape.{cells}
use Rattle.request.proofs.Chunks.{none_taken, chunk-at, left-next, chunk-inside, all_taken}
use Rattle.rounds.specs.Rounds.{span, block, filled_in}
use Rattle.rounds.proofs.Ties.{lower-stays}
use Rattle.rounds.proofs.Tries.{filled_in-le}
use Rattle.keeping.specs.declared.Note.{Note}
use Rattle.keeping.specs.Kept.{unnoted}
use Rattle.tries.specs.Tries.{asked_by, Apart, Ranged}
use Rattle.table.proofs.OneArc.{arc-count, Here, here}
use Rattle.table.proofs.Passing.{layer_words, none_yet, tries-few, arc-apart, tail-range, one-arc, all-passed}
use Rattle.table.proofs.try_arcs.Goals as goal
use Rattle.table.proofs.try_arcs.Goals.{At-loop-a, In-Some}

-- at the head of the loop
module _ (l : At-loop-a) where
  -- the tries before this arc are at most its cells each
  counted : l.loop-a.tries ≤ length l.loop-a.yielded * cells (asked_by l.args.s.now)
  counted =
      let a = l.args in
      tries-few (asked_by a.s.now) a.labels.now a.prev a.base a.s.now.framed.regular l.requires.layered l.loop-a.labels l.loop-a.tries (length l.loop-a.yielded) l.loop-a.invariant.passed

-- the arc that has come: its number and its words, and that its two nodes are in the request
module _ (c : In-Some) where
  abbrev k : ℕ
  k = length c.loop-a.yielded

  wide : 0 < c.args.s.now.w
  wide = omega (arith, c.args.s.now.framed.sized.words)

  number-is : c.in-Some.a ≡ k
  number-is = c.in-Some.ensures.steps.1 ∙ c.loop-a.invariant.number

  long : length c.in-Some.arc.now ≡ c.args.s.now.w
  long = c.in-Some.ensures.steps.0.1.1 ∙ c.loop-a.invariant.size

  words-are : c.in-Some.arc.now ≡ at c.args.s.now.w c.args.s.now.arcs.now k
  words-are = chunk-at c.args.s.now.w k c.args.s.now.arcs.now _ c.in-Some.arc.now _ c.loop-a.invariant.left c.in-Some.ensures.steps.0.1.0 long

  left-on : chunks_exact_rest (enumerate_source c.next.new.self) ≡ drop ((k + 1) * c.args.s.now.w) c.args.s.now.arcs.now
  left-on = left-next c.args.s.now.w k c.args.s.now.arcs.now _ c.in-Some.arc.now _ c.loop-a.invariant.left c.in-Some.ensures.steps.0.1.0 long

  inside : k < length c.args.s.now.arcs.now / c.args.s.now.w
  inside = chunk-inside c.args.s.now.w k c.args.s.now.arcs.now _ c.in-Some.arc.now _ c.loop-a.invariant.left c.in-Some.ensures.steps.0.1.0 long wide

  this-arc : Here c.args.s.now k c.in-Some.arc.now inside words-are
  this-arc = here c.args.s.now k c.in-Some.arc.now inside words-are

  abbrev R : Req
  R = asked_by c.args.s.now

  -- the tail's note, and that it counts the filled labels of its block
  abbrev note : Note
  note = get_or c.args.notes.now (get_or c.in-Some.arc.now 0 0) unnoted

  -- its blocks begin f words into the layer before and t words into this one
  module _ (f t : ℕ) (f-is : f ≡ get_or c.in-Some.arc.now 0 0 * c.args.s.now.span) (t-is : t ≡ get_or c.in-Some.arc.now 1 0 * c.args.s.now.span) where
    from_is : c.args.prev + f ≡ c.args.prev + tail R k * span R
    from_is = omega (arith, this-arc)

    to_is : c.args.base + t ≡ c.args.base + head R k * span R
    to_is = omega (arith, this-arc)

    -- they stand apart, and what the tail kept was tried
    apart : Apart R c.loop-a.labels (c.args.prev + f) (c.args.base + t) k
    apart =
        let l = c.loop-a in
        let a = c.args in
        arc-apart R a.labels.now a.prev a.base a.s.now.framed.regular c.requires.layered l.labels l.tries k l.invariant.passed this-arc.index (a.prev + f) (a.base + t) from_is to_is
        (lower-stays a.s.now.request.criteria) c.requires.kept

    -- the range that was noted for the tail holds its filled labels
    range : Ranged R (part c.loop-a.labels (c.args.prev + f) (span R)) note.low note.high
    range =
        let l = c.loop-a in
        let a = c.args in
        tail-range R a.labels.now a.prev a.base a.s.now.framed.regular c.requires.layered l.labels l.tries k l.invariant.passed this-arc.index (a.prev + f) (a.base + t) from_is to_is
        a.notes.now c.requires.noted note (ap (λ (v : ℕ). get_or a.notes.now v unnoted) this-arc.tail-is)

  -- and the count that was noted is how many they are
  noted : note.filled ≡ filled_in R (block R (part c.args.labels.now c.args.prev (layer_words R)) (tail R k))
  noted = ap (λ (v : ℕ). (get_or c.args.notes.now v unnoted).filled) this-arc.tail-is ∙ c.requires.noted.counts (tail R k) (c.args.s.now.framed.regular.tail_in k this-arc.index)

pub loop-a-init : goal.loop-a-init
loop-a-init c = let a = c.args in
    let i = c.enumerate-a-items.ensures in
    let same = c.into_iter-a-iterator.ensures.into_iter_gives in
    let source = ap enumerate_source same ∙ i.source in
    record {
      passed = none_yet (asked_by a.s.now) a.labels.now a.prev a.base;
      number = ap enumerate_count same ∙ i.count;
      size = ap chunks_exact_size source ∙ c.chunks_exact.ensures.size;
      left = ap chunks_exact_rest source ∙ c.chunks_exact.ensures.rest ∙ none_taken a.s.now.w a.s.now.arcs.now;
    }

pub bounds-notes-tail : goal.bounds-notes-tail
bounds-notes-tail c = omega (arith, this-arc (goal.at.bounds-notes-tail c).In-Some, c.requires.noted.long)

-- at most 512 arcs of 1,048,576 cells
pub overflow_add-tries : goal.overflow_add-tries
overflow_add-tries c = let i = (goal.at.overflow_add-tries c).In-Some in
    let few : cells (R i) ≤ 1048576 = omega (arith, c.args.s.now.framed.sized, c.args.s.now.framed.cells_is) in
    let most : k i ≤ 512 = omega (arith, this-arc i) in
    omega (arith, counted (goal.at.overflow_add-tries c).At-loop-a, mul-le-mul most few, noted i, filled_in-le (R i) (block (R i) (part c.args.labels.now c.args.prev (layer_words (R i))) (tail (R i) (k i))))

pub block_at-requires : goal.block_at-requires
block_at-requires c = omega (arith, this-arc (goal.at.block_at-requires c).In-Some)

pub block_at-requires-in-loop-a : goal.block_at-requires-in-loop-a
block_at-requires-in-loop-a c = omega (arith, this-arc (goal.at.block_at-requires-in-loop-a c).In-Some)

pub try_arc-requires : goal.try_arc-requires
try_arc-requires c = let i = (goal.at.try_arc-requires c).In-Some in
    let f = c.block_at in
    let t = c.block_at-in-loop-a in
    record {
      apart = rw (number-is i) (apart i f.result t.result f.ensures t.ensures);
      a_bound = omega (arith, number-is i, (this-arc i).index);
      ranged = range i f.result t.result f.ensures t.ensures;
    }

pub loop-a-preserved : goal.loop-a-preserved
loop-a-preserved c = let i = (goal.at.loop-a-preserved c).In-Some in
    let a = c.args in
    let l = c.loop-a in
    let f = c.block_at in
    let t = c.block_at-in-loop-a in
    let step = c.in-Some.ensures.steps in
    let more = length_push l.yielded (c.in-Some.a, c.in-Some.arc) in
    let made = c.try_arc.ensures in
    let next = one-arc (R i) a.labels.now a.prev a.base a.s.now.framed.regular c.requires.layered l.labels l.tries (k i) l.invariant.passed (this-arc i).index (a.prev + f.result) (a.base + t.result)
    (from_is i f.result t.result f.ensures t.ensures) (to_is i f.result t.result f.ensures t.ensures) c.try_arc.new.labels _ (rw (number-is i) at made) (noted i) in
    record {
      passed = rw more next;
      number = step.2 ∙ ap (λ (n : ℕ). n + 1) l.invariant.number ∙ sym more;
      size = step.0.0 ∙ l.invariant.size;
      left = left-on i ∙ ap (λ (n : ℕ). drop (n * a.s.now.w) a.s.now.arcs.now) (sym more);
    }

pub returns : goal.returns
returns c = let a = c.args in
    let l = c.loop-a in
    let R = asked_by a.s.now in
    let m = arc-count a.s.now in
    let few = all_taken a.s.now.w (length l.yielded) a.s.now.arcs.now _ (omega (arith, a.s.now.framed.sized.words)) l.invariant.left (omega (arith, c.in-None.ensures.steps.0.1.0, l.invariant.size)) in
    let e : length l.yielded ≡ arc_count R = omega (arith, l.invariant.passed.inside) in
    let whole = all-passed R a.labels.now a.prev a.base l.labels l.tries (length l.yielded) l.invariant.passed e in
    record { labels_after = whole.0; value = whole.1 }
