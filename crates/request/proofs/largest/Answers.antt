-- `largest`: the arc that comes is the piece at its place. Assumes nothing.
use mathlib.Core.Path.{◌≡◌, sym, ap, ◌∙◌}
use Prim.Native.Nat.{ℕ, ◌+◌, ◌*◌, max}
use mathlib.Core.List.{List}
use lib.ListN.{length, get_or, drop}
use Rattle.std.proofs.Common.{rules}
use Rattle.std.specs.Slice.Iter.{chunks_exact_rest, chunks_exact_size}
use Rattle.std.proofs.lemmas.List.{length_push}
use Rattle.words.specs.Pieces.{at}
use Rattle.words.proofs.Loops.{up_to-zero, up_to-next}
use Rattle.request.specs.Shape.{largest_of}
use Rattle.request.proofs.Chunks.{none_taken, chunk-at, left-next}
use Rattle.request.proofs.largest.Goals as goal

-- one arc more
next : (w : ℕ) (arcs arc : List ℕ) (a j most : ℕ) → arc ≡ at w arcs a → most ≡ largest_of w arcs a j → max most (get_or arc (j + 2) 0) ≡ largest_of w arcs (a + 1) j
unfolding largest_of
next w arcs arc a j most h e =
    ap (λ (x : List ℕ). max most (get_or x (j + 2) 0)) h ∙ ap (λ (z : ℕ). max z (get_or (at w arcs a) (j + 2) 0)) e
    ∙ sym (up_to-next (λ a x. max x (get_or (at w arcs a) (j + 2) 0)) 0 a)

none : (w : ℕ) (arcs : List ℕ) (j : ℕ) → 0 ≡ largest_of w arcs 0 j
unfolding largest_of
none w arcs j = sym (up_to-zero (λ a x. max x (get_or (at w arcs a) (j + 2) 0)) 0)

pub loop-arc-init : goal.loop-arc-init
loop-arc-init c = let s = c.args in
    let i = c.chunks_exact-arc-items in
    let same = c.into_iter-arc-iterator.ensures.into_iter_gives in
    (none s.w s.arcs.now s.j, ap chunks_exact_size same ∙ i.ensures.size, ap chunks_exact_rest same ∙ i.ensures.rest ∙ none_taken s.w s.arcs.now)

pub loop-arc-preserved : goal.loop-arc-preserved
loop-arc-preserved c = let s = c.args in
    let l = c.loop-arc in
    let step = c.in-Some.ensures.steps in
    let here = chunk-at s.w (length l.yielded) s.arcs.now (chunks_exact_rest l.arc-iterator) c.in-Some.arc.now (chunks_exact_rest c.next.new.self) l.invariant.2 step.1.0 (step.1.1 ∙ l.invariant.1) in
    let on = left-next s.w (length l.yielded) s.arcs.now (chunks_exact_rest l.arc-iterator) c.in-Some.arc.now (chunks_exact_rest c.next.new.self) l.invariant.2 step.1.0 (step.1.1 ∙ l.invariant.1) in
    let more = length_push l.yielded c.in-Some.arc in
    let larger : c.max-most.result ≡ max l.most (get_or c.in-Some.arc.now (s.j + 2) 0) = search rules in (
      larger ∙ next s.w s.arcs.now c.in-Some.arc.now (length l.yielded) s.j l.most here l.invariant.0 ∙ ap (λ (n : ℕ). largest_of s.w s.arcs.now n s.j) (sym more),
      step.0 ∙ l.invariant.1,
      on ∙ ap (λ (n : ℕ). drop (n * s.w) s.arcs.now) (sym more),
    )
