-- All arcs of a round, arc by arc. Assumes nothing.
use Prim.Native.Nat.{ℕ, ◌+◌, ◌*◌, ◌≤◌, ◌<◌, zero-le}
use mathlib.Core.Path.{◌≡◌, sym, ap, ap₂, ◌∙◌, subst}
use mathlib.Core.List.{List}
use native.Mathlib.Omega.{arith}
use lib.ListN.{length, get_or}
use Rattle.words.specs.Loops.{up_to, total}
use Rattle.words.specs.Pieces.{part, at, put, write}
use Rattle.words.proofs.Loops.{total-zero, total-next, total-le}
use Rattle.words.proofs.Pieces.{piece-end, put-length, at_length}
use Rattle.words.proofs.Turns.{turned, loop-starts, loop-turns, loop-long}
use Rattle.words.proofs.Writes.{length_part, length-write, part-part, part-write-same, part-write-below, write-nest}
use Rattle.request.specs.Request.{Req, arc_count, tail, head}
use Rattle.request.specs.Shape.{cells}
use Rattle.request.specs.Accepted.{Regular}
use Rattle.rounds.specs.Rounds.{span, block, keep_all, try_arc, arc_step, filled_in, round_tries}
use Rattle.rounds.specs.Passing.{Room, AllTried}
use Rattle.rounds.proofs.Node.{try_arc-length}
use Rattle.rounds.proofs.Tries.{filled_in-le}
use Rattle.rounds.proofs.Passing.{round-tried}
use Rattle.rounds.proofs.Ties.{Fair, Stays}
use Rattle.keeping.specs.declared.Note.{Note}
use Rattle.keeping.specs.Kept.{unnoted}
use Rattle.tries.specs.Tries.{Apart, Ranged}
use Rattle.table.specs.Build.{Layered, Notes}

-- the words of a layer
abbrev pub layer_words : Req → ℕ
layer_words R = R.nodes * span R

-- a block of a layer in the buffer
block_in : (R : Req) (ls : List ℕ) (b v : ℕ) → v < R.nodes → part ls (b + v * span R) (span R) ≡ block R (part ls b (layer_words R)) v
unfolding block at
block_in R ls b v h = sym (part-part ls b (layer_words R) (v * span R) (span R) (piece-end (span R) R.nodes v h))

block-length : (R : Req) (X : List ℕ) → length X ≡ layer_words R → (v : ℕ) → v < R.nodes → length (block R X v) ≡ span R
unfolding block
block-length R X e v h = at_length (span R) X R.nodes e v h

-- the layers stand apart after a write of the later one
pub layered-later : (R : Req) (xs ls cur : List ℕ) (prev base : ℕ) → Layered R xs prev base → ls ≡ write xs base cur → Layered R ls prev base
layered-later R xs ls cur prev base p e = record {
  below = p.below;
  inside = (let i = p.inside in let n = ap length e ∙ length-write xs base cur in omega arith);
  rooms = λ v h. subst (λ (L : List ℕ). Room R (block R L v)) (sym same) (p.rooms v h);
  tried = subst (AllTried R) (sym same) p.tried;
}
  where
    same : part ls prev (layer_words R) ≡ part xs prev (layer_words R)
    same = ap (λ (l : List ℕ). part l prev (layer_words R)) e ∙ part-write-below xs base cur prev (layer_words R) p.below

module _ (R : Req) (xs : List ℕ) (prev base : ℕ) where
  -- what arc k makes of the two layers
  abbrev step : ℕ → List ℕ → List ℕ → List ℕ
  step k L X = arc_step R L k X

  step-length : (L : List ℕ) (k : ℕ) (X : List ℕ) → length (step k L X) ≡ length X
  unfolding arc_step
  step-length L k X = put-length (span R) X (head R k) (try_arc R (block R L (tail R k)) k (block R X (head R k)))

  -- the arcs before a are passed
  pub record Along (ls : List ℕ) (tries a : ℕ) : Type 0 where
    pub inside : a ≤ arc_count R
    pub words : ls ≡ write xs base (turned xs prev (layer_words R) base (layer_words R) step a)
    pub count : tries ≡ total (λ a. filled_in R (block R (part xs prev (layer_words R)) (tail R a))) a

  pub none_yet : Along xs 0 0
  none_yet = record {
    inside = zero-le;
    words = loop-starts xs prev (layer_words R) base (layer_words R) step;
    count = sym (total-zero (λ a. filled_in R (block R (part xs prev (layer_words R)) (tail R a))));
  }

  -- all arcs
  module _ (ls : List ℕ) (tries a : ℕ) (g : Along ls tries a) (e : a ≡ arc_count R) where
    words_are : ls ≡ write xs base (up_to (arc_step R (part xs prev (layer_words R))) (part xs base (layer_words R)) (arc_count R))
    words_are = g.words ∙ ap (λ (n : ℕ). write xs base (turned xs prev (layer_words R) base (layer_words R) step n)) e

    tries_are : tries ≡ round_tries R (part xs prev (layer_words R))
    unfolding round_tries
    tries_are = g.count ∙ ap (total (λ a. filled_in R (block R (part xs prev (layer_words R)) (tail R a)))) e

    pub all-passed : (ls ≡ write xs base (up_to (arc_step R (part xs prev (layer_words R))) (part xs base (layer_words R)) (arc_count R))) × (tries ≡ round_tries R (part xs prev (layer_words R)))
    all-passed = (words_are, tries_are)

  module _ (ok : Regular R) (p : Layered R xs prev base) (ls : List ℕ) (tries a : ℕ) (g : Along ls tries a) where
    pub along-length : length ls ≡ length xs
    along-length = ap length g.words ∙ length-write xs base (turned xs prev (layer_words R) base (layer_words R) step a)

    pub tries-few : tries ≤ a * cells R
    tries-few = rw g.count (total-le (λ a. filled_in R (block R (part xs prev (layer_words R)) (tail R a))) (cells R) a (λ k _. filled_in-le R (block R (part xs prev (layer_words R)) (tail R k))))

    later : Layered R ls prev base
    later = layered-later R xs ls (turned xs prev (layer_words R) base (layer_words R) step a) prev base p g.words

    before : part ls prev (layer_words R) ≡ part xs prev (layer_words R)
    before = ap (λ (l : List ℕ). part l prev (layer_words R)) g.words ∙ part-write-below xs base (turned xs prev (layer_words R) base (layer_words R) step a) prev (layer_words R) p.below

    module _ (in-a : a < arc_count R) (from to : ℕ) (e-from : from ≡ prev + tail R a * span R) (e-to : to ≡ base + head R a * span R) where
      tail-block : part ls from (span R) ≡ block R (part ls prev (layer_words R)) (tail R a)
      tail-block = ap (λ (x : ℕ). part ls x (span R)) e-from ∙ block_in R ls prev (tail R a) (ok.tail_in a in-a)

      head-block : part ls to (span R) ≡ block R (part ls base (layer_words R)) (head R a)
      head-block = ap (λ (x : ℕ). part ls x (span R)) e-to ∙ block_in R ls base (head R a) (ok.head_in a in-a)

      -- the head's block, after the arcs before this one
      head-now : part xs base (layer_words R) ≡ keep_all R (part xs prev (layer_words R))
          → part ls to (span R) ≡ block R (up_to (arc_step R (part xs prev (layer_words R))) (keep_all R (part xs prev (layer_words R))) a) (head R a)
      head-now kept =
          let size = loop-long xs prev (layer_words R) base (layer_words R) step p.below p.inside (λ k cur size. step-length (part xs prev (layer_words R)) k cur ∙ size) a in
          head-block
          ∙ ap (λ (l : List ℕ). block R (part l base (layer_words R)) (head R a)) g.words
          ∙ ap (λ (n : ℕ). block R (part (write xs base (turned xs prev (layer_words R) base (layer_words R) step a)) base n) (head R a)) (sym size)
          ∙ ap (λ (X : List ℕ). block R X (head R a)) (part-write-same xs base (turned xs prev (layer_words R) base (layer_words R) step a) (omega (arith, p, size)))
          ∙ ap (λ (X : List ℕ). block R (up_to (arc_step R (part xs prev (layer_words R))) X a) (head R a)) kept

      tail-before : part ls from (span R) ≡ block R (part xs prev (layer_words R)) (tail R a)
      tail-before = tail-block ∙ ap (λ (L : List ℕ). block R L (tail R a)) before

      -- what was noted of its tail
      module _ (ns : List Note) (notes : Notes R (part xs prev (layer_words R)) ns) where
        pub tail-range : (note : Note) → note ≡ get_or ns (tail R a) unnoted → Ranged R (part ls from (span R)) note.low note.high
        tail-range note e = rw (e, tail-before) (notes.ranges (tail R a) (ok.tail_in a in-a))

        pub tail-count : (note : Note) → note ≡ get_or ns (tail R a) unnoted → note.filled ≡ filled_in R (block R (part xs prev (layer_words R)) (tail R a))
        tail-count note e = ap (λ (n : Note). n.filled) e ∙ notes.counts (tail R a) (ok.tail_in a in-a)

      -- its two blocks stand apart, and what its tail kept was tried
      pub arc-apart : Fair R.rule (Stays R.rule) → part xs base (layer_words R) ≡ keep_all R (part xs prev (layer_words R)) → Apart R ls from to a
      arc-apart fair kept =
          let t = piece-end (span R) R.nodes (tail R a) (ok.tail_in a in-a) in
          let h = piece-end (span R) R.nodes (head R a) (ok.head_in a in-a) in
          let b = later.below in
          let i = later.inside in
          record {
            below = omega arith;
            inside = omega arith;
            room = subst (Room R) (sym tail-block) (later.rooms (tail R a) (ok.tail_in a in-a));
            tried = rw (tail-before, head-now kept)
                (round-tried R ok fair (part xs prev (layer_words R)) (length_part xs prev (layer_words R) (omega (arith, p))) p.rooms p.tried a (omega arith) a in-a);
          }

      -- and its tries are a step of the round
      arc-step : (ls' : List ℕ) → ls' ≡ write ls to (try_arc R (part ls from (span R)) a (part ls to (span R))) → ls' ≡ write ls base (arc_step R (part ls prev (layer_words R)) a (part ls base (layer_words R)))
      unfolding arc_step put
      arc-step ls' e =
          let h = piece-end (span R) R.nodes (head R a) (ok.head_in a in-a) in
          let i = later.inside in
          let X : List ℕ = part ls base (layer_words R) in
          let made : List ℕ = try_arc R (block R (part ls prev (layer_words R)) (tail R a)) a (block R X (head R a)) in
          let long : length made ≡ span R =
          try_arc-length R (block R (part ls prev (layer_words R)) (tail R a)) a (block R X (head R a))
          ∙ block-length R X (length_part ls base (layer_words R) (omega arith)) (head R a) (ok.head_in a in-a) in
          e
          ∙ ap₂ (λ (F G : List ℕ). write ls to (try_arc R F a G)) tail-block head-block
          ∙ ap (λ (x : ℕ). write ls x made) e-to
          ∙ write-nest ls base (layer_words R) (head R a * span R) made (omega arith)

      -- arc a joins those before it
      pub one-arc : (ls' : List ℕ) (n : ℕ) → ls' ≡ write ls to (try_arc R (part ls from (span R)) a (part ls to (span R)))
          → n ≡ filled_in R (block R (part xs prev (layer_words R)) (tail R a)) → Along ls' (tries + n) (a + 1)
      one-arc ls' n e e-n = record {
        inside = omega arith;
        words = loop-turns xs prev (layer_words R) base (layer_words R) step p.below p.inside
            (λ k cur size. step-length (part xs prev (layer_words R)) k cur ∙ size) ls ls' a g.words (arc-step ls' e);
        count = omega (arith, e-n, g.count, total-next (λ a. filled_in R (block R (part xs prev (layer_words R)) (tail R a))) a);
      }
