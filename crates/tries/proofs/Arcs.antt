-- The tries of one arc, cell by cell. Assumes nothing.
use Prim.Native.Nat.{ℕ, ◌+◌, ◌-◌, ◌*◌, ◌≤◌, ◌<◌, zero-le}
use mathlib.Core.Path.{◌≡◌, sym, ap, ◌∙◌, subst}
use mathlib.Core.List.{List}
use native.Mathlib.Nat.{le_refl, le_trans, mul-le-mul_right}
use native.Mathlib.Omega.{arith}
use lib.ListN.{length, get_or}
use Rattle.words.specs.Pieces.{part, at, write}
use Rattle.words.proofs.Pieces.{piece-end, piece-word}
use Rattle.words.proofs.Turns.{turned, loop-starts, loop-turns, loop-long}
use Rattle.words.proofs.Writes.{length_part, length-write, get_or-part, part-write-below, part-write-same}
use Rattle.request.specs.Request.{Req, width, arc_count}
use Rattle.request.specs.Shape.{cells}
use Rattle.request.specs.Accepted.{Regular}
use Rattle.request.proofs.Tops.{buckets-pos}
use Rattle.rounds.specs.Rounds.{span, try_cell, try_arc}
use Rattle.rounds.specs.Label.{step}
use Rattle.rounds.specs.Passing.{Room, Tried, Quiet}
use Rattle.rounds.proofs.Node.{try_cell-length}
use Rattle.rounds.proofs.Passing.{some-tried, quiet-cells}
use Rattle.rounds.proofs.Ties.{Fair, Stays}
use Rattle.tries.specs.declared.Frame.{Frame}
use Rattle.tries.specs.Tries.{asked_by, Apart, Ranged, Hinted, AllQuiet, First}
use Rattle.tries.proofs.Frames.{span-is}

-- how far the words of the first `high` cells reach
pub record Reach (s : Frame) (labels : List ℕ) (from to high : ℕ) : Type 0 where
  pub fits : high * s.w ≤ s.span
  pub small : s.span ≤ 6000000
  pub few : high ≤ s.cells
  pub below : from + s.span ≤ to
  pub inside : to + s.span ≤ length labels

-- the counts are no zeros
pub counts_some : (s : Frame) (j : ℕ) → j < s.d - 1 → 0 < get_or s.counts j 0
counts_some s j l = rw (s.framed.counts_are j (omega (arith, s.framed.d_is))) (buckets-pos (asked_by s) j)

-- places below them are places to look from
pub places-hint : (s : Frame) (places : List ℕ) → length places ≡ 2 → ((j : ℕ) → j < s.d - 1 → get_or places j 0 < get_or s.counts j 0) → Hinted (asked_by s) places
places-hint s places e h = record { two = e; inside = λ j l. rw (sym (s.framed.counts_are j l)) (h j (omega (arith, s.framed.d_is))) }

module _ (s : Frame) (labels : List ℕ) (from to a low high : ℕ) (p : Apart (asked_by s) labels from to a) (r : Ranged (asked_by s) (part labels from (span (asked_by s))) low high) where
  pub reach : Reach s labels from to high
  reach =
      let e = span-is s.framed in
      record {
        fits = (let m : high * s.w ≤ s.cells * s.w = mul-le-mul_right s.w (omega (arith, r.inside, s.framed.cells_is)) in omega (arith, s.framed.sized.whole));
        small = s.framed.sized.small;
        few = omega (arith, r.inside, s.framed.cells_is);
        below = omega (arith, p.below);
        inside = omega (arith, p.inside);
      }

  -- the tail's block as it is lent
  pub lent-block : part labels from (from + s.span - from) ≡ part labels from (span (asked_by s))
  lent-block =
      let e = span-is s.framed in
      let n : from + s.span - from ≡ span (asked_by s) = omega arith in
      ap (part labels from) n

  -- what is passed over in it
  pub quiet-between : (c n : ℕ) → AllQuiet s.d (part labels from (from + s.span - from)) c n
      → (k : ℕ) → c ≤ k → k < n → Quiet (step (asked_by s) (at (width (asked_by s)) (part labels from (span (asked_by s))) k))
  unfolding step
  quiet-between c n z k l m =
      subst (λ (d : ℕ). Quiet (get_or (at (d + 2) (part labels from (span (asked_by s))) k) d 0)) s.framed.d_is
      (subst (λ (F : List ℕ). Quiet (get_or (at (s.d + 2) F k) s.d 0)) lent-block (z k l m))

  -- and what is found
  pub full-found : (c n : ℕ) → First s.d (part labels from (from + s.span - from)) c high n → (o : ℕ) → o ≡ n * s.w → get_or labels (from + o + s.d) 0 ≡ 0 → ⊥
  full-found c n z o e q =
      z.full
      (let b = piece-end (s.d + 2) s.cells n (omega (arith, r.inside, z.inside, s.framed.cells_is)) in
      let f = s.framed.sized in
      piece-word (s.d + 2) (part labels from (from + s.span - from)) n s.d (omega arith)
      ∙ get_or-part labels from (from + s.span - from) (n * (s.d + 2) + s.d) (omega (arith, f.whole, ap (λ (w : ℕ). s.cells * w) f.words))
      ∙ ap (λ (k : ℕ). get_or labels k 0) (omega (arith, ap (λ (w : ℕ). n * w) f.words))
      ∙ q)

module _ (R : Req) (xs : List ℕ) (from to a low high : ℕ) where
  -- what a try of cell k makes of the two blocks, and the head's block when the cells before c are tried
  abbrev try : ℕ → List ℕ → List ℕ → List ℕ
  try k F B = try_cell R F a k B

  abbrev now : ℕ → List ℕ
  now c = turned xs from (span R) to (span R) try c

  -- the cells before c are tried
  pub record Along (ls : List ℕ) (c : ℕ) : Type 0 where
    pub reached : low ≤ c
    pub inside : c ≤ high
    pub words : ls ≡ write xs to (now c)

module _ (R : Req) (ok : Regular R) (fair : Fair R.rule (Stays R.rule)) (xs : List ℕ) (from to a low high : ℕ) (p : Apart R xs from to a) (in-a : a < arc_count R)
    (r : Ranged R (part xs from (span R)) low high) where
  abbrev F : List ℕ
  F = part xs from (span R)

  tail-whole : length (part xs from (span R)) ≡ span R
  tail-whole = length_part xs from (span R) (omega (arith, p))

  head-whole : length (part xs to (span R)) ≡ span R
  head-whole = length_part xs to (span R) (omega (arith, p))

  now-long : (c : ℕ) → length (now R xs from to a low high c) ≡ span R
  now-long c = loop-long xs from (span R) to (span R) (try R xs from to a low high) p.below p.inside (λ k cur size. try_cell-length R (part xs from (span R)) a k cur ∙ size) c

  -- quiet cells change nothing
  idle : (m n : ℕ) → m ≤ n → n ≤ cells R → ((c : ℕ) → m ≤ c → c < n → Quiet (step R (at (width R) F c))) → now R xs from to a low high n ≡ now R xs from to a low high m
  idle = quiet-cells R ok fair (part xs from (span R)) tail-whole p.room a in-a (part xs to (span R)) head-whole p.tried

  -- so the cells before `low` are tried as soon as the loop begins
  pub low_first : Along R xs from to a low high xs low
  low_first = record {
    reached = le_refl low;
    inside = r.ordered;
    words =
        loop-starts xs from (span R) to (span R) (try R xs from to a low high)
        ∙ ap (write xs to) (sym (idle 0 low zero-le (le_trans r.ordered r.inside) (λ c _ l. r.before c l)));
  }

  module _ (ls : List ℕ) (c : ℕ) (g : Along R xs from to a low high ls c) where
    same_length : length ls ≡ length xs
    same_length = ap length g.words ∙ length-write xs to (now R xs from to a low high c)

    pub tail-block : part ls from (span R) ≡ part xs from (span R)
    tail-block = ap (λ (l : List ℕ). part l from (span R)) g.words ∙ part-write-below xs to (now R xs from to a low high c) from (span R) p.below

    head-block : part ls to (span R) ≡ now R xs from to a low high c
    head-block =
        ap (λ (l : List ℕ). part l to (span R)) g.words
        ∙ ap (part (write xs to (now R xs from to a low high c)) to) (sym (now-long c))
        ∙ part-write-same xs to (now R xs from to a low high c) (omega (arith, p, now-long c))

    -- what was tried stays so
    still-apart : Apart R ls from to a
    still-apart = record {
      below = p.below;
      inside = omega (arith, p, same_length);
      room = subst (Room R) (sym tail-block) p.room;
      tried = subst (λ (F : List ℕ). Tried R F a (part ls to (span R))) (sym tail-block)
          (subst (Tried R (part xs from (span R)) a) (sym head-block)
          (some-tried R ok fair (part xs from (span R)) tail-whole p.room a in-a (part xs to (span R)) head-whole p.tried c (omega (arith, g.inside, r.inside))));
    }

    -- and so do the length and the range
    pub still : (length ls ≡ length xs) × Apart R ls from to a × Ranged R (part ls from (span R)) low high
    still = (same_length, still-apart, subst (λ (F : List ℕ). Ranged R F low high) (sym tail-block) r)

    -- on to cell n, over cells that are quiet
    pub passed_over : (n : ℕ) → c ≤ n → n ≤ high → ((k : ℕ) → c ≤ k → k < n → Quiet (step R (at (width R) (part ls from (span R)) k))) → Along R xs from to a low high ls n
    passed_over n l h quiet = record {
      reached = le_trans g.reached l;
      inside = h;
      words =
          g.words
          ∙ ap (write xs to) (sym (idle c n l (le_trans h r.inside) (λ k a b. subst (λ (F : List ℕ). Quiet (step R (at (width R) F k))) tail-block (quiet k a b))));
    }

    -- cell c
    pub one_more : c < high → (ls' : List ℕ) → ls' ≡ write ls to (try_cell R (part ls from (span R)) a c (part ls to (span R))) → Along R xs from to a low high ls' (c + 1)
    one_more h ls' e = record {
      reached = omega (arith, g.reached);
      inside = omega arith;
      words = loop-turns xs from (span R) to (span R) (try R xs from to a low high) p.below p.inside (λ k cur size. try_cell-length R (part xs from (span R)) a k cur ∙ size) ls ls' c g.words e;
    }

    -- all cells: from `high` on they are quiet
    pub all_words : c ≡ high → ls ≡ write xs to (try_arc R (part xs from (span R)) a (part xs to (span R)))
    unfolding try_arc
    all_words e =
        g.words
        ∙ ap (λ (n : ℕ). write xs to (now R xs from to a low high n)) e
        ∙ ap (write xs to) (sym (idle high (cells R) r.inside (le_refl (cells R)) (λ c l h. r.after c l h)))
