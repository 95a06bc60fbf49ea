-- A round from the words of one layer, and all layers one after another. Assumes nothing.
use Prim.Native.Nat.{ℕ, ◌+◌, ◌*◌, ◌≤◌, ◌<◌, zero-le}
use mathlib.Core.Path.{◌≡◌, refl, sym, ap, ap₂, ◌∙◌, subst}
use mathlib.Core.List.{List, ◌++◌}
use native.Mathlib.Nat.{zero-mul, one-mul, add-mul, le_of_eq, mul-le-mul_right}
use native.Mathlib.Numerals.{add-one}
use native.Mathlib.Omega.{arith}
use lib.ListN.{length}
use Rattle.words.specs.Loops.{up_to, total}
use Rattle.words.specs.Pieces.{part, at, write, join}
use Rattle.words.proofs.Loops.{total-next}
use Rattle.words.proofs.Pieces.{join-suc, join-zero, join-length, join-at}
use Rattle.words.proofs.Turns.{join-put}
use Rattle.words.proofs.Writes.{length_part, length-write, part-write-same, part-write-below, part-write-inside, write-part, write-over}
use Rattle.request.specs.Request.{Req, arc_count, reach}
use Rattle.request.specs.Accepted.{Regular}
use Rattle.rounds.specs.Rounds.{block, keep_all, arc_step, round, round_tries, start_layer, layer, table, tries}
use Rattle.rounds.proofs.Round.{keep_all-length, round-length, layer-length}
use Rattle.rounds.proofs.Start.{start_layer-length}
use Rattle.rounds.proofs.Table.{table-length}
use Rattle.rounds.specs.Passing.{Room, AllTried}
use Rattle.rounds.proofs.Passing.{layer-room, layer-tried}
use Rattle.rounds.proofs.Ties.{Fair, Stays}
use Rattle.keeping.specs.declared.Note.{Note}
use Rattle.table.specs.Build.{Layered, Notes}
use Rattle.table.proofs.Passing.{layer_words}

-- ---- one round

module _ (R : Req) (ok : Regular R) (xs : List ℕ) (prev base : ℕ) (p : Layered R xs prev base) where
  abbrev L : List ℕ
  L = part xs prev (layer_words R)

  long : length (part xs prev (layer_words R)) ≡ layer_words R
  long = let b = p.below in let i = p.inside in length_part xs prev (layer_words R) (omega arith)

  -- ls holds what was kept
  module _ (ls : List ℕ) (e : ls ≡ write xs base (keep_all R (part xs prev (layer_words R)))) where
    kept-long : length (keep_all R L) ≡ layer_words R
    kept-long = keep_all-length R ok L long

    before : part ls prev (layer_words R) ≡ L
    before = ap (λ (l : List ℕ). part l prev (layer_words R)) e ∙ part-write-below xs base (keep_all R L) prev (layer_words R) p.below

    here : part ls base (layer_words R) ≡ keep_all R L
    here = ap (λ (l : List ℕ). part l base (layer_words R)) e ∙ ap (part (write xs base (keep_all R L)) base) (sym kept-long) ∙ part-write-same xs base (keep_all R L) (omega (arith, p, kept-long))

    -- of the layer before, which is as it was, and so is what was noted of it
    pub kept_here : part ls base (layer_words R) ≡ keep_all R (part ls prev (layer_words R))
    kept_here = here ∙ ap (keep_all R) (sym before)

    pub notes-here : (ns : List Note) → Notes R (part xs prev (layer_words R)) ns → Notes R (part ls prev (layer_words R)) ns
    notes-here ns n = subst (λ (X : List ℕ). Notes R X ns) (sym before) n

    -- keeping and then passing the arcs is the round
    pub round-law : (ls' : List ℕ) → ls' ≡ write ls base (up_to (arc_step R (part ls prev (layer_words R))) (part ls base (layer_words R)) (arc_count R)) → ls' ≡ write xs base (round R (part xs prev (layer_words R)))
    unfolding round
    round-law ls' e' =
        e'
        ∙ ap₂ (λ (X Y : List ℕ). write ls base (up_to (arc_step R X) Y (arc_count R))) before here
        ∙ ap (λ (l : List ℕ). write l base (round R L)) e
        ∙ write-over xs base (keep_all R L) (round R L) (le_of_eq (kept-long ∙ sym (round-length R ok L long)))

    -- its tries are those of the layer before
    pub round-tries : round_tries R (part ls prev (layer_words R)) ≡ round_tries R (part xs prev (layer_words R))
    round-tries = ap (round_tries R) before

-- ---- all layers

layer-next : (R : Req) (i : ℕ) → layer R (i + 1) ≡ round R (layer R i)
unfolding layer
layer-next R i = ap (layer R) (add-one i)

module _ (R : Req) where
  -- layers 0 to i stand at the front
  pub record Drawn (xs ls : List ℕ) (base tried i : ℕ) : Type 0 where
    pub inside : i ≤ R.hops
    pub begins : base ≡ i * layer_words R
    pub words : ls ≡ write xs 0 (join (layer R) (i + 1))
    pub count : tried ≡ tries R i

  layers-length : Regular R → (n : ℕ) → length (join (layer R) n) ≡ n * layer_words R
  layers-length ok n = join-length (layer_words R) (layer R) n (λ i _. layer-length R ok i)

  first-layer : join (layer R) 1 ≡ start_layer R
  unfolding layer
  first-layer = join-suc (layer R) 0 ∙ ap (λ (x : List ℕ). x ++ layer R 0) (join-zero (layer R))

  -- layer 0 alone
  pub first-drawn : (xs : List ℕ) → part xs 0 (layer_words R) ≡ start_layer R → Drawn xs xs 0 0 0
  unfolding tries total up_to
  first-drawn xs e = record {
    inside = zero-le;
    begins = sym (zero-mul (layer_words R));
    words = sym (ap (write xs 0) (first-layer ∙ sym e) ∙ write-part xs 0 (layer_words R));
    count = refl;
  }

  module _ (ok : Regular R) (xs ls : List ℕ) (base tried i : ℕ) (g : Drawn xs ls base tried i) (room : length (table R) ≤ length xs) where
    pub drawn-length : length ls ≡ length xs
    drawn-length = ap length g.words ∙ length-write xs 0 (join (layer R) (i + 1))

    module _ (l : i < R.hops) where
      -- the layers so far, and the next, lie within the buffer
      ends : base + layer_words R + layer_words R ≤ length xs
      ends =
          let t = table-length R ok in
          let b = g.begins in
          let m : (i + 1 + 1) * layer_words R ≤ (R.hops + 1) * layer_words R = mul-le-mul_right (layer_words R) (omega arith) in
          let x = add-mul (i + 1) 1 (layer_words R) in
          let y = add-mul i 1 (layer_words R) in
          let z = one-mul (layer_words R) in
          omega arith

      front : length (join (layer R) (i + 1)) ≡ base + layer_words R
      front =
          let n = layers-length ok (i + 1) in
          let b = g.begins in
          let y = add-mul i 1 (layer_words R) in
          let z = one-mul (layer_words R) in
          omega arith

      -- layer i stands at `base`
      pub layer-at : part ls base (layer_words R) ≡ layer R i
      unfolding at
      layer-at =
          let f = front in
          let e = ends in
          let z : base ≡ 0 + base = omega arith in
          ap (λ (x : List ℕ). part x base (layer_words R)) g.words
          ∙ ap (λ (b : ℕ). part (write xs 0 (join (layer R) (i + 1))) b (layer_words R)) z
          ∙ part-write-inside xs 0 (join (layer R) (i + 1)) base (layer_words R) (omega arith) (omega arith)
          ∙ ap (λ (b : ℕ). part (join (layer R) (i + 1)) b (layer_words R)) g.begins
          ∙ join-at (layer_words R) (layer R) (i + 1) (λ k _. layer-length R ok k) i (omega arith)

      -- and leaves room for one arc more, and what it kept was tried
      pub next-layered : Fair R.rule (Stays R.rule) → Layered R ls base (base + layer_words R)
      unfolding reach
      next-layered fair =
          let e = ends in
          let d = drawn-length in
          record {
            below = omega arith;
            inside = omega arith;
            rooms = λ v hv. subst (λ (X : List ℕ). Room R (block R X v)) (sym layer-at) (layer-room R ok i v l hv);
            tried = subst (AllTried R) (sym layer-at) (layer-tried R ok fair i (omega arith));
          }

      -- layer i + 1 joins them
      pub next_drawn : (ls' : List ℕ) (n : ℕ) → ls' ≡ write ls (base + layer_words R) (round R (part ls base (layer_words R))) → n ≡ round_tries R (part ls base (layer_words R))
          → Drawn xs ls' (base + layer_words R) (tried + n) (i + 1)
      unfolding tries
      next_drawn ls' n e e-n =
          let f = front in
          let b = g.begins in
          let y = add-mul i 1 (layer_words R) in
          let z = one-mul (layer_words R) in
          let place : base + layer_words R ≡ 0 + length (join (layer R) (i + 1)) = omega arith in
          let new : round R (part ls base (layer_words R)) ≡ layer R (i + 1) = ap (round R) layer-at ∙ sym (layer-next R i) in
          let k = g.count in
          let s = total-next (λ k. round_tries R (layer R k)) i in
          let r = e-n ∙ ap (round_tries R) layer-at in
          record {
            inside = omega arith;
            begins = omega arith;
            words = join-put (layer R) xs ls ls' 0 (base + layer_words R) (i + 1) place g.words (e ∙ ap (write ls (base + layer_words R)) new);
            count = omega arith;
          }

  -- all of them
  pub all-drawn : (xs ls : List ℕ) (base tried i : ℕ) → Drawn xs ls base tried i → i ≡ R.hops → (ls ≡ write xs 0 (table R)) × (tried ≡ tries R R.hops)
  unfolding table
  all-drawn xs ls base tried i g e = (g.words ∙ ap (λ (n : ℕ). write xs 0 (join (layer R) (n + 1))) e, g.count ∙ ap (tries R) e)

  -- a table holds a layer at least
  pub one-layer : Regular R → layer_words R ≤ length (table R)
  one-layer ok =
      let m : 1 * layer_words R ≤ (R.hops + 1) * layer_words R = mul-le-mul_right (layer_words R) (omega arith) in
      omega (arith, table-length R ok, one-mul (layer_words R))

  -- layer 0 first, and then over it the whole table
  module _ (ok : Regular R) (xs ls : List ℕ) (e : ls ≡ write xs 0 (start_layer R)) (room : length (table R) ≤ length xs) where
    pub start-stands : part ls 0 (layer_words R) ≡ start_layer R
    start-stands =
        let n = start_layer-length R in
        let l = one-layer ok in
        ap (λ (x : List ℕ). part x 0 (layer_words R)) e ∙ ap (part (write xs 0 (start_layer R)) 0) (sym n) ∙ part-write-same xs 0 (start_layer R) (omega arith)

    pub over-start : write ls 0 (table R) ≡ write xs 0 (table R)
    over-start =
        let n = start_layer-length R in
        let l = one-layer ok in
        ap (λ (x : List ℕ). write x 0 (table R)) e ∙ write-over xs 0 (start_layer R) (table R) (omega arith)
