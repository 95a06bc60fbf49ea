-- A layer kept block by block, with the note of each in its place. Assumes nothing.
use Prim.Native.Nat.{ℕ, ◌+◌, ◌*◌, ◌≤◌, ◌<◌, zero-le}
use mathlib.Core.Path.{◌≡◌, refl, sym, ap, ◌∙◌, subst}
use mathlib.Core.List.{List}
use native.Mathlib.Nat.{zero-mul, one-mul, add-mul, not-suc-le-zero}
use native.Mathlib.Omega.{arith}
use lib.ListN.{length, get_or, set, length-set}
use lib.Seq.{get_or-set_same, get_or-set_other}
use Rattle.words.specs.Pieces.{part, at, write, join}
use Rattle.words.proofs.Loops.{below_next}
use Rattle.words.proofs.Pieces.{piece-end, at_length, join-zero, join-length}
use Rattle.words.proofs.Turns.{join-put}
use Rattle.words.proofs.Writes.{length_part, part-part, part-write-below, write-part}
use Rattle.keeping.specs.declared.Note.{Note}
use Rattle.keeping.specs.Kept.{kept_block, unnoted, Noted, NotedAll, LayersIn}
use Rattle.keeping.proofs.Blocks.{block-long}

-- block v of the m blocks at `prev`, kept
abbrev pub kept_of : List ℕ → ℕ → ℕ → ℕ → ℕ → ℕ → List ℕ
kept_of xs m n d prev v = kept_block d n (at (n * (d + 2)) (part xs prev (m * (n * (d + 2)))) v)

-- the blocks before v are kept and noted, and `at` and `to` stand at block v
pub record Along (xs : List ℕ) (ns₀ : List Note) (m n d prev base : ℕ) (ls : List ℕ) (ns : List Note) (at₁ to v : ℕ) : Type 0 where
  pub inside : v ≤ m
  pub from_place : at₁ ≡ prev + v * (n * (d + 2))
  pub to_place : to ≡ base + v * (n * (d + 2))
  pub words : ls ≡ write xs base (join (kept_of xs m n d prev) v)
  pub noted : NotedAll d n (part xs prev (m * (n * (d + 2)))) v ns
  pub ns_long : length ns ≡ length ns₀

pub none_kept : (xs : List ℕ) (ns : List Note) (m n d prev base : ℕ) → Along xs ns m n d prev base xs ns prev base 0
unfolding NotedAll
none_kept xs ns m n d prev base = record {
  inside = zero-le;
  from_place = omega (arith, zero-mul (n * (d + 2)));
  to_place = omega (arith, zero-mul (n * (d + 2)));
  words = sym (ap (write xs base) (join-zero (kept_of xs m n d prev)) ∙ write-part xs base 0);
  noted = λ v l. absurd (not-suc-le-zero l);
  ns_long = refl;
}

-- a note put in place v
noted-next : (d n : ℕ) (L : List ℕ) (v : ℕ) (ns : List Note) (note : Note) → v < length ns → NotedAll d n L v ns → Noted d (at (n * (d + 2)) L v) n note → NotedAll d n L (v + 1) (set ns v note)
unfolding NotedAll
noted-next d n L v ns note inside all one =
    below_next (λ (u : ℕ). Noted d (at (n * (d + 2)) L u) n (get_or (set ns v note) u unnoted)) v
    (λ u l. let other : u ≡ v → ⊥ = λ e. omega arith in rw (get_or-set_other ns v u note unnoted other) (all u l))
    (rw (get_or-set_same ns v note unnoted inside) one)

module _ (xs : List ℕ) (ns₀ : List Note) (m n d prev base : ℕ) (p : LayersIn xs ns₀ m n d prev base) (ls : List ℕ) (ns : List Note) (at₁ to v : ℕ) (g : Along xs ns₀ m n d prev base ls ns at₁ to v) where
  abbrev L : List ℕ
  L = part xs prev (m * (n * (d + 2)))

  front_long : length (join (kept_of xs m n d prev) v) ≡ v * (n * (d + 2))
  front_long =
      let whole : length L ≡ m * (n * (d + 2)) = length_part xs prev (m * (n * (d + 2))) (omega (arith, p)) in
      join-length (n * (d + 2)) (kept_of xs m n d prev) v
      (λ u l. block-long d n (at (n * (d + 2)) L u) (at_length (n * (d + 2)) L m whole u (omega (arith, g.inside))))

  module _ (l : v < m) where
    block-is : part ls at₁ (n * (d + 2)) ≡ at (n * (d + 2)) L v
    unfolding at
    block-is =
        let h = piece-end (n * (d + 2)) m v l in
        ap (λ (x : List ℕ). part x at₁ (n * (d + 2))) g.words
        ∙ part-write-below xs base (join (kept_of xs m n d prev) v) at₁ (n * (d + 2)) (omega (arith, p, g.from_place))
        ∙ ap (λ (k : ℕ). part xs k (n * (d + 2))) g.from_place
        ∙ sym (part-part xs prev (m * (n * (d + 2))) (v * (n * (d + 2))) (n * (d + 2)) h)

    -- block v, behind those before it
    pub one_block : (ls' : List ℕ) (note : Note) → ls' ≡ write ls to (kept_block d n (part ls at₁ (n * (d + 2)))) → Noted d (part ls at₁ (n * (d + 2))) n note
        → Along xs ns₀ m n d prev base ls' (set ns v note) (at₁ + n * (d + 2)) (to + n * (d + 2)) (v + 1)
    one_block ls' note e one =
        let a = add-mul v 1 (n * (d + 2)) in
        let o = one-mul (n * (d + 2)) in
        let place : to ≡ base + length (join (kept_of xs m n d prev) v) = omega (arith, g.to_place, front_long) in
        record {
          inside = omega arith;
          from_place = omega (arith, g.from_place);
          to_place = omega (arith, g.to_place);
          words = join-put (kept_of xs m n d prev) xs ls ls' base to v place g.words (e ∙ ap (λ (x : List ℕ). write ls to (kept_block d n x)) block-is);
          noted = noted-next d n L v ns note (omega (arith, p.places, g.ns_long)) g.noted (subst (λ (x : List ℕ). Noted d x n note) block-is one);
          ns_long = length-set ns v note ∙ g.ns_long;
        }
