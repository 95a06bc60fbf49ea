-- What is noted of a block, cell by cell. Assumes nothing.
use Prim.Native.Nat.{ℕ, ◌+◌, ◌≤◌}
use mathlib.Core.Path.{◌≡◌, refl, sym, ap, ap₂, ◌∙◌}
use mathlib.Core.Bool.{Bool, true, false, cond}
use mathlib.Core.List.{List}
use native.Mathlib.Nat.{le_refl, not-suc-le-zero, mul-one}
use native.Mathlib.Omega.{arith}
use lib.Dec.{eqb, ltb}
use borrow.Author.Tests.{eqb-true}
use Rattle.words.proofs.Loops.{total-zero, total-next, total-le, below_next}
use Rattle.rounds.specs.Rounds.{bit}
use Rattle.rounds.specs.Passing.{Quiet, quiet}
use Rattle.rounds.proofs.Quiet.{quiet_is}
use Rattle.rounds.proofs.Tries.{bit_le}
use Rattle.keeping.specs.declared.Note.{Note}
use Rattle.keeping.specs.Kept.{step_in, filled_of, unnoted, Noted}

-- what is noted after a step word s of cell c, by what `with` says of it
abbrev pub Says : Note → ℕ → ℕ → Note → Type 0
Says n s c m = (m.filled ≡ n.filled + bit (ltb 0 s)) × (m.low ≡ cond (quiet s) n.low (cond (eqb n.high 0) c n.low)) × (m.high ≡ cond (quiet s) n.high (c + 1))

-- ---- the cells of a block

pub none-noted : (d : ℕ) (F : List ℕ) → Noted d F 0 unnoted
unfolding filled_of
none-noted d F = record {
  count = sym (total-zero (λ c. bit (ltb 0 (step_in d F c))));
  ordered = le_refl 0;
  inside = le_refl 0;
  before = λ c l. absurd (not-suc-le-zero l);
  after = λ c _ l. absurd (not-suc-le-zero l);
}

module _ (d : ℕ) (F : List ℕ) (n : ℕ) (note : Note) (g : Noted d F n note) where
  pub filled-few : note.filled ≤ n
  unfolding filled_of
  filled-few =
      let k = total-le (λ c. bit (ltb 0 (step_in d F c))) 1 n (λ c _. bit_le (ltb 0 (step_in d F c))) in
      omega (arith, g.count, mul-one n)

  -- cell n joins those before it
  pub one-noted : (s : ℕ) (m : Note) → s ≡ step_in d F n → Says note s n m → Noted d F (n + 1) m
  unfolding filled_of
  one-noted s m e says = go (quiet s) refl
    where
      count : m.filled ≡ filled_of d F (n + 1)
      count = says.0 ∙ ap₂ (λ (x y : ℕ). x + bit (ltb 0 y)) g.count e ∙ sym (total-next (λ c. bit (ltb 0 (step_in d F c))) n)

      go : (b : Bool) → quiet s ≡ b → Noted d F (n + 1) m
      go true q =
          let e-l : m.low ≡ note.low = says.1 ∙ ap (λ (t : Bool). cond t note.low (cond (eqb note.high 0) n note.low)) q in
          let e-h : m.high ≡ note.high = says.2 ∙ ap (λ (t : Bool). cond t note.high (n + 1)) q in
          record {
            count = count;
            ordered = omega (arith, g.ordered);
            inside = omega (arith, g.inside);
            before = λ c k. g.before c (omega arith);
            after = λ c a k. below_next (λ (c : ℕ). note.high ≤ c → Quiet (step_in d F c)) n (λ c k a. g.after c a k) (λ _. rw (← e) (quiet_is s q)) c k (omega arith);
          }
      go false q =
          let e-l : m.low ≡ cond (eqb note.high 0) n note.low = says.1 ∙ ap (λ (t : Bool). cond t note.low (cond (eqb note.high 0) n note.low)) q in
          let e-h : m.high ≡ n + 1 = says.2 ∙ ap (λ (t : Bool). cond t note.high (n + 1)) q in
          rest (eqb note.high 0) refl e-l e-h
        where
          rest : (b : Bool) → eqb note.high 0 ≡ b → m.low ≡ cond (eqb note.high 0) n note.low → m.high ≡ n + 1 → Noted d F (n + 1) m
          rest true z e-l e-h =
              let none = eqb-true note.high 0 z in
              let first : m.low ≡ n = e-l ∙ ap (λ (t : Bool). cond t n note.low) z in
              record {
                count = count;
                ordered = omega arith;
                inside = omega arith;
                before = λ c k. g.after c (omega arith) (omega arith);
                after = λ c a k. absurd (omega arith);
              }
          rest false z e-l e-h =
              let same : m.low ≡ note.low = e-l ∙ ap (λ (t : Bool). cond t n note.low) z in
              record {
                count = count;
                ordered = omega (arith, g.ordered, g.inside);
                inside = omega arith;
                before = λ c k. g.before c (omega arith);
                after = λ c a k. absurd (omega arith);
              }
