-- A whole chain, in any words, is a walk with the label's costs. Assumes nothing.
use Prim.Native.Nat.{ℕ, zero, suc, ◌-◌, ◌≤◌, ◌<◌, zero-le}
use mathlib.Core.Path.{sym, ap, ◌∙◌, subst}
use mathlib.Core.List.{List, [], ◌∷◌, ◌++◌}
use native.Mathlib.Nat.{le_refl}
use native.Mathlib.Omega.{arith}
use lib.ListN.{length, replicate}
use lib.Dec.{T, lt→ltb}
use Rattle.words.proofs.Choices.{cond_cases}
use Rattle.request.specs.Request.{Req, tail, arc_costs, reach}
use Rattle.rounds.specs.Rounds.{label_in}
use Rattle.rounds.specs.Label.{step, from, filled, sum}
use Rattle.cover.specs.Walk.{Walk, sums, sums_from}
use Rattle.cover.proofs.Walks.{walk-snoc, sums-snoc, length-snoc}
use Rattle.route.specs.Chain.{Chain, whole, broken, push, start_holds, kept_holds, arc_holds, chain_in, chain}
use Rattle.route.specs.Answer.{arcs_of, break_layer}
use Rattle.route.specs.Walked.{Sound}
use Rattle.route.proofs.Holding.{start-facts, kept-facts, arc-facts}

module _ (R : Req) (W : List ℕ) where
  filled-step : (l : List ℕ) → 0 < step R l → T (filled R l)
  unfolding filled
  filled-step l h = lt→ltb 0 (step R l) h

  module _ (i v c : ℕ) where
    abbrev l : List ℕ
    l = label_in R W i v c

    -- a start is the empty walk
    by-start : T (start_holds R i (label_in R W i v c) v c) → Sound R W i v c (whole [])
    unfolding sums sums_from
    by-start t =
        let p = start-facts R i l v c t in
        let s = p.step_is in
        (filled-step l (omega arith), record { walk = sym p.node_is; short = zero-le; exact = p.costs_are })

    -- a kept label has the walk of the label that it was kept from, with the same costs
    by-kept : (ch : Chain) → Sound R W (i - 1) v c ch → T (kept_holds R i (label_in R W i v c) (label_in R W (i - 1) v c)) → Sound R W i v c ch
    by-kept (broken k) h t = omega arith
    by-kept (whole ws) h t =
        let p = kept-facts R i l (label_in R W (i - 1) v c) t in
        let s = p.step_is in
        let g = h.1.short in
        (filled-step l (omega arith), record { walk = h.1.walk; short = omega arith; exact = p.agree h.0 ∙ h.1.exact })

    -- a label that came by an arc has the walk of the label that it came from, and that arc at its end
    by-arc : (a f : ℕ) (ch : Chain) → Sound R W (i - 1) (tail R a) f ch → T (arc_holds R i (label_in R W i v c) v a (label_in R W (i - 1) (tail R a) f)) → Sound R W i v c (push a ch)
    unfolding sums
    by-arc a f (broken k) h t = omega arith
    by-arc a f (whole ws) h t =
        let p = arc-facts R i l v a (label_in R W (i - 1) (tail R a) f) t in
        let s = p.step_is in
        let g = h.1.short in
        let b = p.before in
        let n = length-snoc ws a in (
          filled-step l (omega arith),
          record {
            walk = subst (λ (z : ℕ). Walk R R.source (ws ++ a ∷ []) z) p.head_is (walk-snoc R R.source ws a p.arc_in h.1.walk);
            short = omega arith;
            exact = p.agree h.0 ∙ ap (λ (z : List ℕ). sum z (arc_costs R a)) h.1.exact ∙ sym (sums-snoc R (replicate R.criteria 0) ws a);
          },
        )

  -- By induction on the labels that may still be looked at: the first test that holds says which of the three labels it is, and the chain of
  -- the label reached is a walk already.
  sound-in : (n i v c : ℕ) → Sound R W i v c (chain_in R W n i v c)
  unfolding chain_in
  sound-in zero i v c = le_refl i
  sound-in (suc n) i v c =
      let l : List ℕ = label_in R W i v c in
      let a : ℕ = step R l - 3 in
      cond_cases (Sound R W i v c) (start_holds R i l v c) (by-start i v c)
      (λ _. cond_cases (Sound R W i v c) (kept_holds R i l (label_in R W (i - 1) v c)) (by-kept i v c (chain_in R W n (i - 1) v c) (sound-in n (i - 1) v c))
      (λ _. cond_cases (Sound R W i v c) (arc_holds R i l v a (label_in R W (i - 1) (tail R a) (from R l)))
      (by-arc i v c a (from R l) (chain_in R W n (i - 1) (tail R a) (from R l)) (sound-in n (i - 1) (tail R a) (from R l)))
      (λ _. le_refl i)))

  -- THE CHAIN, on any words
  pub chain-sound : (i v c : ℕ) → Sound R W i v c (chain R W i v c)
  unfolding chain
  chain-sound i v c = sound-in (suc (reach R)) i v c

  -- it has no more arcs than its layer
  pub chain-short : (i v c : ℕ) → length (arcs_of (chain R W i v c)) ≤ i
  chain-short i v c = go (chain R W i v c) (chain-sound i v c)
    where
      go : (ch : Chain) → Sound R W i v c ch → length (arcs_of ch) ≤ i
      go (whole ws) s = s.1.short
      go (broken k) s = zero-le

  -- and breaks in its own layer or one before
  pub chain-breaks : (i v c : ℕ) → break_layer (chain R W i v c) ≤ i
  chain-breaks i v c = go (chain R W i v c) (chain-sound i v c)
    where
      go : (ch : Chain) → Sound R W i v c ch → break_layer ch ≤ i
      go (whole ws) s = zero-le
      go (broken k) s = s
