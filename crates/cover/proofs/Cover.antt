-- The cover of demand 3, for any number of criteria, any ratios, any walk. Assumes nothing.
use Prim.Native.Nat.{ℕ, ◌+◌, ◌*◌, ◌^◌, ◌≤◌, ◌<◌, zero-le}
use mathlib.Core.Path.{◌≡◌, sym, ap, ◌∙◌, subst}
use mathlib.Core.Bool.{Bool}
use mathlib.Core.List.{List}
use native.Mathlib.Nat.{le_trans, le_of_eq, mul_assoc, mul_comm, mul_right_comm, mul-add, add-mul, zero-mul, mul-le-mul_left, mul-le-mul_right, add-le-add, pow-suc, pow-le-pow_left, le_of_mul-le-mul_right, le-add_left}
use lib.ListN.{length}
use lib.Dec.{T}
use Rattle.request.specs.Request.{Req, lower, ratio_p, ratio_q, reach}
use Rattle.request.specs.Shape.{cells}
use Rattle.request.specs.Accepted.{Regular}
use Rattle.request.proofs.Cells.{position-near}
use Rattle.rounds.specs.Label.{filled}
use Rattle.rounds.specs.Rounds.{label_of, label_at}
use Rattle.rounds.proofs.Ties.{Fair, LastLow, lower-fair}
use Rattle.cover.specs.Walk.{Walk, sums}
use Rattle.cover.specs.Cover.{Holds, ReadsBack}
use Rattle.cover.proofs.Sound.{sound}
use Rattle.cover.proofs.Carry.{Carries}
use Rattle.cover.proofs.Standing.{every-walk}

-- One arc more, in numbers: y is at the position of l + c, so y × q ≤ (l + c) × s with s = p + q (the fence fact); and l is within the power so
-- far of x, l × Q ≤ P × x. Then y is within the next power of x + c.
grow : (y l x c q s Q P : ℕ) → y * q ≤ (l + c) * s → l * Q ≤ P * x → Q ≤ P → y * (Q * q) ≤ P * s * (x + c)
grow y l x c q s Q P a b e =
    let one : y * (Q * q) ≡ y * q * Q = ap (λ (z : ℕ). y * z) (mul_comm Q q) ∙ sym (mul_assoc y q Q) in
    let two : (l + c) * s * Q ≡ (l * Q + c * Q) * s = mul_right_comm (l + c) s Q ∙ ap (λ (z : ℕ). z * s) (add-mul l c Q) in
    let three : (P * x + P * c) * s ≡ P * s * (x + c) = ap (λ (z : ℕ). z * s) (sym (mul-add P x c)) ∙ mul_right_comm P (x + c) s in
    let four : l * Q + c * Q ≤ P * x + P * c = add-le-add b (le_trans (mul-le-mul_left c e) (le_of_eq (mul_comm c P))) in
    le_trans (le_of_eq one) (le_trans (mul-le-mul_right Q a) (le_trans (le_of_eq two) (le_trans (mul-le-mul_right s four) (le_of_eq three))))

-- the cover's sense: y, times q^h, is at most (p+q)^h times x
abbrev pub Near : Req → ℕ → ℕ → ℕ → ℕ → Type 0
Near R h j x y = y * ratio_q R j ^ h ≤ (ratio_p R j + ratio_q R j) ^ h * x

module _ (R : Req) (ok : Regular R) where
  near-carries : Carries R (Near R)
  near-carries = record {
    first = λ j y l e.
        let q : ℕ = ratio_q R j in
        let m : y * q ≤ 0 * q = le_trans (position-near R ok j y 0 l e) (le_of_eq (zero-mul (ratio_p R j + q) ∙ sym (zero-mul q))) in
        le_trans (mul-le-mul_right (q ^ 0) (le_of_mul-le-mul_right m (ok.ratio_in j l))) (le_trans (le_of_eq (zero-mul (q ^ 0))) zero-le);
    further = λ h j x c d y l n e.
        rw (pow-suc (ratio_q R j), pow-suc)
        (grow y c x d (ratio_q R j) (ratio_p R j + ratio_q R j) (ratio_q R j ^ h) ((ratio_p R j + ratio_q R j) ^ h)
        (position-near R ok j y (c + d) l e) n (pow-le-pow_left (le-add_left (ratio_q R j) (ratio_p R j)) h));
  }

  -- THE COVER
  pub cover : Fair R.rule (LastLow R.criteria) → (ws : List ℕ) (v i : ℕ) → Walk R R.source ws v → length ws ≤ i → i ≤ reach R → Holds R i v (length ws) (sums R ws)
  unfolding label_at label_of
  cover fair ws v i walk l k =
      let s = every-walk R ok (LastLow R.criteria) fair (Near R) near-carries ws v i walk l k in
      record { cell = s.where_to; inside = s.inside; full = s.full; covers = record { last_cost = s.low; other_costs = s.near } }

  -- EVERY LABEL READS BACK
  pub reads-back : (i v c : ℕ) → v < R.nodes → c < cells R → T (filled R (label_at R i v c)) → ReadsBack R i v c
  reads-back i v c hv hc t = let r = sound R ok i v c hv hc t in record { walk = r.walk; short = r.short; exact = r.exact }

-- document 01's tie rule is fair to the last cost
pub rule-fair : (R : Req) → R.rule ≡ lower R.criteria → Fair R.rule (LastLow R.criteria)
rule-fair R e = subst (λ (f : List ℕ → List ℕ → Bool). Fair f (LastLow R.criteria)) (sym e) (lower-fair R.criteria)
