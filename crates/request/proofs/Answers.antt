-- What an answer of `check` tells of the rows, and the numbers of a shape. Assumes nothing.
use Prim.Native.Nat.{ℕ, ◌+◌, ◌*◌, ◌≤◌, ◌<◌}
use mathlib.Core.Path.{◌≡◌, refl, sym, ap, ◌∙◌}
use native.Mathlib.Nat.{le_refl, mul-le-mul, one-mul}
use native.Mathlib.Omega.{arith}
use Rattle.words.specs.Rows.{Weighed, clear, refused, weigh}
use Rattle.request.specs.Request.{Req}
use Rattle.request.specs.Shape.{cells, label_count}
use Rattle.request.specs.Rows.{rows}
use Rattle.request.specs.Accepted.{Accepted, Regular, Fits}
use Rattle.request.specs.Answer.{shape_of, checked_of}
use Rattle.request.specs.Refusal.{number_of, place_of, refusal_of, answer}
use Rattle.request.specs.declared.Refusal.{Refusal}
use Rattle.request.specs.declared.Shape.{Shape}
use Rattle.request.proofs.Named.{named-says, rows-named}
use Rattle.std.proofs.Common.{Result, Ok, Err}

-- a refusal is the first row's that holds
pub refused-is : (R : Req) (r : Refusal) → Err r ≡ checked_of R → weigh (rows R) ≡ refused (number_of r) (place_of r)
unfolding checked_of
refused-is R r e = go (weigh (rows R)) refl
  where
    go : (w : Weighed) → weigh (rows R) ≡ w → weigh (rows R) ≡ refused (number_of r) (place_of r)
    go clear q = let a : ◌≡◌ {A = Result Shape Refusal} (Err r) (Ok (shape_of R)) = e ∙ ap (λ (z : Weighed). answer z (shape_of R)) q in let z : ◌≡◌ {A = ℕ} 0 1 = cc in absurd (omega arith)
    go (refused n p) q =
        let a : ◌≡◌ {A = Result Shape Refusal} (Err r) (Err (refusal_of n p)) = e ∙ ap (λ (z : Weighed). answer z (shape_of R)) q in
        let b : r ≡ refusal_of n p = cc in
        q ∙ sym (named-says n p (rows-named R n p q)) ∙ sym (ap (λ (x : Refusal). refused (number_of x) (place_of x)) b)

-- a shape is the request's, which is accepted
pub shaped-is : (R : Req) (s : Shape) → Ok s ≡ checked_of R → Accepted R × (s ≡ shape_of R)
unfolding checked_of Accepted
shaped-is R s e = go (weigh (rows R)) refl
  where
    go : (w : Weighed) → weigh (rows R) ≡ w → (weigh (rows R) ≡ clear) × (s ≡ shape_of R)
    go clear q = let a : ◌≡◌ {A = Result Shape Refusal} (Ok s) (Ok (shape_of R)) = e ∙ ap (λ (z : Weighed). answer z (shape_of R)) q in (q, (cc))
    go (refused n p) q =
        let a : ◌≡◌ {A = Result Shape Refusal} (Ok s) (Err (refusal_of n p)) = e ∙ ap (λ (z : Weighed). answer z (shape_of R)) q in
        let z : ◌≡◌ {A = ℕ} 0 1 = cc in absurd (omega arith)

-- C is at most the number of labels
pub cells-few : (R : Req) → Regular R → Fits R → cells R ≤ 1048576
unfolding label_count
cells-few R ok fits =
    let a : 1 * cells R ≤ R.nodes * cells R = mul-le-mul (let s = ok.source_in in le-one s) (le_refl (cells R)) in
    let b : 1 * (R.nodes * cells R) ≤ (R.hops + 1) * (R.nodes * cells R) = mul-le-mul one-hop (le_refl (R.nodes * cells R)) in
    let c = one-mul (cells R) in
    let d = one-mul (R.nodes * cells R) in
    let e = fits.labels_few in
    omega arith
  where
    le-one : {s n : ℕ} → s < n → 1 ≤ n
    le-one h = omega arith

    one-hop : 1 ≤ R.hops + 1
    one-hop = omega arith
