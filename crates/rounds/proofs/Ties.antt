-- What the cover asks of a tie rule: an order `Low old new` on costs, which sums keep, so that a winner is low to what it replaces, and what keeps
-- its place is low to the loser. And document 01's rule. Assumes nothing.
use Prim.Native.Nat.{ℕ, ◌-◌, ◌≤◌}
use mathlib.Core.Bool.{Bool, true, false, not, ◌||◌}
use mathlib.Core.List.{List}
use native.Mathlib.Nat.{le_refl, le_trans, le_of_lt}
use native.Mathlib.Omega.{arith}
use lib.Dec.{T, ltb, ltb→lt, nltb→le}
use borrow.Author.Tests.{le-ltb}
use Rattle.words.proofs.Choices.{false-is, or-implies}
use Rattle.request.specs.Request.{Req, last, lower}
use Rattle.rounds.specs.Label.{costs, filled, sum, wins}
use Rattle.rounds.proofs.Labels.{get_or-sum}

pub record Fair (rule : List ℕ → List ℕ → Bool) (Low : List ℕ → List ℕ → Type 0) : Type 0 where
  pub same : (xs : List ℕ) → Low xs xs
  pub chain : (xs ys zs : List ℕ) → Low xs ys → Low ys zs → Low xs zs
  pub add : (xs ys cs : List ℕ) → Low xs ys → Low (sum xs cs) (sum ys cs)
  pub win : (new old : List ℕ) → T (rule new old) → Low old new
  pub stay : (new old : List ℕ) → T (not (rule new old)) → Low new old

-- no greater last cost
abbrev pub LastLow : ℕ → List ℕ → List ℕ → Type 0
LastLow d xs ys = last d ys ≤ last d xs

pub lower-fair : (d : ℕ) → Fair (lower d) (LastLow d)
unfolding lower
lower-fair d = record {
  same = λ xs. le_refl (last d xs);
  chain = λ xs ys zs h k. le_trans k h;
  add = λ xs ys cs h. omega (arith, get_or-sum xs cs (d - 1), get_or-sum ys cs (d - 1));
  win = λ new old t. le_of_lt (ltb→lt (last d new) (last d old) t);
  stay = λ new old t. nltb→le (last d new) (last d old) t;
}

-- THE TIE RULE'S OWN ORDER: costs `new` do not replace costs `old`
abbrev pub Stays : (List ℕ → List ℕ → Bool) → List ℕ → List ℕ → Type 0
Stays rule new old = T (not (rule new old))

-- by document 01's rule that is "no greater last cost"
pub lower-stays : (d : ℕ) → Fair (lower d) (Stays (lower d))
unfolding lower
lower-stays d = record {
  same = λ xs. to xs xs (le_refl (last d xs));
  chain = λ xs ys zs h k. to xs zs (le_trans (back ys zs k) (back xs ys h));
  add = λ xs ys cs h. to (sum xs cs) (sum ys cs) ((lower-fair d).add xs ys cs (back xs ys h));
  win = λ new old t. to old new (le_of_lt (ltb→lt (last d new) (last d old) t));
  stay = λ new old t. t;
}
  where
    to : (xs ys : List ℕ) → last d ys ≤ last d xs → T (not (ltb (last d xs) (last d ys)))
    to xs ys h = false-is (le-ltb (last d xs) (last d ys) h)

    back : (xs ys : List ℕ) → T (not (ltb (last d xs) (last d ys))) → last d ys ≤ last d xs
    back xs ys t = nltb→le (last d xs) (last d ys) t

lost : (x y : Bool) → T (not (not x || y)) → T x × T (not y)
lost true y t = (tt, t)
lost false y t = absurd t

held : (x y : Bool) → T x → T (not y) → T (not (not x || y))
held true y t u = u
held false y t u = absurd t

-- so for labels: what a winner replaces, and what keeps its place
module _ (R : Req) (Low : List ℕ → List ℕ → Type 0) (fair : Fair R.rule Low) (l old : List ℕ) where
  pub win-low : T (wins R l old) → T (filled R old) → Low (costs R old) (costs R l)
  unfolding wins
  win-low t u = fair.win (costs R l) (costs R old) (or-implies (filled R old) (R.rule (costs R l) (costs R old)) t u)

  pub stay-low : T (not (wins R l old)) → T (filled R old) × Low (costs R l) (costs R old)
  unfolding wins
  stay-low t =
      let r = lost (filled R old) (R.rule (costs R l) (costs R old)) t in
      (r.0, fair.stay (costs R l) (costs R old) r.1)

-- and what stays by the tie rule's own order keeps its place
pub stays-held : (R : Req) (l old : List ℕ) → T (filled R old) → Stays R.rule (costs R l) (costs R old) → T (not (wins R l old))
unfolding wins
stays-held R l old t u = held (filled R old) (R.rule (costs R l) (costs R old)) t u
