-- The three lent words of costs after a read-back: its own where there is a route, else as they came. Assumes nothing.
use Prim.Native.Nat.{ℕ}
use mathlib.Core.Path.{◌≡◌, refl}
use mathlib.Core.List.{List}
use native.Mathlib.Omega.{arith}
use Rattle.words.specs.Rows.{Weighed, clear, refused, weigh, settle}
use Rattle.request.specs.declared.Refusal.{Refusal}
use Rattle.request.specs.Request.{Req}
use Rattle.route.specs.Answer.{back_rows, ended, ending_of, costs_after}
use Rattle.route.specs.declared.Ending.TheVariants as ending
use Rattle.route.proofs.Promises.{no-route}
use Rattle.desk.specs.Calls.{costs_lent}

module _ (x y : List ℕ) where
  settled-refusal : (w : Weighed) (n : ℕ) (r : Refusal) → ended w n ≡ ending.Refused r → y ≡ settle w x y
  settled-refusal clear n r e = let z : ◌≡◌ {A = ℕ} 0 1 = cc in absurd (omega arith)
  settled-refusal (refused a b) n r e = refl

  settled-empty : (w : Weighed) (n : ℕ) → ended w n ≡ ending.Empty → y ≡ settle w x y
  settled-empty clear n e = let z : ◌≡◌ {A = ℕ} 0 1 = cc in absurd (omega arith)
  settled-empty (refused a b) n e = refl

  settled-route : (w : Weighed) (n m : ℕ) → ended w n ≡ ending.Route m → x ≡ settle w x y
  settled-route clear n m e = refl
  settled-route (refused a b) n m e = absurd (no-route a b m e)

module _ (R : Req) (W : List ℕ) (room i v c : ℕ) (words : List ℕ) where
  pub costs-refused : (r : Refusal) → ending_of R W room i v c ≡ ending.Refused r → words ≡ costs_lent R W room i v c words
  unfolding ending_of costs_lent
  costs-refused r e = settled-refusal (costs_after R W room i v c) words (weigh (back_rows R W room i v c)) _ r e

  pub costs-empty : ending_of R W room i v c ≡ ending.Empty → words ≡ costs_lent R W room i v c words
  unfolding ending_of costs_lent
  costs-empty e = settled-empty (costs_after R W room i v c) words (weigh (back_rows R W room i v c)) _ e

  pub costs-route : (m : ℕ) → ending_of R W room i v c ≡ ending.Route m → costs_after R W room i v c ≡ costs_lent R W room i v c words
  unfolding ending_of costs_lent
  costs-route m e = settled-route (costs_after R W room i v c) words (weigh (back_rows R W room i v c)) _ m e
