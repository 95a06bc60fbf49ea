-- An arc's costs: whether one is over 1,000,000, as a search through its words finds it. Assumes nothing.
use Prim.Native.Nat.{ℕ, ◌+◌, ◌-◌, ◌≤◌, ◌<◌, zero-le}
use mathlib.Core.Path.{◌≡◌, sym, ap, ◌∙◌}
use mathlib.Core.Bool.{Bool, true, false}
use mathlib.Core.List.{List}
use native.Mathlib.Omega.{arith}
use lib.ListN.{length, get_or, take, drop, length-drop}
use lib.Seq.{take-length, get_or-drop}
use lib.Dec.{ltb}
use Rattle.std.proofs.Common.{MatchBool}
use Rattle.std.specs.List.{HoldsAt, AllWithin}
use Rattle.words.specs.Loops.{any}
use Rattle.words.proofs.Loops.{any-one, any_none}
use Rattle.words.proofs.Choices.{is_true, is_false}
use Rattle.request.proofs.Tests.{lt-holds, lt-fails}

-- the words behind the first two
abbrev pub costs : List ℕ → List ℕ
costs w = take (length w - 2) (drop 2 w)

module _ (d : ℕ) (w : List ℕ) (size : length w ≡ d + 2) where
  all_costs : costs w ≡ drop 2 w
  all_costs = ap (λ (n : ℕ). take n (drop 2 w)) (sym (length-drop 2 w)) ∙ take-length (drop 2 w)

  many : length (costs w) ≡ d
  many = ap length all_costs ∙ length-drop 2 w ∙ omega arith

  cost-word : (j : ℕ) → get_or (costs w) j 0 ≡ get_or w (j + 2) 0
  cost-word j = ap (λ (xs : List ℕ). get_or xs j 0) all_costs ∙ get_or-drop 2 w j 0 ∙ (let e : 2 + j ≡ j + 2 = omega arith in ap (λ (k : ℕ). get_or w k 0) e)

  pub costs-any : (r : Bool) → MatchBool r ((k : ℕ) × (k < length (costs w)) × HoldsAt (λ x. 1000000 < x) (costs w) k) (AllWithin (λ x. x ≤ 1000000) (costs w) 0 (length (costs w)))
      → r ≡ any (λ j. ltb 1000000 (get_or w (j + 2) 0)) d
  costs-any true h = sym (is_true _ (any-one (λ j. ltb 1000000 (get_or w (j + 2) 0)) d h.0 (omega (arith, many, h.1)) (lt-holds (rw (cost-word h.0) at (h.2 0)))))
  costs-any false h = sym (is_false _ (any_none (λ j. ltb 1000000 (get_or w (j + 2) 0)) d (λ j l. lt-fails (rw (cost-word j) at (h j 0 zero-le (omega (arith, many)))))))
