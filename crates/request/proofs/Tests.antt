-- The tests of the rows, from the facts that the code's branches tell. Assumes nothing.
use Prim.Native.Nat.{ℕ, ◌≤◌, ◌<◌}
use mathlib.Core.Bool.{not}
use lib.Dec.{T, leb, ltb, nltb→le}
use borrow.Author.Tests.{lt-ltb, le-ltb, le-leb, lt-leb}
use Rattle.words.proofs.Choices.{true-is, false-is, nor-left, nor-right}
use Rattle.request.specs.Rows.{outside}

-- ---- orders

pub lt-holds : {a b : ℕ} → a < b → T (ltb a b)
lt-holds {a} {b} h = true-is (lt-ltb a b h)

pub lt-fails : {a b : ℕ} → b ≤ a → T (not (ltb a b))
lt-fails {a} {b} h = false-is (le-ltb a b h)

pub le-holds : {a b : ℕ} → a ≤ b → T (leb a b)
le-holds {a} {b} h = true-is (le-leb a b h)

pub le-fails : {a b : ℕ} → b < a → T (not (leb a b))
le-fails {a} {b} h = false-is (lt-leb a b h)

-- ---- outside

pub not-outside : (lo hi n : ℕ) → T (not (outside lo hi n)) → (lo ≤ n) × (n ≤ hi)
unfolding outside
not-outside lo hi n t =
    (nltb→le n lo (nor-left (ltb n lo) (ltb hi n) t), nltb→le hi n (nor-right (ltb n lo) (ltb hi n) t))
