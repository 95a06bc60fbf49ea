-- Two answers that are the same: at fault at the same byte, or the same number up to the same byte. Assumes nothing.
use Prim.Native.Nat.{ℕ}
use mathlib.Core.Path.{◌≡◌, ap}
use Rattle.std.specs.Prelude.{Result, Ok, Err}
use Rattle.text.specs.declared.Fault.{Fault}
use Rattle.text.specs.declared.Item.{Item}
use Rattle.text.specs.Fault.{fault}
use Rattle.text.specs.Line.{found}

-- the byte at fault, 0 where there is none
abbrev byte_of : {A : Type 0} → Result A Fault → ℕ
byte_of (Ok x) = 0
byte_of (Err f) = f.at

-- one fault is at one byte
pub fault-same : {A : Type 0} {i j : ℕ} → ◌≡◌ {A = Result A Fault} (fault i) (fault j) → i ≡ j
fault-same e = ap byte_of e

-- the number of an item, 0 where there is none
abbrev value_of : Result Item Fault → ℕ
value_of (Ok g) = g.value
value_of (Err f) = 0

-- the byte after an item, 0 where there is none
abbrev end_of : Result Item Fault → ℕ
end_of (Ok g) = g.end
end_of (Err f) = 0

-- one item has one number, and ends before one byte
pub found-same : {v w e i : ℕ} → found v e ≡ found w i → (v ≡ w) × (e ≡ i)
found-same h = (ap value_of h, ap end_of h)
