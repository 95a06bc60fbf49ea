-- Document 01, "The sheet": numbers as they are read from a field, and as they are written. Assumes nothing.
use Rattle.std.specs.Prelude.{ℕ, zero, suc, ◌+◌, ◌-◌, ◌*◌, ◌/◌, ◌%◌, List, [], ◌∷◌, ◌++◌, Bool, false, cond, ◌&&◌, ◌||◌, ltb, leb, eqb, Result, Ok}
use Rattle.text.specs.declared.Fault.{Fault}
use Rattle.text.specs.Fault.{fault}

-- the digits 0 to 9 are the bytes 48 to 57
abbrev pub is_digit : ℕ → Bool
is_digit c = leb 48 c && leb c 57

-- "1 to 8 digits": those that follow a value v, the next being byte i of the field; after eight digits v is over 9,999,999
unfoldable pub digits_after : ℕ → ℕ → List ℕ → Result ℕ Fault
digits_after v i [] = Ok v
digits_after v i (c ∷ cs) = cond (is_digit c && leb v 9999999) (digits_after (v * 10 + (c - 48)) (i + 1) cs) (fault i)

-- "no leading zero, save 0 alone": what a field says that begins with 0
abbrev pub zero_alone : List ℕ → Result ℕ Fault
zero_alone [] = Ok 0
zero_alone (c ∷ cs) = fault 1

-- "A number has 1 to 8 digits and no leading zero, save 0 alone": a field's value, or the first byte, from 0, that no number with the same
-- beginning could have there; the field's end counts as a byte
unfoldable pub number : List ℕ → Result ℕ Fault
number [] = fault 0
number (c ∷ cs) = cond (eqb c 48) (zero_alone cs) (digits_after 0 0 (c ∷ cs))

-- the digits of n, where n is at most `room`
unfoldable pub digits_within : ℕ → ℕ → List ℕ
digits_within zero n = (48 + n) ∷ []
digits_within (suc room) n = cond (ltb n 10) ((48 + n) ∷ []) (digits_within room (n / 10) ++ ((48 + n % 10) ∷ []))

-- a number as it is written: its decimal digits
unfoldable pub digits : ℕ → List ℕ
digits n = digits_within n n

-- the largest number of eight digits
abbrev pub largest : ℕ
largest = 99999999

-- "a number to be written is over 99,999,999"
unfoldable pub any_over : List ℕ → Bool
any_over [] = false
any_over (v ∷ vs) = ltb largest v || any_over vs
