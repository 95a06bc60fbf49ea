-- Document 01, "in one 64-bit number from which all of these can be told": how an answer packs into it, and how it is told again. Assumes nothing.
use Rattle.std.specs.Prelude.{ℕ, ◌+◌, ◌*◌, ◌/◌, ◌%◌, ◌<◌, ◌≡◌, cond, List, [], ◌∷◌, eqb}

-- number × 2^48 + byte × 2^32 + low
unfoldable pub pack : ℕ → ℕ → ℕ → ℕ
pack number byte low = number * 281474976710656 + byte * 4294967296 + low

-- the three parts of a packed answer
pub record Parts : Type 0 where
  pub number : ℕ
  pub byte : ℕ
  pub low : ℕ

-- a packed answer taken apart: bits 48 to 63, bits 32 to 47, bits 0 to 31
unfoldable pub unpack : ℕ → Parts
unpack x = record { number = x / 281474976710656; byte = x / 4294967296 % 65536; low = x % 4294967296 }

-- ---- answers in document 01's numbers

-- an answer as the functions say it: 0, 0 and a count; or a refusal's number and place. Its byte is 0
unfoldable pub packed : List ℕ → ℕ
packed [] = 0
packed (number ∷ []) = 0
packed (number ∷ place ∷ []) = pack number 0 place
packed (number ∷ place ∷ count ∷ more) = pack number 0 count

-- and the answer again: number 0 is a count, any other a refusal
unfoldable pub answer_of : ℕ → List ℕ
answer_of x = cond (eqb (unpack x).number 0) (0 ∷ 0 ∷ (unpack x).low ∷ []) ((unpack x).number ∷ (unpack x).low ∷ [])

-- what an answer is: a refusal with a number from 1 on and a place, or 0, 0 and a count, that the packed number has room for
unfoldable pub Answer : List ℕ → Type 0
Answer [] = ⊥
Answer (number ∷ []) = ⊥
Answer (number ∷ place ∷ []) = (0 < number) × (number < 65536) × (place < 4294967296)
Answer (number ∷ place ∷ count ∷ more) = (number ≡ 0) × (place ≡ 0) × (count < 4294967296) × (more ≡ [])
