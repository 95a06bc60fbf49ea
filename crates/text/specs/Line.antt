-- A line: a word, and then numbers, each after the byte that parts fields. Assumes nothing.
use Rattle.std.specs.Prelude.{ℕ, zero, suc, ◌+◌, List, [], ◌∷◌, ◌++◌, cond, length, drop, ltb, eqb, Result, Ok, Err}
use Rattle.text.specs.declared.Fault.{Fault}
use Rattle.text.specs.declared.Item.{Item}
use Rattle.text.specs.Fault.{fault}
use Rattle.text.specs.Field.{before, common}
use Rattle.text.specs.Number.{number, digits}

-- what a line says: its numbers; or its first byte at fault, from 0, with the numbers that stand before it
pub data Got : Type 0 where
  good : List ℕ → Got
  bad : ℕ → List ℕ → Got

-- the answer that a number v was read, and ends before byte e
abbrev pub found : ℕ → ℕ → Result Item Fault
found v e = Ok (record { value = v; end = e })

-- a field of n bytes that stands after the byte `at`, which parts it from the field before
abbrev pub placed : ℕ → ℕ → Result ℕ Fault → Result Item Fault
placed at n (Ok v) = found v (at + 1 + n)
placed at n (Err f) = fault (at + 1 + f.at)

-- "fields are parted by one tab": the number after byte `at`, which is `sep`, and the byte after the number
unfoldable pub item : ℕ → ℕ → List ℕ → Result Item Fault
item sep at [] = fault at
item sep at (c ∷ cs) = cond (eqb c sep) (placed at (length (before sep cs)) (number (before sep cs))) (fault at)

-- one number more at the front
abbrev pub prepend : ℕ → Got → Got
prepend v (good vs) = good (v ∷ vs)
prepend v (bad j vs) = bad j (v ∷ vs)

-- go on after a number that was found
abbrev pub next : Result Item Fault → (ℕ → ℕ → Got) → Got
next (Ok i) k = k i.value i.end
next (Err f) k = bad f.at []

-- "A line has exactly these fields": n numbers from byte `at` of the line on, and then its end
unfoldable pub numbers : ℕ → ℕ → List ℕ → ℕ → Got
numbers sep zero line at = cond (ltb at (length line)) (bad at []) (good [])
numbers sep (suc n) line at = next (item sep at (drop at line)) (λ v e. prepend v (numbers sep n line e))

-- a line of the word and n numbers
unfoldable pub line_of : ℕ → List ℕ → ℕ → List ℕ → Got
line_of sep word n line = cond (ltb (common word line) (length word)) (bad (common word line) []) (numbers sep n line (length word))

-- the answer of a line's reader
abbrev pub answer_of : Got → Result Unit Fault
answer_of (good vs) = Ok tt
answer_of (bad j vs) = fault j

-- the numbers that it has read: all of a good line's, and those before the byte at fault
abbrev pub taken_of : Got → List ℕ
taken_of (good vs) = vs
taken_of (bad j vs) = vs

-- numbers as they are written, each after the byte that parts fields
unfoldable pub parted : ℕ → List ℕ → List ℕ
parted sep [] = []
parted sep (v ∷ vs) = sep ∷ (digits v ++ parted sep vs)

-- "Lines end in LF": a line as it is written
unfoldable pub line_text : ℕ → List ℕ → List ℕ → List ℕ
line_text sep word vs = (word ++ parted sep vs) ++ (10 ∷ [])

-- how many bytes they take
unfoldable pub parted_width : List ℕ → ℕ
parted_width [] = 0
parted_width (v ∷ vs) = 1 + length (digits v) + parted_width vs
