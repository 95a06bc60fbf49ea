-- Document 01, "Any answer that is an enum has a definition. The definition gives this paper's number and values for each of the enum's cases": what an
-- answer says, by the table that was weighed for it. Assumes nothing.
use Rattle.std.specs.Prelude.{ℕ, ◌<◌, List, [], ◌∷◌, Result, Ok, Err}
use Rattle.words.specs.Rows.{Weighed, clear, refused}
use Rattle.request.specs.declared.Refusal.{Refusal}
use Rattle.request.specs.declared.Shape.{Shape}
use Rattle.sheet.specs.Answer.{refusal_said}
use Rattle.demands.specs.Demands.{told_as}
use Rattle.desk.specs.Packed.{unpack}

-- 0, 0 and the values where no row holds, number and place of the first row that holds
abbrev pub says : Weighed → List ℕ → List ℕ
says clear vs = 0 ∷ 0 ∷ vs
says (refused n p) vs = n ∷ p ∷ []

-- "an empty cell (number 15)" is told by its number alone
abbrev pub says_or_empty : Weighed → List ℕ → List ℕ
says_or_empty clear vs = 0 ∷ 0 ∷ vs
says_or_empty (refused n p) vs = told_as n p

-- an answer of `check`: 0, 0 and the shape's numbers; a refusal's number and place. The other answers have theirs beside the enum:
-- `said` of the reader, the read-back and the listing, `writing_said`, `built_said`
abbrev pub checked_said : Result Shape Refusal → List ℕ
checked_said (Ok s) = 0 ∷ 0 ∷ s.b1 ∷ s.b2 ∷ s.cells ∷ s.labels ∷ []
checked_said (Err r) = refusal_said r

-- an answer of a call for C is a refusal where its number is not 0
abbrev pub IsRefused : ℕ → Type 0
IsRefused x = 0 < (unpack x).number
