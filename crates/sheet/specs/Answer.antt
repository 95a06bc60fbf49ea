-- What an answer says in document 01's numbers, and by its refusal table. Assumes nothing.
use Rattle.std.specs.Prelude.{ℕ, List, [], ◌∷◌}
use Rattle.words.specs.Rows.{Weighed, clear, refused}
use Rattle.request.specs.declared.Refusal.{Refusal}
use Rattle.request.specs.Refusal.{number_of, place_of}

-- "A refusal returns number and place"
abbrev pub refusal_said : Refusal → List ℕ
refusal_said r = number_of r ∷ place_of r ∷ []

-- an answer that is none has no number (0) and no place (0), and a count of words or bytes
abbrev pub counted : ℕ → List ℕ
counted n = 0 ∷ 0 ∷ n ∷ []

-- what weighing a table tells: a count where no row holds, number and place of the first row that holds
abbrev pub told : Weighed → ℕ → List ℕ
told clear n = counted n
told (refused number place) n = number ∷ place ∷ []
