-- A stretch of bytes up to a byte that ends it: a line up to its LF, a field up to the byte that parts fields. Assumes nothing.
use Rattle.std.specs.Prelude.{ℕ, ◌+◌, List, [], ◌∷◌, cond, eqb}

-- the bytes before the first b, or all of them where there is none
unfoldable pub before : ℕ → List ℕ → List ℕ
before b [] = []
before b (c ∷ cs) = cond (eqb c b) [] (c ∷ before b cs)

-- how many bytes a line has in common with a word, from the front
unfoldable pub common : List ℕ → List ℕ → ℕ
common [] line = 0
common (x ∷ word) [] = 0
common (x ∷ word) (c ∷ line) = cond (eqb c x) (common word line + 1) 0
