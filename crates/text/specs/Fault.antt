-- The byte at fault: the first that no good text with the same beginning could have there. Assumes nothing.
use Rattle.std.specs.Prelude.{ℕ, ◌+◌, ◌≤◌, ◌<◌, List, ◌++◌, length, take, Result, Err}
use Rattle.text.specs.declared.Fault.{Fault}

-- the answer that byte j is at fault
abbrev pub fault : {A : Type 0} → ℕ → Result A Fault
fault j = Err (record { at = j })

-- some good text begins with p
abbrev pub Begins : (List ℕ → Type 0) → List ℕ → Type 0
Begins Good p = (t : List ℕ) × Good (p ++ t)

-- byte j of s is the first at which no good text can go on as s does; where j is the length of s, that is its end
pub record FirstFault (Good : List ℕ → Type 0) (s : List ℕ) (j : ℕ) : Type 0 where
  pub inside : j ≤ length s
  pub before : Begins Good (take j s)
  pub not_beyond : j < length s → Begins Good (take (j + 1) s) → ⊥
