-- Document 01, row 1: "first bad line from 1; one more than the lines if the sheet ends before `ask`", said of whole sheets. Assumes nothing.
use Rattle.std.specs.Prelude.{ℕ, suc, ◌+◌, ◌≡◌, cond, false, List, [], ◌∷◌, ◌++◌, ◌⊎◌, eqb}
use Rattle.text.specs.Field.{before}
use Rattle.text.specs.Fault.{Begins}
use Rattle.sheet.specs.Grammar.{lf, sheet_of}
use Rattle.sheet.specs.Reader.{is_broken}

-- the form of a sheet is not broken
abbrev pub Accepted : List ℕ → Type 0
Accepted s = is_broken (sheet_of s) ≡ false

-- "Lines end in LF": how many lines end in these bytes
unfoldable pub ends : List ℕ → ℕ
ends [] = 0
ends (c ∷ cs) = cond (eqb c lf) (suc (ends cs)) (ends cs)

-- no line, or some lines with their LFs
abbrev pub WholeLines : List ℕ → Type 0
WholeLines p = (p ≡ []) ⊎ ((q : List ℕ) × (p ≡ q ++ (lf ∷ [])))

-- up to line k the sheet is good: an accepted sheet begins with the lines before it; and where it has its LF, no accepted sheet begins with the
-- lines up to it. (Without its LF it is bad as it stands; where nothing stands there, the sheet ends before `ask`.)
pub record GoodUpTo (s : List ℕ) (k : ℕ) : Type 0 where
  pub front : List ℕ
  pub rest : List ℕ
  pub parts : s ≡ front ++ rest
  pub lines : WholeLines front
  pub place : k ≡ ends front + 1
  pub good_before : Begins Accepted front
  pub bad_here : (line after : List ℕ) → before lf line ≡ line → rest ≡ line ++ (lf ∷ after) → Begins Accepted (front ++ (line ++ (lf ∷ []))) → ⊥

-- line k of a sheet is its first bad one
pub record FirstBadLine (s : List ℕ) (k : ℕ) : Type 0 where
  pub bad : Accepted s → ⊥
  pub first : GoodUpTo s k
