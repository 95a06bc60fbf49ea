-- Document 01, "Labels and rounds": the four kinds of label, told by the step word. Assumes nothing.
use Rattle.std.specs.Prelude.{ℕ, ◌+◌, ◌-◌, cond, eqb}
use Rattle.rounds.specs.declared.Step.{Step}
use Rattle.rounds.specs.declared.Step.TheVariants.{Empty, Start, Kept, Came}

-- "Step 0: empty", "Step 1: start", "Step 2: kept from the layer before", "Step 3 + a: came by arc a"
unfoldable pub step_of : ℕ → Step
step_of word = cond (eqb word 0) Empty (cond (eqb word 1) Start (cond (eqb word 2) Kept (Came (word - 3))))

-- and the word of each
abbrev pub word_of : Step → ℕ
word_of Empty = 0
word_of Start = 1
word_of Kept = 2
word_of (Came a) = a + 3
