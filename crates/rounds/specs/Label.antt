-- Document 01, "Labels and rounds": a label's words, for any number of criteria. Assumes nothing.
use Rattle.std.specs.Prelude.{ℕ, ◌+◌, Bool, not, ◌||◌, List, [], ◌∷◌, ◌++◌, get_or, take, replicate, ltb}
use Rattle.request.specs.Request.{Req, width, arc_costs}

-- "A label is d+2 words: its costs, a step word, a from word"
abbrev pub label : List ℕ → ℕ → ℕ → List ℕ
label xs s f = xs ++ s ∷ f ∷ []

-- its costs, one for each criterion
unfoldable pub costs : Req → List ℕ → List ℕ
costs R l = take R.criteria l

-- its step word
unfoldable pub step : Req → List ℕ → ℕ
step R l = get_or l R.criteria 0

-- its from word
unfoldable pub from : Req → List ℕ → ℕ
from R l = get_or l (R.criteria + 1) 0

-- not empty: its step is not 0
unfoldable pub filled : Req → List ℕ → Bool
filled R l = ltb 0 (step R l)

-- "Step 0: empty, all words 0"
unfoldable pub empty : Req → List ℕ
empty R = replicate (width R) 0

-- "Step 1: start, costs 0, from 0"
unfoldable pub start : Req → List ℕ
start R = label (replicate R.criteria 0) 1 0

-- "Step 2: kept from the layer before, same node and cell, same costs, from 0"
unfoldable pub kept : Req → List ℕ → List ℕ
kept R l = label (costs R l) 2 0

-- sums, criterion by criterion
unfoldable pub sum : List ℕ → List ℕ → List ℕ
sum [] ys = ys
sum (x ∷ xs) [] = x ∷ xs
sum (x ∷ xs) (y ∷ ys) = (x + y) ∷ sum xs ys

-- "costs plus arc costs make a candidate": from label l by arc a
unfoldable pub candidate : Req → ℕ → List ℕ → List ℕ
candidate R a l = sum (costs R l) (arc_costs R a)

-- "Step 3+a: came by arc a (counted from 0), from the tail's cell in the layer before"
unfoldable pub came : Req → ℕ → ℕ → List ℕ → List ℕ
came R a c l = label (candidate R a l) (3 + a) c

-- label l takes the place of label old "if that is empty or holds" costs that give way
unfoldable pub wins : Req → List ℕ → List ℕ → Bool
wins R l old = not (filled R old) || R.rule (costs R l) (costs R old)
