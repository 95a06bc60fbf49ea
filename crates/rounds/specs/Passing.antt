-- What a round may know of the layer before: it has room for one arc more, and what it kept was tried already. Assumes nothing.
--
-- WHY A ROUND MAY PASS OVER A KEPT LABEL. Let a round make layer L' of layer L, and let a label of L' be kept (step 2). Then L holds the same costs in
-- the same cell, and that round tried them by every arc that leaves the node. So in L' the head's cell of each such candidate is filled, and what it
-- holds does not give way to the candidate: it is the candidate, or what kept its place against it, or what replaced one of these, and the tie rule
-- is an order. The next round first keeps that cell, and its arcs only replace it by what is better. When it comes to the kept label, the candidate
-- has the same costs, finds its cell taken, and the try changes nothing. In layer 0 nothing is kept. A passed-over try is counted all the same.
use Rattle.std.specs.Prelude.{ℕ, ◌+◌, ◌≤◌, ◌<◌, ◌≡◌, Bool, not, ◌||◌, List, ◌⊎◌, get_or, T, eqb}
use Rattle.words.specs.Pieces.{at}
use Rattle.request.specs.Request.{Req, width, arc_count, tail, head}
use Rattle.request.specs.Shape.{largest, top, cells, cell}
use Rattle.rounds.specs.Label.{costs, step, filled, candidate, came, wins}
use Rattle.rounds.specs.Rounds.{block}

-- one arc more than any filled label of block F stays under the ladder tops
unfoldable pub Room : Req → List ℕ → Type 0
Room R F = (c : ℕ) → c < cells R → T (filled R (at (width R) F c)) → (j : ℕ) → get_or (costs R (at (width R) F c)) j 0 + largest R j ≤ top R j

-- what arc a makes of cell c of block F does not take its cell's place in block B
unfoldable pub Taken : Req → List ℕ → ℕ → ℕ → List ℕ → Type 0
Taken R F a c B = let l = at (width R) F c in T (not (wins R (came R a c l) (at (width R) B (cell R (candidate R a l)))))

-- so it is for every kept label of F: it was tried by arc a already
unfoldable pub Tried : Req → List ℕ → ℕ → List ℕ → Type 0
Tried R F a B = (c : ℕ) → c < cells R → step R (at (width R) F c) ≡ 2 → Taken R F a c B

-- and so it is in layer L along every arc
unfoldable pub AllTried : Req → List ℕ → Type 0
AllTried R L = (a : ℕ) → a < arc_count R → Tried R (block R L (tail R a)) a (block R L (head R a))

-- a step word that says empty or kept: a try of its label is no news
abbrev pub Quiet : ℕ → Type 0
Quiet s = (s ≡ 0) ⊎ (s ≡ 2)

-- as a test
abbrev pub quiet : ℕ → Bool
quiet s = eqb s 0 || eqb s 2
