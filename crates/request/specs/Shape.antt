-- Document 01, "Fences", for a request: ladder tops, bucket counts, ladders, cells. Assumes nothing.
use Rattle.std.specs.Prelude.{ℕ, ◌+◌, ◌*◌, max, cond, List, get_or, ltb}
use Rattle.words.specs.Loops.{up_to, total}
use Rattle.words.specs.Pieces.{at, join}
use Rattle.words.specs.Radix.{volume, radix}
use Rattle.fences.specs.Fence as fence
use Rattle.request.specs.Request.{Req, width, arc_count, ratio_p, ratio_q, reach}

-- the largest cost of criterion j among m arcs of w words, 0 with no arcs
unfoldable pub largest_of : ℕ → List ℕ → ℕ → ℕ → ℕ
largest_of w arcs m j = up_to (λ a x. max x (get_or (at w arcs a) (j + 2) 0)) 0 m

-- "its largest arc cost": of criterion j among all arcs
unfoldable pub largest : Req → ℕ → ℕ
largest R j = largest_of (width R) R.arcs (arc_count R) j

-- "A criterion's ladder top T is K times its largest arc cost (0 with no arcs)"
unfoldable pub top : Req → ℕ → ℕ
top R j = reach R * largest R j

-- "Its bucket count B is the position of T, plus 1"
unfoldable pub buckets : Req → ℕ → ℕ
buckets R j = fence.buckets (ratio_p R j) (ratio_q R j) (top R j)

-- "its ladder is fences 0 to B"
unfoldable pub ladder : Req → ℕ → List ℕ
ladder R j = fence.ladder (ratio_p R j) (ratio_q R j) (top R j)

-- "stored one ladder after another"
unfoldable pub ladders : Req → List ℕ
ladders R = join (ladder R) R.graded

-- where ladder j begins among them
unfoldable pub ladder_at : Req → ℕ → ℕ
ladder_at R j = total (λ i. buckets R i + 1) j

-- "C is the product of the B's of all criteria but the last"
unfoldable pub cells : Req → ℕ
cells R = volume (buckets R) R.graded

-- a cost's position in criterion j
unfoldable pub position : Req → ℕ → ℕ → ℕ
position R j x = fence.position (ratio_p R j) (ratio_q R j) x

-- "A label's cell is j1 for d = 2 and j1 × B2 + j2 for d = 3": the number whose digits are the positions
unfoldable pub cell : Req → List ℕ → ℕ
cell R xs = radix (buckets R) (λ j. position R j (get_or xs j 0)) R.graded

-- "Labels, (K+1) × N × C"
unfoldable pub label_count : Req → ℕ
label_count R = (R.hops + 1) * (R.nodes * cells R)

-- the bucket count of criterion j, and 1 where it has no ratio
unfoldable pub count : Req → ℕ → ℕ
count R j = cond (ltb j R.graded) (buckets R j) 1
