-- How many tries there are: at most C of an arc, M × C of a round, i × M × C of i rounds. Assumes nothing.
use Prim.Native.Nat.{ℕ, ◌*◌, ◌≤◌, zero-le}
use mathlib.Core.Bool.{Bool, true, false}
use mathlib.Core.List.{List}
use native.Mathlib.Nat.{le_refl, le_trans, le_of_eq, mul-one}
use Rattle.words.specs.Loops.{total}
use Rattle.words.specs.Pieces.{at}
use Rattle.words.proofs.Loops.{total-le}
use Rattle.request.specs.Request.{Req, width, arc_count, tail}
use Rattle.request.specs.Shape.{cells}
use Rattle.rounds.specs.Label.{filled}
use Rattle.rounds.specs.Rounds.{block, layer, bit, filled_in, round_tries, tries}

pub bit_le : (b : Bool) → bit b ≤ 1
bit_le true = le_refl 1
bit_le false = zero-le

-- of the first n cells of a block at most n are filled
pub filled-upto : (R : Req) (B : List ℕ) (n : ℕ) → total (λ c. bit (filled R (at (width R) B c))) n ≤ n
filled-upto R B n = le_trans (total-le (λ c. bit (filled R (at (width R) B c))) 1 n (λ c _. bit_le (filled R (at (width R) B c)))) (le_of_eq (mul-one n))

pub filled_in-le : (R : Req) (B : List ℕ) → filled_in R B ≤ cells R
unfolding filled_in
filled_in-le R B = filled-upto R B (cells R)

pub round_tries-le : (R : Req) (L : List ℕ) → round_tries R L ≤ arc_count R * cells R
unfolding round_tries
round_tries-le R L = total-le (λ a. filled_in R (block R L (tail R a))) (cells R) (arc_count R) (λ a _. filled_in-le R (block R L (tail R a)))

-- "at most K × M × C"
pub tries-le : (R : Req) (i : ℕ) → tries R i ≤ i * (arc_count R * cells R)
unfolding tries
tries-le R i = total-le (λ k. round_tries R (layer R k)) (arc_count R * cells R) i (λ k _. round_tries-le R (layer R k))
