-- The read-back's answers have room in a packed number. Assumes nothing.
use Prim.Native.Nat.{ℕ, ◌≤◌, ◌<◌}
use mathlib.Core.Path.{◌≡◌, refl}
use mathlib.Core.Bool.{not, ◌||◌}
use mathlib.Core.List.{List}
use native.Mathlib.Omega.{arith}
use lib.ListN.{length}
use lib.Dec.{T, eqb, leb, ltb}
use Rattle.words.specs.Rows.{Weighed, clear, weigh}
use Rattle.words.proofs.Choices.{cond_cases}
use Rattle.request.specs.declared.Request.{Request}
use Rattle.request.specs.Request.{asked}
use Rattle.request.specs.Shape.{cells}
use Rattle.request.specs.Rows.{rows}
use Rattle.request.specs.Accepted.{Accepted}
use Rattle.request.proofs.Accepted.{accepted-small}
use Rattle.route.specs.Chain.{chain}
use Rattle.route.specs.Answer.{break_layer, arcs_of, back_rows, refusal, ended, ending_of}
use Rattle.route.specs.declared.Ending.{Ending}
use Rattle.route.proofs.Sound.{chain-short, chain-breaks}
use Rattle.route.proofs.Answering.{layer-asked}
use Rattle.route.proofs.Promises.{cleared}
use Rattle.desk.specs.Packed.{Answer}
use Rattle.desk.specs.Calls.{ending_said}
use Rattle.desk.proofs.Sound.{Room, Sound, small-room, sound-append, table-answer, refusal-said, refusal-answer}
use Rattle.desk.proofs.Builds.{rows-sound}

-- ---- the answers

-- an empty cell is number 15; any other number is the refusal's
ending-answer : (n p : ℕ) → Room n p → Answer (ending_said (refusal n p))
unfolding refusal
ending-answer n p r =
    cond_cases (λ (x : Ending). Answer (ending_said x)) (eqb n 15) (λ _. refusal-said 15 0 (small-room 15 0 tt)) (λ _. refusal-answer n p r)

module _ (q : Request) (arcs W : List ℕ) (room i v c : ℕ) where
  -- K of an accepted request
  hops_few : weigh (rows (asked q arcs)) ≡ clear → q.hops ≤ 63
  unfolding Accepted
  hops_few e = (accepted-small (asked q arcs) e).hops_few

  -- a chain breaks in the asked layer or below
  break-near : weigh (rows (asked q arcs)) ≡ clear → T (not (ltb q.hops i || leb q.nodes v || leb (cells (asked q arcs)) c)) → break_layer (chain (asked q arcs) W i v c) < 4294967296
  break-near e near = omega (arith, hops_few e, layer-asked q.hops q.nodes (cells (asked q arcs)) i v c near, chain-breaks (asked q arcs) W i v c)

  back-sound : Sound (back_rows (asked q arcs) W room i v c)
  unfolding back_rows
  back-sound =
      sound-append (rows (asked q arcs)) _ (rows-sound q arcs)
      (λ e. (
        λ _. small-room 13 1 tt,
        λ _. (
          λ _. small-room 13 2 tt,
          λ _. (
            λ _. small-room 14 0 tt,
            λ near. (
              λ _. small-room 15 0 tt,
              λ _. (λ _. record { some = omega arith; few = omega arith; near = break-near e near }, λ _. tt),
            ),
          ),
        ),
      ))

  route-few : weigh (back_rows (asked q arcs) W room i v c) ≡ clear → length (arcs_of (chain (asked q arcs) W i v c)) < 4294967296
  unfolding Accepted
  route-few e =
      let k = cleared (asked q arcs) W room i v c e in
      omega (arith, hops_few k.placed.accepted, layer-asked q.hops q.nodes (cells (asked q arcs)) i v c k.placed.inside, chain-short (asked q arcs) W i v c)

  pub back-answer : Answer (ending_said (ending_of (asked q arcs) W room i v c))
  unfolding ending_of
  back-answer =
      let n = length (arcs_of (chain (asked q arcs) W i v c)) in
      table-answer (λ (w : Weighed). ending_said (ended w n)) n refl ending-answer (back_rows (asked q arcs) W room i v c) back-sound route-few
