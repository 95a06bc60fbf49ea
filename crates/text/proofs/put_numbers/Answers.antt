-- `put_numbers`: the numbers so far are written, each after sep. Assumes nothing.
use Rattle.std.proofs.Common.{◌≡◌, ◌≤◌, ◌+◌, length, set, get_or, refl, arith}
use lib.ListN.{length-set}
use Rattle.text.specs.Number.{digits}
use Rattle.text.proofs.Puts.{parted-end, parted-room, parted-none, numbers-next}
use Rattle.text.proofs.put_numbers.Goals as goal
use Rattle.text.proofs.put_numbers.Goals.{In-loop-v}

-- the next number has room
room : (c : In-loop-v) → c.loop-v.a + 1 + length (digits (get_or c.args.vs.now c.loop-v.v-index 0)) ≤ length c.loop-v.out
room c =
    let a = c.args in
    let i = c.loop-v.v-index in
    omega (arith, parted-end a.sep a.vs.now i (omega arith), parted-room a.sep a.vs.now (i + 1))

pub loop-v-init : goal.loop-v-init
loop-v-init c = let t = parted-none c.args.sep c.args.out.now c.args.at in (refl, t.0, t.1)

pub bounds-out-a : goal.bounds-out-a
bounds-out-a c = omega (arith, room (goal.at.bounds-out-a c).In-loop-v)

pub overflow_add-a : goal.overflow_add-a
overflow_add-a c = omega (arith, room (goal.at.overflow_add-a c).In-loop-v, c.loop-v.invariant.0)

pub put_number-a-requires : goal.put_number-a-requires
put_number-a-requires c = simp length-set (room (goal.at.put_number-a-requires c).In-loop-v)

pub loop-v-preserved : goal.loop-v-preserved
loop-v-preserved c =
    let a = c.args in
    let i = c.loop-v.v-index in
    let e = c.put_number-a.ensures in
    let k = c.put_number-a.auto.out in
    let n : length (set c.loop-v.out c.loop-v.a a.sep) ≡ length c.loop-v.out = length-set c.loop-v.out c.loop-v.a a.sep in (
      omega (arith, c.loop-v.invariant.0),
      omega (arith, e.value, c.loop-v.invariant.1, parted-end a.sep a.vs.now i (omega arith)),
      numbers-next a.sep a.out.now a.vs.now c.loop-v.out c.put_number-a.new.out a.at i c.loop-v.a (omega arith) c.loop-v.invariant.1 c.loop-v.invariant.2 e.out_after,
    )
