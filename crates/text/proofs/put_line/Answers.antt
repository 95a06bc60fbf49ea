-- `put_line`: a word, numbers and the LF, side by side. Assumes nothing.
use Prim.Native.Nat.{◌<◌}
use mathlib.Core.Path.{◌≡◌}
use native.Mathlib.Omega.{arith}
use lib.ListN.{length, length-set}
use Rattle.text.proofs.Puts.{line-put, line-length}
use Rattle.text.proofs.put_line.Goals as goal
use Rattle.text.proofs.put_line.Goals.{After-put_numbers-b}

-- behind the word and the numbers there is room for the LF
module _ (c : After-put_numbers-b) where
  kept : length c.put_numbers-b.new.out ≡ length c.args.out.now
  kept = omega (arith, c.put_bytes-a.auto.out, c.put_numbers-b.auto.out)

  room : c.put_numbers-b.result < length c.args.out.now
  room =
      let a = c.args in
      omega (arith, line-length a.sep a.word.now a.vs.now, c.requires, c.put_bytes-a.ensures.value, c.put_numbers-b.ensures.value)

pub put_bytes-a-requires : goal.put_bytes-a-requires
put_bytes-a-requires c = let a = c.args in
    omega (arith, line-length a.sep a.word.now a.vs.now, c.requires)

pub put_numbers-b-requires : goal.put_numbers-b-requires
put_numbers-b-requires c = let a = c.args in
    let b = c.put_bytes-a in
    omega (arith, line-length a.sep a.word.now a.vs.now, c.requires, b.ensures.value, b.auto.out)

pub bounds-out-b : goal.bounds-out-b
bounds-out-b c = omega (arith, room (goal.at.bounds-out-b c).After-put_numbers-b, kept (goal.at.bounds-out-b c).After-put_numbers-b)

pub overflow_add-result : goal.overflow_add-result
overflow_add-result c = omega (arith, room (goal.at.overflow_add-result c).After-put_numbers-b)

pub shape_of-out : goal.shape_of-out
shape_of-out c = simp length-set (kept (goal.at.shape_of-out c).After-put_numbers-b)

pub returns : goal.returns
returns c = let n = c.put_numbers-b in
    let b = c.put_bytes-a in
    let a = c.args in let whole = line-put a.sep a.out.now a.word.now a.vs.now b.new.out n.new.out a.at b.result n.result b.ensures.value b.ensures.out_after n.ensures.value n.ensures.out_after in record { value = whole.0; out_after = whole.1 }
