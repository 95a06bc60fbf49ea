-- `offer_found`: what is found is a cell of the block. Assumes nothing.
use Prim.Native.Nat.{◌-◌}
use lib.ListN.{get_or}
use Rattle.words.proofs.Radix.{radix-lt}
use Rattle.tries.proofs.Frames.{volume_is}
use Rattle.tries.proofs.Trying.{graded-is}
use native.Mathlib.Omega.{arith}
use Rattle.tries.proofs.Frame.offer_found.Goals as goal

pub offer-requires : goal.offer-requires
offer-requires c = let s = c.args.self.now in
    let p = c.requires.room in
    let f = c.find_cell-cell.ensures.found_at in
    let v = volume_is s.framed (graded-is s) in
    let e = f.number in
    let l = radix-lt (λ i. get_or s.counts i 0) (λ i. get_or c.find_cell-cell.new.places i 0) (s.d - 1) f.below in
    (omega arith, p.0, p.1)
