-- `try_arc`. The loop's invariant: the cells before the next one are tried, it is filled (`Standing`), and there is a place to look from. Assumes nothing.
use mathlib.Core.Path.{◌≡◌, subst}
use Prim.Native.Nat.{◌+◌, ◌-◌}
use lib.ListN.{length}
use Rattle.std.specs.Prelude.{Some, None}
use Rattle.words.specs.Pieces.{part}
use Rattle.tries.specs.Tries.{asked_by, Hinted, Fresh}
use Rattle.tries.proofs.Arcs.{Along}
use Rattle.tries.proofs.Nexts.{Asked, Filled, Standing, far, first, stands, next-stands, extends, tried, hints, all-tried}
use native.Mathlib.Omega.{arith}
use Rattle.tries.proofs.Frame.try_arc.Goals as goal
use Rattle.tries.proofs.Frame.try_arc.Goals.{Start, In-Some-next, After-extend}

-- what was asked at the start
set : (b : Start) → let a = b.args in Asked a.self.now a.labels.now a.from a.to a.a a.low a.high
set b = let p = b.requires in record { apart = p.apart; a_bound = p.a_bound; ranged = p.ranged }

pub returns-in_default : goal.returns-in_default
returns-in_default c = let a = c.args in
    let p = set (goal.at.returns-in_default c).Start in
    all-tried p a.labels.now (next-stands p a.labels.now a.low (first p) None
    (subst (Fresh a.self.now.d (part a.labels.now a.from (a.from + a.self.now.span - a.from)) a.low a.high) c.in_default.is c.next_fresh.ensures))

pub loop-next-init : goal.loop-next-init
loop-next-init c = let a = c.args in
    let p = set (goal.at.loop-next-init c).Start in (
      next-stands p a.labels.now a.low (first p) (Some c.in-Some.first)
          (subst (Fresh a.self.now.d (part a.labels.now a.from (a.from + a.self.now.span - a.from)) a.low a.high) c.in-Some.is c.next_fresh.ensures),
      c.places_of-places.ensures,
    )

-- in the loop: cell c is filled, and those before it are tried
standing : (b : In-Some-next) → let a = b.args in let l = b.loop-next in
    Along (asked_by a.self.now) a.labels.now a.from a.to a.a a.low a.high l.labels b.in-Some-next.c × Filled a.self.now l.labels a.from a.high b.in-Some-next.c
standing b = let a = b.args in let l = b.loop-next in subst (Standing a.self.now a.labels.now a.from a.to a.a a.low a.high l.labels) b.in-Some-next.is l.invariant.0

-- once it is extended
module _ (x : After-extend) where
  -- what was asked at the start
  asked-set : let a = x.args in Asked a.self.now a.labels.now a.from a.to a.a a.low a.high
  asked-set = let p = x.requires in record { apart = p.apart; a_bound = p.a_bound; ranged = p.ranged }

  -- the cell was filled, and those before it tried
  was : let a = x.args in let l = x.loop-next in
      Along (asked_by a.self.now) a.labels.now a.from a.to a.a a.low a.high l.labels x.in-Some-next.c × Filled a.self.now l.labels a.from a.high x.in-Some-next.c
  was = let a = x.args in let l = x.loop-next in subst (Standing a.self.now a.labels.now a.from a.to a.a a.low a.high l.labels) x.in-Some-next.is l.invariant.0

  -- it is tried
  tried-next : let a = x.args in Along (asked_by a.self.now) a.labels.now a.from a.to a.a a.low a.high x.extend.new.labels (x.in-Some-next.c + 1)
  tried-next = let l = x.loop-next in
      tried asked-set l.labels x.in-Some-next.c was.0 was.1 x.label_at.result x.label_at.ensures.0 l.places l.invariant.1 x.extend.result x.extend.new.places x.extend.ensures.1 x.extend.new.labels x.extend.ensures.0

  -- its places are those to look from next
  hints-next : Hinted (asked_by x.args.self.now) x.extend.new.places
  hints-next = let l = x.loop-next in
      hints asked-set l.labels x.in-Some-next.c was.0 was.1 x.label_at.result x.label_at.ensures.0 l.places l.invariant.1 x.extend.result x.extend.new.places x.extend.ensures.1

  -- the labels are as many words as they came
  long : length x.extend.new.labels ≡ length x.args.labels.now
  long = (stands asked-set x.extend.new.labels (x.in-Some-next.c + 1) tried-next).0

-- after the loop all are tried
done : (b : goal.In_default-next) → let a = b.args in Along (asked_by a.self.now) a.labels.now a.from a.to a.a a.low a.high b.loop-next.labels a.high
done b = let a = b.args in subst (Standing a.self.now a.labels.now a.from a.to a.a a.low a.high b.loop-next.labels) b.in_default-next.is b.loop-next.invariant.0

pub extend-requires : goal.extend-requires
extend-requires c = let l = c.loop-next in
    let s = standing (goal.at.extend-requires c).In-Some-next in
    extends (set (goal.at.extend-requires c).Start) l.labels c.in-Some-next.c s.0 s.1 c.label_at.result c.label_at.ensures.0 l.places l.invariant.1

pub slice_bounds-next_fresh-end-in-Some-next : goal.slice_bounds-next_fresh-end-in-Some-next
slice_bounds-next_fresh-end-in-Some-next c =
    omega (arith, far (set (goal.at.slice_bounds-next_fresh-end-in-Some-next c).Start), long (goal.at.slice_bounds-next_fresh-end-in-Some-next c).After-extend)

pub loop-next-preserved : goal.loop-next-preserved
loop-next-preserved c = let x = (goal.at.loop-next-preserved c).After-extend in
    (next-stands (asked-set x) c.extend.new.labels (c.in-Some-next.c + 1) (tried-next x) c.next_fresh-next.result c.next_fresh-next.ensures, hints-next x)

pub shape_of-labels : goal.shape_of-labels
shape_of-labels c = (stands (set (goal.at.shape_of-labels c).Start) c.loop-next.labels c.args.high (done c)).0

pub returns : goal.returns
returns c = all-tried (set (goal.at.returns c).Start) c.loop-next.labels (done c)
