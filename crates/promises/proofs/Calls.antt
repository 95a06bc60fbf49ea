-- The calls for C: each promise leaves one number, and one value of every word of lent memory. Assumes nothing.
use mathlib.Core.Path.{refl}
use Rattle.promises.specs.Settled.{Settled}
use Rattle.promises.proofs.Agree.{agree, passed, lent}
use Rattle.desk.proofs.gowkaroo_read as read
use Rattle.desk.proofs.gowkaroo_write as write
use Rattle.desk.proofs.gowkaroo_build as build
use Rattle.desk.proofs.gowkaroo_read_back as back
use Rattle.desk.proofs.gowkaroo_list as list

-- the request's eight words and the arc words
pub gowkaroo-read-settled : Settled read.Kinds.ps read.Kinds.r read.Reads.Asked read.Reads.Learnt
gowkaroo-read-settled κs a x y v w ok p q = (agree p.0 q.0, passed (lent (agree p.1.0 q.1.0) (lent (agree p.1.1 q.1.1) refl)))

-- the sheet's bytes
pub gowkaroo-write-settled : Settled write.Kinds.ps write.Kinds.r write.Reads.Asked write.Reads.Learnt
gowkaroo-write-settled κs a x y v w ok p q = (agree p.0 q.0, passed (passed (lent (agree p.1 q.1) refl)))

-- the ladders and the labels
pub gowkaroo-build-settled : Settled build.Kinds.ps build.Kinds.r build.Reads.Asked build.Reads.Learnt
gowkaroo-build-settled κs a x y v w ok p q = (agree p.0 q.0, passed (passed (lent (agree p.1.0 q.1.0) (lent (agree p.1.1 q.1.1) refl))))

-- the three words of costs and the route
pub gowkaroo-read-back-settled : Settled back.Kinds.ps back.Kinds.r back.Reads.Asked back.Reads.Learnt
gowkaroo-read-back-settled κs a x y v w ok p q = (agree p.0 q.0, passed (passed (passed (passed (passed (passed (lent (agree p.1.0 q.1.0) (lent (agree p.1.1 q.1.1) refl))))))))

-- the listing's bytes
pub gowkaroo-list-settled : Settled list.Kinds.ps list.Kinds.r list.Reads.Asked list.Reads.Learnt
gowkaroo-list-settled κs a x y v w ok p q = (agree p.0 q.0, passed (lent (agree p.1 q.1) refl))
