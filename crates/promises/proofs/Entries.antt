-- The entry points for a caller in Rattle: each promise leaves one answer, and one value of every word of lent memory. Assumes nothing.
use mathlib.Core.Path.{refl}
use lib.ListN.{length}
use Rattle.promises.specs.Settled.{Settled}
use Rattle.promises.proofs.Agree.{agree, passed, lent}
use Rattle.sheet.specs.Reader.{read_request}
use Rattle.sheet.proofs.Answers.{said-once}
use Rattle.sheet.proofs.Writings.{writing-said-once}
use Rattle.request.proofs.check
use Rattle.table.proofs.build
use Rattle.route.proofs.read_back as back
use Rattle.sheet.proofs.read
use Rattle.sheet.proofs.write
use Rattle.listing.proofs.list
use Rattle.printout.proofs.print_out

-- nothing is lent to `check`
pub check-settled : Settled check.Kinds.ps check.Kinds.r check.Reads.Asked check.Reads.Learnt
check-settled κs a x y v w ok p q = (agree p q, refl)

-- the ladders and the labels
pub build-settled : Settled build.Kinds.ps build.Kinds.r build.Reads.Asked build.Reads.Learnt
build-settled κs a x y v w ok p q = (agree p.0 q.0, passed (passed (lent (agree p.1.0 q.1.0) (lent (agree p.1.1 q.1.1) refl))))

-- the ending, the costs beside it, and the route
pub read-back-settled : Settled back.Kinds.ps back.Kinds.r back.Reads.Asked back.Reads.Learnt
read-back-settled κs a x y v w ok p q = (λ i. record { ending = agree p.0 q.0 i; costs = agree p.1.0 q.1.0 i }, passed (passed (passed (passed (passed (passed (lent (agree p.1.1 q.1.1) refl)))))))

-- the answer, with the request that it holds, and the arc words
pub read-settled : Settled read.Kinds.ps read.Kinds.r read.Reads.Asked read.Reads.Learnt
read-settled κs a x y v w ok p q =
    (said-once x y (read_request a.0.now (length a.1.0.now)) p.1.0 q.1.0 (agree p.0 q.0), passed (lent (agree p.1.1 q.1.1) refl))

-- the sheet's bytes
pub write-settled : Settled write.Kinds.ps write.Kinds.r write.Reads.Asked write.Reads.Learnt
write-settled κs a x y v w ok p q = (writing-said-once x y (agree p.0 q.0), passed (passed (lent (agree p.1 q.1) refl)))

-- the listing's bytes
pub list-settled : Settled list.Kinds.ps list.Kinds.r list.Reads.Asked list.Reads.Learnt
list-settled κs a x y v w ok p q = (agree p.0 q.0, passed (lent (agree p.1 q.1) refl))

-- the printed bytes
pub print-out-settled : Settled print_out.Kinds.ps print_out.Kinds.r print_out.Reads.Asked print_out.Reads.Learnt
print-out-settled κs a x y v w ok p q = (agree p.0.0 q.0.0, passed (lent (agree p.1 q.1) refl))
