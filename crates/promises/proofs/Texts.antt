-- Lines and numbers as bytes. Assumes nothing.
use mathlib.Core.Path.{refl}
use Rattle.promises.specs.Settled.{Settled}
use Rattle.promises.proofs.Agree.{agree, passed, lent}
use Rattle.text.proofs.word_line
use Rattle.text.proofs.any_over
use Rattle.text.proofs.widths
use Rattle.text.proofs.put_line
use Rattle.listing.proofs.print_refusal

pub word-line-settled : Settled word_line.Kinds.ps word_line.Kinds.r word_line.Reads.Asked word_line.Reads.Learnt
word-line-settled κs a x y v w ok p q = (agree p.0 q.0, passed (passed (passed (lent (agree p.1 q.1) refl))))

pub any-over-settled : Settled any_over.Kinds.ps any_over.Kinds.r any_over.Reads.Asked any_over.Reads.Learnt
any-over-settled κs a x y v w ok p q = (agree p q, refl)

pub widths-settled : Settled widths.Kinds.ps widths.Kinds.r widths.Reads.Asked widths.Reads.Learnt
widths-settled κs a x y v w ok p q = (agree p.0 q.0, refl)

pub put-line-settled : Settled put_line.Kinds.ps put_line.Kinds.r put_line.Reads.Asked put_line.Reads.Learnt
put-line-settled κs a x y v w ok p q = (agree p.0 q.0, lent (agree p.1 q.1) refl)

pub print-refusal-settled : Settled print_refusal.Kinds.ps print_refusal.Kinds.r print_refusal.Reads.Asked print_refusal.Reads.Learnt
print-refusal-settled κs a x y v w ok p q = (agree p.0 q.0, passed (passed (lent (agree p.1.0 q.1.0) refl)))
