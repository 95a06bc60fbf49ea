use Rattle.std.proofs.Common.{arith}
use Rattle.printout.specs.Printout.{printout_of}
use Rattle.printer.proofs.Fronts.{front-written}
use Rattle.printer.proofs.print.Goals as goal

pub returns-clause-written : goal.returns-clause-written
returns-clause-written g c =
    let front = front-written c.print_out-length.new.text _ (printout_of c.args.sheet.now) c.print_out-length.result c.print_out-length.ensures.text_after c.print_out-length.ensures.value.0 (omega (arith, c.print_out-length.ensures.value)) in
    rw front at c.write_all-written.ensures.bytes
