use Rattle.lister.proofs.Whole.{lists}
use Rattle.lister.proofs.list.Goals as goal

pub returns : goal.returns
returns g c =
    let read = c.in_ok-n.ensures in
    lists c.print.result.written (g.R.Read.remaining c.args.input.now) (g.R.Read.remaining c.read_full.new.input) (g.W.Write.contents c.args.out.now) (g.W.Write.contents c.print.new.out)
    c.read_full.new.bytes c.in_ok-n.n c.read_full.auto.bytes read.fits read.read read.all c.print.ensures.written
