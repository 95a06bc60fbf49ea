-- `byte_count`: the widths of the numbers, and the words and LFs around them. Assumes nothing.
use mathlib.Core.Path.{ap}
use native.Mathlib.Omega.{arith}
use Rattle.text.specs.Line.{parted_width}
use Rattle.sheet.proofs.Lengths.{written-length}
use Rattle.sheet.proofs.Puts.{asks-are}
use Rattle.sheet.proofs.writer.Content.byte_count.Goals as goal

pub returns-clause-value : goal.returns-clause-value
returns-clause-value c = let r = c.args.self.now.request in
    let a = ap parted_width (asks-are r _ c.asks-v.ensures) in
    omega (arith, written-length r c.args.self.now.arcs.now c.args.self.now.ranged, c.widths-3.ensures.value, c.widths-2.ensures.value, c.widths.ensures.value, a)
