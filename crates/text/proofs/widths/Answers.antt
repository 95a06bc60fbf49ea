-- `widths`: the sum of what each number takes, which is at most eleven bytes. Assumes nothing.
use Rattle.std.proofs.Common.{◌≡◌, sym, ◌∙◌, arith, rules}
use Rattle.std.proofs.lemmas.Iterator.{YieldsList-from_slice, YieldsList-from_map}
use Rattle.std.proofs.lemmas.Iterator.Consumers.{sum_by_from_yields_List}
use Rattle.text.specs.Line.{parted_width}
use Rattle.text.proofs.Puts.{taken, width-sum, width-most}
use Rattle.text.proofs.widths.Goals as goal

pub returns : goal.returns
returns c =
    let vs = c.args.vs.now in
    let e : c.sum.result ≡ parted_width vs =
    sum_by_from_yields_List taken vs c.map.result c.sum.result c.sum.ensures.ran (YieldsList-from_map _ taken (YieldsList-from_slice vs cc) c.map.ensures.closure (λ x r q k. search rules))
    ∙ sym (width-sum vs) in
    record { value = e; upper_bound = omega (arith, e, width-most vs (λ k. (c.shared_slice_known-1.given k).fits)) }
