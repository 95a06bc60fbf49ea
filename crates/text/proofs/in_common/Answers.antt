-- `in_common`: as many pairs of bytes as agree from the front on. Assumes nothing.
use Rattle.std.proofs.Common.{eqb, sym, ◌∙◌, rules}
use borrow.Author.Tests.{tests}
use Rattle.std.specs.List.{zip}
use Rattle.std.proofs.lemmas.List.Folds.{length-prefix_len}
use Rattle.std.proofs.lemmas.Iterator.{YieldsList-from_slice, YieldsList-from_zip}
use Rattle.std.proofs.lemmas.Iterator.Search.{YieldsList-from_take_while}
use Rattle.std.proofs.lemmas.Iterator.Consumers.{count_from_yields_List}
use Rattle.text.proofs.Fields.{common-zip}
use Rattle.text.proofs.in_common.Goals as goal

pub returns : goal.returns
returns c =
    let w = c.args.word.now in
    let l = c.args.line.now in
    let pairs = YieldsList-from_zip (YieldsList-from_slice l cc) (YieldsList-from_slice w cc) in
    count_from_yields_List c.take_while.result c.count.result c.count.ensures.ran
    (YieldsList-from_take_while _ (λ p. eqb p.0 p.1) pairs c.take_while.ensures.closure c.take_while.ensures.done (λ x b q k. search (rules, tests)))
    ∙ length-prefix_len (λ p. eqb p.0 p.1) (zip l w)
    ∙ sym (common-zip w l)
