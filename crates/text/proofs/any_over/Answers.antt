-- `any_over`: what `any` finds. Assumes nothing.
use Rattle.std.proofs.Common.{sym, ◌∙◌, ltb, rules}
use borrow.Author.Tests.{tests}
use Rattle.std.proofs.lemmas.Iterator.{YieldsList-from_slice}
use Rattle.std.proofs.lemmas.Iterator.Search.{any_from_yields_List}
use Rattle.text.specs.Number.{largest}
use Rattle.text.proofs.Numbers.{over-any}
use Rattle.text.proofs.any_over.Goals as goal

pub returns : goal.returns
returns c =
    let vs = c.args.vs.now in
    any_from_yields_List (ltb largest) _ _ _ c.any.ensures.ran (YieldsList-from_slice vs cc) (λ x b q k. search (rules, tests)) ∙ sym (over-any vs)
