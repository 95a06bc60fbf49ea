-- `cut`: what stands before the first b that `position` finds. Assumes nothing.
use Rattle.std.proofs.Common.{◌∙◌, ◌≡◌, ℕ, Option, MatchOption, eqb, take, sym, subst, rules}
use borrow.Author.Tests.{tests}
use Rattle.std.specs.List.{position}
use Rattle.std.proofs.lemmas.Iterator.{YieldsList-from_slice}
use Rattle.std.proofs.lemmas.Iterator.Search.{position_from_yields_List}
use Rattle.text.specs.Field.{before}
use Rattle.text.proofs.Fields.{before-is}
use Rattle.text.proofs.cut.Goals as goal
use Rattle.text.proofs.cut.Goals.{After-position}

-- what was found
found : (c : After-position) → c.position.result ≡ position (λ x. eqb x c.args.b) c.args.s.now
found c = position_from_yields_List (λ x. eqb x c.args.b) _ _ c.position.result c.position.ensures.ran (YieldsList-from_slice c.args.s.now cc) (λ x b q k. search (rules, tests))

-- what has to be cut, by what was found
abbrev Cuts : After-position → Option ℕ → Type 0
Cuts c o = MatchOption o (c.args.s.now ≡ before c.args.b c.args.s.now) (λ n. take n c.args.s.now ≡ before c.args.b c.args.s.now)

pub returns-in-Some : goal.returns-in-Some
returns-in-Some c = let p = (goal.at.returns-in-Some c).After-position in subst (Cuts p) (sym (found p) ∙ c.in-Some.is) (before-is c.args.b c.args.s.now)

pub returns-in-None : goal.returns-in-None
returns-in-None c = let p = (goal.at.returns-in-None c).After-position in subst (Cuts p) (sym (found p) ∙ c.in-None.is) (before-is c.args.b c.args.s.now)
