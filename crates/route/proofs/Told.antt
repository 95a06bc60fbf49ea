-- What an ending says tells which ending it is, and the promise leaves one answer. Assumes nothing.
use Prim.Native.Nat.{ℕ}
use mathlib.Core.Path.{◌≡◌, refl, sym, ap, ap₂, ◌∙◌}
use mathlib.Core.List.{List}
use Rattle.request.specs.Refusal.{number_of, place_of, refusal_of}
use Rattle.request.proofs.Named.{refusal-of}
use Rattle.route.specs.Answer.{said}
use Rattle.route.specs.declared.Ending.{Ending}
use Rattle.route.specs.declared.Ending.TheVariants as ending
use Rattle.route.specs.declared.Back.{Back}

-- two endings with the same number and values are one ending
pub said-one : (x y : Ending) → said x ≡ said y → x ≡ y
said-one (ending.Route n) (ending.Route m) e = let k : n ≡ m = cc in ap ending.Route k
said-one (ending.Route n) ending.Empty e = cc
said-one (ending.Route n) (ending.Refused r) e = cc
said-one ending.Empty (ending.Route m) e = cc
said-one ending.Empty ending.Empty e = refl
said-one ending.Empty (ending.Refused r) e = cc
said-one (ending.Refused r) (ending.Route m) e = cc
said-one (ending.Refused r) ending.Empty e = cc
said-one (ending.Refused r) (ending.Refused q) e =
    let n : number_of r ≡ number_of q = cc in
    let p : place_of r ≡ place_of q = cc in
    ap ending.Refused (sym (refusal-of r) ∙ ap₂ refusal_of n p ∙ refusal-of q)

-- an ending and its costs are the whole answer
pub one_answer : (x y : Back) → x.ending ≡ y.ending → x.costs ≡ y.costs → x ≡ y
one_answer x y e f = ap₂ (λ (a : Ending) (b : List ℕ). record { ending = a; costs = b }) e f
