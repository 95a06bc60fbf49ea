-- What the longer tables refuse with is a refusal's number and place, or the empty cell's. Assumes nothing.
use Prim.Native.Nat.{ℕ}
use mathlib.Core.Path.{◌≡◌, refl, ap₂}
use mathlib.Core.Bool.{Bool, true, false, cond}
use mathlib.Core.List.{List, [], ◌∷◌}
use lib.Dec.{eqb}
use borrow.Author.Tests.{eqb-false}
use Rattle.words.specs.Rows.{Row, refused, weigh}
use Rattle.request.specs.declared.Refusal.TheVariants.{Room}
use Rattle.request.specs.Request.{Req}
use Rattle.request.specs.Refusal.{number_of, place_of, refusal_of, Named}
use Rattle.request.specs.Rows.{rows}
use Rattle.request.proofs.Named.{NamedRows, named-of, named-none, named-row, named-++, rows-named}
use Rattle.sheet.specs.Reader.{form_rows}
use Rattle.sheet.proofs.Named.{form-named}
use Rattle.table.specs.Build.{build_rows}
use Rattle.route.specs.Answer.{back_rows, refusal, said}
use Rattle.route.specs.declared.Ending.TheVariants as ending
use Rattle.route.proofs.Numbers.{back-named}
use Rattle.listing.specs.List.{asks, request_rows, list_rows}
use Rattle.demands.specs.Demands.{told_as}

-- ---- the build's table and the listing's

pub build-named : (R : Req) (a b : ℕ) → NamedRows (build_rows R a b)
unfolding NamedRows build_rows
build-named R a b =
    named-++ (rows R) _ (λ n p. rows-named R n p) (named-row _ _ (λ _. named-of (Room 1)) (named-row _ _ (λ _. named-of (Room 2)) named-none))

asks-named : (R : Req) (room : ℕ) → NamedRows (request_rows R room)
unfolding NamedRows request_rows
asks-named R room =
    named-++ (rows R) _ (λ n p. rows-named R n p) (named-row _ _ (λ _. named-of (Room 2)) (named-row _ _ (λ _. named-of (Room 3)) named-none))

pub list-named : (s : List ℕ) (room : ℕ) → NamedRows (list_rows s room)
unfolding list_rows
list-named s room = named-++ (form_rows s) (request_rows (asks s) room) (form-named s) (asks-named (asks s) room)

-- so an answer by such a table that is a refusal says the number and place of the row
pub answer-says : (rs : List Row) (n p : ℕ) → NamedRows rs → weigh rs ≡ refused n p → number_of (refusal_of n p) ∷ place_of (refusal_of n p) ∷ [] ≡ n ∷ p ∷ []
unfolding NamedRows Named
answer-says rs n p h e = let k = h n p e in ap₂ (λ (x y : ℕ). x ∷ y ∷ []) k.0 k.1

-- ---- the read-back's, whose row 15 is no refusal

-- what refuses it is told by a refusal's number and place, or as an empty cell: the ending says it
pub back-says : (R : Req) (W : List ℕ) (room i v c n p : ℕ) → weigh (back_rows R W room i v c) ≡ refused n p → said (refusal n p) ≡ told_as n p
unfolding refusal Named
back-says R W room i v c n p e = go (eqb n 15) refl
  where
    go : (b : Bool) → eqb n 15 ≡ b → said (cond b ending.Empty (ending.Refused (refusal_of n p))) ≡ cond b (15 ∷ []) (n ∷ p ∷ [])
    go true q = refl
    go false q =
        let k = back-named R W room i v c n p e (eqb-false n 15 q) in ap₂ (λ (x y : ℕ). x ∷ y ∷ []) k.0 k.1
