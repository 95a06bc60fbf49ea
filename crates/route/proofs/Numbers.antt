-- A refusal is told by its number and place, and none has number 15, so that none is taken for an empty cell. Assumes nothing.
use Prim.Native.Nat.{ℕ, ◌*◌}
use mathlib.Core.Path.{◌≡◌, refl, sym, ap, ◌∙◌, subst}
use mathlib.Core.Bool.{true, false, cond, ◌||◌}
use mathlib.Core.List.{List, [], ◌∷◌}
use lib.ListN.{length}
use lib.Dec.{T, leb, ltb}
use Rattle.words.specs.Rows.{Row, Weighed, clear, refused, weigh}
use Rattle.words.proofs.Rows.{weigh-append, weigh-front, weigh-held, weigh-passed, weigh-none, either, refused-not-clear}
use Rattle.request.specs.Request.{Req, width, reach}
use Rattle.request.specs.Shape.{cells, label_count}
use Rattle.request.specs.Rows.{rows}
use Rattle.request.specs.Refusal.{number_of, place_of, refusal_of, Named}
use Rattle.request.specs.declared.Refusal.{Refusal}
use Rattle.request.specs.declared.Refusal.TheVariants.{Form, Nodes, Criteria, Source, Hops, Ratio, ArcWords, Arc, Loop, Buckets, Labels, Digits, Bytes, Room, Place, Chain}
use Rattle.request.proofs.Named.{named-of, rows-named}
use Rattle.rounds.specs.Rounds.{label_in}
use Rattle.rounds.specs.Label.{filled}
use Rattle.route.specs.Chain.{chain}
use Rattle.route.specs.Answer.{breaks, break_layer, back_rows, refusal}
use Rattle.route.specs.declared.Ending.TheVariants as ending

-- ---- a refusal is the ending of its number and place

pub refusal-named : (r : Refusal) → refusal (number_of r) (place_of r) ≡ ending.Refused r
unfolding refusal refusal_of
refusal-named (Form p) = refl
refusal-named Nodes = refl
refusal-named Criteria = refl
refusal-named Source = refl
refusal-named Hops = refl
refusal-named (Ratio p) = refl
refusal-named ArcWords = refl
refusal-named (Arc p) = refl
refusal-named (Loop p) = refl
refusal-named (Buckets p) = refl
refusal-named Labels = refl
refusal-named Digits = refl
refusal-named Bytes = refl
refusal-named (Room p) = refl
refusal-named Place = refl
refusal-named (Chain p) = refl

-- so its number is not an empty cell's
pub number-other : (r : Refusal) → number_of r ≡ 15 → ⊥
unfolding refusal
number-other r e =
    let q : ending.Empty ≡ ending.Refused r = ap (λ (n : ℕ). refusal n (place_of r)) (sym e) ∙ refusal-named r in cc

-- ---- no refusal of a request's own rows has number 15

pub early-number : (R : Req) (n p : ℕ) → weigh (rows R) ≡ refused n p → n ≡ 15 → ⊥
unfolding Named
early-number R n p w e = number-other (refusal_of n p) ((rows-named R n p w).0 ∙ e)

-- ---- the read-back's rows name refusals, but for row 15

-- what a table refuses with names a refusal or is an empty cell
unfoldable Told : List Row → Type 0
Told rs = (n p : ℕ) → weigh rs ≡ refused n p → (n ≡ 15 → ⊥) → Named n p

told-none : Told []
unfolding Told
told-none n p e h = absurd (refused-not-clear n p (sym e ∙ weigh-none))

told-row : (r : Row) (rs : List Row) → (T r.holds → (r.number ≡ 15 → ⊥) → Named r.number r.place) → Told rs → Told (r ∷ rs)
unfolding Told
told-row r rs h hs n p e o =
    either (Named n p) r.holds
    (λ t. same t (sym (weigh-held r rs t) ∙ e))
    (λ t. hs n p (sym (weigh-passed r rs t) ∙ e) o)
  where
    same : T r.holds → refused r.number r.place ≡ refused n p → Named n p
    same t q =
        let a : r.number ≡ n = cc in
        let b : r.place ≡ p = cc in
        subst (λ (z : ℕ). Named n z) b (subst (λ (z : ℕ). Named z r.place) a (h t (λ x. o (sym a ∙ x))))

pub back-named : (R : Req) (W : List ℕ) (room i v c n p : ℕ) → weigh (back_rows R W room i v c) ≡ refused n p → (n ≡ 15 → ⊥) → Named n p
unfolding back_rows Told
back-named R W room i v c n p e o = go (weigh (rows R)) refl
  where
    own : Told
        (record { number = 13; holds = ltb (length W) (label_count R * width R); place = 1 }
        ∷ record { number = 13; holds = ltb room (reach R); place = 2 }
        ∷ record { number = 14; holds = ltb R.hops i || leb R.nodes v || leb (cells R) c; place = 0 }
        ∷ record { number = 15; holds = cond (filled R (label_in R W i v c)) false true; place = 0 }
        ∷ record { number = 16; holds = breaks (chain R W i v c); place = break_layer (chain R W i v c) }
        ∷ [])
    own =
        told-row _ _ (λ _ _. named-of (Room 1))
        (told-row _ _ (λ _ _. named-of (Room 2))
        (told-row _ _ (λ _ _. named-of Place)
        (told-row _ _ (λ _ h. absurd (h refl))
        (told-row _ _ (λ _ _. named-of (Chain (break_layer (chain R W i v c)))) told-none))))

    go : (w : Weighed) → weigh (rows R) ≡ w → Named n p
    go clear q = own n p (sym (weigh-append (rows R) _ q) ∙ e) o
    go (refused m k) q =
        let f : refused m k ≡ refused n p = sym (weigh-front (rows R) _ m k q) ∙ e in
        rows-named R n p (q ∙ f)
