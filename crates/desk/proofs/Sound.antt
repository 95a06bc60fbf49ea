-- Refusal tables whose refusals have room in a packed number. Assumes nothing.
use Prim.Native.Nat.{ℕ, zero, suc, ◌<◌}
use mathlib.Core.Path.{◌≡◌, refl, sym, ◌∙◌, subst}
use mathlib.Core.Bool.{Bool, true, not, ◌&&◌}
use mathlib.Core.List.{List, [], ◌∷◌, ◌++◌}
use native.Mathlib.Nat.{le_refl, le_step}
use native.Mathlib.Omega.{arith}
use lib.Dec.{T, ltb, ltb→lt}
use Rattle.words.specs.Loops.{up_to}
use Rattle.words.specs.Rows.{Row, Weighed, clear, refused, weigh, each}
use Rattle.words.proofs.Choices.{and_both}
use Rattle.words.proofs.Rows.{weigh-held, weigh-passed, weigh-none, either, refused-not-clear}
use Rattle.request.specs.Refusal.{refusal_of}
use Rattle.sheet.specs.Answer.{refusal_said}
use Rattle.desk.specs.Packed.{Answer}
use Rattle.desk.proofs.Numbers.{number-room, place-le}

-- a number from 1 on and a place, each with room
pub record Room (number place : ℕ) : Type 0 where
  pub some : 0 < number
  pub few : number < 65536
  pub near : place < 4294967296

-- each row's refusal has room, where it holds and no row before it does
abbrev pub Sound : List Row → Type 0
Sound [] = Unit {0}
Sound (r ∷ rs) = (T r.holds → Room r.number r.place) × (T (not r.holds) → Sound rs)

-- whether a number and a place have room
abbrev pub fitting : ℕ → ℕ → Bool
fitting number place = ltb 0 number && ltb number 65536 && ltb place 4294967296

-- so of those that are written out it is seen by looking
pub small-room : (number place : ℕ) → T (fitting number place) → Room number place
small-room number place t =
    let p = and_both (ltb 0 number && ltb number 65536) (ltb place 4294967296) t in
    let q = and_both (ltb 0 number) (ltb number 65536) p.0 in
    record { some = ltb→lt 0 number q.0; few = ltb→lt number 65536 q.1; near = ltb→lt place 4294967296 p.1 }

-- and of a table whose numbers and places are all written out, whichever rows hold
abbrev pub roomy : List Row → Bool
roomy [] = true
roomy (r ∷ rs) = fitting r.number r.place && roomy rs

pub sound-listed : (rs : List Row) → T (roomy rs) → Sound rs
sound-listed [] t = tt
sound-listed (r ∷ rs) t =
    let p = and_both (fitting r.number r.place) (roomy rs) t in
    (λ _. small-room r.number r.place p.0, λ _. sound-listed rs p.1)

-- so the answer's has
sound-refused : (rs : List Row) (n p : ℕ) → Sound rs → weigh rs ≡ refused n p → Room n p
sound-refused [] n p s e = absurd (refused-not-clear n p (sym e ∙ weigh-none))
sound-refused (r ∷ rs) n p s e =
    either (Room n p) r.holds
    (λ t. here (s.0 t) (sym (weigh-held r rs t) ∙ e))
    (λ t. sound-refused rs n p (s.1 t) (sym (weigh-passed r rs t) ∙ e))
  where
    here : Room r.number r.place → refused r.number r.place ≡ refused n p → Room n p
    here m q =
        let a : r.number ≡ n = cc in
        let b : r.place ≡ p = cc in
        record { some = omega (arith, m.some, a); few = omega (arith, m.few, a); near = omega (arith, m.near, b) }

-- one table after another, where the other may count on the first being clear
pub sound-append : (xs ys : List Row) → Sound xs → (weigh xs ≡ clear → Sound ys) → Sound (xs ++ ys)
sound-append [] ys s f = f weigh-none
sound-append (r ∷ xs) ys s f = (s.0, λ t. sound-append xs ys (s.1 t) (λ e. f (weigh-passed r xs t ∙ e)))

-- one whose numbers and places are written out
pub sound_more : (xs ys : List Row) → Sound xs → T (roomy ys) → Sound (xs ++ ys)
sound_more xs ys s t = sound-append xs ys s (λ _. sound-listed ys t)

-- a row for each number
pub sound-each : (f : ℕ → Row) (n : ℕ) → ((k : ℕ) → k < n → T (f k).holds → Room (f k).number (f k).place) → Sound (each f n)
unfolding each up_to
sound-each f zero h = tt
sound-each f (suc n) h = sound-append (each f n) (f n ∷ []) (sound-each f n (λ k l. h k (le_step l))) (λ _. (h n (le_refl (suc n)), λ _. tt))

-- what a call says of a table: a count where no row holds, else the refusal's number and place. It is an answer
pub table-answer : (say : Weighed → List ℕ) (n : ℕ) → say clear ≡ 0 ∷ 0 ∷ n ∷ [] → ((number place : ℕ) → Room number place → Answer (say (refused number place)))
    → (rs : List Row) → Sound rs → (weigh rs ≡ clear → n < 4294967296) → Answer (say (weigh rs))
unfolding Answer
table-answer say n count refusal rs s few = go (weigh rs) refl
  where
    go : (w : Weighed) → weigh rs ≡ w → Answer (say w)
    go clear e = subst Answer (sym count) (refl, refl, few e, refl)
    go (refused number place) e = refusal number place (sound-refused rs number place s e)

-- a row's number and place
pub refusal-said : (number place : ℕ) → Room number place → Answer (number ∷ place ∷ [])
unfolding Answer
refusal-said number place r = (r.some, r.few, r.near)

-- and the number and place of a row's refusal
pub refusal-answer : (number place : ℕ) → Room number place → Answer (refusal_said (refusal_of number place))
unfolding Answer
refusal-answer number place r =
    let n = number-room (refusal_of number place) in (n.0, n.1, omega (arith, r.near, place-le number place))
