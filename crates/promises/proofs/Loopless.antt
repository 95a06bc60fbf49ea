-- Request (f) by the promises: what is answered to a request with a track from a camp to itself is a refusal, and where that is the first fault, number
-- and place are 17 and the arc. Of the entry points and of the calls for C. Assumes nothing.
use Prim.Native.Nat.{ℕ}
use mathlib.Core.Path.{◌≡◌, refl, sym, ap, ◌∙◌}
use mathlib.Core.Bool.{Bool, true, false, cond}
use mathlib.Core.List.{List, [], ◌∷◌, ◌++◌, append-nil}
use native.Mathlib.Omega.{arith}
use lib.ListN.{length}
use lib.Dec.{eqb}
use Rattle.words.specs.Rows.{Row, Weighed, clear, refused, weigh}
use Rattle.words.proofs.Rows.{weigh-append, weigh-front, weigh-clear-front, weigh-clear-back}
use Rattle.request.specs.Request.{Req, asked}
use Rattle.request.specs.Rows.{rows}
use Rattle.request.specs.Refusal.{number_of, place_of, refusal_of, answer}
use Rattle.request.specs.Shape.{count, cells, label_count}
use Rattle.request.specs.Accepted.{Accepted, Loopless}
use Rattle.request.proofs.Accepted.{accepted-loopless, first-loop}
use Rattle.sheet.specs.Reader.{form_rows}
use Rattle.rounds.specs.Rounds.{tries}
use Rattle.table.specs.Build as table
use Rattle.table.specs.Build.{built_said}
use Rattle.route.specs.Chain.{chain}
use Rattle.route.specs.Answer as route
use Rattle.route.specs.declared.Ending.TheVariants as ending
use Rattle.route.proofs.Promises.{empty-accepted}
use Rattle.listing.specs.List as listing
use Rattle.desk.specs.Packed.{answer_of}
use Rattle.desk.specs.Calls.{request_from, ending_said}
use Rattle.desk.proofs.Told.{build-told, back-told, list-told}
use Rattle.promises.specs.Settled.{Promised}
use Rattle.promises.specs.Says.{says, says_or_empty, checked_said}
use Rattle.promises.specs.Loopless.{RefusesLoops}
use Rattle.promises.proofs.Says.{check-says, build-says, read-back-says, list-says}
use Rattle.request.proofs.check
use Rattle.table.proofs.build
use Rattle.route.proofs.read_back as back
use Rattle.listing.proofs.list
use Rattle.desk.proofs.gowkaroo_build
use Rattle.desk.proofs.gowkaroo_read_back
use Rattle.desk.proofs.gowkaroo_list

-- ---- by what was weighed

-- how an answer says what was weighed: a refusal 17 as it is, and no refusal as a count
record Tells (f : Weighed → List ℕ) : Type 0 where
  seventeen : (a : ℕ) → f (refused 17 a) ≡ 17 ∷ a ∷ []
  no-count : (n p v : ℕ) (vs : List ℕ) → f (refused n p) ≡ 0 ∷ 0 ∷ v ∷ vs → ⊥

-- number and place are no count
two-words : (n p v : ℕ) (vs : List ℕ) → n ∷ p ∷ [] ≡ 0 ∷ 0 ∷ v ∷ vs → ⊥
two-words n p v vs e = absurd (omega (arith, ap (length {A = ℕ}) e))

says-tells : (vs : List ℕ) → Tells (λ w. says w vs)
says-tells vs = record { seventeen = λ a. refl; no-count = two-words }

says-or-empty-tells : (vs : List ℕ) → Tells (λ w. says_or_empty w vs)
says-or-empty-tells vs = record { seventeen = λ a. refl; no-count = λ n p v us. go n p v us (eqb n 15) }
  where
    go : (n p v : ℕ) (us : List ℕ) (b : Bool) → cond b (15 ∷ []) (n ∷ p ∷ []) ≡ 0 ∷ 0 ∷ v ∷ us → ⊥
    go n p v us true e = absurd (omega (arith, ap (length {A = ℕ}) e))
    go n p v us false e = two-words n p v us e

ending-tells : (k : ℕ) → Tells (λ w. ending_said (route.ended w k))
unfolding route.refusal refusal_of
ending-tells k = record { seventeen = λ a. refl; no-count = λ n p v us. go n p v us (eqb n 15) }
  where
    go : (n p v : ℕ) (us : List ℕ) (b : Bool) → ending_said (cond b ending.Empty (ending.Refused (refusal_of n p))) ≡ 0 ∷ 0 ∷ v ∷ us → ⊥
    go n p v us true e = two-words 15 0 v us e
    go n p v us false e = two-words (number_of (refusal_of n p)) (place_of (refusal_of n p)) v us e

-- the request's own rows were weighed, after those before them and before those behind them
module _ (f : Weighed → List ℕ) (tells : Tells f) (before behind : List Row) (R : Req) where
  is-clear : (w : Weighed) (v : ℕ) (vs : List ℕ) → f w ≡ 0 ∷ 0 ∷ v ∷ vs → w ≡ clear
  is-clear clear v vs e = refl
  is-clear (refused n p) v vs e = absurd (tells.no-count n p v vs e)

  loops-refused : (said : List ℕ) → said ≡ f (weigh (before ++ (rows R ++ behind))) → RefusesLoops before R said
  unfolding Accepted
  loops-refused said e = record {
    answered = λ v vs z. accepted-loopless R (weigh-clear-front (rows R) behind (weigh-clear-back before (rows R ++ behind) (is-clear (weigh (before ++ (rows R ++ behind))) v vs (sym e ∙ z))));
    refuses = λ c a h. e ∙ ap f (weigh-append before (rows R ++ behind) c ∙ weigh-front (rows R) behind 17 a (first-loop R a h)) ∙ tells.seventeen a;
  }

-- ---- the entry points

pub check-refuses-loops : Promised check.Kinds.ps check.Kinds.r check.Reads.Learnt (λ κs a x. RefusesLoops [] (asked a.0 a.1.0.now) (checked_said x))
check-refuses-loops κs a x e p =
    let R = asked a.0 a.1.0.now in
    let vs = count R 0 ∷ count R 1 ∷ cells R ∷ label_count R ∷ [] in
    loops-refused (λ w. says w vs) (says-tells vs) [] [] R (checked_said x) (check-says κs a x e p ∙ ap (λ (rs : List Row). says (weigh rs) vs) (sym (append-nil (rows R))))

pub build-refuses-loops : Promised build.Kinds.ps build.Kinds.r build.Reads.Learnt (λ κs a x. RefusesLoops [] (asked a.0 a.1.0.now) (built_said x))
unfolding table.build_rows
build-refuses-loops κs a x e p =
    let R = asked a.0 a.1.0.now in
    let vs = tries R a.0.hops ∷ [] in
    loops-refused (λ w. says w vs) (says-tells vs) [] _ R (built_said x) (build-says κs a x e p)

-- on any words for a table and any asked place
pub read-back-refuses-loops : Promised back.Kinds.ps back.Kinds.r back.Reads.Learnt (λ κs a x. RefusesLoops [] (asked a.0 a.1.0.now) (route.said x.ending))
unfolding route.back_rows
read-back-refuses-loops κs a x e p =
    let R = asked a.0 a.1.0.now in
    let vs = length (route.arcs_of (chain R a.1.1.0.now a.1.1.1.0 a.1.1.1.1.0 a.1.1.1.1.1.0)) ∷ [] in
    loops-refused (λ w. says_or_empty w vs) (says-or-empty-tells vs) [] _ R (route.said x.ending) (read-back-says κs a x e p)

-- nor is it told an empty cell, which is no refusal
pub read-back-empty-loopless : Promised back.Kinds.ps back.Kinds.r back.Reads.Learnt (λ κs a x. x.ending ≡ ending.Empty → Loopless (asked a.0 a.1.0.now))
read-back-empty-loopless κs a x e p z =
    let R = asked a.0 a.1.0.now in
    accepted-loopless R (empty-accepted R a.1.1.0.now (length a.1.1.1.1.1.1.0.now) a.1.1.1.0 a.1.1.1.1.0 a.1.1.1.1.1.0 (sym p.0 ∙ z))

-- of a sheet in form
pub list-refuses-loops : Promised list.Kinds.ps list.Kinds.r list.Reads.Learnt (λ κs a x. RefusesLoops (form_rows a.0.now) (listing.asks a.0.now) (listing.said x))
unfolding listing.list_rows listing.request_rows
list-refuses-loops κs a x e p =
    let s = a.0.now in
    let vs = length (listing.listing_of (listing.asks s)) ∷ [] in
    loops-refused (λ w. says w vs) (says-tells vs) (form_rows s) _ (listing.asks s) (listing.said x) (list-says κs a x e p)

-- ---- the calls for C

pub gowkaroo-build-refuses-loops : Promised gowkaroo_build.Kinds.ps gowkaroo_build.Kinds.r gowkaroo_build.Reads.Learnt
    (λ κs a x. RefusesLoops [] (asked (request_from a.0.now) a.1.0.now) (answer_of x))
unfolding table.built_of table.build_rows refusal_of
gowkaroo-build-refuses-loops κs a x e p =
    let q = request_from a.0.now in
    let R = asked q a.1.0.now in
    let n = tries R q.hops in
    loops-refused (λ w. built_said (answer w n)) (record { seventeen = λ b. refl; no-count = λ m p. two-words (number_of (refusal_of m p)) (place_of (refusal_of m p)) }) [] _ R (answer_of x)
    (ap answer_of p.0 ∙ build-told q a.1.0.now (length a.1.1.0.now) (length a.1.1.1.0.now))

pub gowkaroo-read-back-refuses-loops : Promised gowkaroo_read_back.Kinds.ps gowkaroo_read_back.Kinds.r gowkaroo_read_back.Reads.Learnt
    (λ κs a x. RefusesLoops [] (asked (request_from a.0.now) a.1.0.now) (answer_of x))
unfolding route.ending_of route.back_rows
gowkaroo-read-back-refuses-loops κs a x e p =
    let q = request_from a.0.now in
    let R = asked q a.1.0.now in
    let W = a.1.1.0.now in
    let i = a.1.1.1.0 in
    let v = a.1.1.1.1.0 in
    let c = a.1.1.1.1.1.0 in
    let n = length (route.arcs_of (chain R W i v c)) in
    loops-refused (λ w. ending_said (route.ended w n)) (ending-tells n) [] _ R (answer_of x)
    (ap answer_of p.0 ∙ back-told q a.1.0.now W (length a.1.1.1.1.1.1.1.0.now) i v c)

-- of a sheet in form
pub gowkaroo-list-refuses-loops : Promised gowkaroo_list.Kinds.ps gowkaroo_list.Kinds.r gowkaroo_list.Reads.Learnt
    (λ κs a x. RefusesLoops (form_rows a.0.now) (listing.asks a.0.now) (answer_of x))
unfolding listing.listed_of listing.list_rows listing.request_rows refusal_of
gowkaroo-list-refuses-loops κs a x e p =
    let s = a.0.now in
    let n = length (listing.listing_of (listing.asks s)) in
    loops-refused (λ w. listing.said (answer w n)) (record { seventeen = λ b. refl; no-count = λ m p. two-words (number_of (refusal_of m p)) (place_of (refusal_of m p)) }) (form_rows s) _ (listing.asks s) (answer_of x)
    (ap answer_of p.0 ∙ list-told s (length a.1.0.now))
