-- What each entry point's answer says is what its refusal table says: by the promises. Assumes nothing.
use Prim.Native.Nat.{ℕ}
use mathlib.Core.Path.{◌≡◌, refl, ap, ap₂, ◌∙◌}
use mathlib.Core.List.{List, [], ◌∷◌}
use lib.ListN.{length}
use Rattle.std.proofs.Common.{Result, Ok, Err}
use Rattle.words.specs.Rows.{Weighed, clear, refused, weigh}
use Rattle.request.specs.Request.{asked}
use Rattle.request.specs.Shape.{count, cells, label_count}
use Rattle.request.specs.Rows.{rows}
use Rattle.request.specs.Answer as request
use Rattle.request.specs.declared.Refusal.{Refusal}
use Rattle.request.specs.Refusal.{refusal_of, Named, answer}
use Rattle.request.proofs.Named.{NamedRows, rows-named}
use Rattle.sheet.specs.Grammar.{sheet_of}
use Rattle.sheet.specs.Reader as reader
use Rattle.sheet.specs.Writer as writer
use Rattle.sheet.specs.Answer.{refusal_said, told}
use Rattle.rounds.specs.Rounds.{tries}
use Rattle.table.specs.Build as table
use Rattle.table.specs.Build.{built_said}
use Rattle.route.specs.Chain.{chain}
use Rattle.route.specs.Answer as route
use Rattle.listing.specs.List as listing
use Rattle.demands.specs.Demands.{told_as}
use Rattle.demands.proofs.Named.{build-named, list-named, back-says}
use Rattle.promises.specs.Settled.{Promised}
use Rattle.promises.specs.Says.{says, says_or_empty, checked_said}
use Rattle.request.proofs.check
use Rattle.table.proofs.build
use Rattle.route.proofs.read_back as back
use Rattle.sheet.proofs.read
use Rattle.sheet.proofs.write
use Rattle.listing.proofs.list

-- ---- by what was weighed

-- number and place of the refusal that a row's number and place choose are these
refusal-by : (n p : ℕ) → Named n p → refusal_said (refusal_of n p) ≡ n ∷ p ∷ []
unfolding Named
refusal-by n p h = ap₂ (λ (x y : ℕ). x ∷ y ∷ []) h.0 h.1

-- a table whose refusals are refusals' numbers and places: the answer by it, and the count or shape of an answer
answer-by : {A : Type 0} (say : Result A Refusal → List ℕ) (x : A) (vs : List ℕ) → say (Ok x) ≡ 0 ∷ 0 ∷ vs → ((r : Refusal) → say (Err r) ≡ refusal_said r)
    → (w : Weighed) → ((n p : ℕ) → w ≡ refused n p → Named n p) → say (answer w x) ≡ says w vs
answer-by say x vs count refusal clear h = count
answer-by say x vs count refusal (refused n p) h = refusal (refusal_of n p) ∙ refusal-by n p (h n p refl)

told-by : (w : Weighed) (n : ℕ) → told w n ≡ says w (n ∷ [])
told-by clear n = refl
told-by (refused m p) n = refl

back_by : (w : Weighed) (n : ℕ) → ((m p : ℕ) → w ≡ refused m p → route.said (route.refusal m p) ≡ told_as m p) → route.said (route.ended w n) ≡ says_or_empty w (n ∷ [])
back_by clear n h = refl
back_by (refused m p) n h = h m p refl

-- ---- so by the promises

pub check-says : Promised check.Kinds.ps check.Kinds.r check.Reads.Learnt
    (λ κs a x. let R = asked a.0 a.1.0.now in checked_said x ≡ says (weigh (rows R)) (count R 0 ∷ count R 1 ∷ cells R ∷ label_count R ∷ []))
unfolding request.checked_of
check-says κs a x e p = let R = asked a.0 a.1.0.now in ap checked_said p ∙ answer-by checked_said (request.shape_of R) _ refl (λ r. refl) (weigh (rows R)) (rows-named R)

pub build-says : Promised build.Kinds.ps build.Kinds.r build.Reads.Learnt
    (λ κs a x. let R = asked a.0 a.1.0.now in built_said x ≡ says (weigh (table.build_rows R (length a.1.1.0.now) (length a.1.1.1.0.now))) (tries R a.0.hops ∷ []))
unfolding table.built_of NamedRows
build-says κs a x e p =
    let R = asked a.0 a.1.0.now in
    let l = length a.1.1.0.now in
    let w = length a.1.1.1.0.now in
    ap built_said p.0 ∙ answer-by built_said (tries R a.0.hops) _ refl (λ r. refl) (weigh (table.build_rows R l w)) (build-named R l w)

pub read-says : Promised read.Kinds.ps read.Kinds.r read.Reads.Learnt
    (λ κs a x. reader.said x ≡ says (weigh (reader.reader_rows a.0.now (length a.1.0.now))) (length (reader.words_of (sheet_of a.0.now)) ∷ []))
unfolding reader.read_says
read-says κs a x e p = p.0 ∙ told-by (weigh (reader.reader_rows a.0.now (length a.1.0.now))) (length (reader.words_of (sheet_of a.0.now)))

pub write-says : Promised write.Kinds.ps write.Kinds.r write.Reads.Learnt
    (λ κs a x. writer.writing_said x ≡ says (weigh (writer.writer_rows a.0 a.1.0.now (length a.1.1.0.now))) (length (writer.written a.0 a.1.0.now) ∷ []))
unfolding writer.write_says
write-says κs a x e p = p.0 ∙ told-by (weigh (writer.writer_rows a.0 a.1.0.now (length a.1.1.0.now))) (length (writer.written a.0 a.1.0.now))

pub list-says : Promised list.Kinds.ps list.Kinds.r list.Reads.Learnt
    (λ κs a x. listing.said x ≡ says (weigh (listing.list_rows a.0.now (length a.1.0.now))) (length (listing.listing_of (listing.asks a.0.now)) ∷ []))
unfolding listing.listed_of NamedRows
list-says κs a x e p =
    let n = length (listing.listing_of (listing.asks a.0.now)) in
    ap listing.said p.0 ∙ answer-by listing.said n _ refl (λ r. refl) (weigh (listing.list_rows a.0.now (length a.1.0.now))) (list-named a.0.now (length a.1.0.now))

-- of layer i, node v and cell c, with room for a route
pub read-back-says : Promised back.Kinds.ps back.Kinds.r back.Reads.Learnt
    (λ κs a x.
    let R = asked a.0 a.1.0.now in
    let W = a.1.1.0.now in
    let i = a.1.1.1.0 in
    let v = a.1.1.1.1.0 in
    let c = a.1.1.1.1.1.0 in
    route.said x.ending ≡ says_or_empty (weigh (route.back_rows R W (length a.1.1.1.1.1.1.0.now) i v c)) (length (route.arcs_of (chain R W i v c)) ∷ []))
unfolding route.ending_of
read-back-says κs a x e p =
    let R = asked a.0 a.1.0.now in
    let W = a.1.1.0.now in
    let i = a.1.1.1.0 in
    let v = a.1.1.1.1.0 in
    let c = a.1.1.1.1.1.0 in
    let room = length a.1.1.1.1.1.1.0.now in
    ap route.said p.0 ∙ back_by (weigh (route.back_rows R W room i v c)) (length (route.arcs_of (chain R W i v c))) (back-says R W room i v c)
