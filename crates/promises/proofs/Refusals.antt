-- "A refused call leaves the lent buffers just as they came": by the promises, of the entry points and of the calls for C. Assumes nothing.
use Prim.Native.Nat.{ℕ}
use mathlib.Core.Path.{◌≡◌, refl, sym, ap, ◌∙◌, subst}
use mathlib.Core.List.{List, [], ◌∷◌}
use native.Mathlib.Omega.{arith}
use lib.ListN.{length}
use Rattle.words.specs.Rows.{Weighed, clear, refused, weigh, settle}
use Rattle.std.proofs.Common.{Err}
use Rattle.request.specs.declared.Refusal.{Refusal}
use Rattle.request.specs.Refusal.{number_of, place_of, answer}
use Rattle.words.specs.Pieces.{write}
use Rattle.request.specs.Request.{asked}
use Rattle.request.specs.Shape.{ladders}
use Rattle.rounds.specs.Rounds.{table, tries}
use Rattle.sheet.specs.Answer.{told}
use Rattle.sheet.specs.Grammar.{sheet_of}
use Rattle.sheet.specs.Reader as reader
use Rattle.sheet.specs.Writer as writer
use Rattle.table.specs.Build as build-of
use Rattle.table.specs.Build.{built_said}
use Rattle.route.specs.Chain.{chain}
use Rattle.route.specs.Answer as route
use Rattle.route.specs.declared.Ending.TheVariants as ending
use Rattle.listing.specs.List as listing
use Rattle.desk.specs.Packed.{Parts, unpack, packed, Answer}
use Rattle.desk.specs.Calls.{request_from, request_words, request_after, ending_said, costs_lent}
use Rattle.desk.proofs.Packing.{unpack-pack, count_small, packed-count}
use Rattle.desk.proofs.Answers.{read_answer, write-answer}
use Rattle.desk.proofs.Builds.{built-answer}
use Rattle.desk.proofs.Routes.{back-answer}
use Rattle.desk.proofs.Lists.{list-answer}
use Rattle.promises.specs.Settled.{Leaves}
use Rattle.promises.specs.Says.{IsRefused}
use Rattle.promises.proofs.Agree.{lent, passed}
use Rattle.table.proofs.build
use Rattle.route.proofs.read_back as back
use Rattle.sheet.proofs.read
use Rattle.sheet.proofs.write as writes
use Rattle.listing.proofs.list
use Rattle.desk.proofs.gowkaroo_read
use Rattle.desk.proofs.gowkaroo_write
use Rattle.desk.proofs.gowkaroo_build
use Rattle.desk.proofs.gowkaroo_read_back
use Rattle.desk.proofs.gowkaroo_list

-- ---- a table that is not clear leaves what came

came : {A : Type 0} (w : Weighed) (x y : A) → (w ≡ clear → ⊥) → settle w x y ≡ y
came clear x y h = absurd (h refl)
came (refused n p) x y h = refl

-- ---- and it is not clear where a refusal is answered: of each table

answer-refuses : {A : Type 0} (w : Weighed) (x : A) (f : Refusal) → answer w x ≡ Err f → w ≡ clear → ⊥
answer-refuses clear x f e q = let z : ◌≡◌ {A = ℕ} 0 1 = cc in absurd (omega arith)
answer-refuses (refused m p) x f e q = let z : ◌≡◌ {A = ℕ} 0 1 = cc in absurd (omega arith)

told-refuses : (w : Weighed) (n k p : ℕ) → k ∷ p ∷ [] ≡ told w n → w ≡ clear → ⊥
told-refuses w n k p e q = let z : ◌≡◌ {A = ℕ} 2 3 = ap length (e ∙ ap (λ (u : Weighed). told u n) q) in absurd (omega arith)

back-refuses : (w : Weighed) (n : ℕ) → ((k : ℕ) → route.ended w n ≡ ending.Route k → ⊥) → w ≡ clear → ⊥
back-refuses w n h q = h n (ap (λ (u : Weighed). route.ended u n) q)

-- ---- the entry points

-- both buffers of the build
pub build-leaves : Leaves build.Kinds.ps build.Kinds.r (λ κs a. (tt, (tt, (a.1.1.0.now, (a.1.1.1.0.now, tt))))) (λ κs x. (f : Refusal) × (x ≡ Err f)) build.Reads.Learnt
unfolding build-of.built_of build-of.ladders_after build-of.labels_after
build-leaves κs a x v p f =
    let R = asked a.0 a.1.0.now in
    let w = weigh (build-of.build_rows R (length a.1.1.0.now) (length a.1.1.1.0.now)) in
    let h : w ≡ clear → ⊥ = answer-refuses w (tries R a.0.hops) f.0 (sym p.0 ∙ f.1) in
    passed (passed (lent (p.1.0 ∙ came w (write a.1.1.0.now 0 (ladders R)) a.1.1.0.now h) (lent (p.1.1 ∙ came w (write a.1.1.1.0.now 0 (table R)) a.1.1.1.0.now h) refl)))

-- the reader's arc words
pub read-leaves : Leaves read.Kinds.ps read.Kinds.r (λ κs a. (tt, (a.1.0.now, tt))) (λ κs x. (f : Refusal) × (x ≡ Err f)) read.Reads.Learnt
unfolding reader.read_says reader.arcs_after
read-leaves κs a x v p f =
    let s = a.0.now in
    let w = weigh (reader.reader_rows s (length a.1.0.now)) in
    let h : w ≡ clear → ⊥ = told-refuses w (length (reader.words_of (sheet_of s))) (number_of f.0) (place_of f.0) (sym (ap reader.said f.1) ∙ p.0) in
    passed (lent (p.1.1 ∙ came w (write a.1.0.now 0 (reader.words_of (sheet_of s))) a.1.0.now h) refl)

-- the writer's bytes
pub write-leaves : Leaves writes.Kinds.ps writes.Kinds.r (λ κs a. (tt, (tt, (a.1.1.0.now, tt)))) (λ κs x. (f : Refusal) × (x ≡ Err f)) writes.Reads.Learnt
unfolding writer.write_says writer.sheet_after
write-leaves κs a x v p f =
    let w = weigh (writer.writer_rows a.0 a.1.0.now (length a.1.1.0.now)) in
    let h : w ≡ clear → ⊥ = told-refuses w (length (writer.written a.0 a.1.0.now)) (number_of f.0) (place_of f.0) (sym (ap writer.writing_said f.1) ∙ p.0) in
    passed (passed (lent (p.1 ∙ came w (write a.1.1.0.now 0 (writer.written a.0 a.1.0.now)) a.1.1.0.now h) refl))

-- the read-back's route buffer, where the ending is no route
pub read-back-leaves : Leaves back.Kinds.ps back.Kinds.r (λ κs a. (tt, (tt, (tt, (tt, (tt, (tt, (a.1.1.1.1.1.1.0.now, tt)))))))) (λ κs x. (k : ℕ) → x.ending ≡ ending.Route k → ⊥) back.Reads.Learnt
unfolding route.ending_of route.route_after
read-back-leaves κs a x v p f =
    let R = asked a.0 a.1.0.now in
    let W = a.1.1.0.now in
    let b = a.1.1.1.1.1.1.0.now in
    let ws = route.arcs_of (chain R W a.1.1.1.0 a.1.1.1.1.0 a.1.1.1.1.1.0) in
    let w = weigh (route.back_rows R W (length b) a.1.1.1.0 a.1.1.1.1.0 a.1.1.1.1.1.0) in
    let h : w ≡ clear → ⊥ = back-refuses w (length ws) (λ k e. f k (p.0 ∙ e)) in
    passed (passed (passed (passed (passed (passed (lent (p.1.1 ∙ came w (write b 0 ws) b h) refl))))))

-- the listing's bytes
pub list-leaves : Leaves list.Kinds.ps list.Kinds.r (λ κs a. (tt, (a.1.0.now, tt))) (λ κs x. (f : Refusal) × (x ≡ Err f)) list.Reads.Learnt
unfolding listing.listed_of listing.listing_after
list-leaves κs a x v p f =
    let s = a.0.now in
    let text = listing.listing_of (listing.asks s) in
    let w = weigh (listing.list_rows s (length a.1.0.now)) in
    let h : w ≡ clear → ⊥ = answer-refuses w (length text) f.0 (sym p.0 ∙ f.1) in
    passed (lent (p.1 ∙ came w (write a.1.0.now 0 text) a.1.0.now h) refl)

-- ---- the calls for C

-- a count's number is 0
no-count : (x : ℕ) (ans : List ℕ) → Answer ans → x ≡ packed ans → IsRefused x → (n : ℕ) → ans ≡ 0 ∷ 0 ∷ n ∷ [] → ⊥
no-count x ans ok e pos n q =
    let few = count_small n (subst Answer q ok) in
    let z : (unpack x).number ≡ 0 =
    ap (λ (y : ℕ). (unpack y).number) (e ∙ ap packed q ∙ sym (packed-count n)) ∙ ap (λ (t : Parts). t.number) (unpack-pack 0 0 n (omega arith) (omega arith) few) in
    absurd (omega (arith, pos, z))

-- the request's eight words and the arc words
pub gowkaroo-read-leaves : Leaves gowkaroo_read.Kinds.ps gowkaroo_read.Kinds.r (λ κs a. (tt, (a.1.0.now, (a.1.1.0.now, tt)))) (λ κs x. IsRefused x) gowkaroo_read.Reads.Learnt
unfolding reader.read_says reader.arcs_after request_after
gowkaroo-read-leaves κs a x v p f =
    let s = a.0.now in
    let room = length a.1.1.0.now in
    let n = length (reader.words_of (sheet_of s)) in
    let w = weigh (reader.reader_rows s room) in
    let h : w ≡ clear → ⊥ = λ q. no-count x (told w n) (read_answer s room) p.0 f n (ap (λ (u : Weighed). told u n) q) in
    passed (lent (p.1.0 ∙ came w (request_words (reader.read_request s room)) a.1.0.now h) (lent (p.1.1 ∙ came w (write a.1.1.0.now 0 (reader.words_of (sheet_of s))) a.1.1.0.now h) refl))

-- the sheet's bytes
pub gowkaroo-write-leaves : Leaves gowkaroo_write.Kinds.ps gowkaroo_write.Kinds.r (λ κs a. (tt, (tt, (a.1.1.0.now, tt)))) (λ κs x. IsRefused x) gowkaroo_write.Reads.Learnt
unfolding writer.write_says writer.sheet_after
gowkaroo-write-leaves κs a x v p f =
    let r = request_from a.0.now in
    let room = length a.1.1.0.now in
    let text = writer.written r a.1.0.now in
    let w = weigh (writer.writer_rows r a.1.0.now room) in
    let h : w ≡ clear → ⊥ = λ q. no-count x (told w (length text)) (write-answer r a.1.0.now room) p.0 f (length text) (ap (λ (u : Weighed). told u (length text)) q) in
    passed (passed (lent (p.1 ∙ came w (write a.1.1.0.now 0 text) a.1.1.0.now h) refl))

-- the ladders and the labels
pub gowkaroo-build-leaves : Leaves gowkaroo_build.Kinds.ps gowkaroo_build.Kinds.r (λ κs a. (tt, (tt, (a.1.1.0.now, (a.1.1.1.0.now, tt))))) (λ κs x. IsRefused x) gowkaroo_build.Reads.Learnt
unfolding build-of.built_of build-of.ladders_after build-of.labels_after
gowkaroo-build-leaves κs a x v p f =
    let q = request_from a.0.now in
    let R = asked q a.1.0.now in
    let n = tries R q.hops in
    let w = weigh (build-of.build_rows R (length a.1.1.0.now) (length a.1.1.1.0.now)) in
    let h : w ≡ clear → ⊥ = λ e. no-count x (built_said (answer w n)) (built-answer q a.1.0.now (length a.1.1.0.now) (length a.1.1.1.0.now)) p.0 f n (ap (λ (u : Weighed). built_said (answer u n)) e) in
    passed (passed (lent (p.1.0 ∙ came w (write a.1.1.0.now 0 (ladders R)) a.1.1.0.now h) (lent (p.1.1 ∙ came w (write a.1.1.1.0.now 0 (table R)) a.1.1.1.0.now h) refl)))

-- the three words of costs and the route
pub gowkaroo-read-back-leaves : Leaves gowkaroo_read_back.Kinds.ps gowkaroo_read_back.Kinds.r (λ κs a. (tt, (tt, (tt, (tt, (tt, (tt, (a.1.1.1.1.1.1.0.now, (a.1.1.1.1.1.1.1.0.now, tt))))))))) (λ κs x. IsRefused x) gowkaroo_read_back.Reads.Learnt
unfolding route.ending_of route.route_after costs_lent
gowkaroo-read-back-leaves κs a x v p f =
    let q = request_from a.0.now in
    let R = asked q a.1.0.now in
    let W = a.1.1.0.now in
    let i = a.1.1.1.0 in
    let u = a.1.1.1.1.0 in
    let c = a.1.1.1.1.1.0 in
    let costs = a.1.1.1.1.1.1.0.now in
    let b = a.1.1.1.1.1.1.1.0.now in
    let ws = route.arcs_of (chain R W i u c) in
    let w = weigh (route.back_rows R W (length b) i u c) in
    let h : w ≡ clear → ⊥ = λ e. no-count x (ending_said (route.ended w (length ws))) (back-answer q a.1.0.now W (length b) i u c) p.0 f (length ws) (ap (λ (z : Weighed). ending_said (route.ended z (length ws))) e) in
    passed (passed (passed (passed (passed (passed (lent (p.1.0 ∙ came w (route.costs_after R W (length b) i u c) costs h) (lent (p.1.1 ∙ came w (write b 0 ws) b h) refl)))))))

-- the listing's bytes
pub gowkaroo-list-leaves : Leaves gowkaroo_list.Kinds.ps gowkaroo_list.Kinds.r (λ κs a. (tt, (a.1.0.now, tt))) (λ κs x. IsRefused x) gowkaroo_list.Reads.Learnt
unfolding listing.listed_of listing.listing_after
gowkaroo-list-leaves κs a x v p f =
    let s = a.0.now in
    let text = listing.listing_of (listing.asks s) in
    let w = weigh (listing.list_rows s (length a.1.0.now)) in
    let h : w ≡ clear → ⊥ = λ q. no-count x (listing.said (answer w (length text))) (list-answer s (length a.1.0.now)) p.0 f (length text) (ap (λ (u : Weighed). listing.said (answer u (length text))) q) in
    passed (lent (p.1 ∙ came w (write a.1.0.now 0 text) a.1.0.now h) refl)
