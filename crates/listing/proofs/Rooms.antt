-- "arc and ladder room that always suffices": what a sheet can ask of it, and that the tries fit a word. Assumes nothing.
use Prim.Native.Nat.{ℕ, ◌+◌, ◌-◌, ◌*◌, ◌≤◌, ◌<◌, zero-le}
use mathlib.Core.Path.{◌≡◌, refl, sym, ap, ◌∙◌}
use mathlib.Core.List.{List}
use native.Mathlib.Nat.{le_refl, le_trans, le_of_eq, mul-le-mul, mul-le-mul_right, mul_assoc, mul_comm, one-mul}
use native.Mathlib.Omega.{arith}
use lib.ListN.{length}
use Rattle.words.specs.Loops.{total}
use Rattle.words.proofs.Loops.{total-le}
use Rattle.request.specs.declared.Request.{Request}
use Rattle.request.specs.Request.{Req, asked, arc_count}
use Rattle.request.specs.Shape.{buckets, ladders, ladder_at, cells, label_count}
use Rattle.request.specs.Accepted.{Accepted, Regular, Small, Fits}
use Rattle.request.proofs.Accepted.{accepted-small, accepted-fits}
use Rattle.request.proofs.Ladders.{ladders-length}
use Rattle.sheet.specs.Grammar.{Contents, whole, broken, sheet_of}
use Rattle.sheet.specs.Reader.{words_of}
use Rattle.sheet.proofs.First.{sheetable}
use Rattle.rounds.specs.Rounds.{tries}
use Rattle.rounds.proofs.Tries.{tries-le}

-- THE ARC ROOM: 512 arcs of five words; the reader's 13 cannot be
pub words-few : (s : List ℕ) → length (words_of (sheet_of s)) ≤ 2560
words-few s = go (sheet_of s) refl
  where
    go : (k : Contents) → sheet_of s ≡ k → length (words_of (sheet_of s)) ≤ 2560
    go (broken j) e = le_trans (le_of_eq (ap (λ (x : Contents). length (words_of x)) e)) zero-le
    go (whole n d m words asks) e =
        let t = sheetable n d m s words asks e in
        let w : d + 2 ≤ 5 = omega (arith, t.at_most) in
        omega (arith, ap (λ (x : Contents). length (words_of x)) e, t.arc_words, mul-le-mul t.arcs w)

-- THE LADDER ROOM: two ladders of 4,097 numbers; the build's 13 with place 1 cannot be
pub ladders-few : (q : Request) (arcs : List ℕ) → Accepted (asked q arcs) → length (ladders (asked q arcs)) ≤ 8194
unfolding ladder_at
ladders-few q arcs ok =
    let R : Req = asked q arcs in
    let d = (accepted-small R ok).three in
    let one : (j : ℕ) → j < q.criteria - 1 → buckets R j + 1 ≤ 4097 = λ j l. let b = (accepted-fits R ok).buckets_few j l in omega arith in
    let h : total (λ j. buckets R j + 1) (q.criteria - 1) ≤ (q.criteria - 1) * 4097 = total-le (λ j. buckets R j + 1) 4097 (q.criteria - 1) one in
    omega (arith, ladders-length R)

-- the rounds over a layer's cells are among the labels
rounds-few : (k n C : ℕ) → 1 ≤ n → k * C ≤ (k + 1) * (n * C)
rounds-few k n C h =
    let a : 1 * C ≤ n * C = mul-le-mul_right C h in
    let b : k * C ≤ k * (n * C) = mul-le-mul (le_refl k) (le_trans (le_of_eq (sym (one-mul C))) a) in
    let c : k * (n * C) ≤ (k + 1) * (n * C) = mul-le-mul_right (n * C) (more k) in
    omega arith
  where
    more : (k : ℕ) → k ≤ k + 1
    more k = omega arith

-- THE TRIES are at most 2^29
pub tries-few : (R : Req) → Regular R → Small R → Fits R → tries R R.hops ≤ 536870912
unfolding label_count
tries-few R ok small fits =
    let K = R.hops in
    let M = arc_count R in
    let C = cells R in
    let e : K * (M * C) ≡ M * (K * C) = sym (mul_assoc K M C) ∙ ap (λ (x : ℕ). x * C) (mul_comm K M) ∙ mul_assoc M K C in
    let n : 1 ≤ R.nodes = some ok.source_in in
    let h : K * C ≤ 1048576 = le_trans (rounds-few K R.nodes C n) fits.labels_few in
    let g : M * (K * C) ≤ 512 * 1048576 = mul-le-mul small.arcs_few h in
    omega (arith, tries-le R K)
  where
    some : {s n : ℕ} → s < n → 1 ≤ n
    some h = omega arith
