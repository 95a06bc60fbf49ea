-- The arcs of a whole sheet: how the lines give their words, one arc after another. Assumes nothing.
use Prim.Native.Nat.{ℕ, ◌+◌, ◌*◌, ◌≤◌, ◌<◌}
use mathlib.Core.Path.{◌≡◌, refl, ap, sym, ◌∙◌}
use mathlib.Core.List.{List, [], ◌∷◌, ◌++◌}
use mathlib.Core.Bool.{Bool, true, false, cond}
use mathlib.Core.Logic.{◌⊎◌, inl, inr, ⊎_elim}
use native.Mathlib.Omega.{arith}
use native.Mathlib.Nat.{add-mul, one-mul}
use lib.ListN.{length, drop, length-append}
use lib.Dec.{ltb, eqb}
use borrow.Author.Tests.{ltb-true}
use Rattle.words.specs.Bounds.{AtMost}
use Rattle.words.proofs.Choices.{lt-or-le}
use Rattle.words.proofs.Bounds.{at_most-none, at_most-append}
use Rattle.text.specs.Field.{before}
use Rattle.text.specs.Number.{largest}
use Rattle.text.specs.Line.{Got, good, bad}
use Rattle.text.proofs.Written.{line_of-was}
use Rattle.sheet.specs.Grammar.{lf, tab, arc_word, ask_word, arc_line, ask_line, Kind, an_arc, an_ask, neither, or_ask, arc_or, kind_of, Contents, whole, broken, judge, lines_from}
use Rattle.sheet.proofs.Scan.{lines_at, lines-last}

-- a line that is an arc is one by the line's own form
kind-arc : (d m : ℕ) (l vs : List ℕ) → kind_of d m l ≡ an_arc vs → (arc_line d l ≡ good vs) × (m < 512)
unfolding kind_of
kind-arc d m l vs e = go (ltb m 512) refl (arc_line d l) (ask_line d l) e
  where
    none : (h : Got) → or_ask h ≡ an_arc vs → ⊥
    none (good us) e = let z : ◌≡◌ {A = ℕ} 0 1 = cc in omega arith
    none (bad j us) e = let z : ◌≡◌ {A = ℕ} 0 1 = cc in omega arith

    go : (t : Bool) → ltb m 512 ≡ t → (g h : Got) → arc_or (cond t g (bad 0 [])) (or_ask h) ≡ an_arc vs → (g ≡ good vs) × (m < 512)
    go true b (good us) h e = let q : us ≡ vs = cc in (ap good q, ltb-true m 512 b)
    go true b (bad j us) h e = absurd (none h e)
    go false b g h e = absurd (none h e)

-- and so is one that is the ask
pub kind-ask : (d m : ℕ) (l vs : List ℕ) → kind_of d m l ≡ an_ask vs → ask_line d l ≡ good vs
unfolding kind_of
kind-ask d m l vs e = go (cond (ltb m 512) (arc_line d l) (bad 0 [])) (ask_line d l) e
  where
    go : (g h : Got) → arc_or g (or_ask h) ≡ an_ask vs → h ≡ good vs
    go (good us) h e = let z : ◌≡◌ {A = ℕ} 0 1 = cc in absurd (omega arith)
    go (bad j ts) (good us) e = let q : us ≡ vs = cc in ap good q
    go (bad j ts) (bad i us) e = let z : ◌≡◌ {A = ℕ} 0 1 = cc in absurd (omega arith)

-- what a judged line was, where the sheet is whole
pub record ArcNext (g : Kind) (rest : Contents) (n d m : ℕ) (ws asks : List ℕ) : Type 0 where
  pub vs : List ℕ
  pub more : List ℕ
  pub arc : g ≡ an_arc vs
  pub after : rest ≡ whole n d m more asks
  pub words : ws ≡ vs ++ more

-- or it was the ask, with nothing after it
pub record AskLast (g : Kind) (cs : List ℕ) (n d m : ℕ) (n' d' m' : ℕ) (ws asks : List ℕ) : Type 0 where
  pub ask : g ≡ an_ask asks
  pub ends : cs ≡ []
  pub nodes : n ≡ n'
  pub criteria : d ≡ d'
  pub arcs : m ≡ m'
  pub words : ws ≡ []

-- one of the two
pub judge-was : (g : Kind) (n d m k : ℕ) (cs : List ℕ) (rest : Contents) (n' d' m' : ℕ) (ws asks : List ℕ)
    → judge g n d m k cs rest ≡ whole n' d' m' ws asks → ArcNext g rest n' d' m' ws asks ⊎ AskLast g cs n d m n' d' m' ws asks
judge-was (an_arc vs) n d m k cs (whole n₁ d₁ m₁ ws₁ a₁) n' d' m' ws asks e =
    let q : whole n₁ d₁ m₁ ws₁ a₁ ≡ whole n' d' m' ws₁ asks = cc in
    let w : vs ++ ws₁ ≡ ws = cc in
    inl (record { vs = vs; more = ws₁; arc = refl; after = q; words = sym w })
judge-was (an_arc vs) n d m k cs (broken j) n' d' m' ws asks e = let z : ◌≡◌ {A = ℕ} 0 1 = cc in absurd (omega arith)
judge-was (an_ask vs) n d m k [] rest n' d' m' ws asks e =
    let a : n ≡ n' = cc in
    let b : d ≡ d' = cc in
    let c : m ≡ m' = cc in
    let w : [] ≡ ws = cc in
    let v : vs ≡ asks = cc in
    inr (record { ask = ap an_ask v; ends = refl; nodes = a; criteria = b; arcs = c; words = sym w })
judge-was (an_ask vs) n d m k (c ∷ cs) rest n' d' m' ws asks e = let z : ◌≡◌ {A = ℕ} 0 1 = cc in absurd (omega arith)
judge-was neither n d m k cs rest n' d' m' ws asks e = let z : ◌≡◌ {A = ℕ} 0 1 = cc in absurd (omega arith)

-- the lines keep N and d; there are d + 2 words for each arc and 2 × d numbers asked, and none is over 99,999,999
pub record Kept (n d m : ℕ) (n' d' m' : ℕ) (ws asks : List ℕ) : Type 0 where
  pub nodes : n ≡ n'
  pub criteria : d ≡ d'
  pub count : length ws + m * (d + 2) ≡ m' * (d + 2)
  pub limit : m ≤ 512 → m' ≤ 512
  pub words_small : AtMost largest ws
  pub asked : length asks ≡ d * 2
  pub asks_small : AtMost largest asks

-- whatever has been begun of line k
pub lines-keeps : (n d m k : ℕ) (cur s : List ℕ) (n' d' m' : ℕ) (ws asks : List ℕ) → lines_from n d m k cur s ≡ whole n' d' m' ws asks → Kept n d m n' d' m' ws asks
unfolding lines_from
lines-keeps n d m k cur [] n' d' m' ws asks e = let z : ◌≡◌ {A = ℕ} 0 1 = cc in absurd (omega arith)
lines-keeps n d m k cur (c ∷ cs) n' d' m' ws asks e =
    go (eqb c 10) (λ ws. lines-keeps n d (m + 1) (k + 1) [] cs n' d' m' ws asks) (lines-keeps n d m k (cur ++ (c ∷ [])) cs n' d' m' ws asks) e
  where
    arc : ((ws : List ℕ) → lines_from n d (m + 1) (k + 1) [] cs ≡ whole n' d' m' ws asks → Kept n d (m + 1) n' d' m' ws asks)
        → ArcNext (kind_of d m cur) (lines_from n d (m + 1) (k + 1) [] cs) n' d' m' ws asks → Kept n d m n' d' m' ws asks
    arc ih a =
        let r = ih a.more a.after in
        let f = line_of-was tab arc_word (d + 2) cur a.vs (kind-arc d m cur a.vs a.arc).0 in
        let l : length a.vs ≡ d + 2 = f.1 in
        let b = (kind-arc d m cur a.vs a.arc).1 in
        let t : (m + 1) * (d + 2) ≡ m * (d + 2) + (d + 2) = add-mul m 1 (d + 2) ∙ ap (λ (x : ℕ). m * (d + 2) + x) (one-mul (d + 2)) in
        let u : length ws ≡ length a.vs + length a.more = ap length a.words ∙ length-append a.vs a.more in
        record {
          nodes = r.nodes;
          criteria = r.criteria;
          count = omega (arith, r.count);
          limit = λ z. r.limit (omega arith);
          words_small = rw a.words (at_most-append largest a.vs a.more f.2 r.words_small);
          asked = r.asked;
          asks_small = r.asks_small;
        }

    ask : AskLast (kind_of d m cur) cs n d m n' d' m' ws asks → Kept n d m n' d' m' ws asks
    ask a =
        let u : length ws ≡ 0 = ap length a.words in
        let v : m * (d + 2) ≡ m' * (d + 2) = ap (λ (x : ℕ). x * (d + 2)) a.arcs in
        let f = line_of-was tab ask_word (d * 2) cur asks (kind-ask d m cur asks a.ask) in
        record {
          nodes = a.nodes;
          criteria = a.criteria;
          count = omega arith;
          limit = λ z. omega (arith, a.arcs);
          words_small = rw a.words (at_most-none largest);
          asked = f.1;
          asks_small = f.2;
        }

    go : (t : Bool) → ((ws : List ℕ) → lines_from n d (m + 1) (k + 1) [] cs ≡ whole n' d' m' ws asks → Kept n d (m + 1) n' d' m' ws asks)
        → (lines_from n d m k (cur ++ (c ∷ [])) cs ≡ whole n' d' m' ws asks → Kept n d m n' d' m' ws asks)
        → cond t (judge (kind_of d m cur) n d m k cs (lines_from n d (m + 1) (k + 1) [] cs)) (lines_from n d m k (cur ++ (c ∷ [])) cs) ≡ whole n' d' m' ws asks
        → Kept n d m n' d' m' ws asks
    go true ih on e = ⊎_elim (arc ih) ask (judge-was (kind_of d m cur) n d m k cs (lines_from n d (m + 1) (k + 1) [] cs) n' d' m' ws asks e)
    go false ih on e = on e

-- ---- one arc of a whole sheet, at byte `at`
pub record ArcHere (n d m i k : ℕ) (s : List ℕ) (at : ℕ) (ws asks line : List ℕ) : Type 0 where
  pub vs : List ℕ
  pub more : List ℕ
  pub room : at + length line < length s
  pub reads : arc_line d line ≡ good vs
  pub width : length vs ≡ d + 2
  pub words : ws ≡ vs ++ more
  pub after : lines_from n d (i + 1) (k + 1) [] (drop (at + length line + 1) s) ≡ whole n d m more asks

-- while fewer than m arcs are read, the line at byte `at` is one
pub arc-here : (n d m i k : ℕ) (s : List ℕ) (at : ℕ) (ws asks line : List ℕ) → line ≡ before lf (drop at s) → at ≤ length s → i < m
    → lines_from n d i k [] (drop at s) ≡ whole n d m ws asks → ArcHere n d m i k s at ws asks line
arc-here n d m i k s at ws asks line q h l e =
    ⊎_elim here (λ u. let f = sym (lines-last n d i k s at line q h u) ∙ e in let z : ◌≡◌ {A = ℕ} 0 1 = cc in absurd (omega arith)) (lt-or-le (at + length line) (length s))
  where
    next : at + length line < length s
        → ArcNext (kind_of d i line) (lines_from n d (i + 1) (k + 1) [] (drop (at + length line + 1) s)) n d m ws asks → ArcHere n d m i k s at ws asks line
    next r a =
        let g = (kind-arc d i line a.vs a.arc).0 in
        record { vs = a.vs; more = a.more; room = r; reads = g; width = (line_of-was tab arc_word (d + 2) line a.vs g).1; words = a.words; after = a.after }

    here : at + length line < length s → ArcHere n d m i k s at ws asks line
    here r =
        ⊎_elim (next r) (λ a. absurd (omega (arith, a.arcs)))
        (judge-was (kind_of d i line) n d i k (drop (at + length line + 1) s) (lines_from n d (i + 1) (k + 1) [] (drop (at + length line + 1) s)) n d m ws asks
        (sym (lines_at n d i k s at line q h r) ∙ e))
