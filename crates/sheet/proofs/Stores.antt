-- The second pass over a whole sheet: the words of i arcs are stored, and the lines that are left say the rest. Assumes nothing.
use Prim.Native.Nat.{ℕ, ◌+◌, ◌-◌, ◌*◌, ◌≤◌, ◌<◌}
use mathlib.Core.Path.{◌≡◌, ap, sym, ◌∙◌}
use mathlib.Core.List.{List, [], ◌++◌, append-nil}
use native.Mathlib.Omega.{arith}
use native.Mathlib.Nat.{add-mul, one-mul}
use lib.ListN.{length, take, drop, length-append, length-drop, drop_of_length-le}
use lib.Seq.{drop-drop, take-add, drop-append_seam, take-append_seam, length-take-le, take_all}
use Rattle.words.specs.Pieces.{write}
use Rattle.words.proofs.Writes.{lent, write-front, write-append}
use Rattle.text.specs.Field.{before}
use Rattle.text.specs.Line.{good, line_of}
use Rattle.sheet.specs.declared.reader.Form.{Form}
use Rattle.std.proofs.Common.{Ok}
use Rattle.sheet.specs.Grammar.{lf, tab, arc_word, Contents, whole, broken, lines_from, sheet_of}
use Rattle.sheet.specs.Rendering.{Sheetable}
use Rattle.sheet.specs.Inside.{form_of}
use Rattle.sheet.specs.Reader.{words_of, request_from, request_of}
use Rattle.sheet.proofs.Arcs.{lines-keeps, arc-here}
use Rattle.sheet.proofs.First.{sheet-begun, sheetable}

-- ---- the parts of what a sheet says

-- N
abbrev pub nodes_of : Contents → ℕ
nodes_of (whole n d m words asks) = n
nodes_of (broken k) = 0

-- d
abbrev pub criteria_of : Contents → ℕ
criteria_of (whole n d m words asks) = d
criteria_of (broken k) = 0

-- the numbers of `ask`
abbrev pub asked_of : Contents → List ℕ
asked_of (whole n d m words asks) = asks
asked_of (broken k) = []

-- a sheet of the form f
whole-was : (p : Contents) (f : Form) → form_of p ≡ Ok f → p ≡ whole f.request.nodes f.request.criteria f.arcs (words_of p) (asked_of p)
whole-was (whole n d m words asks) f e =
    let q : record { request = request_from n d asks; arcs = m } ≡ f = cc in
    ap (λ (f : Form). whole f.request.nodes f.request.criteria f.arcs words asks) q
whole-was (broken k) f e = let z : ◌≡◌ {A = ℕ} 0 1 = cc in absurd (omega arith)

-- its request
pub form-request : (p : Contents) (f : Form) → form_of p ≡ Ok f → f.request ≡ request_of p
form-request (whole n d m words asks) f e =
    let q : record { request = request_from n d asks; arcs = m } ≡ f = cc in
    ap (λ (f : Form). f.request) (sym q)
form-request (broken k) f e = let z : ◌≡◌ {A = ℕ} 0 1 = cc in absurd (omega arith)

-- what can be written of it
pub form-sheetable : (s : List ℕ) (f : Form) → form_of (sheet_of s) ≡ Ok f
    → Sheetable f.request.nodes f.request.criteria f.arcs (words_of (sheet_of s)) (asked_of (sheet_of s))
form-sheetable s f e =
    sheetable f.request.nodes f.request.criteria f.arcs s (words_of (sheet_of s)) (asked_of (sheet_of s)) (whole-was (sheet_of s) f e)

-- ---- i of the m arcs are stored, in p words, and the next line begins at byte `at`

-- the lines from byte `at` on say the words from word p on
abbrev pub Going : List ℕ → ℕ → ℕ → ℕ → ℕ → Type 0
Going s m at p i =
    lines_from (nodes_of (sheet_of s)) (criteria_of (sheet_of s)) i (i + 2) [] (drop at s)
    ≡ whole (nodes_of (sheet_of s)) (criteria_of (sheet_of s)) m (drop p (words_of (sheet_of s))) (asked_of (sheet_of s))

-- the start: after the first line
pub record Starts (s : List ℕ) (f : Form) (line : List ℕ) : Type 0 where
  pub room : length line < length s
  pub criteria : criteria_of (sheet_of s) ≡ f.request.criteria
  pub going : Going s f.arcs (length line + 1) 0 0

-- the first line of a whole sheet of form f
pub starts : (s : List ℕ) (f : Form) (line : List ℕ) → line ≡ before lf s → form_of (sheet_of s) ≡ Ok f → Starts s f line
starts s f line q e =
    let w = whole-was (sheet_of s) f e in
    let b = sheet-begun f.request.nodes f.request.criteria f.arcs s (words_of (sheet_of s)) (asked_of (sheet_of s)) line q w in
    let n : nodes_of (sheet_of s) ≡ f.request.nodes = ap nodes_of w in
    let d : criteria_of (sheet_of s) ≡ f.request.criteria = ap criteria_of w in
    record { room = b.room; criteria = d; going = rw (n, d) b.after }

-- a step: the line at byte `at` is one arc more, of n words
pub record Steps (s : List ℕ) (m at p i n : ℕ) (line : List ℕ) : Type 0 where
  pub vs : List ℕ
  pub room : at + length line < length s
  pub reads : line_of tab arc_word n line ≡ good vs
  pub width : length vs ≡ n
  pub fits : p + n ≤ length (words_of (sheet_of s))
  pub words : take (p + n) (words_of (sheet_of s)) ≡ take p (words_of (sheet_of s)) ++ vs
  pub going : Going s m (at + length line + 1) (p + n) (i + 1)

module _ (ws vs more : List ℕ) (p n : ℕ) (e : drop p ws ≡ vs ++ more) (w : length vs ≡ n) where
  -- the words up to the end of this arc
  take_more : take (p + n) ws ≡ take p ws ++ vs
  take_more = take-add p n ws ∙ rw (e, ← w, take-append_seam)

  -- the words after it
  drop_more : drop (p + n) ws ≡ more
  drop_more = sym (drop-drop n p ws) ∙ rw (e, ← w) (drop-append_seam vs more)

-- while fewer than m arcs are stored, there is one more
pub steps : (s : List ℕ) (m at p i n : ℕ) (line : List ℕ) → n ≡ criteria_of (sheet_of s) + 2 → line ≡ before lf (drop at s) → at ≤ length s → i < m
    → p ≤ length (words_of (sheet_of s)) → Going s m at p i → Steps s m at p i n line
steps s m at p i n line c q h l u g =
    let ws = words_of (sheet_of s) in
    let a = arc-here (nodes_of (sheet_of s)) (criteria_of (sheet_of s)) m i (i + 2) s at (drop p ws) (asked_of (sheet_of s)) line q h l g in
    let w : length a.vs ≡ n = a.width ∙ sym c in
    let f : length ws - p ≡ length a.vs + length a.more = sym (length-drop p ws) ∙ ap length a.words ∙ length-append a.vs a.more in
    let k : i + 2 + 1 ≡ i + 1 + 2 = omega arith in
    record {
      vs = a.vs;
      room = a.room;
      reads = rw c a.reads;
      width = w;
      fits = omega arith;
      words = take_more ws a.vs a.more p n a.words w;
      going = rw (← k, drop_more ws a.vs a.more p n a.words w) a.after;
    }

-- the end: after m arcs all words are stored
pub going_end : (s : List ℕ) (m at p i : ℕ) → m ≤ i → i ≤ m → Going s m at p i → take p (words_of (sheet_of s)) ≡ words_of (sheet_of s)
going_end s m at p i l u g =
    let n = nodes_of (sheet_of s) in
    let d = criteria_of (sheet_of s) in
    let ws = words_of (sheet_of s) in
    let k = lines-keeps n d i (i + 2) [] (drop at s) n d m (drop p ws) (asked_of (sheet_of s)) g in
    let t : i * (d + 2) ≡ m * (d + 2) = ap (λ (x : ℕ). x * (d + 2)) (omega arith) in
    take_all p ws (omega (arith, k.count, length-drop p ws))

-- the same, as the next step has it
pub steps-next : (s : List ℕ) (m at i n : ℕ) (line : List ℕ) → Steps s m at (i * n) i n line
    → (at + (length line + 1) ≤ length s) × ((i + 1) * n ≤ length (words_of (sheet_of s))) × Going s m (at + (length line + 1)) ((i + 1) * n) (i + 1)
steps-next s m at i n line h =
    let p : i * n + n ≡ (i + 1) * n = omega (arith, add-mul i 1 n, one-mul n) in
    let a : at + length line + 1 ≡ at + (length line + 1) = omega arith in
    (omega (arith, h.room), omega (arith, h.fits), rw (← p, ← a) h.going)

-- ---- the store of one arc's words

-- the part that is lent for an arc has n words
pub mid-length : (out : List ℕ) (p n : ℕ) → p + n ≤ length out → length (take (p + n - p) (drop p out)) ≡ n
mid-length out p n h = length-take-le (p + n - p) (drop p out) (rw length-drop (omega arith)) ∙ omega arith

-- all words fill the part that was lent for them
pub fills : (out ws : List ℕ) → length ws ≡ length out → write out 0 ws ≡ ws
fills out ws e =
    let d : drop (length ws) out ≡ [] = drop_of_length-le out (omega arith) in
    write-front out ws (omega arith) ∙ ap (λ (r : List ℕ). ws ++ r) d ∙ append-nil ws

-- an arc's words come back right after those before
pub stored : (out₀ out ws vs ys : List ℕ) (p n : ℕ) → out ≡ write out₀ 0 (take p ws) → take (p + n) ws ≡ take p ws ++ vs → length vs ≡ n
    → p ≤ length ws → p + n ≤ length out → ys ≡ vs
    → take p out ++ (ys ++ drop (p + n - p) (drop p out)) ≡ write out₀ 0 (take (p + n) ws)
stored out₀ out ws vs ys p n o t w l h y =
    let a : p + n - p ≡ n = omega arith in
    let b : 0 + length (take p ws) ≡ p = omega (arith, length-take-le p ws l) in
    let c : write out₀ 0 (take p ws ++ vs) ≡ write out p vs =
    sym (write-append out₀ 0 (take p ws) vs) ∙ ap (λ (k : ℕ). write (write out₀ 0 (take p ws)) k vs) b ∙ ap (λ (x : List ℕ). write x p vs) (sym o) in
    rw (a, y) (lent out p n vs w (omega arith)) ∙ sym c ∙ ap (write out₀ 0) (sym t)
