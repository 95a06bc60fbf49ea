-- A sheet as it is written reads as what was written. Assumes nothing.
use Prim.Native.Nat.{ℕ, zero, suc, ◌+◌, ◌*◌, ◌≤◌, ◌<◌}
use mathlib.Core.Path.{◌≡◌, refl, ap, sym, ◌∙◌}
use mathlib.Core.List.{List, [], ◌∷◌, ◌++◌, append_assoc, append-nil}
use mathlib.Core.Bool.{Bool, true, false, cond, ◌||◌}
use mathlib.Core.Logic.{◌⊎◌, inl, inr}
use native.Mathlib.Omega.{arith}
use native.Mathlib.Nat.{zero-mul, zero-add, suc-mul}
use lib.ListN.{length, take, drop, length-drop, length-take, take-append-drop}
use lib.Dec.{ltb, eqb}
use borrow.Author.Tests.{lt-ltb, eq-eqb, eqb-false}
use Rattle.words.specs.Bounds.{AtMost}
use Rattle.words.proofs.Choices.{lt-or-le}
use Rattle.words.proofs.Bounds.{at_most-none, at_most-cons, at_most-take, at_most-drop}
use Rattle.text.specs.Field.{before, common}
use Rattle.text.specs.Number.{digits, largest}
use Rattle.text.specs.Line.{good, bad, line_of, parted, line_text}
use Rattle.text.proofs.Fields.{before-pass, before-first}
use Rattle.text.proofs.Written.{before-digits, line_of-parted}
use Rattle.sheet.specs.Grammar.{lf, tab, tracks_word, arc_word, ask_word, an_arc, an_ask, or_ask, arc_or, kind_of, whole, broken, judge, lines_from, sheet_of}
use Rattle.sheet.specs.Rendering.{arc_lines, sheet_text, Sheetable}
use Rattle.sheet.proofs.Cuts.{lines_cut, sheet-cut}

-- ---- no LF in a line as it is written, but at its end

-- none in numbers, each after a tab
before-parted : (vs t : List ℕ) → before lf (parted tab vs ++ t) ≡ parted tab vs ++ before lf t
unfolding parted
before-parted [] t = refl
before-parted (v ∷ vs) t =
    before-pass lf tab ((digits v ++ parted tab vs) ++ t) (eqb-false tab lf refl)
    ∙ ap (λ (l : List ℕ). tab ∷ l) (rw (append_assoc (digits v) (parted tab vs) t) (before-digits lf (omega arith) v (parted tab vs ++ t) ∙ rw (before-parted vs t) (sym (append_assoc (digits v) (parted tab vs) (before lf t)))))

-- bytes with no LF among them
abbrev pub Plain : List ℕ → Type 0
Plain w = (t : List ℕ) → before lf (w ++ t) ≡ w ++ before lf t

-- none in `arc`
pub plain-arc : Plain arc_word
unfolding before
plain-arc t = refl

-- none in `ask`
pub plain-ask : Plain ask_word
unfolding before
plain-ask t = refl

-- none in `tracks`
pub plain-tracks : Plain tracks_word
unfolding before
plain-tracks t = refl

-- none in a word and numbers
plain-line : (w vs : List ℕ) → Plain w → Plain (w ++ parted tab vs)
plain-line w vs p t = rw (append_assoc w (parted tab vs) t) (p (parted tab vs ++ t) ∙ rw (before-parted vs t) (sym (append_assoc w (parted tab vs) (before lf t))))

-- ---- so a line is what stands before the first LF

module _ (w vs t : List ℕ) (p : Plain w) where
  -- a line without its LF
  abbrev line : List ℕ
  line = w ++ parted tab vs

  -- the line's bytes, its LF, and what follows
  pub line-then : line_text tab w vs ++ t ≡ line ++ (lf ∷ t)
  unfolding line_text
  line-then = append_assoc line (lf ∷ []) t

  -- the line is what is cut out
  line-cut : before lf (line ++ (lf ∷ t)) ≡ line
  line-cut = plain-line w vs p (lf ∷ t) ∙ rw (before-first lf t) (append-nil line)

  -- so it is judged, and then what follows
  lines-text : (n d m k : ℕ) → lines_from n d m k [] (line_text tab w vs ++ t) ≡ judge (kind_of d m line) n d m k t (lines_from n d (m + 1) (k + 1) [] t)
  lines-text n d m k = ap (lines_from n d m k []) line-then ∙ lines_cut line t line-cut n d m k

-- ---- the kind of a line as it is written

-- an arc, where there may be one more
kind-of-arc : (d m : ℕ) (vs : List ℕ) → m < 512 → length vs ≡ d + 2 → AtMost largest vs → kind_of d m (arc_word ++ parted tab vs) ≡ an_arc vs
unfolding kind_of
kind-of-arc d m vs h l s = rw (lt-ltb m 512 h, ← l, line_of-parted tab (omega arith) arc_word vs s)

-- `ask` has one byte in common with `arc`
ask-no-arc : (n : ℕ) (t : List ℕ) → line_of tab arc_word n (ask_word ++ t) ≡ bad 1 []
unfolding line_of common
ask-no-arc n t = refl

-- the ask
kind-of-ask : (d m : ℕ) (vs : List ℕ) → length vs ≡ d * 2 → AtMost largest vs → kind_of d m (ask_word ++ parted tab vs) ≡ an_ask vs
unfolding kind_of
kind-of-ask d m vs l s = rw (ask-no-arc (d + 2) (parted tab vs), ← l, line_of-parted tab (omega arith) ask_word vs s) (go (ltb m 512))
  where
    go : (t : Bool) → arc_or (cond t (bad 1 []) (bad 0 [])) (or_ask (good vs)) ≡ an_ask vs
    go true = refl
    go false = refl

-- ---- the arcs and the ask

-- the ask alone
pub lines-ask : (n d m k : ℕ) (asks : List ℕ) → length asks ≡ d * 2 → AtMost largest asks → lines_from n d m k [] (line_text tab ask_word asks) ≡ whole n d m [] asks
lines-ask n d m k asks a t =
    ap (lines_from n d m k []) (sym (append-nil (line_text tab ask_word asks)))
    ∙ lines-text ask_word asks [] plain-ask n d m k ∙ rw (kind-of-ask d m asks a t)

-- j arcs and the ask
lines-written : (n d i k j : ℕ) (words asks : List ℕ) → i + j ≤ 512 → length words ≡ j * (d + 2) → length asks ≡ d * 2 → AtMost largest words → AtMost largest asks
    → lines_from n d i k [] (arc_lines (d + 2) j words ++ line_text tab ask_word asks) ≡ whole n d (i + j) words asks
unfolding arc_lines
lines-written n d i k zero words asks h l a s t = lines-ask n d i k asks a t ∙ none words (l ∙ zero-mul (d + 2))
  where
    none : (words : List ℕ) → length words ≡ 0 → whole n d i [] asks ≡ whole n d (i + 0) words asks
    none [] e = let q : i + 0 ≡ i = omega arith in rw q
    none (x ∷ words) e = absurd (omega arith)
lines-written n d i k (suc j) words asks h l a s t =
    let f : length words ≡ j * (d + 2) + (d + 2) = l ∙ suc-mul j (d + 2) in
    let w : length (take (d + 2) words) ≡ d + 2 = length-take (d + 2) words ∙ omega arith in
    let r : length (drop (d + 2) words) ≡ j * (d + 2) = length-drop (d + 2) words ∙ omega arith in
    let q : i + 1 + j ≡ i + suc j = omega arith in
    let ih = lines-written n d (i + 1) (k + 1) j (drop (d + 2) words) asks (omega arith) r a (at_most-drop largest (d + 2) words s) t in
    ap (lines_from n d i k []) (append_assoc (line_text tab arc_word (take (d + 2) words)) (arc_lines (d + 2) j (drop (d + 2) words)) (line_text tab ask_word asks))
    ∙ lines-text arc_word (take (d + 2) words) (arc_lines (d + 2) j (drop (d + 2) words) ++ line_text tab ask_word asks) plain-arc n d i k
    ∙ rw (kind-of-arc d i (take (d + 2) words) (omega arith) w (at_most-take largest (d + 2) words s), ih, take-append-drop, q)

-- ---- the whole sheet

-- a sheet as it is written says what was written
pub sheet-written : (n d m : ℕ) (words asks : List ℕ) → Sheetable n d m words asks → sheet_of (sheet_text n d m words asks) ≡ whole n d m words asks
unfolding sheet_text
sheet-written n d m words asks c =
    let rest = arc_lines (d + 2) m words ++ line_text tab ask_word asks in
    let two = n ∷ d ∷ [] in
    let l = tracks_word ++ parted tab two in
    let small : AtMost largest two = at_most-cons largest n (d ∷ []) c.nodes_small (at_most-cons largest d [] (omega (arith, c.at_most)) (at_most-none largest)) in
    ap sheet_of (line-then tracks_word two rest plain-tracks)
    ∙ sheet-cut l rest (line-cut tracks_word two rest plain-tracks)
    ∙ rw (line_of-parted tab (omega arith) tracks_word two small) (two-or-three (lt-or-le d 3))
  where
    body : lines_from n d 0 2 [] (arc_lines (d + 2) m words ++ line_text tab ask_word asks) ≡ whole n d m words asks
    body =
        lines-written n d 0 2 m words asks (omega (arith, c.arcs)) c.arc_words c.asked c.words_small c.asks_small
        ∙ ap (λ (x : ℕ). whole n d x words asks) (zero-add m)

    three : (b : Bool) → cond (b || true) (lines_from n d 0 2 [] (arc_lines (d + 2) m words ++ line_text tab ask_word asks)) (broken 1) ≡ whole n d m words asks
    three true = body
    three false = body

    two-or-three : (d < 3) ⊎ (3 ≤ d)
        → cond (eqb d 2 || eqb d 3) (lines_from n d 0 2 [] (arc_lines (d + 2) m words ++ line_text tab ask_word asks)) (broken 1) ≡ whole n d m words asks
    two-or-three (inl u) = let q : d ≡ 2 = omega (arith, c.at_least) in rw (eq-eqb d 2 q) body
    two-or-three (inr u) = let q : d ≡ 3 = omega (arith, c.at_most) in rw (eq-eqb d 3 q) (three (eqb d 2))
