-- A sheet is accepted exactly where it is the rendering of what was read. Assumes nothing.
use Prim.Native.Nat.{ℕ, zero, suc, ◌+◌, ◌*◌, ◌<◌}
use mathlib.Core.Path.{◌≡◌, refl, ap, sym, ◌∙◌}
use mathlib.Core.List.{List, [], ◌∷◌, ◌++◌, append_assoc, append-nil}
use mathlib.Core.Logic.{◌↔◌, ⊎_elim}
use native.Mathlib.Omega.{arith}
use native.Mathlib.Numerals.{add-one}
use native.Mathlib.Nat.{add-mul, one-mul}
use lib.ListN.{length, take, drop}
use lib.Seq.{drop-append_seam, take-append_seam}
use Rattle.words.proofs.Choices.{lt-or-le}
use Rattle.text.specs.Field.{before}
use Rattle.text.specs.Line.{parted, line_text}
use Rattle.text.proofs.Fields.{before-found}
use Rattle.text.proofs.Written.{line_of-was}
use Rattle.sheet.specs.Grammar.{lf, tab, tracks_word, arc_word, ask_word, kind_of, whole, lines_from, sheet_of}
use Rattle.sheet.specs.Rendering.{arc_lines, sheet_text, Sheetable}
use Rattle.sheet.proofs.Scan.{lines-line, lines-loose}
use Rattle.sheet.proofs.Arcs.{arc-here, ArcNext, AskLast, judge-was, lines-keeps, kind-ask}
use Rattle.sheet.proofs.First.{sheet-begun, sheetable}
use Rattle.sheet.proofs.Rendered.{Plain, plain-arc, plain-ask, plain-tracks, line-then, sheet-written}

-- a line that was cut out with its LF, as it is written
line-was : (w vs line r s : List ℕ) → Plain w → s ≡ line ++ (lf ∷ r) → line ≡ w ++ parted tab vs → s ≡ line_text tab w vs ++ r
line-was w vs line r s p e f = e ∙ ap (λ (l : List ℕ). l ++ (lf ∷ r)) f ∙ sym (line-then w vs r p)

-- the `ask` line of a whole sheet, after which nothing stands
lines-asks : (n d i k : ℕ) (s words asks : List ℕ) → lines_from n d i k [] s ≡ whole n d i words asks → s ≡ line_text tab ask_word asks
lines-asks n d i k s words asks e =
    ⊎_elim here (λ u. let f = sym (lines-loose n d i k [] s u) ∙ e in let z : ◌≡◌ {A = ℕ} 0 1 = cc in absurd (omega arith)) (lt-or-le (length (before lf s)) (length s))
  where
    arc : ArcNext (kind_of d i (before lf s)) (lines_from n d (i + 1) (k + 1) [] (drop (suc (length (before lf s))) s)) n d i words asks → ⊥
    arc a =
        let c = (lines-keeps n d (i + 1) (k + 1) [] (drop (suc (length (before lf s))) s) n d i a.more asks a.after).count in
        let t : (i + 1) * (d + 2) ≡ i * (d + 2) + (d + 2) = add-mul i 1 (d + 2) ∙ ap (λ (x : ℕ). i * (d + 2) + x) (one-mul (d + 2)) in
        omega arith

    ask : length (before lf s) < length s → AskLast (kind_of d i (before lf s)) (drop (suc (length (before lf s))) s) n d i n d i words asks → s ≡ line_text tab ask_word asks
    ask h a =
        let l : before lf s ≡ ask_word ++ parted tab asks = (line_of-was tab ask_word (d * 2) (before lf s) asks (kind-ask d i (before lf s) asks a.ask)).0 in
        line-was ask_word asks (before lf s) [] s plain-ask (before-found lf s h ∙ ap (λ (r : List ℕ). before lf s ++ (lf ∷ r)) a.ends) l
        ∙ append-nil (line_text tab ask_word asks)

    here : length (before lf s) < length s → s ≡ line_text tab ask_word asks
    here h =
        ⊎_elim (λ a. absurd (arc a)) (ask h)
        (judge-was (kind_of d i (before lf s)) n d i k (drop (suc (length (before lf s))) s) (lines_from n d (i + 1) (k + 1) [] (drop (suc (length (before lf s))) s)) n d i words asks
        (sym (lines-line n d i k [] s h) ∙ e))

-- the lines after the first of a whole sheet, of which j arcs are left
lines-was : (j n d m i k : ℕ) (s words asks : List ℕ) → i + j ≡ m → lines_from n d i k [] s ≡ whole n d m words asks
    → s ≡ arc_lines (d + 2) j words ++ line_text tab ask_word asks
unfolding arc_lines
lines-was zero n d m i k s words asks h e =
    let q : m ≡ i = omega arith in
    lines-asks n d i k s words asks (e ∙ rw q)
lines-was (suc j) n d m i k s words asks h e =
    let a = arc-here n d m i k s 0 words asks (before lf s) refl (omega arith) (omega arith) e in
    let c : 0 + length (before lf s) + 1 ≡ suc (length (before lf s)) = omega arith in
    let r : length (before lf s) < length s = omega (arith, a.room) in
    let ih = lines-was j n d m (i + 1) (k + 1) (drop (0 + length (before lf s) + 1) s) a.more asks (omega arith) a.after in
    step a.vs a.more (drop (0 + length (before lf s) + 1) s) a.words a.width
    (line-was arc_word a.vs (before lf s) (drop (0 + length (before lf s) + 1) s) s plain-arc
    (before-found lf s r ∙ ap (λ (x : ℕ). before lf s ++ (lf ∷ drop x s)) (sym c))
    (line_of-was tab arc_word (d + 2) (before lf s) a.vs a.reads).0)
    ih
  where
    step : (vs more r : List ℕ) → words ≡ vs ++ more → length vs ≡ d + 2 → s ≡ line_text tab arc_word vs ++ r → r ≡ arc_lines (d + 2) j more ++ line_text tab ask_word asks
        → s ≡ (line_text tab arc_word (take (d + 2) words) ++ arc_lines (d + 2) j (drop (d + 2) words)) ++ line_text tab ask_word asks
    step vs more r w l f e =
        let t : take (d + 2) words ≡ vs = rw (w, ← l) (take-append_seam vs more) in
        let u : drop (d + 2) words ≡ more = rw (w, ← l) (drop-append_seam vs more) in
        f ∙ rw (e, t, u) (sym (append_assoc (line_text tab arc_word vs) (arc_lines (d + 2) j more) (line_text tab ask_word asks)))

-- a whole sheet is the rendering of what it says
pub sheet-was : (n d m : ℕ) (s words asks : List ℕ) → sheet_of s ≡ whole n d m words asks → s ≡ sheet_text n d m words asks
unfolding sheet_text
sheet-was n d m s words asks e =
    let b = sheet-begun n d m s words asks (before lf s) refl e in
    let t = lines-was m n d m 0 2 (drop (length (before lf s) + 1) s) words asks (omega arith) b.after in
    let f = line_of-was tab tracks_word 2 (before lf s) (n ∷ (d ∷ b.extra)) b.says in
    let l : length b.extra ≡ 0 = omega (arith, f.1) in
    let r : drop (suc (length (before lf s))) s ≡ arc_lines (d + 2) m words ++ line_text tab ask_word asks = ap (λ (x : ℕ). drop x s) (sym (add-one (length (before lf s)))) ∙ t in
    line-was tracks_word (n ∷ (d ∷ [])) (before lf s) (drop (suc (length (before lf s))) s) s plain-tracks (before-found lf s b.room) (no_more b.extra (before lf s) l f.0)
    ∙ ap (λ (x : List ℕ). line_text tab tracks_word (n ∷ (d ∷ [])) ++ x) r
  where
    no_more : (extra line : List ℕ) → length extra ≡ 0 → line ≡ tracks_word ++ parted tab (n ∷ (d ∷ extra)) → line ≡ tracks_word ++ parted tab (n ∷ (d ∷ []))
    no_more [] line l e = e
    no_more (x ∷ xs) line l e = absurd (omega arith)

-- A SHEET IS ACCEPTED, AND SAYS N, d, ITS ARCS' WORDS AND WHAT IS ASKED, EXACTLY WHERE IT IS THEIR RENDERING AND THEY CAN BE WRITTEN
pub sheet-iff : (n d m : ℕ) (s words asks : List ℕ) → (sheet_of s ≡ whole n d m words asks) ↔ ((s ≡ sheet_text n d m words asks) × Sheetable n d m words asks)
sheet-iff n d m s words asks =
    (λ e. (sheet-was n d m s words asks e, sheetable n d m s words asks e), λ h. ap sheet_of h.0 ∙ sheet-written n d m words asks h.1)
