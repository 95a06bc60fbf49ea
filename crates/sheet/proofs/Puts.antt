-- The steps of writing a sheet: the numbers that are too large, one arc more, and the three parts of a sheet. Assumes nothing.
use Prim.Native.Nat.{ℕ, zero, suc, ◌+◌, ◌-◌, ◌*◌, ◌/◌, ◌%◌, ◌≤◌, ◌<◌}
use mathlib.Core.Path.{◌≡◌, refl, ap, sym, ◌∙◌}
use mathlib.Core.List.{List, [], ◌∷◌, ◌++◌, append_assoc}
use mathlib.Core.Bool.{Bool, true, false, ◌||◌}
use native.Mathlib.Omega.{arith}
use native.Mathlib.Nat.{zero-mul, suc-mul, div-add-mod'}
use lib.ListN.{length, take, drop, length-append}
use lib.Seq.{take-append_seam, drop-append_seam}
use Rattle.words.specs.Pieces.{part, write}
use Rattle.words.proofs.Writes.{write-none, write-append}
use Rattle.request.specs.declared.Request.{Request}
use Rattle.text.specs.Number.{any_over}
use Rattle.text.specs.Line.{line_text}
use Rattle.text.proofs.Numbers.{over-append}
use Rattle.sheet.specs.Grammar.{tab, tracks_word, arc_word, ask_word}
use Rattle.sheet.specs.Rendering.{arc_lines, sheet_text}
use Rattle.sheet.specs.Writer.{ask_numbers, asks_of, numbers_of, written}
use Rattle.sheet.proofs.Lengths.{arcs-next}

-- ---- numbers that are too large

module _ (r : Request) (words : List ℕ) where
  -- all that is written: N, d and the arcs' words, and then what is asked
  over-all : any_over (numbers_of r words) ≡ ((any_over (r.nodes ∷ r.criteria ∷ []) || any_over words) || any_over (asks_of r))
  unfolding numbers_of
  over-all =
      ap any_over (sym (append_assoc (r.nodes ∷ r.criteria ∷ []) words (asks_of r))) ∙ over-append ((r.nodes ∷ r.criteria ∷ []) ++ words) (asks_of r)
      ∙ ap (λ (b : Bool). b || any_over (asks_of r)) (over-append (r.nodes ∷ r.criteria ∷ []) words)

  -- N, d or an arc word is
  pub over_front : (any_over (r.nodes ∷ r.criteria ∷ []) || any_over words) ≡ true → any_over (numbers_of r words) ≡ true
  over_front e = over-all ∙ ap (λ (b : Bool). b || any_over (asks_of r)) e

  -- none of these is: what is asked decides
  pub over-asks : (any_over (r.nodes ∷ r.criteria ∷ []) || any_over words) ≡ false → any_over (numbers_of r words) ≡ any_over (asks_of r)
  over-asks e = over-all ∙ ap (λ (b : Bool). b || any_over (asks_of r)) e

-- ---- the numbers of `ask`, as a part of all of them

module _ (r : Request) (v : List ℕ) (e : v ≡ ask_numbers r) where
  -- the first 2 × d are those that are written
  pub asks-are : take (r.criteria * 2) v ≡ asks_of r
  unfolding asks_of
  asks-are = ap (take (r.criteria * 2)) e

-- ---- one arc more behind those that are written

-- an arc's words, as a part from word p up to word p + w
pub arc-words : (words : List ℕ) (p w : ℕ) → take (p + w - p) (drop p words) ≡ part words p w
arc-words words p w = let e : p + w - p ≡ w = omega arith in rw e

module _ (w i p at a : ℕ) (words : List ℕ) (e : p ≡ i * w) where
  -- where the next arc ends
  pub arc-ends : length (arc_lines w (i + 1) words) ≡ length (arc_lines w i words) + length (line_text tab arc_word (take (p + w - p) (drop p words)))
  arc-ends =
      ap length (arcs-next w i p words e) ∙ length-append (arc_lines w i words) (line_text tab arc_word (part words p w))
      ∙ ap (λ (vs : List ℕ). length (arc_lines w i words) + length (line_text tab arc_word vs)) (sym (arc-words words p w))

  -- the next arc is written right after those before
  pub arc-put : (sheet₀ sheet sheet' : List ℕ) → a ≡ at + length (arc_lines w i words) → sheet ≡ write sheet₀ at (arc_lines w i words)
      → sheet' ≡ write sheet a (line_text tab arc_word (take (p + w - p) (drop p words))) → sheet' ≡ write sheet₀ at (arc_lines w (i + 1) words)
  arc-put sheet₀ sheet sheet' f g h =
      h ∙ ap (λ (vs : List ℕ). write sheet a (line_text tab arc_word vs)) (arc-words words p w)
      ∙ ap (λ (x : List ℕ). write x a (line_text tab arc_word (part words p w))) g
      ∙ ap (λ (k : ℕ). write (write sheet₀ at (arc_lines w i words)) k (line_text tab arc_word (part words p w))) f
      ∙ write-append sheet₀ at (arc_lines w i words) (line_text tab arc_word (part words p w))
      ∙ ap (write sheet₀ at) (sym (arcs-next w i p words e))

-- ---- arcs of w words, written one after another

module _ (w at : ℕ) (lines sheet₀ : List ℕ) where
  -- the arcs that are left, as lines from byte e on, end where the lines of all arcs from byte `at` on end, and make what these make
  pub record ArcsLeft (rest : List ℕ) (e : ℕ) (sheet : List ℕ) : Type 0 where
    pub count : ℕ
    pub whole : length rest ≡ count * w
    pub ends : e + length (arc_lines w count rest) ≡ at + length lines
    pub made : write sheet e (arc_lines w count rest) ≡ write sheet₀ at lines

  -- the next arc is there
  pub record ArcNext (arc more : List ℕ) (e : ℕ) (sheet : List ℕ) : Type 0 where
    pub room : e + length (line_text tab arc_word arc) ≤ at + length lines
    pub left : ArcsLeft more (e + length (line_text tab arc_word arc)) (write sheet e (line_text tab arc_word arc))

  -- one arc more
  pub arc-next : (rest arc more : List ℕ) (e : ℕ) (sheet : List ℕ) → 0 < w → rest ≡ arc ++ more → length arc ≡ w → ArcsLeft rest e sheet → ArcNext arc more e sheet
  unfolding arc_lines
  arc-next rest arc more e sheet pos q h l = go l.count l.whole l.ends l.made
    where
      go : (j : ℕ) → length rest ≡ j * w → e + length (arc_lines w j rest) ≡ at + length lines → write sheet e (arc_lines w j rest) ≡ write sheet₀ at lines → ArcNext arc more e sheet
      go zero a b c = absurd (omega (arith, ap length q, length-append arc more, zero-mul w))
      go (suc j) a b c =
          let t : take w rest ≡ arc = rw (q, ← h) (take-append_seam arc more) in
          let d : drop w rest ≡ more = rw (q, ← h) (drop-append_seam arc more) in
          let line = line_text tab arc_word arc in
          let p : line_text tab arc_word (take w rest) ++ arc_lines w j (drop w rest) ≡ line ++ arc_lines w j more =
          ap (λ (x : List ℕ). line_text tab arc_word x ++ arc_lines w j (drop w rest)) t ∙ ap (λ (x : List ℕ). line ++ arc_lines w j x) d in
          let n : length (line_text tab arc_word (take w rest) ++ arc_lines w j (drop w rest)) ≡ length line + length (arc_lines w j more) =
          ap length p ∙ length-append line (arc_lines w j more) in
          record {
            room = omega arith;
            left =
                record {
                  count = j;
                  whole = omega (arith, ap length q, length-append arc more, suc-mul j w);
                  ends = omega arith;
                  made = write-append sheet e line (arc_lines w j more) ∙ ap (write sheet e) (sym p) ∙ c;
                };
          }

  -- no arc more: all are written
  pub arcs-end : (rest : List ℕ) (e : ℕ) (sheet : List ℕ) → length rest < w → ArcsLeft rest e sheet → (e ≡ at + length lines) × (sheet ≡ write sheet₀ at lines)
  unfolding arc_lines
  arcs-end rest e sheet h l = go l.count l.whole l.ends l.made
    where
      go : (j : ℕ) → length rest ≡ j * w → e + length (arc_lines w j rest) ≡ at + length lines → write sheet e (arc_lines w j rest) ≡ write sheet₀ at lines
          → (e ≡ at + length lines) × (sheet ≡ write sheet₀ at lines)
      go zero a b c = (omega arith, sym (write-none sheet e) ∙ c)
      go (suc j) a b c = absurd (omega (arith, suc-mul j w))

-- at the start all of them are left
pub arcs-all : (w at : ℕ) (arcs rest sheet : List ℕ) → rest ≡ arcs → length arcs % w ≡ 0
    → ArcsLeft w at (arc_lines w (length arcs / w) arcs) sheet rest at sheet
arcs-all w at arcs rest sheet e m =
    record {
      count = length arcs / w;
      whole = omega (arith, ap length e, div-add-mod' (length arcs) w);
      ends = ap (λ (x : List ℕ). at + length (arc_lines w (length arcs / w) x)) e;
      made = ap (λ (x : List ℕ). write sheet at (arc_lines w (length arcs / w) x)) e;
    }

-- ---- the three parts

module _ (r : Request) (words : List ℕ) where
  -- the `tracks` line
  abbrev pub front : List ℕ
  front = line_text tab tracks_word (r.nodes ∷ r.criteria ∷ [])

  -- the `arc` lines
  abbrev pub middle : List ℕ
  middle = arc_lines (r.criteria + 2) (length words / (r.criteria + 2)) words

  -- the `ask` line
  abbrev pub back : List ℕ
  back = line_text tab ask_word (asks_of r)

  -- the sheet is these three
  written_is : written r words ≡ front ++ (middle ++ back)
  unfolding written sheet_text
  written_is = refl

  -- so is its length
  pub written-long : length (written r words) ≡ length front + length middle + length back
  written-long = ap length written_is ∙ length-append front (middle ++ back) ∙ omega (arith, length-append middle back)

  -- and so is what the three writes leave
  pub written-put : (s₀ s₁ s₂ s₃ asked : List ℕ) (a b : ℕ) → a ≡ length front → b ≡ a + length middle
      → s₁ ≡ write s₀ 0 front → s₂ ≡ write s₁ a middle → s₃ ≡ write s₂ b asked → asked ≡ back → s₃ ≡ write s₀ 0 (written r words)
  written-put s₀ s₁ s₂ s₃ asked a b ea eb e₁ e₂ e₃ e₄ =
      let l : length (front ++ middle) ≡ length front + length middle = length-append front middle in
      let p : a ≡ 0 + length front = omega arith in
      let q : b ≡ 0 + length (front ++ middle) = omega arith in
      let x : s₂ ≡ write s₀ 0 (front ++ middle) =
      e₂ ∙ ap (λ (s : List ℕ). write s a middle) e₁ ∙ ap (λ (k : ℕ). write (write s₀ 0 front) k middle) p ∙ write-append s₀ 0 front middle in
      e₃ ∙ ap (write s₂ b) e₄ ∙ ap (λ (s : List ℕ). write s b back) x ∙ ap (λ (k : ℕ). write (write s₀ 0 (front ++ middle)) k back) q
      ∙ write-append s₀ 0 (front ++ middle) back ∙ ap (write s₀ 0) (append_assoc front middle back ∙ sym written_is)
