-- A sheet as it is written: its length, its arcs one after another, and its three parts side by side. Assumes nothing.
use Prim.Native.Nat.{ℕ, zero, suc, ◌+◌, ◌-◌, ◌*◌, ◌/◌, ◌≤◌}
use mathlib.Core.Path.{◌≡◌, refl, ap, sym, ◌∙◌}
use mathlib.Core.List.{List, [], ◌∷◌, ◌++◌, append_assoc, append-nil}
use native.Mathlib.Omega.{arith}
use native.Mathlib.Nat.{zero-mul, zero-add, suc-mul, mul-le-mul, div-add-mod'}
use lib.ListN.{length, take, drop, length-append, length-drop, take-append-drop}
use lib.Seq.{drop-drop}
use Rattle.words.specs.Pieces.{part}
use Rattle.request.specs.declared.Request.{Request}
use Rattle.text.specs.Line.{parted_width, line_text}
use Rattle.text.proofs.Puts.{width-append, line-width}
use Rattle.sheet.specs.Grammar.{tab, tracks_word, arc_word, ask_word}
use Rattle.sheet.specs.Rendering.{arc_lines, sheet_text}
use Rattle.sheet.specs.Writer.{asks_of, written, Ranged}

-- ---- the arcs, one after another

module _ (w : ℕ) where
  -- i arcs, and then j more
  arcs-split : (i j : ℕ) (words : List ℕ) → arc_lines w (i + j) words ≡ arc_lines w i words ++ arc_lines w j (drop (i * w) words)
  unfolding arc_lines
  arcs-split zero j words =
      let a : 0 + j ≡ j = zero-add j in
      let b : 0 * w ≡ 0 = zero-mul w in
      rw (a, b)
  arcs-split (suc i) j words =
      let a : suc i + j ≡ suc (i + j) = omega arith in
      let b : w + i * w ≡ suc i * w = omega (arith, suc-mul i w) in
      rw a
      (ap (λ (r : List ℕ). line_text tab arc_word (take w words) ++ r) (arcs-split i j (drop w words) ∙ ap (λ (r : List ℕ). arc_lines w i (drop w words) ++ arc_lines w j r) (drop-drop (i * w) w words ∙ ap (λ (k : ℕ). drop k words) b))
      ∙ sym (append_assoc (line_text tab arc_word (take w words)) (arc_lines w i (drop w words)) (arc_lines w j (drop (suc i * w) words))))

  -- one arc alone
  arcs-one : (words : List ℕ) → arc_lines w 1 words ≡ line_text tab arc_word (take w words)
  unfolding arc_lines
  arcs-one words = append-nil (line_text tab arc_word (take w words))

  -- one arc more, at word p
  pub arcs-next : (i p : ℕ) (words : List ℕ) → p ≡ i * w → arc_lines w (i + 1) words ≡ arc_lines w i words ++ line_text tab arc_word (part words p w)
  arcs-next i p words e =
      arcs-split i 1 words ∙ ap (λ (r : List ℕ). arc_lines w i words ++ r) (arcs-one (drop (i * w) words) ∙ ap (λ (k : ℕ). line_text tab arc_word (part words k w)) (sym e))

  -- the first i of m arcs take no more bytes than all
  pub arcs-room : (i m : ℕ) (words : List ℕ) → i ≤ m → length (arc_lines w i words) ≤ length (arc_lines w m words)
  arcs-room i m words h =
      let e : i + (m - i) ≡ m = omega arith in
      let l : length (arc_lines w (i + (m - i)) words) ≡ length (arc_lines w i words) + length (arc_lines w (m - i) (drop (i * w) words)) =
      ap length (arcs-split i (m - i) words) ∙ length-append (arc_lines w i words) (arc_lines w (m - i) (drop (i * w) words)) in
      omega (arith, ap (λ (k : ℕ). length (arc_lines w k words)) e)

  -- each arc takes four bytes besides its numbers
  pub arcs-width : (m : ℕ) (words : List ℕ) → length words ≡ m * w → length (arc_lines w m words) ≡ m * 4 + parted_width words
  unfolding arc_lines parted_width
  arcs-width zero [] e = refl
  arcs-width zero (x ∷ words) e = absurd (omega (arith, zero-mul w))
  arcs-width (suc m) words e =
      let f : length words ≡ m * w + w = e ∙ suc-mul m w in
      let ih = arcs-width m (drop w words) (length-drop w words ∙ omega arith) in
      let a = length-append (line_text tab arc_word (take w words)) (arc_lines w m (drop w words)) in
      let b = line-width tab arc_word (take w words) in
      let c : parted_width words ≡ parted_width (take w words) + parted_width (drop w words) =
      ap parted_width (sym (take-append-drop w words)) ∙ width-append (take w words) (drop w words) in
      a ∙ omega (arith, ih, b, c)

-- ---- the whole sheet

module _ (r : Request) (words : List ℕ) (g : Ranged r.criteria words) where
  -- the words are whole arcs
  pub whole-arcs : length words ≡ length words / (r.criteria + 2) * (r.criteria + 2)
  whole-arcs = omega (arith, div-add-mod' (length words) (r.criteria + 2), g.multiple)

  -- at most 512 arcs of at most 5 words
  pub words-few : length words ≤ 2560
  words-few =
      let w : r.criteria + 2 ≤ 5 = omega (arith, g.at_most) in
      let b : length words / (r.criteria + 2) * (r.criteria + 2) ≤ 512 * 5 = mul-le-mul g.arcs w in
      omega (arith, whole-arcs)

  -- seven bytes around N and d, four around each arc, four around what is asked
  pub written-length : length (written r words)
      ≡ 7 + parted_width (r.nodes ∷ r.criteria ∷ []) + length words / (r.criteria + 2) * 4 + parted_width words + 4 + parted_width (asks_of r)
  unfolding written sheet_text
  written-length =
      let m = length words / (r.criteria + 2) in
      let a = length-append (line_text tab tracks_word (r.nodes ∷ r.criteria ∷ [])) (arc_lines (r.criteria + 2) m words ++ line_text tab ask_word (asks_of r)) in
      let b = length-append (arc_lines (r.criteria + 2) m words) (line_text tab ask_word (asks_of r)) in
      let c = line-width tab tracks_word (r.nodes ∷ r.criteria ∷ []) in
      let d = line-width tab ask_word (asks_of r) in
      let e = arcs-width (r.criteria + 2) m words whole-arcs in
      a ∙ omega arith
