-- The lines of a sheet one by one: a line up to its LF, a line without one, and what each kind of line makes of the sheet. Assumes nothing.
use Prim.Native.Nat.{ℕ, suc, ◌+◌, ◌≤◌, ◌<◌}
use mathlib.Core.Path.{◌≡◌, refl, ap, ◌∙◌}
use mathlib.Core.List.{List, [], ◌∷◌, ◌++◌, append_assoc, append-nil}
use mathlib.Core.Bool.{Bool, true, false, cond}
use native.Mathlib.Omega.{arith}
use lib.ListN.{length, drop, length-drop, drop_of_length-le}
use lib.Seq.{drop-drop}
use lib.Dec.{eqb}
use Rattle.text.specs.Field.{before}
use Rattle.request.specs.declared.Request.{Request}
use Rattle.request.specs.declared.Refusal.TheVariants as refusal
use Rattle.sheet.specs.declared.reader.LineKind.TheVariants.{Arc, Ask}
use Rattle.std.proofs.Common.{Some, None, Ok, Err}
use Rattle.sheet.specs.Grammar.{lf, Kind, an_arc, an_ask, neither, kind_of, Contents, whole, broken, add_arc, judge, lines_from}
use Rattle.sheet.specs.Inside.{line_kind, form_of}
use Rattle.sheet.specs.Reader.{request_from}

-- a line up to its LF
pub lines-line : (n d m k : ℕ) (cur s : List ℕ) → length (before lf s) < length s
    → lines_from n d m k cur s ≡ judge (kind_of d m (cur ++ before lf s)) n d m k (drop (suc (length (before lf s))) s) (lines_from n d (m + 1) (k + 1) [] (drop (suc (length (before lf s))) s))
unfolding lines_from before
lines-line n d m k cur [] h = absurd (omega arith)
lines-line n d m k cur (c ∷ cs) h = go (eqb c 10) (lines-line n d m k (cur ++ (c ∷ [])) cs) h
  where
    go : (t : Bool)
        → (length (before lf cs) < length cs → lines_from n d m k (cur ++ (c ∷ [])) cs
        ≡ judge (kind_of d m ((cur ++ (c ∷ [])) ++ before lf cs)) n d m k (drop (suc (length (before lf cs))) cs) (lines_from n d (m + 1) (k + 1) [] (drop (suc (length (before lf cs))) cs)))
        → length (cond t [] (c ∷ before lf cs)) < suc (length cs)
        → cond t (judge (kind_of d m cur) n d m k cs (lines_from n d (m + 1) (k + 1) [] cs)) (lines_from n d m k (cur ++ (c ∷ [])) cs)
        ≡ judge (kind_of d m (cur ++ cond t [] (c ∷ before lf cs))) n d m k (drop (suc (length (cond t [] (c ∷ before lf cs)))) (c ∷ cs))
        (lines_from n d (m + 1) (k + 1) [] (drop (suc (length (cond t [] (c ∷ before lf cs)))) (c ∷ cs)))
    go true ih h = rw append-nil
    go false ih h = rw (ih (omega arith), append_assoc)

-- a line with no LF
pub lines-loose : (n d m k : ℕ) (cur s : List ℕ) → length s ≤ length (before lf s) → lines_from n d m k cur s ≡ broken k
unfolding lines_from before
lines-loose n d m k cur [] h = refl
lines-loose n d m k cur (c ∷ cs) h = go (eqb c 10) (lines-loose n d m k (cur ++ (c ∷ [])) cs) h
  where
    go : (t : Bool) → (length cs ≤ length (before lf cs) → lines_from n d m k (cur ++ (c ∷ [])) cs ≡ broken k)
        → suc (length cs) ≤ length (cond t [] (c ∷ before lf cs))
        → cond t (judge (kind_of d m cur) n d m k cs (lines_from n d (m + 1) (k + 1) [] cs)) (lines_from n d m k (cur ++ (c ∷ [])) cs) ≡ broken k
    go true ih h = absurd (omega arith)
    go false ih h = ih (omega arith)

-- the same at byte `at` of a sheet, with the line as it was cut
module _ (n d m k : ℕ) (s : List ℕ) (at : ℕ) (line : List ℕ) (q : line ≡ before lf (drop at s)) (h : at ≤ length s) where
  -- with its LF: the line is judged
  pub lines_at : at + length line < length s
      → lines_from n d m k [] (drop at s)
      ≡ judge (kind_of d m line) n d m k (drop (at + length line + 1) s) (lines_from n d (m + 1) (k + 1) [] (drop (at + length line + 1) s))
  lines_at l =
      let i : at + suc (length line) ≡ at + length line + 1 = omega arith in
      let e : drop (suc (length line)) (drop at s) ≡ drop (at + length line + 1) s = drop-drop (suc (length line)) at s ∙ rw i in
      rw (← e, q) (lines-line n d m k [] (drop at s) (rw (← q, length-drop) (omega arith)))

  -- without: it is bad
  pub lines-last : length s ≤ at + length line → lines_from n d m k [] (drop at s) ≡ broken k
  lines-last l = lines-loose n d m k [] (drop at s) (rw (← q, length-drop) (omega arith))

-- an arc's words do not show in the form
form-arc : (vs : List ℕ) (p : Contents) → form_of (add_arc vs p) ≡ form_of p
form-arc vs (whole n d m ws a) = refl
form-arc vs (broken k) = refl

-- what a line of each sort makes of the sheet's form_of
module _ (n d m k : ℕ) (g : Kind) (cs : List ℕ) (rest : Contents) where
  -- an arc: what follows decides
  judge-arc : Some Arc ≡ line_kind n d g → form_of (judge g n d m k cs rest) ≡ form_of rest
  judge-arc e = go g e
    where
      go : (g : Kind) → Some Arc ≡ line_kind n d g → form_of (judge g n d m k cs rest) ≡ form_of rest
      go (an_arc vs) e = form-arc vs rest
      go (an_ask vs) e = let z : ◌≡◌ {A = ℕ} 0 1 = cc in absurd (omega arith)
      go neither e = let z : ◌≡◌ {A = ℕ} 0 1 = cc in absurd (omega arith)

  -- neither: the line is bad
  judge-neither : None ≡ line_kind n d g → form_of (judge g n d m k cs rest) ≡ Err (refusal.Form k)
  judge-neither e = go g e
    where
      go : (g : Kind) → None ≡ line_kind n d g → form_of (judge g n d m k cs rest) ≡ Err (refusal.Form k)
      go (an_arc vs) e = let z : ◌≡◌ {A = ℕ} 0 1 = cc in absurd (omega arith)
      go (an_ask vs) e = let z : ◌≡◌ {A = ℕ} 0 1 = cc in absurd (omega arith)
      go neither e = refl

  -- the ask at the end: the sheet is whole
  judge-ask : (a : Request) → Some (Ask a) ≡ line_kind n d g → length cs ≡ 0 → form_of (judge g n d m k cs rest) ≡ Ok (record { request = a; arcs = m })
  judge-ask a e l = go g e cs l
    where
      go : (g : Kind) → Some (Ask a) ≡ line_kind n d g → (cs : List ℕ) → length cs ≡ 0
          → form_of (judge g n d m k cs rest) ≡ Ok (record { request = a; arcs = m })
      go (an_arc vs) e cs l = let z : ◌≡◌ {A = ℕ} 0 1 = cc in absurd (omega arith)
      go (an_ask vs) e [] l = let q : a ≡ request_from n d vs = cc in rw q
      go (an_ask vs) e (c ∷ cs) l = absurd (omega arith)
      go neither e cs l = let z : ◌≡◌ {A = ℕ} 0 1 = cc in absurd (omega arith)

  -- the ask and more after it: the next line is bad
  judge-more : (a : Request) → Some (Ask a) ≡ line_kind n d g → 0 < length cs → form_of (judge g n d m k cs rest) ≡ Err (refusal.Form (k + 1))
  judge-more a e l = go g e cs l
    where
      go : (g : Kind) → Some (Ask a) ≡ line_kind n d g → (cs : List ℕ) → 0 < length cs → form_of (judge g n d m k cs rest) ≡ Err (refusal.Form (k + 1))
      go (an_arc vs) e cs l = let z : ◌≡◌ {A = ℕ} 0 1 = cc in absurd (omega arith)
      go (an_ask vs) e [] l = absurd (omega arith)
      go (an_ask vs) e (c ∷ cs) l = refl
      go neither e cs l = let z : ◌≡◌ {A = ℕ} 0 1 = cc in absurd (omega arith)

-- ---- a line that was cut at byte `at`, by its sort: m arcs stand before it, so it is line m + 2

module _ (n d m : ℕ) (s : List ℕ) (at : ℕ) (line : List ℕ) (q : line ≡ before lf (drop at s)) (h : at ≤ length s) (l : at + length line < length s) where
  -- what stands after its LF
  abbrev rest : List ℕ
  rest = drop (at + length line + 1) s

  -- the form is what the line and the rest make of it
  judged : form_of (lines_from n d m (m + 2) [] (drop at s)) ≡ form_of (judge (kind_of d m line) n d m (m + 2) rest (lines_from n d (m + 1) (m + 2 + 1) [] rest))
  judged = ap form_of (lines_at n d m (m + 2) s at line q h l)

  -- an arc: the lines after it say the rest
  pub says-arc : Some Arc ≡ line_kind n d (kind_of d m line) → form_of (lines_from n d m (m + 2) [] (drop at s)) ≡ form_of (lines_from n d (m + 1) (m + 1 + 2) [] rest)
  says-arc e =
      let k : m + 2 + 1 ≡ m + 1 + 2 = omega arith in
      judged ∙ judge-arc n d m (m + 2) (kind_of d m line) rest (lines_from n d (m + 1) (m + 2 + 1) [] rest) e ∙ ap (λ (x : ℕ). form_of (lines_from n d (m + 1) x [] rest)) k

  -- neither: the line is bad
  pub says-neither : None ≡ line_kind n d (kind_of d m line) → form_of (lines_from n d m (m + 2) [] (drop at s)) ≡ Err (refusal.Form (m + 2))
  says-neither e = judged ∙ judge-neither n d m (m + 2) (kind_of d m line) rest (lines_from n d (m + 1) (m + 2 + 1) [] rest) e

  -- the ask, at the sheet's end: the sheet is whole
  pub says-ask : (a : Request) → Some (Ask a) ≡ line_kind n d (kind_of d m line) → at + length line + 1 ≡ length s
      → form_of (lines_from n d m (m + 2) [] (drop at s)) ≡ Ok (record { request = a; arcs = m })
  says-ask a e f =
      judged ∙ judge-ask n d m (m + 2) (kind_of d m line) rest (lines_from n d (m + 1) (m + 2 + 1) [] rest) a e (length-drop (at + length line + 1) s ∙ omega arith)

  -- the ask, and bytes after it: the next line is bad
  pub says-more : (a : Request) → Some (Ask a) ≡ line_kind n d (kind_of d m line) → (at + length line + 1 ≡ length s → ⊥)
      → form_of (lines_from n d m (m + 2) [] (drop at s)) ≡ Err (refusal.Form (m + 3))
  says-more a e f =
      let k : m + 2 + 1 ≡ m + 3 = omega arith in
      judged ∙ judge-more n d m (m + 2) (kind_of d m line) rest (lines_from n d (m + 1) (m + 2 + 1) [] rest) a e (rw length-drop (omega arith))
      ∙ ap (λ (x : ℕ). Err (refusal.Form x)) k

-- ---- the sheet's end

-- where nothing is left, line k is missing
pub lines_none : (n d m k : ℕ) (s : List ℕ) (at : ℕ) → length s ≤ at → lines_from n d m k [] (drop at s) ≡ broken k
unfolding lines_from
lines_none n d m k s at h = rw (drop_of_length-le s h)
