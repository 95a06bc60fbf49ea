-- What one line is: an arc, the ask, or neither, and what the functions that read it tell. Assumes nothing.
use Prim.Native.Nat.{ℕ, ◌*◌, ◌≤◌, ◌<◌}
use mathlib.Core.Path.{◌≡◌, refl, ap, sym, ◌∙◌, subst}
use mathlib.Core.List.{List, [], ◌∷◌, ◌++◌, append-nil}
use mathlib.Core.Bool.{true, false}
use mathlib.Core.Logic.{⊎_elim}
use native.Mathlib.Omega.{arith}
use lib.ListN.{length, get_or, drop, drop_of_length-le}
use borrow.Author.Tests.{lt-ltb, le-ltb}
use Rattle.words.specs.Pieces.{write}
use Rattle.words.proofs.Choices.{lt-or-le}
use Rattle.words.proofs.Writes.{write-front, spelled-all}
use Rattle.words.specs.Rows.{weigh}
use Rattle.request.specs.declared.Request.{Request}
use Rattle.request.specs.declared.Refusal.{Refusal}
use Rattle.request.specs.Refusal.{number_of, place_of, said}
use Rattle.request.specs.Rows.{outside, criteria_row}
use Rattle.request.proofs.Tests.{not-outside}
use Rattle.request.proofs.Branches.{row-passed, row-held}
use lib.Dec.{T}
use Rattle.text.specs.declared.Fault.{Fault}
use Rattle.text.specs.Fault.{fault}
use Rattle.text.specs.Line.{Got, good, bad, line_of, answer_of, taken_of}
use Rattle.text.proofs.Results.{fault-same}
use Rattle.text.proofs.Written.{line_of-was}
use Rattle.sheet.specs.declared.reader.LineKind.TheVariants.{Arc, Ask}
use Rattle.std.specs.Result.{result_ok}
use Rattle.std.proofs.Common.{Some, is_err, option_map, Result, Ok, Err}
use Rattle.sheet.specs.Grammar.{tab, arc_line, ask_line, or_ask, arc_or, kind_of}
use Rattle.sheet.specs.Inside.{is_good, ask_kind, line_kind}
use Rattle.sheet.specs.Reader.{request_from}

-- ---- what a line's reader tells

-- a line that was found good
good-was : (g : Got) → Ok tt ≡ answer_of g → g ≡ good (taken_of g)
good-was (good vs) e = refl
good-was (bad j us) e = let z : ◌≡◌ {A = ℕ} 0 1 = cc in absurd (omega arith)

-- a line that was found bad at byte j
bad-was : (g : Got) (j : ℕ) → fault j ≡ answer_of g → g ≡ bad j (taken_of g)
bad-was (good vs) j e = let z : ◌≡◌ {A = ℕ} 0 1 = cc in absurd (omega arith)
bad-was (bad i us) j e = let q : j ≡ i = fault-same e in ap (λ (k : ℕ). bad k us) (sym q)

-- an answer that is no fault
pub no-fault : (r : Result Unit Fault) (x : Unit) → result_ok r ≡ Some x → r ≡ Ok tt
no-fault (Ok u) x e = refl
no-fault (Err f) x e = let z : ◌≡◌ {A = ℕ} 0 1 = cc in absurd (omega arith)

-- the same, by the library's test
pub no-err : (r : Result Unit Fault) → is_err r ≡ false → r ≡ Ok tt
no-err (Ok u) e = refl
no-err (Err f) e = let z : ◌≡◌ {A = ℕ} 0 1 = cc in absurd (omega arith)

-- ---- what the weighing of row 3 tells

-- d is 2 or 3, where it does not refuse
pub criteria-in : (d : ℕ) (r : Result Unit Refusal) → said r ≡ weigh (criteria_row d ∷ []) → is_err r ≡ false → (2 ≤ d) × (d ≤ 3)
criteria-in d (Ok u) s e = not-outside 2 3 d (row-passed (criteria_row d) (sym s))
criteria-in d (Err f) s e = let z : ◌≡◌ {A = ℕ} 0 1 = cc in absurd (omega arith)

-- and another number, where it refuses
pub criteria-out : (d : ℕ) (r : Result Unit Refusal) → said r ≡ weigh (criteria_row d ∷ []) → is_err r ≡ true → (d ≡ 2 → ⊥) × (d ≡ 3 → ⊥)
unfolding outside
criteria-out d (Ok u) s e = let z : ◌≡◌ {A = ℕ} 0 1 = cc in absurd (omega arith)
criteria-out d (Err f) s e =
    let held = (row-held (criteria_row d) (number_of f) (place_of f) (sym s)).0 in
    (λ q. absurd (subst (λ (x : ℕ). T (outside 2 3 x)) q held), λ q. absurd (subst (λ (x : ℕ). T (outside 2 3 x)) q held))

-- ---- what a line's reader tells of its numbers

-- its answer r says of the line, at the count n that the lent part has
module _ (word : List ℕ) (n k : ℕ) (line : List ℕ) (r : Result Unit Fault) (h : r ≡ answer_of (line_of tab word k line)) (e : k ≡ n) where
  -- it is good
  pub told-good : r ≡ Ok tt → line_of tab word n line ≡ good (taken_of (line_of tab word n line))
  told-good g = good-was (line_of tab word n line) (sym g ∙ h ∙ ap (λ (x : ℕ). answer_of (line_of tab word x line)) e)

  -- it is bad at byte j
  pub told-bad : (j : ℕ) → r ≡ fault j → line_of tab word n line ≡ bad j (taken_of (line_of tab word n line))
  told-bad j g = bad-was (line_of tab word n line) j (sym g ∙ h ∙ ap (λ (x : ℕ). answer_of (line_of tab word x line)) e)

-- a good line's numbers fill the part that was lent for them
pub filled : (word : List ℕ) (n : ℕ) (line vs out₀ out : List ℕ) → length out₀ ≡ n → line_of tab word n line ≡ good vs
    → out ≡ write out₀ 0 (taken_of (line_of tab word (length out₀) line)) → out ≡ vs
filled word n line vs out₀ out l g e =
    let t : taken_of (line_of tab word (length out₀) line) ≡ vs = ap (λ (k : ℕ). taken_of (line_of tab word k line)) l ∙ ap taken_of g in
    let w : length vs ≡ n = (line_of-was tab word n line vs g).1 in
    let f : length out₀ ≤ length vs = omega arith in
    let d : drop (length vs) out₀ ≡ [] = drop_of_length-le out₀ f in
    e ∙ ap (write out₀ 0) t ∙ write-front out₀ vs (omega arith) ∙ ap (λ (r : List ℕ). vs ++ r) d ∙ append-nil vs

-- ---- the numbers of an `ask` line

-- the six words that `ask_line` reads into
abbrev pub padded : ℕ → List ℕ → List ℕ
padded n vs = vs ++ drop n (0 ∷ 0 ∷ 0 ∷ 0 ∷ 0 ∷ 1 ∷ [])

module _ (n d : ℕ) where
  -- the request of N, d and what stands in six words, by place
  abbrev pub request_by : List ℕ → Request
  request_by l =
      record { nodes = n; criteria = d; source = get_or l 0 0; hops = get_or l 1 0; ratios = get_or l 2 0 ∷ get_or l 3 0 ∷ get_or l 4 0 ∷ get_or l 5 0 ∷ [] }

  -- four numbers that were read, and 0 over 1 after them
  padded-four : (vs : List ℕ) → length vs ≡ 4 → request_by (padded 4 vs) ≡ request_from n d vs
  padded-four vs h = subst (λ (l : List ℕ). request_by (padded 4 l) ≡ request_from n d l) (spelled-all vs 4 h) refl

  -- six numbers that were read
  padded-six : (vs : List ℕ) → length vs ≡ 6 → request_by (padded 6 vs) ≡ request_from n d vs
  padded-six vs h = subst (λ (l : List ℕ). request_by (padded 6 l) ≡ request_from n d l) (spelled-all vs 6 h) refl

  -- the numbers v that were read, in front of those that were there
  pub padded-ask : (v vs : List ℕ) → 2 ≤ d → d ≤ 3 → v ≡ vs → length vs ≡ d * 2 → request_by (padded (d * 2) v) ≡ request_from n d vs
  padded-ask v vs l u q h =
      ⊎_elim (λ s. let e : d * 2 ≡ 4 = omega arith in rw (q, e) (padded-four vs (h ∙ e)))
      (λ s. let e : d * 2 ≡ 6 = omega arith in rw (q, e) (padded-six vs (h ∙ e)))
      (lt-or-le d 3)

-- ---- the kind of a line

module _ (n d m : ℕ) (l : List ℕ) where
  -- an arc, where there may be one more
  pub kind-arc-told : m < 512 → true ≡ is_good (arc_line d l) → Some Arc ≡ line_kind n d (kind_of d m l)
  unfolding kind_of
  kind-arc-told h e = rw (lt-ltb m 512 h) (go (arc_line d l) e)
    where
      go : (g : Got) → true ≡ is_good g → Some Arc ≡ line_kind n d (arc_or g (or_ask (ask_line d l)))
      go (good vs) e = refl
      go (bad j us) e = let z : ◌≡◌ {A = ℕ} 0 1 = cc in absurd (omega arith)

  -- any other line is the ask or neither
  pub kind-else-told : ((m < 512) → is_good (arc_line d l) ≡ false) → option_map Ask (ask_kind n d (ask_line d l)) ≡ line_kind n d (kind_of d m l)
  unfolding kind_of
  kind-else-told h = ⊎_elim (λ s. rw (lt-ltb m 512 s) (arc (arc_line d l) (h s))) (λ s. rw (le-ltb m 512 s) (ask (ask_line d l))) (lt-or-le m 512)
    where
      ask : (g : Got) → option_map Ask (ask_kind n d g) ≡ line_kind n d (or_ask g)
      ask (good vs) = refl
      ask (bad j us) = refl

      arc : (g : Got) → is_good g ≡ false → option_map Ask (ask_kind n d (ask_line d l)) ≡ line_kind n d (arc_or g (or_ask (ask_line d l)))
      arc (good vs) e = let z : ◌≡◌ {A = ℕ} 0 1 = cc in absurd (omega arith)
      arc (bad j us) e = ask (ask_line d l)
