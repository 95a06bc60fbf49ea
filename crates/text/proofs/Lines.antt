-- A line's numbers: how reading them goes on at a byte, and what the loop over them keeps. Assumes nothing.
use Prim.Native.Nat.{ℕ, suc, ◌+◌, ◌-◌, ◌≤◌, ◌<◌}
use mathlib.Core.Path.{◌≡◌, refl, ap, sym, ◌∙◌}
use mathlib.Core.List.{List, [], ◌∷◌, ◌++◌, append_assoc, append-nil}
use native.Mathlib.Omega.{arith}
use native.Mathlib.Numerals.{add-one}
use native.Mathlib.Nat.{sub-zero}
use lib.ListN.{length, get_or, take, drop, set, drop_of_length-le}
use lib.Seq.{take-suc-set, length-take-le}
use borrow.Author.Tests.{lt-ltb, le-ltb, eq-eqb, ne_eqb}
use Rattle.words.specs.Pieces.{write}
use Rattle.words.proofs.Writes.{write-front, front-more, write-none}
use Rattle.std.specs.Prelude.{Result, Ok}
use Rattle.text.specs.declared.Fault.{Fault}
use Rattle.text.specs.Fault.{fault}
use Rattle.text.specs.Field.{before, common}
use Rattle.text.specs.Number.{number}
use Rattle.text.specs.Line.{Got, good, bad, found, placed, item, prepend, numbers, line_of, answer_of, taken_of}
use Rattle.text.proofs.Fields.{drop-next}

-- ---- one item, at byte `at`

module _ (sep at : ℕ) (line : List ℕ) where
  -- the line ends
  pub item-end : length line ≤ at → item sep at (drop at line) ≡ fault at
  unfolding item
  item-end h = rw (drop_of_length-le line h)

  -- another byte stands there
  pub item-other : at < length line → (get_or line at 0 ≡ sep → ⊥) → item sep at (drop at line) ≡ fault at
  unfolding item
  item-other h e = rw (drop-next at line h, ne_eqb (get_or line at 0) sep e)

  -- sep stands there: what follows it decides
  item-after : at < length line → get_or line at 0 ≡ sep
      → item sep at (drop at line) ≡ placed at (length (before sep (drop (at + 1) line))) (number (before sep (drop (at + 1) line)))
  unfolding item
  item-after h e = rw (drop-next at line h, eq-eqb (get_or line at 0) sep e)

-- the same with the field that was cut, and what was read of it
pub item-read : (sep at : ℕ) (line field : List ℕ) (g : Result ℕ Fault) → at < length line → get_or line at 0 ≡ sep
    → field ≡ before sep (drop (at + 1) line) → g ≡ number field → item sep at (drop at line) ≡ placed at (length field) g
item-read sep at line field g h e k n = rw (n, k) (item-after sep at line h e)

-- ---- the numbers, one more or the last

-- one is found: the others follow it
pub numbers_more : (sep n : ℕ) (line : List ℕ) (at v e : ℕ) → item sep at (drop at line) ≡ found v e
    → numbers sep (suc n) line at ≡ prepend v (numbers sep n line e)
unfolding numbers
numbers_more sep n line at v e h = rw h

-- none is found: its fault is the line's
numbers-wrong : (sep n : ℕ) (line : List ℕ) (at j : ℕ) → item sep at (drop at line) ≡ fault j → numbers sep (suc n) line at ≡ bad j []
unfolding numbers
numbers-wrong sep n line at j h = rw h

-- all are read, and the line goes on
numbers-over : (sep : ℕ) (line : List ℕ) (at : ℕ) → at < length line → numbers sep 0 line at ≡ bad at []
unfolding numbers
numbers-over sep line at h = rw (lt-ltb at (length line) h)

-- all are read, and the line ends
pub numbers-end : (sep : ℕ) (line : List ℕ) (at : ℕ) → length line ≤ at → numbers sep 0 line at ≡ good []
unfolding numbers
numbers-end sep line at h = rw (le-ltb at (length line) h)

-- ---- numbers that have been read before

-- with the numbers xs in front
abbrev pub prefixed : List ℕ → Got → Got
prefixed xs (good vs) = good (xs ++ vs)
prefixed xs (bad j vs) = bad j (xs ++ vs)

-- one more in front of the others
prefixed-next : (xs : List ℕ) (v : ℕ) (g : Got) → prefixed xs (prepend v g) ≡ prefixed (xs ++ (v ∷ [])) g
prefixed-next xs v (good vs) = ap good (sym (append_assoc xs (v ∷ []) vs))
prefixed-next xs v (bad j vs) = ap (bad j) (sym (append_assoc xs (v ∷ []) vs))

-- with none in front
prefixed-none : (g : Got) → g ≡ prefixed [] g
prefixed-none (good vs) = refl
prefixed-none (bad j vs) = refl

-- ---- the loop: i of the n numbers stand in front of what `out` held, and the next is after byte `at`

-- what is left of the line, what the buffer holds, and how far the loop is
pub record Reading (sep : ℕ) (out₀ line : List ℕ) (from : ℕ) (out : List ℕ) (i at : ℕ) : Type 0 where
  pub left : numbers sep (length out₀) line from ≡ prefixed (take i out) (numbers sep (length out₀ - i) line at)
  pub kept : out ≡ take i out ++ drop i out₀
  pub inside : i ≤ length out₀
  pub long : length out ≡ length out₀

-- what the function has to answer, and to leave in the buffer
abbrev pub Answers : ℕ → List ℕ → List ℕ → ℕ → Result Unit Fault → List ℕ → Type 0
Answers sep out₀ line from r out = (r ≡ answer_of (numbers sep (length out₀) line from)) × (out ≡ write out₀ 0 (taken_of (numbers sep (length out₀) line from)))

-- before the first number
pub reading-start : (sep : ℕ) (out line : List ℕ) (from : ℕ) → Reading sep out line from out 0 from
reading-start sep out line from =
    record { left = rw sub-zero (prefixed-none (numbers sep (length out) line from)); kept = refl; inside = omega arith; long = refl }

module _ (sep : ℕ) (out₀ line : List ℕ) (from : ℕ) (out : List ℕ) (i at : ℕ) (r : Reading sep out₀ line from out i at) where
  -- i numbers stand in front
  front_length : length (take i out) ≡ i
  front_length = length-take-le i out (omega (arith, r.inside, r.long))

  -- one number more is stored
  pub reading-on : (v e : ℕ) → i < length out₀ → length (set out i v) ≡ length out₀ → item sep at (drop at line) ≡ found v e
      → Reading sep out₀ line from (set out i v) (i + 1) e
  reading-on v e h long q =
      let k : length out₀ - i ≡ suc (length out₀ - (i + 1)) = omega arith in
      let t : take (i + 1) (set out i v) ≡ take i out ++ (v ∷ []) = rw add-one (take-suc-set out i v (omega (arith, r.long))) in
      let s : set out i v ≡ (take i out ++ (v ∷ [])) ++ drop (i + 1) out₀ =
      ap (λ (l : List ℕ). set l i v) r.kept ∙ front-more (take i out) out₀ i v front_length h in
      record {
        left = r.left ∙ rw (k, numbers_more sep (length out₀ - (i + 1)) line at v e q, t) (prefixed-next (take i out) v (numbers sep (length out₀ - (i + 1)) line e));
        kept = s ∙ ap (λ (l : List ℕ). l ++ drop (i + 1) out₀) (sym t);
        inside = omega arith;
        long = long;
      }

  -- the buffer, where the numbers read are those in its front
  front-is : out ≡ write out₀ 0 (take i out)
  front-is =
      let n : length (take i out) ≡ i = front_length in
      r.kept ∙ sym (write-front out₀ (take i out) (omega (arith, r.inside)) ∙ ap (λ (k : ℕ). take i out ++ drop k out₀) n)

  -- a fault in what is left is the answer
  answers-bad : (j : ℕ) → numbers sep (length out₀ - i) line at ≡ bad j [] → Answers sep out₀ line from (fault j) out
  answers-bad j e =
      let g : numbers sep (length out₀) line from ≡ bad j (take i out) = r.left ∙ ap (prefixed (take i out)) e ∙ ap (bad j) (append-nil (take i out)) in
      (sym (ap answer_of g), front-is ∙ ap (write out₀ 0) (sym (ap taken_of g)))

  -- a fault in the next number
  pub reading-wrong : (j : ℕ) → i < length out₀ → item sep at (drop at line) ≡ fault j → Answers sep out₀ line from (fault j) out
  reading-wrong j h q =
      let k : length out₀ - i ≡ suc (length out₀ - (i + 1)) = omega arith in
      answers-bad j (rw k (numbers-wrong sep (length out₀ - (i + 1)) line at j q))

  -- the line goes on after the last
  pub reading-over : length out₀ ≤ i → at < length line → Answers sep out₀ line from (fault at) out
  reading-over h q =
      let k : length out₀ - i ≡ 0 = omega arith in
      answers-bad at (rw k (numbers-over sep line at q))

  -- the line ends after the last
  pub reading-end : length out₀ ≤ i → length line ≤ at → Answers sep out₀ line from (Ok tt) out
  reading-end h q =
      let k : length out₀ - i ≡ 0 = omega arith in
      let g : numbers sep (length out₀) line from ≡ good (take i out) =
      r.left ∙ rw (k, numbers-end sep line at q) (ap good (append-nil (take i out))) in
      (sym (ap answer_of g), front-is ∙ ap (write out₀ 0) (sym (ap taken_of g)))

-- ---- the word in front of them

-- the word is not there
line_of-short : (sep : ℕ) (w : List ℕ) (n : ℕ) (line : List ℕ) (c : ℕ) → c ≡ common w line → c < length w → line_of sep w n line ≡ bad c []
unfolding line_of
line_of-short sep w n line c e h = rw (← e, lt-ltb c (length w) h)

-- the word is there: the numbers decide
pub line_of-whole : (sep : ℕ) (w : List ℕ) (n : ℕ) (line : List ℕ) (c : ℕ) → c ≡ common w line → length w ≤ c → line_of sep w n line ≡ numbers sep n line (length w)
unfolding line_of
line_of-whole sep w n line c e h = rw (← e, le-ltb c (length w) h)

-- what a line's reader has to answer, and to leave in the buffer
abbrev pub LineAnswers : ℕ → List ℕ → List ℕ → List ℕ → Result Unit Fault → List ℕ → Type 0
LineAnswers sep word out₀ line r out =
    (r ≡ answer_of (line_of sep word (length out₀) line)) × (out ≡ write out₀ 0 (taken_of (line_of sep word (length out₀) line)))

module _ (sep : ℕ) (word out₀ line : List ℕ) (c : ℕ) (e : c ≡ common word line) where
  -- the word is not there: nothing is stored
  pub line-short : c < length word → LineAnswers sep word out₀ line (fault c) out₀
  line-short h =
      let g : line_of sep word (length out₀) line ≡ bad c [] = line_of-short sep word (length out₀) line c e h in
      (sym (ap answer_of g), sym (ap (λ (x : Got). write out₀ 0 (taken_of x)) g ∙ write-none out₀ 0))

  -- the word is there: the numbers' answer is the line's
  pub line-whole : length word ≤ c → (r : Result Unit Fault) (out : List ℕ) → Answers sep out₀ line (length word) r out → LineAnswers sep word out₀ line r out
  line-whole h r out a =
      let g : numbers sep (length out₀) line (length word) ≡ line_of sep word (length out₀) line = sym (line_of-whole sep word (length out₀) line c e h) in
      (a.0 ∙ ap answer_of g, a.1 ∙ ap (λ (x : Got). write out₀ 0 (taken_of x)) g)
