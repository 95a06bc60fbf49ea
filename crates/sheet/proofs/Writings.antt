-- The writer's answer by its refusal table, and that an answer's numbers tell the answer. Assumes nothing.
use Prim.Native.Nat.{ℕ, ◌+◌, ◌/◌, ◌%◌, ◌≤◌, ◌<◌}
use mathlib.Core.Path.{◌≡◌, refl, ap, ◌∙◌, sym}
use mathlib.Core.List.{List, [], ◌∷◌}
use mathlib.Core.Bool.{true, false}
use native.Mathlib.Omega.{arith}
use lib.ListN.{length, drop}
use lib.Dec.{ltb, nltb→le}
use borrow.Author.Tests.{lt-ltb, le-ltb}
use Rattle.words.specs.Pieces.{write}
use Rattle.words.specs.Rows.{Row, clear, refused, weigh}
use Rattle.words.proofs.Rows.{weigh-held, weigh-passed, weigh-none, weigh-append, weigh-front}
use Rattle.words.proofs.Choices.{true-is, false-is, or-neither, nor-left, nor-right}
use Rattle.request.specs.declared.Request.{Request}
use Rattle.request.specs.Rows.{outside, criteria_row, arc_words_row}
use Rattle.request.proofs.Tests.{lt-fails, not-outside}
use Rattle.request.proofs.Branches.{row-passed, words-good}
use Rattle.text.specs.Number.{any_over}
use Rattle.request.specs.declared.Refusal.{Refusal}
use Rattle.request.specs.declared.Refusal.TheVariants as refusal
use Rattle.request.specs.Refusal.{number_of, place_of}
use Rattle.std.proofs.Common.{Result, Ok, Err}
use Rattle.sheet.specs.Writer.{writing_said, numbers_of, written, writer_rows, write_says, sheet_after, Ranged}
use Rattle.sheet.proofs.Answers.{same-refusal}

-- ---- one to one

-- two answers that say the same are the same
pub writing-said-once : (a b : Result ℕ Refusal) → writing_said a ≡ writing_said b → a ≡ b
writing-said-once (Ok m) (Ok n) e = let q : m ≡ n = cc in ap Ok q
writing-said-once (Ok m) (Err r) e = absurd (omega (arith, ap (length {A = ℕ}) e))
writing-said-once (Err r) (Ok n) e = absurd (omega (arith, ap (length {A = ℕ}) e))
writing-said-once (Err q) (Err r) e = ap Err (same-refusal q r e)

-- ---- rows 3 and 7 alone

-- d and the arcs are in range, where neither holds
pub ranged : (d : ℕ) (words : List ℕ) → weigh (criteria_row d ∷ []) ≡ clear → weigh (arc_words_row (length words) (d + 2) ∷ []) ≡ clear → Ranged d words
unfolding arc_words_row
ranged d words three seven =
    let w = d + 2 in
    let in-range = not-outside 2 3 d (row-passed _ three) in
    let t = row-passed _ seven in
    record {
      at_least = in-range.0;
      at_most = in-range.1;
      multiple = (let h = nltb→le 0 (length words % w) (nor-left (ltb 0 (length words % w)) (ltb 512 (length words / w)) t) in omega arith);
      arcs = nltb→le 512 (length words / w) (nor-right (ltb 0 (length words % w)) (ltb 512 (length words / w)) t);
    }

-- and neither holds, where they are in range
criteria-clear : (d : ℕ) (words : List ℕ) → Ranged d words → weigh (criteria_row d ∷ []) ≡ clear
unfolding outside
criteria-clear d words g = weigh-passed (criteria_row d) [] (or-neither (ltb d 2) (ltb 3 d) (lt-fails g.at_least) (lt-fails g.at_most)) ∙ weigh-none

arc-words-clear : (d : ℕ) (words : List ℕ) → Ranged d words → weigh (arc_words_row (length words) (d + 2) ∷ []) ≡ clear
arc-words-clear d words g = words-good (length words) (d + 2) (omega (arith, g.multiple)) g.arcs

-- ---- the first row that holds

module _ (r : Request) (words sheet : List ℕ) where
  -- the writer's table
  abbrev rows : List Row
  rows = writer_rows r words (length sheet)

  -- what the writer has to answer, and to leave in the lent bytes
  pub record Writes (w : Result ℕ Refusal) (sheet' : List ℕ) : Type 0 where
    pub value : writing_said w ≡ write_says r words (length sheet)
    pub bytes : sheet' ≡ sheet_after r words sheet

  -- a refusal: its number and place, and the bytes as they came
  refuses : (q : Refusal) → weigh rows ≡ refused (number_of q) (place_of q) → Writes (Err q) sheet
  unfolding write_says sheet_after
  refuses q e = record { value = rw e refl; bytes = rw e refl }

  -- row 3 alone, and row 7 alone
  abbrev Three : List Row
  Three = criteria_row r.criteria ∷ []

  abbrev Seven : List Row
  Seven = arc_words_row (length words) (r.criteria + 2) ∷ []

  -- row 3
  pub writes-outside : (q : Refusal) → weigh Three ≡ refused (number_of q) (place_of q) → Writes (Err q) sheet
  writes-outside q e = refuses q (weigh-front Three (drop 1 rows) (number_of q) (place_of q) e)

  -- row 7
  pub writes-uneven : (q : Refusal) → weigh Three ≡ clear → weigh Seven ≡ refused (number_of q) (place_of q) → Writes (Err q) sheet
  writes-uneven q three e = refuses q (weigh-append Three (drop 1 rows) three ∙ weigh-front Seven (drop 2 rows) (number_of q) (place_of q) e)

  module _ (g : Ranged r.criteria words) where
    past-arcs : weigh rows ≡ weigh (drop 2 rows)
    past-arcs = weigh-append Three (drop 1 rows) (criteria-clear r.criteria words g) ∙ weigh-append Seven (drop 2 rows) (arc-words-clear r.criteria words g)

    -- row 11
    pub writes-large : any_over (numbers_of r words) ≡ true → Writes (Err refusal.Digits) sheet
    writes-large h = refuses refusal.Digits (past-arcs ∙ weigh-held _ _ (true-is h))

    module _ (small : any_over (numbers_of r words) ≡ false) where
      past-numbers : weigh rows ≡ weigh (drop 3 rows)
      past-numbers = past-arcs ∙ weigh-passed _ _ (false-is small)

      -- row 12
      pub writes-long : 8192 < length (written r words) → Writes (Err refusal.Bytes) sheet
      writes-long h = refuses refusal.Bytes (past-numbers ∙ weigh-held _ _ (true-is (lt-ltb 8192 (length (written r words)) h)))

      module _ (fits : length (written r words) ≤ 8192) where
        past-length : weigh rows ≡ weigh (drop 4 rows)
        past-length = past-numbers ∙ weigh-passed _ _ (false-is (le-ltb 8192 (length (written r words)) fits))

        -- row 13
        pub writes_short : length sheet < length (written r words) → Writes (Err (refusal.Room 1)) sheet
        writes_short h = refuses (refusal.Room 1) (past-length ∙ weigh-held _ _ (true-is (lt-ltb (length sheet) (length (written r words)) h)))

        -- no row
        pub writes-sheet : length (written r words) ≤ length sheet → Writes (Ok (length (written r words))) (write sheet 0 (written r words))
        unfolding write_says sheet_after
        writes-sheet h =
            let w : weigh rows ≡ clear = past-length ∙ weigh-passed _ _ (false-is (le-ltb (length sheet) (length (written r words)) h)) ∙ weigh-none in
            record { value = rw w refl; bytes = rw w refl }

  -- ---- two answers that the promise allows are the same

  -- they say the same, so they are the same; the bytes are given by an equation
  pub writes-once : (v w : Result ℕ Refusal) (x y : List ℕ) → Writes v x → Writes w y → (v ≡ w) × (x ≡ y)
  writes-once v w x y a b = (writing-said-once v w (a.value ∙ sym b.value), a.bytes ∙ sym b.bytes)
