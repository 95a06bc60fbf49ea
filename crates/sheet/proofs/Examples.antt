-- Sheets read by computation: the lister's sheet of document 01, and sheets with one slip each. Assumes nothing.
use Prim.Native.Nat.{ℕ}
use mathlib.Core.Path.{◌≡◌, refl}
use mathlib.Core.List.{List, [], ◌∷◌, ◌++◌}
use Rattle.text.specs.Fault.{fault}
use Rattle.text.specs.Field.{before, common}
use Rattle.text.specs.Number.{digits_after, number, digits_within, digits}
use Rattle.text.specs.Line.{item, numbers, line_of, parted, line_text}
use Rattle.sheet.specs.Grammar.{kind_of, whole, broken, lines_from, sheet_of}
use Rattle.sheet.specs.Rendering.{arc_lines, sheet_text}

-- `tracks|7|2`, `ask|0|2|1|1` and the LF
tracks72 : List ℕ
tracks72 = 116 ∷ 114 ∷ 97 ∷ 99 ∷ 107 ∷ 115 ∷ 9 ∷ 55 ∷ 9 ∷ 50 ∷ []

-- `ask|0|2|1|1`
ask0211 : List ℕ
ask0211 = 97 ∷ 115 ∷ 107 ∷ 9 ∷ 48 ∷ 9 ∷ 50 ∷ 9 ∷ 49 ∷ 9 ∷ 49 ∷ []

-- the five arcs of the lister's sheet
five_arcs : List ℕ
five_arcs = 0 ∷ 1 ∷ 4 ∷ 5 ∷ 0 ∷ 1 ∷ 6 ∷ 3 ∷ 0 ∷ 2 ∷ 1 ∷ 9 ∷ 1 ∷ 3 ∷ 2 ∷ 2 ∷ 2 ∷ 3 ∷ 6 ∷ 1 ∷ []

-- "The lister": its sheet is read as its numbers
the-sheet : sheet_of (sheet_text 4 2 5 five_arcs (0 ∷ 2 ∷ 1 ∷ 1 ∷ [])) ≡ whole 4 2 5 five_arcs (0 ∷ 2 ∷ 1 ∷ 1 ∷ [])
unfolding five_arcs before digits_after number common item numbers line_of kind_of lines_from sheet_of digits digits_within parted line_text arc_lines sheet_text
the-sheet = refl

-- "Empty sheet: 1, place 1"
empty : sheet_of [] ≡ broken 1
unfolding before sheet_of
empty = refl

-- "one more than the lines if the sheet ends before `ask`"
ends-early : sheet_of (tracks72 ++ (10 ∷ [])) ≡ broken 2
unfolding tracks72 before digits_after number common item numbers line_of kind_of lines_from sheet_of
ends-early = refl

-- "a last line without its LF, which counts as a line", is bad
no-lf : sheet_of (tracks72 ++ (10 ∷ ask0211)) ≡ broken 2
unfolding tracks72 ask0211 before digits_after number common item numbers line_of kind_of lines_from sheet_of
no-lf = refl

-- "Any line after `ask` is bad", an empty one too
after-ask : sheet_of (tracks72 ++ (10 ∷ (ask0211 ++ (10 ∷ 10 ∷ [])))) ≡ broken 3
unfolding tracks72 ask0211 before digits_after number common item numbers line_of kind_of lines_from sheet_of
after-ask = refl

-- "Field `007`: 1", at its second byte; a ninth digit is at fault at byte 8
leading-zero : number (48 ∷ 48 ∷ 55 ∷ []) ≡ fault 1
unfolding number
leading-zero = refl

-- a ninth digit is at fault at byte 8
nine-digits : number (49 ∷ 50 ∷ 51 ∷ 52 ∷ 53 ∷ 54 ∷ 55 ∷ 56 ∷ 57 ∷ []) ≡ fault 8
unfolding number digits_after
nine-digits = refl
