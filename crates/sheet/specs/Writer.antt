-- Document 01, "Writer: 3, 7, 11, 12, 13 (sheet bytes)": the writer's refusal table, its answer, and the sheet bytes after it. Assumes nothing.
use Rattle.std.specs.Prelude.{ℕ, ◌+◌, ◌*◌, ◌/◌, ◌%◌, ◌≤◌, ◌≡◌, List, [], ◌∷◌, ◌++◌, length, take, get_or, ltb, Result, Ok, Err}
use Rattle.words.specs.Pieces.{write}
use Rattle.words.specs.Rows.{Row, weigh, settle}
use Rattle.request.specs.declared.Request.{Request}
use Rattle.request.specs.declared.Refusal.{Refusal}
use Rattle.request.specs.Rows.{criteria_row, arc_words_row}
use Rattle.text.specs.Number.{any_over}
use Rattle.sheet.specs.Rendering.{arc_lines, sheet_text}
use Rattle.sheet.specs.Answer.{refusal_said, counted, told}

-- "source, K, then p and q", of both ratios
abbrev pub ask_numbers : Request → List ℕ
ask_numbers r = r.source ∷ r.hops ∷ get_or r.ratios 0 0 ∷ get_or r.ratios 1 0 ∷ get_or r.ratios 2 0 ∷ get_or r.ratios 3 0 ∷ []

-- "for each criterion but the last": those that are written ("the unused ratio is not written")
unfoldable pub asks_of : Request → List ℕ
asks_of r = take (r.criteria * 2) (ask_numbers r)

-- "a number to be written": N, d, every arc word, and those of `ask`
unfoldable pub numbers_of : Request → List ℕ → List ℕ
numbers_of r words = (r.nodes ∷ r.criteria ∷ []) ++ (words ++ asks_of r)

-- the `arc` lines
abbrev pub lines_of : Request → List ℕ → List ℕ
lines_of r words = arc_lines (r.criteria + 2) (length words / (r.criteria + 2)) words

-- the sheet's bytes
unfoldable pub written : Request → List ℕ → List ℕ
written r words = sheet_text r.nodes r.criteria (length words / (r.criteria + 2)) words (asks_of r)

-- d is 2 or 3 and the words are at most 512 arcs of d + 2 words: rows 3 and 7 do not hold
pub record Ranged (d : ℕ) (words : List ℕ) : Type 0 where
  pub at_least : 2 ≤ d
  pub at_most : d ≤ 3
  pub multiple : length words % (d + 2) ≡ 0
  pub arcs : length words / (d + 2) ≤ 512

-- the writer's table for a request and arc words, with room for so many bytes
abbrev pub writer_rows : Request → List ℕ → ℕ → List Row
writer_rows r words room =
    -- "3: d" (a row that only names a number means that it is outside Sizes: "Criteria d 2 or 3")
    criteria_row r.criteria
    -- "7: arc words not a multiple of d+2, or over 512 arcs", as in the build
    ∷ arc_words_row (length words) (r.criteria + 2)
    -- "11: writer: a number to be written is over 99,999,999"
    ∷ record { number = 11; holds = any_over (numbers_of r words); place = 0 }
    -- "12: sheet over 8,192 bytes"
    ∷ record { number = 12; holds = ltb 8192 (length (written r words)); place = 0 }
    -- "13: lent buffer too short"
    ∷ record { number = 13; holds = ltb room (length (written r words)); place = 1 }
    ∷ []

-- a sheet that is written has no number (0), no place (0) and its length in bytes; a refusal its number and place
abbrev pub writing_said : Result ℕ Refusal → List ℕ
writing_said (Ok n) = counted n
writing_said (Err r) = refusal_said r

-- the answer: the sheet's length in bytes, or the first refusal
unfoldable pub write_says : Request → List ℕ → ℕ → List ℕ
write_says r words room = told (weigh (writer_rows r words room)) (length (written r words))

-- the lent sheet bytes afterwards: the sheet in front where it is written, and on a refusal as they came
unfoldable pub sheet_after : Request → List ℕ → List ℕ → List ℕ
sheet_after r words sheet = settle (weigh (writer_rows r words (length sheet))) (write sheet 0 (written r words)) sheet
