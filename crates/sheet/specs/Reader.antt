-- Document 01, "Reader: 12, 1, 13 (arc words)": the reader's refusal table, its answer, and the arc words after it. Assumes nothing.
use Rattle.std.specs.Prelude.{ℕ, Bool, true, false, List, [], ◌∷◌, ◌++◌, length, get_or, ltb, Result, Ok, Err}
use Rattle.words.specs.Pieces.{write}
use Rattle.words.specs.Rows.{Row, weigh, settle}
use Rattle.request.specs.declared.Request.{Request}
use Rattle.request.specs.declared.Refusal.{Refusal}
use Rattle.sheet.specs.declared.Reading.{Reading}
use Rattle.sheet.specs.Grammar.{Contents, whole, broken, sheet_of}
use Rattle.sheet.specs.Answer.{refusal_said, counted, told}

-- whether the form is broken
abbrev pub is_broken : Contents → Bool
is_broken (whole n d m words asks) = false
is_broken (broken k) = true

-- "first bad line from 1; one more than the lines if the sheet ends before `ask`"
abbrev pub bad_line : Contents → ℕ
bad_line (whole n d m words asks) = 0
bad_line (broken k) = k

-- the words of the arcs, one arc after another
abbrev pub words_of : Contents → List ℕ
words_of (whole n d m words asks) = words
words_of (broken k) = []

-- the numbers of N, d and `ask`; "With d = 2 the second ratio reads as 0 over 1"
abbrev pub request_from : ℕ → ℕ → List ℕ → Request
request_from n d asks =
    record {
      nodes = n;
      criteria = d;
      source = get_or asks 0 0;
      hops = get_or asks 1 0;
      ratios = get_or asks 2 0 ∷ get_or asks 3 0 ∷ get_or asks 4 0 ∷ get_or asks 5 1 ∷ [];
    }

-- where there is none, all zeros
abbrev pub no_request : Request
no_request = record { nodes = 0; criteria = 0; source = 0; hops = 0; ratios = 0 ∷ 0 ∷ 0 ∷ 0 ∷ [] }

-- the request of a sheet
abbrev pub request_of : Contents → Request
request_of (whole n d m words asks) = request_from n d asks
request_of (broken k) = no_request

-- "the reader weighs 12 before 1": the rows of a sheet's form
abbrev pub form_rows : List ℕ → List Row
form_rows s =
    -- "12: sheet over 8,192 bytes"
    record { number = 12; holds = ltb 8192 (length s); place = 0 }
    -- "1: sheet form"
    ∷ record { number = 1; holds = is_broken (sheet_of s); place = bad_line (sheet_of s) }
    ∷ []

-- the reader's table for a sheet s, with room for so many arc words
abbrev pub reader_rows : List ℕ → ℕ → List Row
reader_rows s room =
    form_rows s
    -- "13: lent buffer too short"
    ++ record { number = 13; holds = ltb room (length (words_of (sheet_of s))); place = 1 }
    ∷ []

-- a sheet has no number (0), no place (0) and the count of its arc words; a refusal its number and place
abbrev pub said : Result Reading Refusal → List ℕ
said (Ok s) = counted s.words
said (Err r) = refusal_said r

-- the answer: the count of arc words, or the first refusal
unfoldable pub read_says : List ℕ → ℕ → List ℕ
read_says s room = told (weigh (reader_rows s room)) (length (words_of (sheet_of s)))

-- the request that is read
unfoldable pub read_request : List ℕ → ℕ → Request
read_request s room = settle (weigh (reader_rows s room)) (request_of (sheet_of s)) no_request

-- the lent arc words afterwards: the sheet's in front where it is read, and on a refusal as they came
unfoldable pub arcs_after : List ℕ → List ℕ → List ℕ
arcs_after s arcs = settle (weigh (reader_rows s (length arcs))) (write arcs 0 (words_of (sheet_of s))) arcs
