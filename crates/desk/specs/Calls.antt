-- What the calls take and leave besides the buffers of the functions below them: a request as eight words. Assumes nothing.
use Rattle.std.specs.Prelude.{ℕ, List, [], ◌∷◌, get_or}
use Rattle.words.specs.Rows.{weigh, settle}
use Rattle.request.specs.declared.Request.{Request}
use Rattle.request.specs.Request.{Req}
use Rattle.route.specs.Answer.{back_rows, costs_after}
use Rattle.route.specs.declared.Ending.{Ending}
use Rattle.route.specs.declared.Ending.TheVariants as ending
use Rattle.sheet.specs.Answer.{refusal_said}
use Rattle.sheet.specs.Reader.{reader_rows, read_request}

-- N, d, source, K, then p and q of the first criterion and of the second
unfoldable pub request_from : List ℕ → Request
request_from w =
    record {
      nodes = get_or w 0 0;
      criteria = get_or w 1 0;
      source = get_or w 2 0;
      hops = get_or w 3 0;
      ratios = get_or w 4 0 ∷ get_or w 5 0 ∷ get_or w 6 0 ∷ get_or w 7 0 ∷ [];
    }

-- and the words of a request
unfoldable pub request_words : Request → List ℕ
request_words r =
    r.nodes ∷ r.criteria ∷ r.source ∷ r.hops ∷ get_or r.ratios 0 0 ∷ get_or r.ratios 1 0 ∷ get_or r.ratios 2 0 ∷ get_or r.ratios 3 0 ∷ []

-- the lent request words after the reader: those of the sheet, and on a refusal as they came
unfoldable pub request_after : List ℕ → ℕ → List ℕ → List ℕ
request_after s room words = settle (weigh (reader_rows s room)) (request_words (read_request s room)) words

-- a route has no number (0), no place (0) and its arc count; "an empty cell (number 15)" has place 0; a refusal its number and place
abbrev pub ending_said : Ending → List ℕ
ending_said (ending.Route n) = 0 ∷ 0 ∷ n ∷ []
ending_said ending.Empty = 15 ∷ 0 ∷ []
ending_said (ending.Refused r) = refusal_said r

-- the three lent words of costs after a read-back: those of the route, and as they came where there is none
unfoldable pub costs_lent : Req → List ℕ → ℕ → ℕ → ℕ → ℕ → List ℕ → List ℕ
costs_lent R W room i v c words = settle (weigh (back_rows R W room i v c)) (costs_after R W room i v c) words
