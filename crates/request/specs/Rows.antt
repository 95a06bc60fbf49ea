-- Document 01, "Refusal numbers": rows 2 to 10, and with row 8 request (f)'s 17 (document 02), in their order. Assumes nothing.
use Rattle.std.specs.Prelude.{ℕ, ◌+◌, ◌*◌, ◌/◌, ◌%◌, Bool, cond, ◌||◌, List, [], ◌∷◌, ◌++◌, length, get_or, leb, ltb, eqb}
use Rattle.words.specs.Loops.{any}
use Rattle.words.specs.Pieces.{at}
use Rattle.words.specs.Rows.{Row, each}
use Rattle.request.specs.Request.{Req, width, arc_count}
use Rattle.request.specs.Shape.{buckets, label_count}

-- "A row that only names a number means that it is outside Sizes"
unfoldable pub outside : ℕ → ℕ → ℕ → Bool
outside lo hi n = ltb n lo || ltb hi n

-- row 3: "Criteria d 2 or 3"
abbrev pub criteria_row : ℕ → Row
criteria_row d = record { number = 3; holds = outside 2 3 d; place = 0 }

-- rows 2 to 5: N, d, source not below N, K
unfoldable pub size_rows : ℕ → ℕ → ℕ → ℕ → List Row
size_rows n d s k =
    record { number = 2; holds = outside 1 64 n; place = 0 }
    ∷ criteria_row d
    ∷ record { number = 4; holds = leb n s; place = 0 }
    ∷ record { number = 5; holds = outside 0 63 k; place = 0 }
    ∷ []

-- row 6: the ratio of a criterion in use ("q 1 to 1,000, p 0 to q"); "first such criterion from 1"
unfoldable pub ratio_row : List ℕ → ℕ → Row
ratio_row ratios j = record {
  number = 6;
  holds = outside 1 1000 (get_or ratios (j * 2 + 1) 0) || outside 0 (get_or ratios (j * 2 + 1) 0) (get_or ratios (j * 2) 0);
  place = j + 1;
}

-- row 7, of so many arc words of width w: "arc words not a multiple of d+2, or over 512 arcs"
unfoldable pub arc_words_row : ℕ → ℕ → Row
arc_words_row words w = record { number = 7; holds = ltb 0 (words % w) || ltb 512 (words / w); place = 0 }

-- the number that an arc's words are refused with, 0 for none: "In each arc the node ranges are weighed first, then this [17, a track from a camp to
-- itself], then the costs"
unfoldable pub arc_fault : ℕ → ℕ → List ℕ → ℕ
arc_fault n d w =
    cond (leb n (get_or w 0 0) || leb n (get_or w 1 0)) 8
    (cond (eqb (get_or w 0 0) (get_or w 1 0)) 17
    (cond (any (λ j. ltb 1000000 (get_or w (j + 2) 0)) d) 8 0))

-- the row of an arc's fault: it holds where there is one
abbrev pub fault_row : ℕ → ℕ → Row
fault_row fault a = record { number = fault; holds = ltb 0 fault; place = a }

-- row 8, "arc's node or cost out of range", and 17, "weighed together with 8 in that order within an arc"; "first such arc from 0"
unfoldable pub arc_row : ℕ → ℕ → List ℕ → ℕ → Row
arc_row n d arcs a = fault_row (arc_fault n d (at (d + 2) arcs a)) a

-- row 9: "B over 4,096"; "first such criterion from 1"
unfoldable pub bucket_row : Req → ℕ → Row
bucket_row R j = record { number = 9; holds = ltb 4096 (buckets R j); place = j + 1 }

-- row 10: "too many labels"
unfoldable pub label_row : Req → Row
label_row R = record { number = 10; holds = ltb 1048576 (label_count R); place = 0 }

-- rows 2 to 6
unfoldable pub ask_rows : Req → List Row
ask_rows R = size_rows R.nodes R.criteria R.source R.hops ++ each (ratio_row R.ratios) R.graded

-- rows 7, and 8 with 17
unfoldable pub arc_rows : Req → List Row
arc_rows R = arc_words_row (length R.arcs) (width R) ∷ each (arc_row R.nodes R.criteria R.arcs) (arc_count R)

-- rows 9 and 10
unfoldable pub shape_rows : Req → List Row
shape_rows R = each (bucket_row R) R.graded ++ label_row R ∷ []

-- rows 2 to 10, with 17
unfoldable pub rows : Req → List Row
rows R = ask_rows R ++ arc_rows R ++ shape_rows R
