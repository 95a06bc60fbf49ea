-- Document 01, "The sheet": what the bytes of a sheet say, or its first bad line. Assumes nothing.
use Rattle.std.specs.Prelude.{ℕ, ◌+◌, ◌*◌, List, [], ◌∷◌, ◌++◌, cond, ◌||◌, length, drop, ltb, eqb}
use Rattle.text.specs.Field.{before}
use Rattle.text.specs.Line.{Got, good, bad, line_of}

-- "Lines end in LF"
abbrev pub lf : ℕ
lf = 10

-- "fields are parted by one tab"
abbrev pub tab : ℕ
tab = 9

-- ---- the three kinds of line

-- "the six bytes `tracks`"
abbrev pub tracks_word : List ℕ
tracks_word = 116 ∷ 114 ∷ 97 ∷ 99 ∷ 107 ∷ 115 ∷ []

-- "`arc`"
abbrev pub arc_word : List ℕ
arc_word = 97 ∷ 114 ∷ 99 ∷ []

-- "`ask`"
abbrev pub ask_word : List ℕ
ask_word = 97 ∷ 115 ∷ 107 ∷ []

-- "Line 1 begins with the six bytes `tracks`, then N and d": two numbers
abbrev pub tracks_line : List ℕ → Got
tracks_line line = line_of tab tracks_word 2 line

-- "`arc` lines: tail, head, d costs": d + 2 numbers
abbrev pub arc_line : ℕ → List ℕ → Got
arc_line d line = line_of tab arc_word (d + 2) line

-- "an `ask` line: source, K, then p and q for each criterion but the last": 2 + 2 × (d - 1) numbers
abbrev pub ask_line : ℕ → List ℕ → Got
ask_line d line = line_of tab ask_word (d * 2) line

-- a line after the first: an arc and its words, the ask and its numbers, or neither
pub data Kind : Type 0 where
  an_arc : List ℕ → Kind
  an_ask : List ℕ → Kind
  neither : Kind

-- an ask, if the line is a good one
abbrev pub or_ask : Got → Kind
or_ask (good vs) = an_ask vs
or_ask (bad j vs) = neither

-- an arc, if the line is a good one, else what it is otherwise
abbrev pub arc_or : Got → Kind → Kind
arc_or (good vs) k = an_arc vs
arc_or (bad j vs) k = k

-- "a 513th arc breaks the form": the kind of a line before which m arcs stand
unfoldable pub kind_of : ℕ → ℕ → List ℕ → Kind
kind_of d m line = arc_or (cond (ltb m 512) (arc_line d line) (bad 0 [])) (or_ask (ask_line d line))

-- ---- the whole sheet

-- what a sheet says: N, d, how many arcs, the arcs' words, the numbers of `ask`; or its "first bad line from 1"
pub data Contents : Type 0 where
  whole : (n d m : ℕ) (words asks : List ℕ) → Contents
  broken : ℕ → Contents

-- an arc's words, in front of those that follow
abbrev pub add_arc : List ℕ → Contents → Contents
add_arc vs (whole n d m words asks) = whole n d m (vs ++ words) asks
add_arc vs (broken k) = broken k

-- "Any line after `ask` is bad": x where the sheet ends here, y where it goes on
abbrev pub at_end : List ℕ → Contents → Contents → Contents
at_end [] x y = x
at_end (c ∷ cs) x y = y

-- line k of each kind, after m arcs, with the bytes cs after its LF; `rest` is what they say after an arc
abbrev pub judge : Kind → ℕ → ℕ → ℕ → ℕ → List ℕ → Contents → Contents
judge (an_arc vs) n d m k cs rest = add_arc vs rest
judge (an_ask vs) n d m k cs rest = at_end cs (whole n d m [] vs) (broken (k + 1))
judge neither n d m k cs rest = broken k

-- "Then zero or more `arc` lines [..] Last an `ask` line": the lines from line k on, after m arcs, where `begun` stands of line k before these
-- bytes. Where they end, line k is bad: "a last line without its LF, which counts as a line", or "one more than the lines"
unfoldable pub lines_from : ℕ → ℕ → ℕ → ℕ → List ℕ → List ℕ → Contents
lines_from n d m k begun [] = broken k
lines_from n d m k begun (c ∷ cs) =
    let ended = judge (kind_of d m begun) n d m k cs (lines_from n d (m + 1) (k + 1) [] cs) in
    let on = lines_from n d m k (begun ++ (c ∷ [])) cs in
    cond (eqb c lf) ended on

-- "d must be 2 or 3": the lines after line 1, which says N and d
abbrev pub after_first : Got → List ℕ → Contents
after_first (bad j vs) cs = broken 1
after_first (good []) cs = broken 1
after_first (good (n ∷ [])) cs = broken 1
after_first (good (n ∷ (d ∷ vs))) cs = cond (eqb d 2 || eqb d 3) (lines_from n d 0 2 [] cs) (broken 1)

-- the whole sheet: line 1 up to its LF, and the lines after it
unfoldable pub sheet_of : List ℕ → Contents
sheet_of s =
    cond (ltb (length (before lf s)) (length s)) (after_first (tracks_line (before lf s)) (drop (length (before lf s) + 1) s)) (broken 1)
