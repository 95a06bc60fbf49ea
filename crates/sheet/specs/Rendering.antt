-- Document 01, "The sheet": a sheet as it is written. Assumes nothing.
use Rattle.std.specs.Prelude.{ℕ, zero, suc, ◌+◌, ◌*◌, ◌≤◌, ◌≡◌, List, [], ◌∷◌, ◌++◌, length, take, drop}
use Rattle.words.specs.Bounds.{AtMost}
use Rattle.text.specs.Number.{largest}
use Rattle.text.specs.Line.{line_text}
use Rattle.sheet.specs.Grammar.{tab, tracks_word, arc_word, ask_word}

-- "zero or more `arc` lines": m arcs of w words each
unfoldable pub arc_lines : ℕ → ℕ → List ℕ → List ℕ
arc_lines w zero words = []
arc_lines w (suc m) words = line_text tab arc_word (take w words) ++ arc_lines w m (drop w words)

-- the `tracks` line, the `arc` lines, the `ask` line
unfoldable pub sheet_text : ℕ → ℕ → ℕ → List ℕ → List ℕ → List ℕ
sheet_text n d m words asks = line_text tab tracks_word (n ∷ d ∷ []) ++ (arc_lines (d + 2) m words ++ line_text tab ask_word asks)

-- what a sheet can say: d 2 or 3, at most 512 arcs of d + 2 words, 2 × d numbers asked, and no number over 99,999,999
pub record Sheetable (n d m : ℕ) (words asks : List ℕ) : Type 0 where
  pub at_least : 2 ≤ d
  pub at_most : d ≤ 3
  pub arcs : m ≤ 512
  pub arc_words : length words ≡ m * (d + 2)
  pub asked : length asks ≡ d * 2
  pub nodes_small : n ≤ largest
  pub words_small : AtMost largest words
  pub asks_small : AtMost largest asks
