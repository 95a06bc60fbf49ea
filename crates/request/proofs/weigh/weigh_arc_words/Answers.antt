-- `weigh_arc_words`: either half of row 7, or neither. Assumes nothing.
use mathlib.Core.Path.{sym}
use Rattle.request.proofs.Branches.{words-over, words-many, words-good}
use Rattle.request.proofs.weigh.weigh_arc_words.Goals as goal
use Rattle.request.proofs.weigh.weigh_arc_words.Goals.{then-words-width-gt0-via-then-words-width-gt0, then-words-width-gt0-via-else-words-width-gt0+then-words-width}

pub returns-then-words-width-gt0 : goal.returns-then-words-width-gt0
returns-then-words-width-gt0 c = let a = c.args in
    elim c.then-words-width-gt0.branch [
      | then-words-width-gt0-via-then-words-width-gt0 w ↦ sym (words-over a.words a.width w.if-words-width-gt0.true)
      | then-words-width-gt0-via-else-words-width-gt0+then-words-width w ↦ sym (words-many a.words a.width w.if-words-width.true)
    ]

pub returns : goal.returns
returns c = let a = c.args in sym (words-good a.words a.width c.if-words-width-gt0.false c.if-words-width.false)
