-- `word_line`: the word, then the numbers. Assumes nothing.
use Rattle.text.proofs.Lines.{line-short, line-whole}
use Rattle.text.proofs.word_line.Goals as goal

pub returns-then-at-word : goal.returns-then-at-word
returns-then-at-word c =
    let whole = line-short _ _ _ _ _ c.in_common-at.ensures c.if-at-word.true in
    record { value = whole.0; out_after = whole.1 }

pub returns : goal.returns
returns c =
    let n = c.numbers_into.ensures in
    let whole = line-whole _ _ _ _ _ c.in_common-at.ensures c.if-at-word.false _ _ (n.value, n.out_after) in
    record { value = whole.0; out_after = whole.1 }
