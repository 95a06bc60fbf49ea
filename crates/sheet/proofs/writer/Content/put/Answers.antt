-- `put`: the first line, the arcs and the ask, side by side. Assumes nothing.
use Prim.Native.Nat.{ℕ, ◌+◌}
use mathlib.Core.Path.{◌≡◌, ap, ◌∙◌}
use mathlib.Core.List.{List}
use native.Mathlib.Omega.{arith}
use native.Mathlib.Nat.{zero-add}
use lib.ListN.{length}
use Rattle.text.specs.Line.{line_text}
use Rattle.sheet.specs.Grammar.{tab, ask_word}
use Rattle.sheet.specs.Writer.{written}
use Rattle.sheet.proofs.Puts.{asks-are, front, middle, back, written-long, written-put}
use Rattle.sheet.proofs.writer.Content.put.Goals as goal
use Rattle.sheet.proofs.writer.Content.put.Goals.{After-put_line-a}

-- where the first line ends, and what it leaves
module _ (c : After-put_line-a) where
  ends : c.put_line-a.result ≡ length (front c.args.self.now.request c.args.self.now.arcs.now)
  ends = c.put_line-a.ensures.value ∙ zero-add (length (front c.args.self.now.request c.args.self.now.arcs.now))

  long : length (written c.args.self.now.request c.args.self.now.arcs.now) ≡ length (front c.args.self.now.request c.args.self.now.arcs.now) + length (middle c.args.self.now.request c.args.self.now.arcs.now) + length (back c.args.self.now.request c.args.self.now.arcs.now)
  long = written-long c.args.self.now.request c.args.self.now.arcs.now

pub put_line-a-requires : goal.put_line-a-requires
put_line-a-requires c = omega (arith, written-long c.args.self.now.request c.args.self.now.arcs.now, c.requires)

pub put_arcs-b-requires : goal.put_arcs-b-requires
put_arcs-b-requires c = omega (arith, long (goal.at.put_arcs-b-requires c).After-put_line-a, ends (goal.at.put_arcs-b-requires c).After-put_line-a, c.put_line-a.auto.out, c.requires)

pub put_line-requires : goal.put_line-requires
put_line-requires c = let q = c.put_arcs-b in
    let e = ap (λ (vs : List ℕ). length (line_text tab ask_word vs)) (asks-are c.args.self.now.request _ c.asks-v.ensures) in
    omega (arith, long (goal.at.put_line-requires c).After-put_line-a, ends (goal.at.put_line-requires c).After-put_line-a, c.put_line-a.auto.out, q.auto.sheet, q.ensures.value, e, c.requires)

pub returns : goal.returns
returns c = let l = c.put_line in
    let q = c.put_arcs-b in
    let e = ap (line_text tab ask_word) (asks-are c.args.self.now.request _ c.asks-v.ensures) in
    written-put c.args.self.now.request c.args.self.now.arcs.now c.args.sheet.now c.put_line-a.new.out q.new.sheet l.new.out _ c.put_line-a.result q.result
    (ends (goal.at.returns c).After-put_line-a) q.ensures.value c.put_line-a.ensures.out_after q.ensures.sheet_after l.ensures.out_after e
