-- `ask_line`: the numbers that are there, in front of 0 over 1. Assumes nothing.
use Prim.Native.Nat.{ℕ, ◌*◌, ◌≤◌}
use mathlib.Core.Path.{◌≡◌, ap, sym, ◌∙◌}
use mathlib.Core.List.{[], ◌∷◌}
use native.Mathlib.Omega.{arith}
use lib.ListN.{length, take}
use lib.Seq.{length-take-le}
use Rattle.std.proofs.Common.{Some}
use Rattle.text.specs.Line.{taken_of}
use Rattle.text.proofs.Written.{line_of-was}
use Rattle.sheet.specs.Grammar.{tab, ask_word, ask_line}
use Rattle.sheet.specs.Inside.{ask_kind}
use Rattle.sheet.proofs.LineKinds.{no-fault, told-good, filled, padded-ask}
use Rattle.sheet.proofs.reader.Tracks.ask_line.Goals as goal

-- the part that is lent holds 2 × d words
lent-words : (d : ℕ) → d ≤ 3 → length (take {A = ℕ} (d * 2) (0 ∷ 0 ∷ 0 ∷ 0 ∷ 0 ∷ 1 ∷ [])) ≡ d * 2
lent-words d h = length-take-le {A = ℕ} (d * 2) (0 ∷ 0 ∷ 0 ∷ 0 ∷ 0 ∷ 1 ∷ []) (omega arith)

pub returns : goal.returns
returns c = let w = c.word_line in
    let d = c.args.self.criteria in
    let line = c.args.line.now in
    let k = lent-words d c.args.self.two_or_three.1 in
    let g = told-good ask_word (d * 2) _ line _ w.ensures.value k (no-fault w.result _ (sym c.ok.ensures.value ∙ c.in_ok-ok.was)) in
    let e : w.new.out ≡ taken_of (ask_line d line) = filled ask_word (d * 2) line (taken_of (ask_line d line)) _ _ k g w.ensures.out_after in
    ap Some (padded-ask c.args.self.nodes d w.new.out (taken_of (ask_line d line)) c.args.self.two_or_three.0 c.args.self.two_or_three.1 e (line_of-was tab ask_word (d * 2) line (taken_of (ask_line d line)) g).1)
    ∙ sym (ap (ask_kind c.args.self.nodes d) g)
