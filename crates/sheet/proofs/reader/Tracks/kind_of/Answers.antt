-- `kind_of`: an arc where there may be one more, else the ask, else neither. Assumes nothing.
use Prim.Native.Nat.{◌<◌}
use mathlib.Core.Path.{◌≡◌, ap, sym, ◌∙◌}
use mathlib.Core.Bool.{false}
use native.Mathlib.Omega.{arith}
use Rattle.std.proofs.Common.{rules, option_map}
use Rattle.sheet.specs.declared.reader.LineKind.TheVariants.{Ask}
use Rattle.sheet.specs.Grammar.{arc_line}
use Rattle.sheet.specs.Inside.{is_good}
use Rattle.sheet.proofs.LineKinds.{kind-arc-told, kind-else-told}
use Rattle.sheet.proofs.reader.Tracks.kind_of.Goals as goal
use Rattle.sheet.proofs.reader.Tracks.kind_of.Goals.{else-m-lt-MOST_ARCS-via-then-m-lt-MOST_ARCS+else-is_arc, else-m-lt-MOST_ARCS-via-else-m-lt-MOST_ARCS}

pub returns-then-is_arc : goal.returns-then-is_arc
returns-then-is_arc c = kind-arc-told c.args.self.nodes c.args.self.criteria c.args.m c.args.line.now c.if-m-lt-MOST_ARCS.true (sym c.if-is_arc.true ∙ c.is_arc.ensures)

pub returns : goal.returns
returns c = let a = c.args in
    let no_arc : a.m < 512 → is_good (arc_line a.self.criteria a.line.now) ≡ false = λ h.
    elim c.else-m-lt-MOST_ARCS.branch [
      | else-m-lt-MOST_ARCS-via-then-m-lt-MOST_ARCS+else-is_arc w ↦ sym w.is_arc.ensures ∙ w.if-is_arc.false
      | else-m-lt-MOST_ARCS-via-else-m-lt-MOST_ARCS w ↦ absurd (omega (arith, w.if-m-lt-MOST_ARCS.false))
    ] in
    let q : c.map.result ≡ option_map Ask c.ask_line.result = search rules in
    q ∙ ap (option_map Ask) c.ask_line.ensures ∙ kind-else-told a.self.nodes a.self.criteria a.m a.line.now no_arc
