-- `check_lines`: what is left of the sheet, after m arcs, says what the whole says. Assumes nothing.
use Prim.Native.Nat.{◌+◌, ◌-◌, ◌≤◌}
use mathlib.Core.Path.{◌≡◌}
use mathlib.Core.List.{[]}
use lib.ListN.{length, drop}
use Rattle.sheet.specs.Grammar.{lines_from}
use Rattle.sheet.specs.Inside.{form_of}
use Rattle.sheet.proofs.reader.Tracks.check_lines.Given as goal

abbrev pub invariant-loop-at : goal.invariant-loop-at
invariant-loop-at l =
    (l.at ≤ length l.sheet) × (l.m ≤ l.at)
    × (form_of (lines_from l.self.nodes l.self.criteria 0 2 [] (drop l.from l.sheet)) ≡ form_of (lines_from l.self.nodes l.self.criteria l.m (l.m + 2) [] (drop l.at l.sheet)))

abbrev pub decreases-loop-at : goal.decreases-loop-at
decreases-loop-at l = length l.sheet - l.at
