-- `store_arcs`: the words of the first i arcs are stored, and the lines from byte `at` on say the rest. Assumes nothing.
use Prim.Native.Nat.{◌*◌, ◌≤◌}
use mathlib.Core.Path.{◌≡◌}
use lib.ListN.{length, take}
use Rattle.words.specs.Pieces.{write}
use Rattle.sheet.specs.Grammar.{sheet_of}
use Rattle.sheet.specs.Reader.{words_of}
use Rattle.sheet.proofs.Stores.{Going}
use Rattle.sheet.proofs.reader.store_arcs.Given as goal

abbrev pub invariant-loop-i : goal.invariant-loop-i
invariant-loop-i l =
    (l.at ≤ length l.sheet) × (l.i * l.n ≤ length (words_of (sheet_of l.sheet)))
    × (l.arcs ≡ write l.initial.arcs 0 (take (l.i * l.n) (words_of (sheet_of l.sheet)))) × Going l.sheet l.fn.form.arcs l.at (l.i * l.n) l.i
