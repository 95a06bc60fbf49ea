-- The hand numbers, computed from the definitions. Assumes nothing.
use mathlib.Core.Path.{refl}
use Rattle.words.specs.Loops.{up_to, total, any}
use Rattle.words.specs.Pieces.{write, at, put, join}
use Rattle.words.specs.Radix.{volume, radix}
use Rattle.words.specs.Rows.{weigh, each}
use Rattle.fences.specs.Fence as fence
use Rattle.request.specs.Request.{lower, ratio_p, ratio_q, arc_count, arc, tail, head, arc_costs, reach}
use Rattle.text.specs.Field.{before, common}
use Rattle.text.specs.Number.{digits_after, number}
use Rattle.text.specs.Line.{item, numbers, line_of}
use Rattle.request.specs.Shape.{largest_of, largest, top, buckets, position, cells, cell, label_count}
use Rattle.request.specs.Rows.{outside, size_rows, ratio_row, arc_words_row, arc_fault, arc_row, bucket_row, label_row, ask_rows, arc_rows, shape_rows, rows}
use Rattle.sheet.specs.Grammar.{kind_of, lines_from, sheet_of}
use Rattle.listing.specs.List.{asks}
use Rattle.listing.specs.Example.{input}
use Rattle.rounds.specs.Label.{costs, step, from, filled, empty, start, kept, sum, candidate, came, wins}
use Rattle.rounds.specs.Rounds.{block, blank, start_block, start_layer, keep_cell, keep_block, keep_all, offer, try_cell, try_arc, arc_step, round, layer, label_of, label_at, filled_in, round_tries, tries}
use Rattle.demands.specs.HandNumbers.{HandNumbers, sheet, loop, equal, held}

pub hand-numbers : HandNumbers
unfolding before common digits_after number item numbers line_of kind_of lines_from sheet_of asks input outside size_rows ratio_row arc_words_row arc_fault arc_row bucket_row label_row ask_rows arc_rows shape_rows rows weigh label_count any each up_to total write at put join volume radix fence.fence fence.fences fence.passed fence.position fence.buckets lower ratio_p ratio_q arc_count arc tail head arc_costs reach largest_of largest top buckets position cells cell costs step from filled empty start kept sum candidate came wins block blank start_block start_layer keep_cell keep_block keep_all offer try_cell try_arc arc_step round layer label_of label_at filled_in round_tries tries sheet loop equal held
hand-numbers = record {
  above = refl;
  accepted = (refl, refl, refl, refl);
  one = refl;
  two = (refl, refl);
  three = refl;
  four = refl;
  five = (refl, refl, refl);
  six = (refl, refl);
  seven = (refl, refl);
  eight = (refl, refl, refl, refl, refl);
  nine = refl;
  ten = refl;
}
