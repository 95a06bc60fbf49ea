-- Document 01's printed sheet gives its printed listing, by computation. Assumes nothing.
use mathlib.Core.Path.{refl}
use Rattle.words.specs.Loops.{up_to, total, any}
use Rattle.words.specs.Rows.{each, weigh}
use Rattle.words.specs.Pieces.{write, at, put, join}
use Rattle.words.specs.Radix.{volume, radix}
use Rattle.fences.specs.Fence as fence
use Rattle.text.specs.Field.{before, common}
use Rattle.text.specs.Number.{digits_after, number, digits_within, digits}
use Rattle.text.specs.Line.{item, numbers, line_of, parted, line_text}
use Rattle.request.specs.Request.{lower, ratio_p, ratio_q, arc_count, arc, tail, head, arc_costs, reach}
use Rattle.request.specs.Shape.{largest_of, largest, top, buckets, position, cells, cell, label_count}
use Rattle.request.specs.Rows.{outside, size_rows, ratio_row, arc_words_row, arc_fault, arc_row, bucket_row, label_row, ask_rows, arc_rows, shape_rows, rows}
use Rattle.sheet.specs.Grammar.{kind_of, lines_from, sheet_of}
use Rattle.rounds.specs.Label.{costs, step, from, filled, empty, start, kept, sum, candidate, came, wins}
use Rattle.rounds.specs.Rounds.{block, blank, start_block, start_layer, keep_cell, keep_block, keep_all, offer, try_cell, try_arc, arc_step, round, layer, table, filled_in, round_tries, tries, label_in}
use Rattle.route.specs.Chain.{same, start_holds, agrees, kept_holds, arc_holds, chain_in, chain}
use Rattle.listing.specs.Listing.{last_label, last_route, filled_at, filled_of, filled_last, label_numbers, label_line, node_lines, label_lines, cover_line, listing_text}
use Rattle.listing.specs.List.{asks, listing_of, request_rows, list_rows, listed_of}
use Rattle.listing.specs.Example.{input, output, PrintedExample}

-- THE PRINTED EXAMPLE
pub the-printed : PrintedExample
unfolding outside size_rows ratio_row arc_words_row arc_fault arc_row bucket_row label_row ask_rows arc_rows shape_rows rows label_count any each weigh request_rows list_rows listed_of up_to total write at put join volume radix fence.fence fence.fences fence.passed fence.position fence.buckets before common digits_after number digits_within digits item numbers line_of parted line_text lower ratio_p ratio_q arc_count arc tail head arc_costs reach largest_of largest top buckets position cells cell kind_of lines_from sheet_of costs step from filled empty start kept sum candidate came wins block blank start_block start_layer keep_cell keep_block keep_all offer try_cell try_arc arc_step round layer table filled_in round_tries tries label_in same start_holds agrees kept_holds arc_holds chain_in chain last_label last_route filled_at filled_of filled_last label_numbers label_line node_lines label_lines cover_line listing_text asks listing_of input output
the-printed = (refl, refl)
