-- `part_state::lists::valid_rows` meets its contract. The invariant: the rows so far are valid, and the next begins where they end. Assumes nothing.
use mathlib.Core.Path.{refl}
use Rattle.vocabulary.proofs.ScanLaws.{every_start_from, every_stop_from, every_turn_from, every_end_from}
use Rattle.part_state.proofs.ListChecks.{rows_start, rows_next, row_above, row_tested, row_rises, row_room, row_told}
use borrow.Author.Rules.{rules}
use Rattle.part_state.proofs.lists.valid_rows.Goals as goal

pub invariant_of-entries : goal.invariant_of-entries
invariant_of-entries c = record { tested = search row_tested }

pub loop-l-init : goal.loop-l-init
loop-l-init c = (refl, search rules, search rules, search rows_start, search every_start_from)

pub end_there-to-requires : goal.end_there-to-requires
end_there-to-requires c = (search rules, search row_above)

pub are_row-requires : goal.are_row-requires
are_row-requires c = (search row_rises, search row_room)

pub returns-then-not-are_row : goal.returns-then-not-are_row
returns-then-not-are_row c = search (every_stop_from, row_told)

pub loop-l-preserved : goal.loop-l-preserved
loop-l-preserved c = (search rules, search rules, search rules, search rows_next, search (every_turn_from, row_told))

pub returns : goal.returns
returns c = search every_end_from
