-- `part_start_lists::inner::row_total` meets its contract. The invariant: e is the end of the first l rows. Assumes nothing.
use Rattle.part_start_lists.proofs.StartCounts.{rows_start, rows_turn, rows_small, rows_cell, rows_last}
use borrow.Author.Rules.{rules}
use Rattle.part_start_lists.proofs.inner.row_total.Goals as goal

pub loop-l-init : goal.loop-l-init
loop-l-init c = (search rules, search rules, search rows_start)

pub row_size-e-requires : goal.row_size-e-requires
row_size-e-requires c = (search rules, search rows_cell)

pub loop-l-preserved : goal.loop-l-preserved
loop-l-preserved c = (search rules, search rows_small, search rows_turn)

pub returns : goal.returns
returns c = search rows_last
