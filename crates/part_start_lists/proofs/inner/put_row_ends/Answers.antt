-- `part_start_lists::inner::put_row_ends` meets its contract. The invariant: the first l ends are written, and e is the next. Assumes nothing.
use Rattle.part_start_lists.proofs.StartCounts.{rows_start, rows_turn, rows_small, rows_cell}
use Rattle.word_lists.proofs.PutLaws.{words_start, words_more, words_last}
use borrow.Author.Rules.{rules}
use Rattle.part_start_lists.proofs.inner.put_row_ends.Goals as goal

pub loop-l-init : goal.loop-l-init
loop-l-init c = (search rules, search rules, search rules, search rules, search rows_start, search words_start)

pub row_size-e-requires : goal.row_size-e-requires
row_size-e-requires c = (search rules, search rows_cell)

pub loop-l-preserved : goal.loop-l-preserved
loop-l-preserved c = (search rules, search rules, search rules, search rows_small, search rows_turn, search words_more)

pub returns : goal.returns
returns c = search words_last
