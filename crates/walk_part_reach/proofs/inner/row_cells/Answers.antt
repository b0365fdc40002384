-- `walk_part_reach::inner::row_cells` meets its contract. The invariant: the row's cells among the first q stand in the list. Assumes nothing.
use Rattle.walk_part_reach.proofs.RowLaws.{rowed_start, rowed_end}
use borrow.Author.Rules.{rules}
use Rattle.walk_part_reach.proofs.inner.row_cells.Goals as goal

pub loop-q-init : goal.loop-q-init
loop-q-init c = (search rules, search rules, search rowed_start)

pub loop-q-preserved : goal.loop-q-preserved
loop-q-preserved c = (search rules, search rules, search rules)

pub returns : goal.returns
returns c = search rowed_end
