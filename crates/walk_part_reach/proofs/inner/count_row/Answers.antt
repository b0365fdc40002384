-- `walk_part_reach::inner::count_row` meets its contract. The invariant: the places before q are counted. Assumes nothing.
use Rattle.walk_part_reach.proofs.RowLaws.{count_start, count_turn, count_end}
use borrow.Author.Rules.{rules}
use Rattle.walk_part_reach.proofs.inner.count_row.Goals as goal

pub loop-q-init : goal.loop-q-init
loop-q-init c = (search rules, search rules, search count_start)

pub loop-q-preserved : goal.loop-q-preserved
loop-q-preserved c = (search rules, search rules, search count_turn)

pub returns : goal.returns
returns c = (search count_end, search rules)
