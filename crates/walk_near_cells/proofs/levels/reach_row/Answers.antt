-- `walk_near_cells::levels::reach_row` meets its contract. The invariant: the cells before place t were gone on to. Assumes nothing.
use Rattle.walk_near_cells.proofs.LevelLaws.{row_start, row_turn, row_stop, row_end, row_high}
use borrow.Author.Rules.{rules}
use Rattle.walk_near_cells.proofs.levels.reach_row.Goals as goal

pub loop-t-init : goal.loop-t-init
loop-t-init c = (search rules, search rules, search row_start)

pub returns-then-y-lt1 : goal.returns-then-y-lt1
returns-then-y-lt1 c = search row_stop

pub reach_cell-s-requires : goal.reach_cell-s-requires
reach_cell-s-requires c = (search rules, search rules, search row_high, search rules)

pub loop-t-preserved : goal.loop-t-preserved
loop-t-preserved c = (search rules, search rules, search row_turn)

pub returns : goal.returns
returns c = search row_end
