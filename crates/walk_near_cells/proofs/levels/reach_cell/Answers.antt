-- `walk_near_cells::levels::reach_cell` meets its contract. Assumes nothing.
use Rattle.walk_near_cells.proofs.LevelLaws.{reach_old, reach_new}
use Rattle.walk_near_cells.proofs.levels.reach_cell.Goals as goal

pub returns-then-get_or-ne0 : goal.returns-then-get_or-ne0
returns-then-get_or-ne0 c = search reach_old

pub returns : goal.returns
returns c = search reach_new
