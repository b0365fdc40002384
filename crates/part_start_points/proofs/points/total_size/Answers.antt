-- `part_start_points::points::total_size` meets its contract. The invariant: the cells at the first k points are counted. Assumes nothing.
use Rattle.part_start_points.proofs.FoundLaws.{sizes_start, sizes_turn, sizes_end}
use borrow.Author.Rules.{rules}
use Rattle.part_start_points.proofs.points.total_size.Goals as goal

pub loop-k-init : goal.loop-k-init
loop-k-init c = (search rules, search rules, search sizes_start)

pub loop-k-preserved : goal.loop-k-preserved
loop-k-preserved c = (search rules, search rules, search sizes_turn)

pub returns : goal.returns
returns c = search sizes_end
