-- `part_start_points::points::count_points` meets its contract. Assumes nothing.
use Rattle.part_start_points.proofs.FoundLaws.{found_length, found_cells}
use Rattle.part_start_points.proofs.points.count_points.Goals as goal

pub returns : goal.returns
returns c = let found = c.find_points-points.ensures.0 in (found_length _ _ _ found, found_cells _ _ _ found _ _ c.total_size.ensures)
