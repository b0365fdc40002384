-- `part_start_points::outside::unstamped_at` meets its contract. Assumes nothing.
use Rattle.part_start_points.proofs.StampLaws.{unstamped_lower, unstamped_point}
use Rattle.part_start_points.proofs.outside.unstamped_at.Goals as goal

pub returns-then-sought-g : goal.returns-then-sought-g
returns-then-sought-g c = search unstamped_lower

pub returns : goal.returns
returns c = search unstamped_point
