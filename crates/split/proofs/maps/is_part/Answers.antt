-- `split::maps::is_part` meets its contract. Assumes nothing.
use Rattle.split.proofs.MapLaws.{part_low, part_told}
use Rattle.split.proofs.maps.is_part.Goals as goal

pub returns-then-i-ge1 : goal.returns-then-i-ge1
returns-then-i-ge1 c = search part_told

pub returns-else-i-ge1 : goal.returns-else-i-ge1
returns-else-i-ge1 c = search part_low
