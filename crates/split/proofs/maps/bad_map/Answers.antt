-- `split::maps::bad_map` meets its contract. Assumes nothing.
use Rattle.split.proofs.MapLaws.{map_parts, map_length, map_owners}
use Rattle.split.proofs.maps.bad_map.Goals as goal

pub returns-then-not-is_part : goal.returns-then-not-is_part
returns-then-not-is_part c = search map_parts

pub returns-then-owners-cell_count : goal.returns-then-owners-cell_count
returns-then-owners-cell_count c = search map_length

pub returns : goal.returns
returns c = search map_owners
