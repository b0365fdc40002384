-- `walk_part_reach::inner::add_cell` meets its contract. Assumes nothing.
use Rattle.walk_part_reach.proofs.RowLaws.{rowed_skip, rowed_put}
use Rattle.walk_part_reach.proofs.inner.add_cell.Goals as goal

pub returns-then-byte_at-i : goal.returns-then-byte_at-i
returns-then-byte_at-i c = search rowed_skip

pub returns : goal.returns
returns c = search rowed_put
