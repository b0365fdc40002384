-- `split_cells::inner::add_groups` meets its contract. Assumes nothing.
use Rattle.split_cells.proofs.AddLaws.{groups_added}
use Rattle.split_cells.proofs.inner.add_groups.Goals as goal

pub returns : goal.returns
returns c = search groups_added
