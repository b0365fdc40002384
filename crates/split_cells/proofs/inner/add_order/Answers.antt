-- `split_cells::inner::add_order` meets its contract. Assumes nothing.
use Rattle.split_classes.proofs.GroupLaws.{grouped_linked}
use Rattle.split_cells.proofs.AddLaws.{order_added}
use Rattle.split_cells.proofs.inner.add_order.Goals as goal

pub add_groups-requires : goal.add_groups-requires
add_groups-requires c = (c.requires.0, c.requires.1, grouped_linked _ _ _ _ c.group_cells.ensures, c.requires.2)

pub returns : goal.returns
returns c = search order_added
