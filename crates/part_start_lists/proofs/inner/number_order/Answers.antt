-- `part_start_lists::inner::number_order` meets its contract. Assumes nothing.
use Rattle.part_start_lists.proofs.CountLaws.{order_numbered}
use Rattle.part_start_lists.proofs.inner.number_order.Goals as goal

pub returns : goal.returns
returns c = order_numbered _ _ c.args.local.now _ _ c.requires.2 (c.fill.ensures.after (λ y e. e)) c.number_cells.ensures
