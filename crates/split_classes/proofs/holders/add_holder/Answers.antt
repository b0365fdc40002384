-- `split_classes::holders::add_holder` meets its contract. Assumes nothing.
use Rattle.split_classes.proofs.HolderLaws.{stamp_old, stamp_new}
use Rattle.split_classes.proofs.holders.add_holder.Goals as goal

pub returns-then-byte_at-k : goal.returns-then-byte_at-k
returns-then-byte_at-k c = search stamp_old

pub returns : goal.returns
returns c = search stamp_new
