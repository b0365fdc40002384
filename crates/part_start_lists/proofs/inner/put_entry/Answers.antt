-- `part_start_lists::inner::put_entry` meets its contract. Assumes nothing.
use Rattle.part_start_lists.proofs.StartCounts.{entry_put}
use Rattle.part_start_lists.proofs.inner.put_entry.Goals as goal

pub returns : goal.returns
returns c = search entry_put
