-- `part_start_lists::inner::place_at` meets its contract. Assumes nothing.
use Rattle.part_start_lists.proofs.StartCounts.{place_low, place_told}
use borrow.Author.Rules.{rules}
use Rattle.part_start_lists.proofs.inner.place_at.Goals as goal

pub index_of-requires : goal.index_of-requires
index_of-requires c = search place_low

pub returns : goal.returns
returns c = (search place_told, search rules)
