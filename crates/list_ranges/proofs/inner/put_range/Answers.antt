-- `list_ranges::inner::put_range` meets its contract. Assumes nothing.
use Rattle.list_ranges.proofs.PartLaws.{range_told}
use Rattle.list_ranges.proofs.inner.put_range.Goals as goal

pub returns : goal.returns
returns c = search range_told
