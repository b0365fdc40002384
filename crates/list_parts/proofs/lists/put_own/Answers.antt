-- `list_parts::lists::put_own` meets its contract. Assumes nothing.
use Rattle.list_ranges.proofs.PartLaws.{own_told}
use Rattle.list_parts.proofs.lists.put_own.Goals as goal

pub returns : goal.returns
returns c = search own_told
