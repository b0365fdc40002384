-- `list_parts::lists::put_cells` meets its contract. Assumes nothing.
use Rattle.list_ranges.proofs.PartLaws.{line_told}
use Rattle.list_parts.proofs.lists.put_cells.Goals as goal

pub returns : goal.returns
returns c = search line_told
