-- `part_state::places::sizes_of` meets its contract. Assumes nothing.
use Rattle.part_state.proofs.StateChecks.{counts}
use Rattle.part_state.proofs.places.sizes_of.Goals as goal

pub returns : goal.returns
returns c = search counts
