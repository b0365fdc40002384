-- `round::undivided::new_at` meets its contract. Assumes nothing.
use Rattle.round.proofs.UndividedLaws.{row_ready, row_returned}
use Rattle.round.proofs.undivided.new_at.Goals as goal

pub new_depth-requires : goal.new_depth-requires
new_depth-requires c = search row_ready

pub returns : goal.returns
returns c = (search row_returned, c.new_depth.ensures.1)
