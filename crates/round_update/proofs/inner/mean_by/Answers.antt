-- `round_update::inner::mean_by` meets its contract. Assumes nothing.
use Rattle.round_update.proofs.Registers.{nothing_read, something_read}
use Rattle.round_update.proofs.inner.mean_by.Goals as goal

pub returns-then-w-eq0 : goal.returns-then-w-eq0
returns-then-w-eq0 c = search nothing_read

pub returns : goal.returns
returns c = search something_read
