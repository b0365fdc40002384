-- `round_update::inner::lesser_of` meets its contract. Assumes nothing.
use Rattle.round_update.proofs.Registers.{lesser_least, lesser_alone}
use Rattle.round_update.proofs.inner.lesser_of.Goals as goal

pub returns-in-Depth : goal.returns-in-Depth
returns-in-Depth c = search lesser_least

pub returns-in-Gap : goal.returns-in-Gap
returns-in-Gap c = search lesser_alone
