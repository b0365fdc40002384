-- `split::units::to_global` meets its contract. Assumes nothing.
use Rattle.split.proofs.UnitLaws.{global_is}
use Rattle.split.proofs.units.to_global.Goals as goal

pub returns : goal.returns
returns c = search global_is
