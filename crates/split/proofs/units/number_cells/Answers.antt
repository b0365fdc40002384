-- `split::units::number_cells` meets its contract. The invariant: the last k cells have their numbers. Assumes nothing.
use Rattle.split.proofs.UnitLaws.{number_start, number_turn, number_end}
use borrow.Author.Rules.{rules}
use Rattle.split.proofs.units.number_cells.Goals as goal

pub loop-k-init : goal.loop-k-init
loop-k-init c = (search rules, search rules, search number_start)

pub loop-k-preserved : goal.loop-k-preserved
loop-k-preserved c = (search rules, search rules, search number_turn)

pub returns : goal.returns
returns c = search number_end
