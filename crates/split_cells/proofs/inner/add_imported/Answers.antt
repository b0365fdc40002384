-- `split_cells::inner::add_imported` meets its contract. The invariant: the imports from the first j parts are added. Assumes nothing.
use mathlib.Core.Path.{refl}
use Rattle.split_cells.proofs.AddLaws.{imported_start, imported_turn, imported_end}
use borrow.Author.Rules.{rules}
use Rattle.split_cells.proofs.inner.add_imported.Goals as goal

pub loop-j-init : goal.loop-j-init
loop-j-init c = (search rules, search rules, refl, search imported_start)

pub loop-j-preserved : goal.loop-j-preserved
loop-j-preserved c = (search rules, search rules, search rules, search imported_turn)

pub returns : goal.returns
returns c = search imported_end
