-- `split_cells::inner::add_class` meets its contract. The invariant: the cells before q are added. Assumes nothing.
use mathlib.Core.Path.{refl}
use Rattle.split_cells.proofs.AddLaws.{add_start, add_turn, class_end}
use borrow.Author.Rules.{rules}
use Rattle.split_cells.proofs.inner.add_class.Goals as goal

pub loop-q-init : goal.loop-q-init
loop-q-init c = (search rules, search rules, refl, search add_start)

pub loop-q-preserved : goal.loop-q-preserved
loop-q-preserved c = (search rules, search rules, search rules, search add_turn)

pub returns : goal.returns
returns c = (search class_end, search rules)
