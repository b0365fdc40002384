-- `split_cells::inner::add_group` meets its contract. The invariant: the cells that were followed are added. Assumes nothing.
use mathlib.Core.Path.{refl}
use Rattle.split_cells.proofs.AddLaws.{adding_start, adding_number, adding_turn, adding_stop, adding_end}
use borrow.Author.Rules.{rules}
use Rattle.split_cells.proofs.inner.add_group.Goals as goal

pub loop-n-init : goal.loop-n-init
loop-n-init c = (search rules, search rules, search rules, refl, search adding_start)

pub returns-then-i-lt1 : goal.returns-then-i-lt1
returns-then-i-lt1 c = (search adding_stop, search rules)

pub overflow_cast-first : goal.overflow_cast-first
overflow_cast-first c = search adding_number

pub loop-n-preserved : goal.loop-n-preserved
loop-n-preserved c = (search rules, search rules, search rules, search rules, search adding_turn)

pub returns : goal.returns
returns c = (search adding_end, search rules)
