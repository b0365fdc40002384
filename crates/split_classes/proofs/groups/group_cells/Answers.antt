-- `split_classes::groups::group_cells` meets its contract. The invariant: the last t cells are linked. Assumes nothing.
use mathlib.Core.Path.{refl}
use Rattle.split_classes.proofs.GroupLaws.{grouped_start, grouped_turn, grouped_end}
use borrow.Author.Rules.{rules}
use Rattle.split_classes.proofs.groups.group_cells.Goals as goal

pub loop-t-init : goal.loop-t-init
loop-t-init c = (search rules, refl, refl, search grouped_start)

pub loop-t-preserved : goal.loop-t-preserved
loop-t-preserved c = (search rules, search rules, search rules, search grouped_turn)

pub returns : goal.returns
returns c = search grouped_end
