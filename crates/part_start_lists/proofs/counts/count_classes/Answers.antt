-- `part_start_lists::counts::count_classes` meets its contract. The invariant: the cells before q are counted. Assumes nothing.
use Rattle.part_start_lists.proofs.CountLaws.{tally_start, tally_room, tally_turn, tally_end}
use borrow.Author.Rules.{rules}
use Rattle.part_start_lists.proofs.counts.count_classes.Goals as goal

pub loop-q-init : goal.loop-q-init
loop-q-init c = (search rules, search rules, search tally_start)

pub overflow_add-n : goal.overflow_add-n
overflow_add-n c = search tally_room

pub loop-q-preserved : goal.loop-q-preserved
loop-q-preserved c = (search rules, search rules, search tally_turn)

pub returns : goal.returns
returns c = search tally_end
