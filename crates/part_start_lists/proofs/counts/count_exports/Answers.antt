-- `part_start_lists::counts::count_exports` meets its contract. The invariant: the cells before q are counted. Assumes nothing.
use Rattle.part_start_lists.proofs.CountLaws.{exports_start, exports_turn, exports_end}
use borrow.Author.Rules.{rules}
use Rattle.part_start_lists.proofs.counts.count_exports.Goals as goal

pub loop-q-init : goal.loop-q-init
loop-q-init c = (search rules, search rules, search exports_start)

pub loop-q-preserved : goal.loop-q-preserved
loop-q-preserved c = (search rules, search rules, search exports_turn)

pub returns : goal.returns
returns c = (search exports_end, search rules)
