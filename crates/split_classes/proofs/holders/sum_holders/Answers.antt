-- `split_classes::holders::sum_holders` meets its contract. The invariant: the counts before q are summed. Assumes nothing.
use Rattle.split_classes.proofs.HolderLaws.{sum_start, sum_turn, sum_end}
use borrow.Author.Rules.{rules}
use Rattle.split_classes.proofs.holders.sum_holders.Goals as goal

pub loop-q-init : goal.loop-q-init
loop-q-init c = (search rules, search rules, search sum_start)

pub loop-q-preserved : goal.loop-q-preserved
loop-q-preserved c = (search rules, search rules, search sum_turn)

pub returns : goal.returns
returns c = search sum_end
