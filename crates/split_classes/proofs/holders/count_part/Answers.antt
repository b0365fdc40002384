-- `split_classes::holders::count_part` meets its contract. The invariant: the cells that were followed are counted. Assumes nothing.
use Rattle.split_classes.proofs.HolderLaws.{follow_start, follow_room, follow_turn, follow_stop, follow_end}
use borrow.Author.Rules.{rules}
use Rattle.split_classes.proofs.holders.count_part.Goals as goal

pub loop-t-init : goal.loop-t-init
loop-t-init c = (search rules, search rules, search follow_start)

pub returns-then-s-lt1 : goal.returns-then-s-lt1
returns-then-s-lt1 c = search follow_stop

pub add_reach-requires : goal.add_reach-requires
add_reach-requires c = follow_room _ _ _ _ _ _ _ _ _ _ _ _ c.loop-t.invariant.2 c.loop-t.invariant.0 c.requires.1

pub loop-t-preserved : goal.loop-t-preserved
loop-t-preserved c = (search rules, search rules, search follow_turn)

pub returns : goal.returns
returns c = search follow_end
