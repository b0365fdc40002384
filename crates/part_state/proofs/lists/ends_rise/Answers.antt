-- `part_state::lists::ends_rise` meets its contract. The invariant: the ends so far rise. Assumes nothing.
use Rattle.vocabulary.proofs.IntervalLaws.{every_none, every_end}
use Rattle.part_state.proofs.ListChecks.{ends_start, ends_fall, ends_turn}
use borrow.Author.Rules.{rules}
use Rattle.part_state.proofs.lists.ends_rise.Goals as goal

pub loop-j-init : goal.loop-j-init
loop-j-init g c = (search rules, search rules, search ends_start, search every_none)

pub returns-then-next-end : goal.returns-then-next-end
returns-then-next-end g c = search ends_fall

pub loop-j-preserved : goal.loop-j-preserved
loop-j-preserved g c = (search rules, search rules, search rules, search ends_turn)

pub returns : goal.returns
returns g c = search every_end
