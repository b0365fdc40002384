-- `part_start_lists::exports::stamp_group` meets its contract. The invariant: what is left of the group leads to the whole. Assumes nothing.
use Rattle.part_start_lists.proofs.FollowLaws.{stamping_start, stamping_stop, stamping_turn, stamping_end}
use borrow.Author.Rules.{rules}
use Rattle.part_start_lists.proofs.exports.stamp_group.Goals as goal

pub loop-j-init : goal.loop-j-init
loop-j-init c = (search rules, search rules, search stamping_start)

pub returns-then-link-eq0 : goal.returns-then-link-eq0
returns-then-link-eq0 c = search stamping_stop

pub stamp_reach-requires : goal.stamp_reach-requires
stamp_reach-requires c = (search rules, search rules)

pub loop-j-preserved : goal.loop-j-preserved
loop-j-preserved c = (search rules, search rules, search stamping_turn)

pub returns : goal.returns
returns c = search stamping_end
