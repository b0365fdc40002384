-- `round::undivided::renew` meets its contract. The invariant: the first j new depths are written. Assumes nothing.
use Rattle.vocabulary.proofs.IntervalLaws.{stored_start, stored_end}
use Rattle.round.proofs.UndividedLaws.{renew_turn, row_each}
use borrow.Author.Rules.{rules}
use Rattle.round.proofs.undivided.renew.Goals as goal

pub loop-j-init : goal.loop-j-init
loop-j-init c = (search rules, search rules, search stored_start)

pub new_at-x-requires : goal.new_at-x-requires
new_at-x-requires c = (search rules, search row_each)

pub loop-j-preserved : goal.loop-j-preserved
loop-j-preserved c = (search rules, search rules, search renew_turn)

pub returns : goal.returns
returns c = search stored_end
