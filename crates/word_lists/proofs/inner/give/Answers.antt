-- `word_lists::inner::give` meets its contract. Assumes nothing.
use Rattle.word_lists.proofs.GivenLaws.{give_refused, give_stays, give_done, give_written}
use Rattle.word_lists.proofs.inner.give.Goals as goal

pub returns-then-out-list : goal.returns-then-out-list
returns-then-out-list c = (search give_refused, search give_stays)

pub returns : goal.returns
returns c = (search give_done, search give_written)
