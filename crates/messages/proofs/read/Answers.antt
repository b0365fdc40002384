-- `messages::read` meets its contract. Assumes nothing.
use Rattle.messages.proofs.Laws.{not_read, is_read}
use Rattle.messages.proofs.read.Goals as goal

pub returns-then-bad_message : goal.returns-then-bad_message
returns-then-bad_message c = search not_read

pub returns : goal.returns
returns c = search is_read
