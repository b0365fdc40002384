-- `messages::bad_message` meets its contract. Assumes nothing.
use Rattle.messages.proofs.Laws.{too_short, other_length, ranged_depths}
use Rattle.messages.proofs.bad_message.Goals as goal

pub returns-then-b-lt-HEADER_SIZE : goal.returns-then-b-lt-HEADER_SIZE
returns-then-b-lt-HEADER_SIZE c = search too_short

pub returns-then-b-count : goal.returns-then-b-count
returns-then-b-count c = search other_length

pub returns : goal.returns
returns c = search ranged_depths
