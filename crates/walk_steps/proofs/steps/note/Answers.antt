-- `walk_steps::steps::note` meets its contract. Assumes nothing.
use Rattle.walk_steps.proofs.NoteLaws.{note_new, note_old}
use Rattle.walk_steps.proofs.steps.note.Goals as goal

pub returns-then-get_or-eq0 : goal.returns-then-get_or-eq0
returns-then-get_or-eq0 c = search note_new

pub returns-else-get_or-eq0 : goal.returns-else-get_or-eq0
returns-else-get_or-eq0 c = search note_old
