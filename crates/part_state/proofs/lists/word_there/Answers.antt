-- `part_state::lists::word_there` meets its contract. Assumes nothing.
use Rattle.layout.proofs.Laws.{word_here}
use borrow.Author.Rules.{rules}
use Rattle.part_state.proofs.lists.word_there.Goals as goal

pub returns : goal.returns
returns c = (search word_here, search rules)
