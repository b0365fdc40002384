-- `layout::word_at` meets its contract. Assumes nothing.
use borrow.Author.Rules.{rules}
use Rattle.layout.proofs.Laws.{word_here, word_half, word_end}
use Rattle.layout.proofs.word_at.Goals as goal

pub returns-then-i-b : goal.returns-then-i-b
returns-then-i-b c = (word_here _ _ _ c.word_in.ensures.0, c.word_in.ensures.1)

pub returns-then-i-b-2 : goal.returns-then-i-b-2
returns-then-i-b-2 c = (word_half _ _ _ c.if-i-b.false (search rules), search rules)

pub returns-else-i-b-2 : goal.returns-else-i-b-2
returns-else-i-b-2 c = (search word_end, search rules)
