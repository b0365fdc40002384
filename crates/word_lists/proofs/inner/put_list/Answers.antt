-- `word_lists::inner::put_list` meets its contract. The invariant: the numbers so far are written. Assumes nothing.
use Rattle.word_lists.proofs.PutLaws.{put_none, list_turn, list_end}
use borrow.Author.Rules.{rules}
use Rattle.word_lists.proofs.inner.put_list.Goals as goal

pub loop-w-init : goal.loop-w-init
loop-w-init c = (search rules, search rules, search put_none)

pub loop-w-preserved : goal.loop-w-preserved
loop-w-preserved c = (search rules, search rules, search (list_turn, rules))

pub returns : goal.returns
returns c = search list_end
