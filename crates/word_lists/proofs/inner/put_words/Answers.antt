-- `word_lists::inner::put_words` meets its contract. The invariant: the first k words are written. Assumes nothing.
use Rattle.word_lists.proofs.PutLaws.{words_start, words_turn, words_end}
use borrow.Author.Rules.{rules}
use Rattle.word_lists.proofs.inner.put_words.Goals as goal

pub loop-k-init : goal.loop-k-init
loop-k-init c = (search rules, search rules, search rules, search words_start)

pub loop-k-preserved : goal.loop-k-preserved
loop-k-preserved c = (search rules, search rules, search rules, search words_turn)

pub returns : goal.returns
returns c = search words_end
