-- `word_lists::inner::put_one` meets its contract. Assumes nothing.
use Rattle.word_lists.proofs.PutLaws.{put_word}
use Rattle.word_lists.proofs.inner.put_one.Goals as goal

pub returns : goal.returns
returns c = search put_word
