-- `part_start_points::points::put_sizes` meets its contract. The invariant: the first k ends are written, and e is the next. Assumes nothing.
use Rattle.word_lists.proofs.PutLaws.{words_start, words_more, words_last}
use Rattle.part_start_points.proofs.FoundLaws.{sizes_start, sizes_turn, sizes_small}
use borrow.Author.Rules.{rules}
use Rattle.part_start_points.proofs.points.put_sizes.Goals as goal

pub loop-k-init : goal.loop-k-init
loop-k-init c = (search rules, search rules, search rules, search rules, search sizes_start, search words_start)

pub loop-k-preserved : goal.loop-k-preserved
loop-k-preserved c = (search rules, search rules, search rules, search sizes_small, search sizes_turn, search words_more)

pub returns : goal.returns
returns c = search words_last
