-- `part_start_lists::inner::put_ends` meets its contract. The invariant: the first k ends are written, and e is the next. Assumes nothing.
use Rattle.layout.specs.Limits.{most_parts}
use Rattle.part_start_lists.proofs.CountLaws.{ends_start, ends_turn, ends_base, ends_small}
use Rattle.word_lists.proofs.PutLaws.{words_start, words_more, words_last}
use borrow.Author.Rules.{rules}
use Rattle.part_start_lists.proofs.inner.put_ends.Goals as goal

pub loop-k-init : goal.loop-k-init
loop-k-init c = (search rules, search rules, search rules, search ends_base, search ends_start, search words_start)

pub loop-k-preserved : goal.loop-k-preserved
loop-k-preserved c = (search rules, search rules, search rules, search ends_small, search ends_turn, search words_more)

pub returns : goal.returns
returns c =
    let inv = c.loop-k.invariant in
    words_last _ _ _ _ _ _ _ most_parts _ _ c.requires.0 inv.0 c.loop-k-test.false inv.4 inv.5 c.put_one.ensures
