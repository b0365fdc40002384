-- `walk_part_reach::inner::count_place` meets its contract. Assumes nothing.
use Rattle.walk_part_reach.proofs.RowLaws.{one_bare, one_layer}
use borrow.Author.Rules.{rules}
use Rattle.walk_part_reach.proofs.inner.count_place.Goals as goal

pub returns-then-index_at-eq0 : goal.returns-then-index_at-eq0
returns-then-index_at-eq0 c = (search one_bare, search rules)

pub returns-else-index_at-eq0 : goal.returns-else-index_at-eq0
returns-else-index_at-eq0 c = (search one_layer, search rules)
