-- `part_start_lists::counts::exported_at` meets its contract. Assumes nothing.
use Rattle.part_start_lists.proofs.CountLaws.{exported_other, exported_own, exported_none}
use borrow.Author.Rules.{rules}
use Rattle.part_start_lists.proofs.counts.exported_at.Goals as goal

pub returns-then-owner_of-i : goal.returns-then-owner_of-i
returns-then-owner_of-i c = (search exported_other, search rules)

pub returns-then-count-eq0 : goal.returns-then-count-eq0
returns-then-count-eq0 c = (search exported_none, search rules)

pub returns-else-count-eq0 : goal.returns-else-count-eq0
returns-else-count-eq0 c = (search exported_own, search rules)
