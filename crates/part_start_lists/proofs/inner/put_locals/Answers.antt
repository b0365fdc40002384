-- `part_start_lists::inner::put_locals` meets its contract. The invariant: the cells before place k are written. Assumes nothing.
use Rattle.part_start_lists.proofs.StartCounts.{locals_start, locals_turn, locals_end}
use borrow.Author.Rules.{rules}
use Rattle.part_start_lists.proofs.inner.put_locals.Goals as goal

pub loop-k-init : goal.loop-k-init
loop-k-init c = (search rules, search rules, search rules, search locals_start)

pub loop-k-preserved : goal.loop-k-preserved
loop-k-preserved c = (search rules, search rules, search rules, search locals_turn)

pub returns : goal.returns
returns c = search locals_end
