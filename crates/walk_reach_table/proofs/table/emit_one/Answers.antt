-- `walk_reach_table::table::emit_one` meets its contract. Assumes nothing.
use Rattle.walk_reach_table.proofs.TableLaws.{emit_skip, emit_full, emit_put}
use borrow.Author.Rules.{rules}
use Rattle.walk_reach_table.proofs.table.emit_one.Goals as goal

pub returns-then-x-eq0 : goal.returns-then-x-eq0
returns-then-x-eq0 c = (search emit_skip, search rules)

pub returns-then-t-ge-MOST_REACHED : goal.returns-then-t-ge-MOST_REACHED
returns-then-t-ge-MOST_REACHED c = (search emit_full, search rules)

pub returns : goal.returns
returns c = (search emit_put, search rules)
