-- `walk_reach_table::table::put_entry` meets its contract. Assumes nothing.
use Rattle.walk_reach_table.proofs.TableLaws.{entry_stored}
use borrow.Author.Rules.{rules}
use Rattle.walk_reach_table.proofs.table.put_entry.Goals as goal

pub returns : goal.returns
returns c = entry_stored _ _ _ _ _ _ (search rules) c.put_word.ensures c.put_word-2.ensures
