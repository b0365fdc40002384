-- `split_classes::classes::clear_row` meets its contract. Assumes nothing.
use borrow.Author.Rules.{rules}
use Rattle.split_classes.proofs.ClassLaws.{cleared}
use Rattle.split_classes.proofs.classes.clear_row.Goals as goal

pub returns : goal.returns
returns c = cleared c.args.class.now _ c.requires (search rules)
