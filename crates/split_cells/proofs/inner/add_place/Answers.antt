-- `split_cells::inner::add_place` meets its contract. Assumes nothing.
use Rattle.split_classes.specs.Classes.{of_class}
use Rattle.split_cells.proofs.AddLaws.{class_skips, class_adds}
use borrow.Author.Rules.{rules}
use Rattle.split_cells.proofs.inner.add_place.Goals as goal

pub returns-then-byte_at-k : goal.returns-then-byte_at-k
unfolding of_class
returns-then-byte_at-k c = (search class_skips, search rules)

pub returns : goal.returns
unfolding of_class
returns c = (search class_adds, search rules)
