-- `split_classes::classes::classify_cell` meets its contract. Assumes nothing.
use Rattle.split_classes.proofs.ClassLaws.{class_skip, class_own}
use Rattle.split_classes.proofs.classes.classify_cell.Goals as goal

pub returns-then-owner_of-i : goal.returns-then-owner_of-i
returns-then-owner_of-i c = search class_skip

pub returns : goal.returns
returns c = search class_own
