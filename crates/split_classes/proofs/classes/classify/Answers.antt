-- `split_classes::classes::classify` meets its contract. The invariant: the cells before q have told what they tell. Assumes nothing.
use Rattle.split_classes.proofs.ClassLaws.{class_start, class_end}
use borrow.Author.Rules.{rules}
use Rattle.split_classes.proofs.classes.classify.Goals as goal

pub loop-q-init : goal.loop-q-init
loop-q-init c = (search rules, search class_start)

pub loop-q-preserved : goal.loop-q-preserved
loop-q-preserved c = (search rules, search rules)

pub returns : goal.returns
returns c = search class_end
