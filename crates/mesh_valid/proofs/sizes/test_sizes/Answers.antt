-- `mesh_valid::sizes::test_sizes` meets its contract. Assumes nothing.
use Rattle.vocabulary.proofs.TestLaws.{told_here, told_later}
use borrow.Author.Rules.{rules}
use Rattle.mesh_valid.proofs.sizes.test_sizes.Goals as goal

pub returns-then-bad1 : goal.returns-then-bad1
returns-then-bad1 c = search told_here

pub returns-then-bad2 : goal.returns-then-bad2
returns-then-bad2 c = search (told_here, told_later)

pub returns-then-bad3 : goal.returns-then-bad3
returns-then-bad3 c = search (told_here, told_later)

pub returns : goal.returns
returns c = search (told_later, rules)
