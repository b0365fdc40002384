-- `depths::in_range` meets its contract. Assumes nothing.
use Rattle.depths.specs.Depths.{in_range}
use borrow.Author.Rules.{rules}
use borrow.Author.Tests.{tests}
use Rattle.depths.proofs.in_range.Goals as goal

pub returns : goal.returns
unfolding in_range
returns c = search (rules, tests)
