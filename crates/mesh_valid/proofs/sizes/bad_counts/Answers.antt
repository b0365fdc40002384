-- `mesh_valid::sizes::bad_counts` meets its contract. Assumes nothing.
use Rattle.vocabulary.proofs.IteratorLaws.{some_ran}
use borrow.Author.Rules.{rules}
use borrow.Author.Tests.{tests}
use Rattle.mesh_valid.proofs.sizes.bad_counts.Goals as goal

pub returns : goal.returns
returns c = some_ran c.any.ensures.ran (search rules) (λ x t q k. search (rules, tests))
