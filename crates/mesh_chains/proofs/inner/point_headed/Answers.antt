-- `mesh_chains::inner::point_headed` meets its contract. Assumes nothing.
use Rattle.vocabulary.proofs.IteratorLaws.{some_ran}
use borrow.Author.Rules.{rules}
use borrow.Author.Tests.{tests}
use Rattle.mesh.specs.Mesh.{headed}
use Rattle.mesh_chains.proofs.inner.point_headed.Goals as goal

pub returns : goal.returns
unfolding headed
returns c = some_ran c.any.ensures.ran (search rules) (λ x t q k. search (rules, tests))
