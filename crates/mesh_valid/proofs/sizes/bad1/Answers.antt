-- `mesh_valid::sizes::bad1` meets its contract. Assumes nothing.
use borrow.Author.Rules.{rules}
use borrow.Author.Tests.{tests}
use Rattle.mesh.specs.Mesh.{bad1}
use Rattle.mesh_valid.proofs.sizes.bad1.Goals as goal

pub returns-then-m-lt12 : goal.returns-then-m-lt12
unfolding bad1
returns-then-m-lt12 c = search (rules, tests)

pub returns-else-m-lt12 : goal.returns-else-m-lt12
unfolding bad1
returns-else-m-lt12 c = search (rules, tests)
