-- `mesh_closure::inner::any_unmarked` meets its contract. The invariant: what is left tells what the whole row tells. Assumes nothing.
use mathlib.Core.Path.{◌≡◌}
use lib.ListN.{drop}
use Rattle.vocabulary.specs.Lists.{some_of}
use Rattle.mesh.specs.Meet.{unlike}
use Rattle.mesh_closure.proofs.inner.any_unmarked.Given as goal

abbrev pub invariant-loop-k : goal.invariant-loop-k
invariant-loop-k l = some_of (drop l.k l.row) (unlike l.v l.marks) ≡ some_of l.row (unlike l.v l.marks)
