-- `mesh_valid::sizes::bad_count` meets its contract. Assumes nothing.
use Rattle.mesh_valid.proofs.SizeLaws.{none_counted, some_counted}
use Rattle.mesh_valid.proofs.sizes.bad_count.Goals as goal

pub returns-then-k-d : goal.returns-then-k-d
returns-then-k-d c = search none_counted

pub returns-else-k-d : goal.returns-else-k-d
returns-else-k-d c = search some_counted
