-- `mesh_valid::sizes::bad3` meets its contract. Assumes nothing.
use Rattle.mesh_valid.proofs.SizeLaws.{wrong_length}
use Rattle.mesh_valid.proofs.sizes.bad3.Goals as goal

pub returns : goal.returns
returns c = search wrong_length
