-- `mesh::inner::first_cell` meets its contract. Assumes nothing.
use Rattle.mesh.proofs.ReaderLaws.{reads_first}
use Rattle.mesh.proofs.inner.first_cell.Goals as goal

pub returns : goal.returns
returns c = search reads_first
