-- `mesh::inner::cell_count` meets its contract. Assumes nothing.
use Rattle.mesh.proofs.ReaderLaws.{counts_cells}
use borrow.Author.Rules.{rules}
use Rattle.mesh.proofs.inner.cell_count.Goals as goal

pub returns : goal.returns
returns c = (search counts_cells, search rules)
