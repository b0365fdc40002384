-- `mesh::reader::element_in` meets its contract. Assumes nothing.
use Rattle.mesh.specs.Mesh.{element_in}
use Rattle.mesh.proofs.ReaderLaws.{reads_record}
use borrow.Author.Rules.{rules}
use Rattle.mesh.proofs.reader.element_in.Goals as goal

pub returns : goal.returns
unfolding element_in
returns c = (search reads_record, search rules)
