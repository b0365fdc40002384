-- `mesh::reader::next_of` meets its contract. Assumes nothing.
use Rattle.mesh.specs.Mesh.{next_of}
use Rattle.mesh.proofs.ReaderLaws.{reads_record}
use borrow.Author.Rules.{rules}
use Rattle.mesh.proofs.reader.next_of.Goals as goal

pub returns : goal.returns
unfolding next_of
returns c = (search reads_record, search rules)
