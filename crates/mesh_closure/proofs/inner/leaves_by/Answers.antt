-- `mesh_closure::inner::leaves_by` meets its contract. Assumes nothing.
use mathlib.Core.Path.{◌∙◌, ap}
use Rattle.vocabulary.specs.Lists.{some_of}
use Rattle.mesh.specs.Meet.{unlike}
use Rattle.mesh_closure.specs.Rows.{leaves_by}
use Rattle.mesh_closure.proofs.RowLaws.{names_marks}
use Rattle.mesh_closure.proofs.ClosureLaws.{names_row}
use Rattle.mesh_closure.proofs.inner.leaves_by.Goals as goal

pub any_unmarked-requires : goal.any_unmarked-requires
any_unmarked-requires c =
    let names = names_row _ _ _ c.args.chains.written c.requires.2 _ c.requires.0 c.requires.1 in
    rw c.row.ensures (names_marks _ _ _ names c.requires.3)

pub returns : goal.returns
unfolding leaves_by
returns c = c.any_unmarked.ensures ∙ ap (λ r. some_of r (unlike c.args.v c.args.marks.now)) c.row.ensures
