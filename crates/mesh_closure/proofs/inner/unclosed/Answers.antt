-- `mesh_closure::inner::unclosed` meets its contract. Assumes nothing.
use mathlib.Core.Path.{◌∙◌, ap}
use native.Mathlib.Omega.{arith}
use Rattle.vocabulary.specs.Lists.{some_of}
use Rattle.mesh.specs.Meet.{stamp}
use Rattle.mesh_closure.specs.Rows.{leaves_by}
use Rattle.mesh_closure.proofs.RowLaws.{names_marks, stamp_length}
use Rattle.mesh_closure.proofs.ClosureLaws.{names_row}
use Rattle.mesh_closure.proofs.inner.unclosed.Goals as goal

pub stamp_items-requires : goal.stamp_items-requires
stamp_items-requires c =
    let names = names_row _ _ _ c.args.chains.written c.requires.2 _ c.requires.0 c.requires.1 in
    rw c.row-row.ensures (names_marks _ _ _ names c.requires.3)

pub any_leaves-requires : goal.any_leaves-requires
any_leaves-requires c =
    let names = names_row _ _ _ c.args.chains.written c.requires.2 _ c.requires.0 c.requires.1 in
    (rw c.row-row.ensures names, c.requires.2, omega (arith, c.requires.3, stamp_length _ _ _ _ c.stamp_items.ensures))

pub returns : goal.returns
returns c = (
  c.stamp_items.ensures ∙ ap (stamp c.args.v c.args.marks.now) c.row-row.ensures,
  c.any_leaves.ensures ∙ ap (λ r. some_of r (leaves_by c.args.chains.mesh.bytes.now c.args.v c.stamp_items.new.marks)) c.row-row.ensures,
)
