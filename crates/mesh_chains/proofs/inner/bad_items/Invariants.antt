-- `mesh_chains::inner::bad_items` meets its contract. The invariant: meeting what is left gives what meeting the whole row gives. Assumes nothing.
use mathlib.Core.Path.{◌≡◌}
use lib.ListN.{length, drop}
use Rattle.mesh.specs.Meet.{meet}
use Rattle.mesh_chains.proofs.inner.bad_items.Given as goal

abbrev pub invariant-loop-item : goal.invariant-loop-item
invariant-loop-item l = (length l.marks ≡ length l.initial.marks) × (meet l.mark l.low l.marks (drop l.item-index l.row) ≡ meet l.mark l.low l.initial.marks l.row)
