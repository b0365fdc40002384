-- `mesh_closure::inner::stamp_items` meets its contract. The invariant: marking what is left gives what marking the whole row gives. Assumes nothing.
use mathlib.Core.Path.{◌≡◌}
use lib.ListN.{length, drop}
use Rattle.mesh.specs.Meet.{stamp}
use Rattle.mesh_closure.proofs.inner.stamp_items.Given as goal

abbrev pub invariant-loop-g : goal.invariant-loop-g
invariant-loop-g l = (length l.marks ≡ length l.initial.marks) × (stamp l.v l.marks (drop l.g-index l.row) ≡ stamp l.v l.initial.marks l.row)
