-- `split_cells::inner::add_imported` meets its contract. The invariant: the imports from the first j parts are added. Assumes nothing.
use mathlib.Core.Path.{◌≡◌}
use Prim.Native.Nat.{◌+◌, ◌-◌, ◌*◌, ◌≤◌}
use lib.ListN.{length}
use Rattle.vocabulary.specs.Intervals.{blocks}
use Rattle.layout.specs.Limits.{most_elements}
use Rattle.split_classes.specs.Classes.{Appended}
use Rattle.split_classes.specs.Groups.{group_cells}
use Rattle.split_cells.proofs.inner.add_imported.Given as goal

abbrev pub invariant-loop-j : goal.invariant-loop-j
invariant-loop-j l =
    (l.j ≤ l.parts) × (l.t ≤ l.s + most_elements * l.j) × (length l.list ≡ length l.initial.list) × Appended l.initial.list l.list l.s l.t (blocks 1 l.j (group_cells l.start l.next l.first l.cells))

abbrev pub decreases-loop-j : goal.decreases-loop-j
decreases-loop-j l = l.parts - l.j
