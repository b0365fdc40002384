-- `walk_part_reach::inner::row_cells` meets its contract. The invariant: the row's cells among the first q stand in the list. Assumes nothing.
use Prim.Native.Nat.{◌-◌, ◌≤◌}
use mathlib.Core.Path.{◌≡◌}
use lib.ListN.{length}
use Rattle.walk_part_reach.specs.Rows.{Rowed}
use Rattle.walk_part_reach.proofs.inner.row_cells.Given as goal

abbrev pub invariant-loop-q : goal.invariant-loop-q
invariant-loop-q l = (l.q ≤ l.cells) × (length l.list ≡ length l.initial.list) × Rowed l.first l.rows l.i l.q l.n l.list

abbrev pub decreases-loop-q : goal.decreases-loop-q
decreases-loop-q l = l.cells - l.q
