-- `walk_near_cells::rows::list_rows` meets its contract. The invariant: the rows of the first q cells are listed. Assumes nothing.
use mathlib.Core.Path.{◌≡◌}
use Prim.Native.Nat.{◌+◌, ◌*◌, ◌≤◌}
use lib.ListN.{length}
use Rattle.layout.specs.Limits.{element_places}
use Rattle.mesh.specs.Meet.{Under}
use Rattle.walk_near_cells.specs.NearCells.{Filled}
use Rattle.walk_near_cells.proofs.rows.list_rows.Given as goal

abbrev pub invariant-loop-q : goal.invariant-loop-q
invariant-loop-q l = (l.q ≤ l.walker.sizes.cells) × Under (2 * l.q + 1) l.space.marks × (length l.space.from ≡ element_places) × (length l.space.layers ≡ element_places)
    × Filled l.walker.mesh.now l.a l.space.layers l.w l.q
