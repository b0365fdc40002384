-- `walk_near_cells::levels::walk_near` meets its contract. The invariant: the walks of 2j steps are done. Assumes nothing.
use Prim.Native.Nat.{◌*◌, ◌/◌, ◌≤◌}
use lib.ListN.{length}
use Rattle.walk_near_cells.specs.NearCells.{Level}
use Rattle.walk_near_cells.proofs.levels.walk_near.Given as goal

abbrev pub invariant-loop-j : goal.invariant-loop-j
invariant-loop-j l = (l.j ≤ length l.stencil / 2) × Level l.m l.stencil l.c (2 * l.j) l.layers l.found l.old l.met
