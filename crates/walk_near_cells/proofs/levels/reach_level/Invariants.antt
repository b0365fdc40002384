-- `walk_near_cells::levels::reach_level` meets its contract. The invariant: the cells before place i were gone on from. Assumes nothing.
use Prim.Native.Nat.{◌-◌, ◌≤◌}
use Rattle.walk_near_cells.specs.NearCells.{from_level, Spread}
use Rattle.walk_near_cells.proofs.levels.reach_level.Given as goal

abbrev pub invariant-loop-i : goal.invariant-loop-i
invariant-loop-i l =
    (l.old ≤ l.i) × (l.i ≤ l.count)
    × Spread l.k l.initial.layers l.initial.found l.count l.layers l.found l.s (from_level l.near l.w l.first l.initial.found l.old l.i)

abbrev pub decreases-loop-i : goal.decreases-loop-i
decreases-loop-i l = l.count - l.i
