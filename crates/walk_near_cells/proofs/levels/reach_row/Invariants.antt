-- `walk_near_cells::levels::reach_row` meets its contract. The invariant: the cells before place t were gone on to. Assumes nothing.
use Prim.Native.Nat.{◌-◌, ◌≤◌}
use Rattle.walk_near_cells.specs.NearCells.{in_row, Spread}
use Rattle.walk_near_cells.proofs.levels.reach_row.Given as goal

abbrev pub invariant-loop-t : goal.invariant-loop-t
invariant-loop-t l =
    (l.lo ≤ l.t) × (l.t ≤ l.hi)
    × Spread l.k l.initial.layers l.initial.found l.count l.layers l.found l.s (in_row l.near l.lo l.t)

abbrev pub decreases-loop-t : goal.decreases-loop-t
decreases-loop-t l = l.hi - l.t
