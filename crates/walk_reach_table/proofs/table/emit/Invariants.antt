-- `walk_reach_table::table::emit` meets its contract. The invariant: the entries of the cells before x are written, and their layers cleared. Assumes nothing.
use Prim.Native.Nat.{◌-◌, ◌≤◌}
use Rattle.vocabulary.specs.Intervals.{blocks}
use Rattle.walk_reach_table.specs.Tables.{row, Cleared, Emitted}
use Rattle.walk_reach_table.proofs.table.emit.Given as goal

abbrev pub invariant-loop-x : goal.invariant-loop-x
invariant-loop-x l =
    (l.low ≤ l.x) × (l.x - l.low ≤ l.high - l.low) × Cleared l.low l.x l.initial.layers l.layers
    × Emitted l.initial.entries l.entries l.t (blocks (l.low - l.first) (l.x - l.low) (row l.initial.layers l.first)) l.s
