-- `walk_reach_table::table::reach_all` meets its contract. The invariant: the reaches of the first q cells are in the table. Assumes nothing.
use Prim.Native.Nat.{◌+◌, ◌*◌, ◌≤◌}
use Rattle.walk_near_cells.specs.NearCells.{WalksReady}
use Rattle.walk_reach_table.specs.Tables.{table_words, Emitted, EndTable}
use Rattle.walk_reach_table.proofs.table.reach_all.Given as goal

abbrev pub invariant-loop-q : goal.invariant-loop-q
invariant-loop-q l =
    (l.q ≤ l.walker.sizes.cells) × (l.mark ≤ 4001 + 9 * l.q) × WalksReady l.walker.mesh.now l.walker.stencil.now l.rows l.mark l.space
    × Emitted l.initial.reaches.entries l.reaches.entries 0 (table_words l.walker.mesh.now l.walker.stencil.now l.q) l.t × EndTable l.walker.mesh.now l.walker.stencil.now l.reaches.ends l.q
