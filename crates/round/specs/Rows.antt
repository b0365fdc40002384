-- How the undivided round finds a cell's reach: by its row of a table. No public contract rests on this page. Assumes nothing.
use Rattle.std.specs.Prelude.{ℕ, ◌+◌, ◌-◌, ◌*◌, ◌<◌, ◌≤◌, List, get_or}
use Rattle.vocabulary.specs.Bytes.{Bytes}
use Rattle.depths.specs.Depths.{four}
use Rattle.round_rule.specs.Rules.{new_depth}
use Rattle.round_update.specs.Update.{table_entries, olds_at, UpdateReady}

-- the new depth of the cell at place j, from 0; its entries are those after `ends` at j, up to `ends` at j + 1
unfoldable pub row_new : ℕ → Bytes → Bytes → List ℕ → Bytes → ℕ → Bytes
row_new kind v table ends f j = new_depth kind v (four f (0 + 4 * j)) (olds_at f 0 (table_entries table (4 * get_or ends j 0) (get_or ends (j + 1) 0 - get_or ends j 0)))

-- the row of the cell at place j is ready for the update
pub record Row (kind : ℕ) (v table : Bytes) (ends : List ℕ) (f : Bytes) (j : ℕ) : Type 0 where
  pub rises : get_or ends j 0 ≤ get_or ends (j + 1) 0
  pub ready : UpdateReady kind v table (4 * get_or ends j 0) (get_or ends (j + 1) 0 - get_or ends j 0) f 0 j

-- the same of every cell
pub record Rows (kind : ℕ) (v table : Bytes) (ends : List ℕ) (cells : ℕ) (f : Bytes) : Type 0 where
  pub few : cells < 65536
  pub each : (j : ℕ) → j < cells → Row kind v table ends f j
