-- How many cells the cells of each row reach, where a byte tells a cell's row. No public contract rests on this page. Assumes nothing.
use Rattle.std.specs.Prelude.{◌≡◌, Bool, cond, List, ℕ, ◌+◌, ◌-◌, ◌*◌, ◌≤◌, eqb, ltb, length, get_or, take}
use Rattle.mesh.specs.Meet.{Under}
use Rattle.vocabulary.specs.Bytes.{Bytes, byte_at}
use Rattle.vocabulary.specs.Intervals.{picked, total}
use Rattle.vocabulary.specs.Lists.{some_of}
use Rattle.layout.specs.Limits.{element_places, most_elements}
use Rattle.mesh.specs.Mesh.{first_cell, cell_count}
use Rattle.mesh.specs.Walks.{steps_to}

-- cell x is walked to from cell c
unfoldable pub walked_to : Bytes → Bytes → ℕ → ℕ → Bool
walked_to m st c x = ltb 0 (length (steps_to m st c x))

-- the cells of row i among the first n
unfoldable pub row_cells : ℕ → Bytes → ℕ → ℕ → List ℕ
row_cells first rows i n = picked first n (λ x. eqb (byte_at rows (x - first)) i)

-- they stand at the front of a list, k of them
pub record Rowed (first : ℕ) (rows : Bytes) (i n k : ℕ) (list : List ℕ) : Type 0 where
  pub room : length list ≡ element_places
  pub few : k ≤ n
  pub cells : take k list ≡ row_cells first rows i n

-- one where place q has a layer; how many of the first n places have one
unfoldable pub layer_one : List ℕ → ℕ → ℕ → ℕ
layer_one layers first q = cond (eqb (get_or layers (first + q) 0) 0) 0 1

unfoldable pub layer_count : List ℕ → ℕ → ℕ → ℕ
layer_count layers first n = total 0 n (layer_one layers first)

-- how many cells the cells of row i reach
unfoldable pub row_reach_count : Bytes → Bytes → Bytes → ℕ → ℕ
row_reach_count m st rows i = total 0 (cell_count m) (λ q. cond (some_of (row_cells (first_cell m) rows i (cell_count m)) (λ c. walked_to m st c (first_cell m + q))) 1 0)

-- the first n rows are counted, by marks below v
pub record ReachCounted (m st rows : Bytes) (n v : ℕ) (marks : List ℕ) (s : ℕ) : Type 0 where
  pub turns : v ≤ 1 + 9 * n
  pub fresh : Under v marks
  pub told : s ≡ total 1 n (row_reach_count m st rows)
  pub few : s ≤ most_elements * n
