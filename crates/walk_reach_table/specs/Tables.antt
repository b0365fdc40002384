-- The reaches of all cells as a table of words: for each cell in rising order, each cell of its reach, rising, as its place from 0 and its layer.
-- No public contract rests on this page. Assumes nothing.
use Rattle.std.specs.Prelude.{◌≡◌, cond, List, [], ◌∷◌, map, ℕ, ◌+◌, ◌-◌, ◌*◌, ◌/◌, ◌%◌, ◌≤◌, ◌<◌, eqb, length, get_or}
use Rattle.vocabulary.specs.Bytes.{Bytes, over}
use Rattle.vocabulary.specs.Intervals.{blocks, total}
use Rattle.vocabulary.specs.Lists.{joined}
use Rattle.layout.specs.Words.{bytes_of}
use Rattle.layout.specs.Limits.{most_reached}
use Rattle.mesh.specs.Mesh.{first_cell, cell_count}
use Rattle.mesh.specs.Walks.{Near, reach}

-- the words of an entry
unfoldable pub placed_words : ℕ → Near → List ℕ
placed_words first e = (e.cell - first) ∷ e.layer ∷ []

-- the words of a cell's reach
unfoldable pub reach_entries : Bytes → Bytes → ℕ → List ℕ
reach_entries m st c = joined (map (placed_words (first_cell m)) (reach m st c))

-- the words of the reaches of the first n cells, and how many entries those are
unfoldable pub table_words : Bytes → Bytes → ℕ → List ℕ
table_words m st n = blocks (first_cell m) n (reach_entries m st)

unfoldable pub entry_count : Bytes → Bytes → ℕ → ℕ
entry_count m st n = total (first_cell m) n (λ c. length (reach m st c))

-- ---- how the code writes them; no public contract rests on what follows

-- the words at place q, by the layers' marks
unfoldable pub row : List ℕ → ℕ → ℕ → List ℕ
row layers first q = cond (eqb (get_or layers (first + q) 0) 0) [] (q ∷ (get_or layers (first + q) 0 - 1) ∷ [])

-- the numbers from `low` on and before `high` were set to 0, and no other
pub record Cleared (low high : ℕ) (before after : List ℕ) : Type 0 where
  pub size : length after ≡ length before
  pub inside : (z : ℕ) → low ≤ z → z < high → get_or after z 0 ≡ 0
  pub lower : (z : ℕ) → z < low → get_or after z 0 ≡ get_or before z 0
  pub upper : (z : ℕ) → high ≤ z → get_or after z 0 ≡ get_or before z 0

-- the words ws were written after the first s entries, which makes t of them
pub record Emitted (before after : Bytes) (s : ℕ) (ws : List ℕ) (t : ℕ) : Type 0 where
  pub size : length after ≡ length before
  pub even : length ws % 2 ≡ 0
  pub count : t ≡ s + length ws / 2
  pub few : t ≤ most_reached
  pub text : after ≡ over before (4 * s) (bytes_of ws)

-- ends j is the count of entries of the first j cells, for j up to n
pub record EndTable (m st : Bytes) (ends : List ℕ) (n : ℕ) : Type 0 where
  pub each : (j : ℕ) → j ≤ n → get_or ends j 0 ≡ entry_count m st j

-- the reaches of all cells: r entries
pub record Tabled (m st : Bytes) (before after : Bytes) (ends : List ℕ) (r : ℕ) : Type 0 where
  pub count : r ≡ entry_count m st (cell_count m)
  pub few : r ≤ most_reached
  pub text : after ≡ over before 0 (bytes_of (table_words m st (cell_count m)))
  pub ended : EndTable m st ends (cell_count m)
