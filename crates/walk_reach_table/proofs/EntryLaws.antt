-- The entries of the table of the reaches: where those of a cell stand, and what they say. Assumes nothing.
use mathlib.Core.Path.{◌≡◌, sym, ap, ◌∙◌}
use mathlib.Core.List.{List}
use Prim.Native.Nat.{ℕ, ◌+◌, ◌-◌, ◌*◌, ◌≤◌, ◌<◌}
use native.Mathlib.Numerals.{add-one}
use native.Mathlib.Omega.{arith}
use lib.ListN.{length, get_or, drop}
use Rattle.vocabulary.specs.Bytes.{Bytes, over}
use Rattle.vocabulary.proofs.ByteLaws.{over_front, over_length}
use Rattle.vocabulary.specs.Intervals.{total}
use Rattle.vocabulary.proofs.IntervalLaws.{blocks_length, blocks_at, total_fit}
use Rattle.vocabulary.proofs.CountLaws.{total_double}
use Rattle.vocabulary.proofs.ListLaws.{pairs_length, pairs_at}
use Rattle.layout.specs.Words.{word, word_at, bytes_of}
use Rattle.layout.proofs.WordLaws.{length_bytes_of, word_at_first}
use Rattle.layout.specs.Limits.{most_reached, table_bytes}
use Rattle.mesh.specs.Mesh.{first_cell, cell_count}
use Rattle.mesh.specs.Walks.{Near, reach}
use Rattle.walk_reach_table.specs.Tables.{placed_words, reach_entries, table_words, entry_count, Tabled}

-- ---- the words of the first cells

module _ (m st : Bytes) where
  row_length : (c : ℕ) → length (reach_entries m st c) ≡ 2 * length (reach m st c)
  unfolding reach_entries placed_words
  row_length c = pairs_length (λ (e : Near). e.cell - first_cell m) (λ (e : Near). e.layer) (reach m st c)

  row_pair : (c t : ℕ) (none : Near) → t < length (reach m st c)
      → (get_or (reach_entries m st c) (2 * t) 0 ≡ (get_or (reach m st c) t none).cell - first_cell m) × (get_or (reach_entries m st c) (2 * t + 1) 0 ≡ (get_or (reach m st c) t none).layer)
  unfolding reach_entries placed_words
  row_pair c t none h = pairs_at (λ (e : Near). e.cell - first_cell m) (λ (e : Near). e.layer) (reach m st c) t none h

  words_length : (n : ℕ) → length (table_words m st n) ≡ 2 * entry_count m st n
  unfolding table_words entry_count
  words_length n =
      blocks_length (first_cell m) (reach_entries m st) n
      ∙ total_double (first_cell m) n (λ c. length (reach_entries m st c)) (λ c. length (reach m st c)) row_length

  -- one cell more
  pub count_more : (j : ℕ) → entry_count m st (j + 1) ≡ entry_count m st j + length (reach m st (first_cell m + j))
  unfolding entry_count total
  count_more j = ap (λ n. total (first_cell m) n (λ c. length (reach m st c))) (add-one j)

  count_fits : (n j : ℕ) → j < n → entry_count m st j + length (reach m st (first_cell m + j)) ≤ entry_count m st n
  unfolding entry_count
  count_fits n j h = total_fit (first_cell m) (λ c. length (reach m st c)) n j h

  word_in_row : (n j s : ℕ) → j < n → s < 2 * length (reach m st (first_cell m + j))
      → get_or (table_words m st n) (length (table_words m st j) + s) 0 ≡ get_or (reach_entries m st (first_cell m + j)) s 0
  unfolding table_words
  word_in_row n j s h k = blocks_at (first_cell m) (reach_entries m st) n j s 0 h (omega (arith, row_length (first_cell m + j)))

  word_of : (n j s : ℕ) → j < n → s < 2 * length (reach m st (first_cell m + j)) → get_or (table_words m st n) (2 * entry_count m st j + s) 0 ≡ get_or (reach_entries m st (first_cell m + j)) s 0
  word_of n j s h k =
      ap (λ x. get_or (table_words m st n) (x + s) 0) (sym (words_length j))
      ∙ word_in_row n j s h k

-- ---- a table that was written

module _ (m st before after : Bytes) (text : after ≡ over before 0 (bytes_of (table_words m st (cell_count m)))) where
  -- a word of a cell's reach stands in the table
  word_is : (j s x : ℕ) → j < cell_count m → s < 2 * length (reach m st (first_cell m + j)) → x ≡ 2 * entry_count m st j + s → word_at after x ≡ get_or (reach_entries m st (first_cell m + j)) s 0
  word_is j s x h k xe =
      let ws : List ℕ = table_words m st (cell_count m) in
      ap (λ (b : Bytes). word_at b x) (text ∙ over_front before (bytes_of ws))
      ∙ word_at_first ws (drop (length (bytes_of ws)) before) x (omega (arith, words_length m st (cell_count m), count_fits m st (cell_count m) j h))
      ∙ ap (λ i. get_or ws i 0) xe
      ∙ word_of m st (cell_count m) j s h k

  pub entry_is : (j t : ℕ) (none : Near) → j < cell_count m → t < length (reach m st (first_cell m + j))
      → (word_at after (2 * (entry_count m st j + t)) ≡ (get_or (reach m st (first_cell m + j)) t none).cell - first_cell m)
      × (word_at after (2 * (entry_count m st j + t) + 1) ≡ (get_or (reach m st (first_cell m + j)) t none).layer)
  entry_is j t none h k =
      let w = row_pair m st (first_cell m + j) t none k in (
        word_is j (2 * t) (2 * (entry_count m st j + t)) h (omega arith) (omega arith) ∙ w.0,
        word_is j (2 * t + 1) (2 * (entry_count m st j + t) + 1) h (omega arith) (omega arith) ∙ w.1,
      )

module _ (m st before after : Bytes) (ends : List ℕ) (r : ℕ) (table : Tabled m st before after ends r) (room : length before ≡ table_bytes) where
  pub counted_few : entry_count m st (cell_count m) ≤ most_reached
  counted_few = omega (arith, table.count, table.few)

  pub table_length : length after ≡ table_bytes
  table_length =
      let ws : List ℕ = table_words m st (cell_count m) in
      let e : after ≡ over before 0 (bytes_of ws) = table.text in
      ap length e ∙ over_length before 0 (bytes_of ws) (omega (arith, counted_few, length_bytes_of ws, words_length m st (cell_count m))) ∙ room

  pub row_start : (j : ℕ) → j ≤ cell_count m → get_or ends j 0 ≡ entry_count m st j
  row_start j h = table.ended.each j h

  pub row_fits : (j : ℕ) → j < cell_count m → get_or ends j 0 + length (reach m st (first_cell m + j)) ≤ most_reached
  row_fits j h = omega (arith, counted_few, row_start j (omega arith), count_fits m st (cell_count m) j h)

  -- how many entries a cell has
  pub row_size : (j : ℕ) → j < cell_count m → get_or ends (j + 1) 0 ≡ get_or ends j 0 + length (reach m st (first_cell m + j))
  row_size j h = omega (arith, row_start j (omega arith), row_start (j + 1) (omega arith), count_more m st j)

  module _ (j t : ℕ) (none : Near) (h : j < cell_count m) (k : t < length (reach m st (first_cell m + j))) where
    pub row_cell : word after (4 * get_or ends j 0 + 4 * t) ≡ (get_or (reach m st (first_cell m + j)) t none).cell - first_cell m
    unfolding word_at
    row_cell =
        let p : 4 * get_or ends j 0 + 4 * t ≡ 2 * (2 * (entry_count m st j + t)) = omega (arith, row_start j (omega arith)) in
        ap (word after) p ∙ (entry_is m st before after (table.text) j t none h k).0

    pub row_layer : word after (4 * get_or ends j 0 + 4 * t + 2) ≡ (get_or (reach m st (first_cell m + j)) t none).layer
    unfolding word_at
    row_layer =
        let p : 4 * get_or ends j 0 + 4 * t + 2 ≡ 2 * (2 * (entry_count m st j + t) + 1) = omega (arith, row_start j (omega arith)) in
        ap (word after) p ∙ (entry_is m st before after (table.text) j t none h k).1
