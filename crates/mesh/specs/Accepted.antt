-- What an accepted mesh gives: the facts that every later crate rests on. They are proved of it: no public contract rests on this page. Assumes
-- nothing.
use Rattle.std.specs.Prelude.{◌≡◌, true, false, [], ℕ, ◌+◌, ◌≤◌, ◌<◌, length}
use Rattle.vocabulary.specs.Bytes.{Bytes}
use Rattle.vocabulary.specs.Lists.{is_in, repeats, All}
use Rattle.mesh.specs.Mesh.{top, counted, below, elements, record_count, first_cell, cell_count, dimension, records, chain, all_records, mesh_length}
use Rattle.mesh.specs.Meet.{Sizes}

-- e is an element of the mesh
pub record Element (m : Bytes) (e : ℕ) : Type 0 where
  pub low : 1 ≤ e
  pub high : e ≤ elements m

-- c is a cell of the mesh
pub record Cell (m : Bytes) (c : ℕ) : Type 0 where
  pub low : first_cell m ≤ c
  pub high : c < first_cell m + cell_count m

pub record Accepted (m : Bytes) : Type 0 where
  -- 1 to 3: the sizes
  pub sizes : Sizes m (top m) (elements m) (record_count m)
  pub top_low : 1 ≤ top m
  pub some_counted : (k : ℕ) → k ≤ top m → 1 ≤ counted m k
  pub none_counted : (k : ℕ) → top m < k → k < 4 → counted m k ≡ 0
  pub length_is : length m ≡ mesh_length m
  -- the cells are the last elements
  pub cells_in : first_cell m + cell_count m ≡ elements m + 1
  -- 4: a point's chain is empty; every record of a chain is there, a chain ends, and all chains together have no more records than there are
  pub point_bare : (e : ℕ) → 1 ≤ e → e ≤ counted m 0 → chain m e ≡ []
  pub records_in : (e : ℕ) → Element m e → All (λ i. (1 ≤ i) × (i ≤ record_count m)) (records m e)
  pub chains_end : (e : ℕ) → Element m e → length (records m e) ≤ record_count m
  pub records_few : length (all_records m) ≤ record_count m
  -- 5: every element of a chain is of lower dimension, and stands there once
  pub chain_lower : (e : ℕ) → Element m e → All (λ g. (1 ≤ g) × (g ≤ below m (dimension m e))) (chain m e)
  pub chain_once : (e : ℕ) → Element m e → repeats (chain m e) ≡ false
  -- 6: chains are closed
  pub chain_closed : (e f g : ℕ) → Element m e → is_in f (chain m e) ≡ true → is_in g (chain m f) ≡ true → is_in g (chain m e) ≡ true
  -- 7: every lower element is in a cell's chain
  pub covered : (g : ℕ) → 1 ≤ g → g ≤ below m (top m) → (c : ℕ) × Cell m c × (is_in g (chain m c) ≡ true)
