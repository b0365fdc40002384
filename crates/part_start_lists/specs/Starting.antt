-- How start finds the lists of a part: from the owners, the table of the reaches with its ends, and the part's
-- local order. No public contract rests on this page; the laws in proofs/ tie it to the definitions of Start. Assumes nothing.
use Rattle.std.specs.Prelude.{◌≡◌, Bool, cond, List, [], ◌∷◌, ◌++◌, map, ℕ, ◌+◌, ◌-◌, ◌*◌, ◌≤◌, ◌<◌, length, get_or, take, replicate}
use Rattle.vocabulary.specs.Bytes.{Bytes, byte_at}
use Rattle.vocabulary.specs.Lists.{joined, some_of, All}
use Rattle.vocabulary.specs.Intervals.{listed, blocks, total}
use Rattle.layout.specs.Words.{word_at}
use Rattle.layout.specs.Limits.{element_places, most_elements, most_parts}
use Rattle.depths.specs.Depths.{four}
use Rattle.split.specs.Numbering.{numbering}
use Rattle.split.specs.Owners.{owns_at}
use Rattle.split_classes.specs.Classes.{reach_has, of_class, part_cells, class_count}
use Rattle.part_state.specs.State.{exports_word}

-- the local number of a cell, in the array that has them
unfoldable pub local_in : List ℕ → ℕ → ℕ
local_in local c = get_or local c 0

-- that array for the first n numbers of the order
abbrev pub numbers_of : List ℕ → ℕ → List ℕ
numbers_of order n = numbering 0 (take n order) (replicate element_places 0)

module _ (owners table : Bytes) (ends : List ℕ) (i first cells : ℕ) where
  -- what part i imports from j, and exports to j
  abbrev pub got_from : ℕ → List ℕ
  got_from j = part_cells owners table ends i first cells j

  abbrev pub sent_from : ℕ → List ℕ
  sent_from j = part_cells owners table ends j first cells i

  -- ends of the imports after `owned` cells, and of the exports
  unfoldable pub got_ends : ℕ → ℕ → ℕ
  got_ends owned j = owned + total 1 j (λ k. length (got_from k))

  unfoldable pub sent_ends : ℕ → ℕ
  sent_ends j = total 1 j (λ k. length (sent_from k))

  -- what it exports to the parts up to n, one part after another
  unfoldable pub sent_list : ℕ → List ℕ
  sent_list n = blocks 1 n sent_from

  -- exports to j as local numbers, by the array of them
  unfoldable pub sent_words : List ℕ → ℕ → List ℕ
  sent_words local j = map (local_in local) (sent_from j)

-- entry t of the table in local numbers, by the array of them
unfoldable pub entry_words : Bytes → ℕ → List ℕ → ℕ → List ℕ
entry_words table first local t = local_in local (first + word_at table (2 * t)) ∷ word_at table (2 * t + 1) ∷ []

module _ (table : Bytes) (ends : List ℕ) (first : ℕ) (order : List ℕ) where
  -- the place of local cell l, and how many entries its reach has
  unfoldable pub place_at : ℕ → ℕ
  place_at l = get_or order (l - 1) 0 - first

  unfoldable pub row_size : ℕ → ℕ
  row_size l = get_or ends (place_at l + 1) 0 - get_or ends (place_at l) 0

  unfoldable pub row_ends : ℕ → ℕ
  row_ends l = total 1 l row_size

  -- all entries of local cell l, by the array of local numbers
  unfoldable pub row_words : List ℕ → ℕ → List ℕ
  row_words local l = blocks (get_or ends (place_at l) 0) (row_size l) (entry_words table first local)

-- the words of the lists up to the exports, region by region, of part i, which holds n cells and owns `owned`, for lists of `long` words, a stencil of `steps`
-- steps and a rule, by an array of local numbers, and by that of the order
unfoldable pub numbered_words : Bytes → Bytes → List ℕ → ℕ → ℕ → ℕ → List ℕ → ℕ → List ℕ → ℕ → ℕ → ℕ → ℕ → Bytes → List ℕ
numbered_words owners table ends i first cells order n local owned long steps kind v =
    joined (
    (long ∷ i ∷ steps ∷ kind ∷ [])
    ∷ listed 0 5 (word_at v)
    ∷ (first ∷ cells ∷ [])
    ∷ listed 0 (most_parts + 1) (got_ends owners table ends i first cells owned)
    ∷ listed 0 (most_parts + 1) (sent_ends owners table ends i first cells)
    ∷ take n order
    ∷ listed 0 (owned + 1) (row_ends table ends first order)
    ∷ blocks 1 owned (row_words table ends first order local)
    ∷ blocks 1 most_parts (sent_words owners table ends i first cells local)
    ∷ []
    )

abbrev pub start_words : Bytes → Bytes → List ℕ → ℕ → ℕ → ℕ → List ℕ → ℕ → ℕ → ℕ → ℕ → ℕ → Bytes → List ℕ
start_words owners table ends i first cells order n owned long steps kind v =
    numbered_words owners table ends i first cells order n (numbers_of order n) owned long steps kind v

-- ---- arrays of counts

-- the count at k
unfoldable pub count_at : List ℕ → ℕ → ℕ
count_at counts k = get_or counts k 0

-- a table of ends after `base`, by the counts from 1 on
unfoldable pub ends_by : List ℕ → ℕ → ℕ → ℕ
ends_by counts base j = base + total 1 j (count_at counts)

-- how many of the first n cells in a row are of each class
pub record Tallied (class : Bytes) (n : ℕ) (counts : List ℕ) : Type 0 where
  pub size : length counts ≡ 19
  pub each : (k : ℕ) → k < 19 → count_at counts k ≡ class_count class n k

-- how many cells part i imports from each part
pub record Got (owners table : Bytes) (ends : List ℕ) (i cells : ℕ) (got : List ℕ) : Type 0 where
  pub each : (first k : ℕ) → 1 ≤ k → k ≤ most_parts → count_at got k ≡ length (got_from owners table ends i first cells k)

-- how many it exports to each part up to n
pub record Sent (owners table : Bytes) (ends : List ℕ) (i cells n : ℕ) (sent : List ℕ) : Type 0 where
  pub size : length sent ≡ most_parts + 1
  pub each : (first k : ℕ) → 1 ≤ k → k ≤ n → count_at sent k ≡ length (sent_from owners table ends i first cells k)
  pub rest : (k : ℕ) → n < k → count_at sent k ≡ 0

-- how many parts the cell at place q is exported to, if part i owns it, by the counts of those that hold it; that of the first n cells together
unfoldable pub exported_at : Bytes → Bytes → ℕ → ℕ → ℕ
exported_at owners holders i q = cond (owns_at owners i q) (byte_at holders q - 1) 0

unfoldable pub export_tally : Bytes → Bytes → ℕ → ℕ → ℕ
export_tally owners holders i n = total 0 n (exported_at owners holders i)

-- the places that pass bear the stamp k afterwards
pub record Stamped (k : ℕ) (before after : Bytes) (p : ℕ → Bool) : Type 0 where
  pub room : length after ≡ most_elements
  pub each : (x : ℕ) → x < most_elements → byte_at after x ≡ cond (p x) k (byte_at before x)

-- one of the cells at the places qs reaches the cell at place x
unfoldable pub reached_from : Bytes → List ℕ → List ℕ → ℕ → Bool
reached_from table ends qs x = some_of qs (λ q. reach_has table ends q x)

-- the places of a list are below n
pub record Below (n : ℕ) (qs : List ℕ) : Type 0 where
  pub each : All (λ q. q < n) qs

-- of the places of a list, those where the row has the class k, as numbers counted from `first`
unfoldable pub class_among : Bytes → ℕ → ℕ → List ℕ → List ℕ
class_among class first k [] = []
class_among class first k (q ∷ qs) = of_class class first k q ++ class_among class first k qs

-- no cell has an owner above `parts`
pub record OwnersFew (owners : Bytes) (cells parts : ℕ) : Type 0 where
  pub each : (q : ℕ) → q < cells → byte_at owners q ≤ parts

-- ---- what is supposed

-- local cell l is a cell, and the numbers of the cells in its reach are words
pub record ReachRow (table : Bytes) (ends : List ℕ) (first : ℕ) (order : List ℕ) (l : ℕ) : Type 0 where
  pub cell : first ≤ get_or order (l - 1) 0
  pub near : (t : ℕ) → get_or ends (place_at table ends first order l) 0 ≤ t → t < get_or ends (place_at table ends first order l + 1) 0 → first + word_at table (2 * t) < 65536

pub record ReachRows (table : Bytes) (ends : List ℕ) (first : ℕ) (order : List ℕ) (owned : ℕ) : Type 0 where
  pub each : (l : ℕ) → 1 ≤ l → l ≤ owned → ReachRow table ends first order l

-- what the lists of a part keep to, so that every one of their words is a word
pub record Fit (owners table : Bytes) (ends : List ℕ) (i first cells : ℕ) (order : List ℕ) (n owned : ℕ) : Type 0 where
  pub part : i < 65536
  pub part_few : i ≤ most_parts
  pub first_small : first < 65536
  pub cells_fit : first + cells ≤ 65536
  pub cells_few : cells ≤ most_elements
  pub order_few : n ≤ most_elements
  pub order_there : n ≤ length order
  pub owned_few : owned ≤ n
  pub got : got_ends owners table ends i first cells owned most_parts < 65536
  pub near : ReachRows table ends first order owned
  pub long : exports_word n owned (row_ends table ends first order owned) + sent_ends owners table ends i first cells most_parts < 65536

-- the local order by the tables, and how many cells are owned by it
unfoldable pub part_order : Bytes → Bytes → List ℕ → ℕ → ℕ → ℕ → ℕ → List ℕ
part_order owners table ends i first cells parts =
    part_cells owners table ends i first cells 17 ++ (part_cells owners table ends i first cells 18 ++ blocks 1 parts (part_cells owners table ends i first cells))

unfoldable pub part_owned : Bytes → Bytes → List ℕ → ℕ → ℕ → ℕ → ℕ
part_owned owners table ends i first cells = length (part_cells owners table ends i first cells 17) + length (part_cells owners table ends i first cells 18)

-- tables whose lists keep to that, in whatever array the order stands
pub record TablesFit (owners table : Bytes) (ends : List ℕ) (i first cells parts : ℕ) : Type 0 where
  pub cells_fit : first + cells ≤ 65536
  pub cells_few : cells ≤ most_elements
  pub parts_few : parts ≤ most_parts
  pub order_few : length (part_order owners table ends i first cells parts) ≤ most_elements
  pub fit : (order : List ℕ) (n : ℕ) → n ≤ length order → take n order ≡ part_order owners table ends i first cells parts
      → Fit owners table ends i first cells order n (part_owned owners table ends i first cells)

-- the plan of a part by the tables: its local order, how many cells it holds and owns, at which word its points begin if it exports `sent` cells, and how long its
-- lists are with so many points and cells at them
pub record Drawn (owners table : Bytes) (ends : List ℕ) (i first cells parts : ℕ) (order : List ℕ) (n owned sent points around at long : ℕ) : Type 0 where
  pub there : n ≤ length order
  pub order_is : take n order ≡ part_order owners table ends i first cells parts
  pub owned_is : owned ≡ part_owned owners table ends i first cells
  pub at_is : at ≡ exports_word n owned (row_ends table ends first order owned) + sent
  pub long_is : long ≡ at + 2 + 2 * points + around

-- the depth of local cell l in a field
unfoldable pub start_depth : Bytes → ℕ → List ℕ → ℕ → Bytes
start_depth f first order l = four f (4 * (get_or order (l - 1) 0 - first))

-- the held cells are cells of the field
pub record FieldCells (f : Bytes) (first : ℕ) (order : List ℕ) (n : ℕ) : Type 0 where
  pub each : (l : ℕ) → 1 ≤ l → l ≤ n → (first ≤ get_or order (l - 1) 0) × (4 * (get_or order (l - 1) 0 - first) + 4 ≤ length f)
