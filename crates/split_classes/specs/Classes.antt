-- How the code tells what a part makes of cells: by one byte a cell, its class, and one byte a cell that counts the parts which hold it. No
-- public contract rests on this page; the laws in proofs/ tie it to the definitions. Assumes nothing.
use Rattle.std.specs.Prelude.{◌≡◌, Bool, false, not, ◌&&◌, cond, List, [], ◌∷◌, ◌++◌, ℕ, ◌+◌, ◌-◌, ◌*◌, ◌≤◌, ◌<◌, eqb, ltb, length, get_or}
use Rattle.vocabulary.specs.Bytes.{Bytes, byte_at, over}
use Rattle.vocabulary.specs.Intervals.{every, some, blocks, total}
use Rattle.layout.specs.Words.{word_at}
use Rattle.layout.specs.Limits.{most_elements}
use Rattle.mesh.specs.Mesh.{top, first_cell, cell_count}
use Rattle.mesh.specs.Walks.{Near, reach, bad10}
use Rattle.mesh.specs.Accepted.{Accepted}
use Rattle.walk_reach_table.specs.Tables.{entry_count, EndTable}
use Rattle.split.specs.Split.{Split, split_of, owns, holds, inside, owner_at}
use Rattle.split.specs.Lists.{bad8}
use Rattle.split.specs.Owners.{owns_at}

-- what part i makes of cell c: 17 is interior, 18 halo, a part's number imported from that part, and 0 not held
unfoldable pub class_in : Split → ℕ → ℕ → ℕ
class_in S i c = cond (owns S i c) (cond (inside S i c) 17 18) (cond (holds S i c) (S.owner c) 0)

-- how many parts hold cell c
unfoldable pub holder_count : Split → ℕ → ℕ
holder_count S c = total 1 S.parts (λ j. cond (holds S j c) 1 0)

-- ---- by the owners and the table of the reaches

-- the cell of entry t of the table belongs to part i
unfoldable pub entry_owned : Bytes → Bytes → ℕ → ℕ → Bool
entry_owned owners table i t = owns_at owners i (word_at table (2 * t))

-- all in the reach of the cell at place q do
unfoldable pub inside_at : Bytes → Bytes → List ℕ → ℕ → ℕ → Bool
inside_at owners table ends i q = every (get_or ends q 0) (get_or ends (q + 1) 0 - get_or ends q 0) (entry_owned owners table i)

-- one of n entries from a on is the cell at place x; one of the reach of the cell at place q is
unfoldable pub has_entry : Bytes → ℕ → ℕ → ℕ → Bool
has_entry table a n x = some a n (λ t. eqb (word_at table (2 * t)) x)

unfoldable pub reach_has : Bytes → List ℕ → ℕ → ℕ → Bool
reach_has table ends q x = has_entry table (get_or ends q 0) (get_or ends (q + 1) 0 - get_or ends q 0) x

-- entry t is
unfoldable pub entry_is : Bytes → ℕ → ℕ → Bool
entry_is table t x = eqb (word_at table (2 * t)) x

-- one of the first n cells belongs to part i and reaches the cell at place x
unfoldable pub reached_at : Bytes → Bytes → List ℕ → ℕ → ℕ → ℕ → Bool
reached_at owners table ends i n x = some 0 n (λ q. owns_at owners i q && reach_has table ends q x)

-- the class of the cell at place x, as far as the first n cells tell it
unfoldable pub class_at : Bytes → Bytes → List ℕ → ℕ → ℕ → ℕ → ℕ
class_at owners table ends i n x =
    cond (owns_at owners i x) (cond (ltb x n) (cond (inside_at owners table ends i x) 17 18) 0) (cond (reached_at owners table ends i n x) (owner_at owners x) 0)

-- the classes of all places, as far as the first n cells tell them
pub record Classed (owners table : Bytes) (ends : List ℕ) (i n : ℕ) (class : Bytes) : Type 0 where
  pub room : length class ≡ most_elements
  pub each : (x : ℕ) → x < most_elements → byte_at class x ≡ class_at owners table ends i n x

-- the first n places are cleared
pub record RowCleared (n : ℕ) (class : Bytes) : Type 0 where
  pub room : length class ≡ most_elements
  pub each : (x : ℕ) → x < n → byte_at class x ≡ 0

-- the places that pass bear their owner's number afterwards, unless part i owns them
pub record OwnersMarked (owners : Bytes) (i : ℕ) (before after : Bytes) (p : ℕ → Bool) : Type 0 where
  pub size : length after ≡ length before
  pub each : (x : ℕ) → x < length before → byte_at after x ≡ cond (p x && not (owns_at owners i x)) (owner_at owners x) (byte_at before x)

-- ---- how many parts hold a cell

-- 1 where a row says that its part holds the cell at place q
unfoldable pub held_one : Bytes → ℕ → ℕ
held_one class q = cond (eqb (byte_at class q) 0) 0 1

-- the places that pass bear the stamp k afterwards, and those of them that did not bear it before are counted once more
pub record Raised (k : ℕ) (stamps holders stamped raised : Bytes) (p : ℕ → Bool) : Type 0 where
  pub stamp_room : length stamped ≡ most_elements
  pub count_room : length raised ≡ most_elements
  pub stamp : (x : ℕ) → x < most_elements → byte_at stamped x ≡ cond (p x) k (byte_at stamps x)
  pub count : (x : ℕ) → x < most_elements → byte_at raised x ≡ byte_at holders x + cond (p x && not (eqb (byte_at stamps x) k)) 1 0

-- no byte of a row is above n
pub record Few (n : ℕ) (row : Bytes) : Type 0 where
  pub room : length row ≡ most_elements
  pub each : (x : ℕ) → byte_at row x ≤ n

-- the sum of the first n bytes of a row
unfoldable pub row_sum : Bytes → ℕ → ℕ
row_sum row n = total 0 n (byte_at row)

-- 1 where part j holds the cell at place q, by the tables; how many of `cells` cells it holds
unfoldable pub held_by : Bytes → Bytes → List ℕ → ℕ → ℕ → ℕ → ℕ
held_by owners table ends cells q j = cond (reached_at owners table ends j cells q) 1 0

unfoldable pub part_held : Bytes → Bytes → List ℕ → ℕ → ℕ → ℕ
part_held owners table ends cells j = total 0 cells (λ q. held_by owners table ends cells q j)

-- the first n parts are counted at each cell
pub record Counted (owners table : Bytes) (ends : List ℕ) (cells n : ℕ) (holders : Bytes) : Type 0 where
  pub few : Few n holders
  pub each : (q : ℕ) → q < cells → byte_at holders q ≡ total 1 n (held_by owners table ends cells q)

-- and s is what they hold together
pub record Holders (owners table : Bytes) (ends : List ℕ) (cells n : ℕ) (holders : Bytes) (s : ℕ) : Type 0 where
  pub counted : Counted owners table ends cells n holders
  pub sum : s ≡ total 1 n (part_held owners table ends cells)

-- an accepted mesh, map and stencil, with the table of the reaches, its ends, and how many parts hold each cell
pub record Prepared (m : Bytes) (parts : ℕ) (owners st table : Bytes) (ends : List ℕ) (holders : Bytes) : Type 0 where
  pub mesh : Accepted m
  pub map : bad8 m parts owners [] ≡ false
  pub stencil : bad10 (top m) st ≡ false
  pub ended : EndTable m st ends (cell_count m)
  pub entries : (q t : ℕ) (d : Near) → q < cell_count m → t < length (reach m st (first_cell m + q))
      → (word_at table (2 * (entry_count m st q + t)) ≡ (get_or (reach m st (first_cell m + q)) t d).cell - first_cell m)
      × (word_at table (2 * (entry_count m st q + t) + 1) ≡ (get_or (reach m st (first_cell m + q)) t d).layer)
  pub classes : (i q : ℕ) → q < cell_count m → class_at owners table ends i (cell_count m) q ≡ class_in (split_of m parts owners st) i (first_cell m + q)
  pub held : (q : ℕ) → q < cell_count m → byte_at holders q ≡ holder_count (split_of m parts owners st) (first_cell m + q)

-- ---- lists by class

-- the number of place q, counted from `first`, if the row has the class k there
unfoldable pub of_class : Bytes → ℕ → ℕ → ℕ → List ℕ
of_class class first k q = cond (eqb (byte_at class q) k) ((first + q) ∷ []) []

-- the numbers of class k
unfoldable pub class_cells : Bytes → ℕ → ℕ → ℕ → List ℕ
class_cells class first cells k = blocks 0 cells (of_class class first k)

-- how many there are
unfoldable pub place_count : Bytes → ℕ → ℕ → ℕ
place_count class k q = cond (eqb (byte_at class q) k) 1 0

unfoldable pub class_count : Bytes → ℕ → ℕ → ℕ
class_count class cells k = total 0 cells (place_count class k)

-- the same for part j, by the tables
unfoldable pub part_cells : Bytes → Bytes → List ℕ → ℕ → ℕ → ℕ → ℕ → List ℕ
part_cells owners table ends j first cells k = blocks 0 cells (λ q. cond (eqb (class_at owners table ends j cells q) k) ((first + q) ∷ []) [])

-- the local order: interior, halo, and the imports by their owners
unfoldable pub class_order : Bytes → ℕ → ℕ → ℕ → List ℕ
class_order class first cells parts = class_cells class first cells 17 ++ (class_cells class first cells 18 ++ blocks 1 parts (class_cells class first cells))

-- a list to which the numbers ws were added after the first s, which makes t of them; nothing is said of the list where they do not fit
pub record Appended (before after : List ℕ) (s t : ℕ) (ws : List ℕ) : Type 0 where
  pub size : length after ≡ length before
  pub count : t ≡ s + length ws
  pub text : t ≤ length before → after ≡ over before s ws
