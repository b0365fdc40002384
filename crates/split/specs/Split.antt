-- Part maps, and what each part owns, holds, imports and exports, its local numbers, its ranges and its points, and the refusal 29. Assumes nothing.
use Rattle.std.specs.Prelude.{Bool, not, ◌&&◌, cond, List, [], ◌++◌, ℕ, ◌+◌, ◌-◌, eqb, ltb, length, get_or}
use Rattle.vocabulary.specs.Intervals.{picked, some, blocks, total}
use Rattle.vocabulary.specs.Lists.{is_in, place_of, some_of, every_of}
use Rattle.vocabulary.specs.Bytes.{Bytes, byte_at}
use Rattle.mesh.specs.Mesh.{top, counted, below, first_cell, cell_count}
use Rattle.mesh.specs.Walks.{Near, reach, cells_at}

-- what a mesh, a part map and a stencil come to, as far as the lists of the parts go by them: points from 1 on; cells from `first` on, the reach and the owner
-- of each cell; the cells incident to an element; and P
pub record Split : Type 0 where
  pub points : ℕ
  pub first : ℕ
  pub cells : ℕ
  pub reach : ℕ → List Near
  pub around : ℕ → List ℕ
  pub owner : ℕ → ℕ
  pub parts : ℕ

-- the owner of the cell of index k, from 0, in a part map. A part map's standard term: partition.
abbrev pub owner_at : Bytes → ℕ → ℕ
owner_at owners k = byte_at owners k

-- "A part map gives P from 1 to 16, and one byte a cell in rising number: its owner, from 1 to P."
unfoldable pub split_of : Bytes → ℕ → Bytes → Bytes → Split
split_of m parts owners stencil =
    record {
      points = counted m 0;
      first = first_cell m;
      cells = cell_count m;
      reach = reach m stencil;
      around = cells_at m;
      owner = λ c. owner_at owners (c - first_cell m);
      parts = parts;
    }

module _ (S : Split) where
  unfoldable pub owns : ℕ → ℕ → Bool
  owns i c = eqb (S.owner c) i

  -- the cells that part i owns, rising. Standard term: owned cells.
  unfoldable pub owned : ℕ → List ℕ
  owned i = picked S.first S.cells (owns i)

  -- x is in the reach of c
  unfoldable pub reaches : ℕ → ℕ → Bool
  reaches c x = some_of (S.reach c) (λ e. eqb e.cell x)

  -- "Part i holds its owned cells and all in their reach." A cell is in its own reach.
  unfoldable pub holds : ℕ → ℕ → Bool
  holds i x = some_of (owned i) (λ c. reaches c x)

  -- the cells that part i holds, rising. Standard term: local cells, owned and ghost.
  unfoldable pub held : ℕ → List ℕ
  held i = picked S.first S.cells (holds i)

  -- "It imports from j the held cells that j owns; j exports the same list to i. Both lists rise by global number."
  -- Standard term: ghost cells (OP2's halo), the receive list.
  unfoldable pub imports : ℕ → ℕ → List ℕ
  imports i j = picked S.first S.cells (λ c. not (eqb i j) && owns j c && holds i c)

  -- Standard term: send list.
  unfoldable pub exports : ℕ → ℕ → List ℕ
  exports j i = imports i j

  -- only cells of part i are in the reach of c
  unfoldable pub inside : ℕ → ℕ → Bool
  inside i c = every_of (S.reach c) (λ e. owns i e.cell)

  -- "owned cells with only owned cells in their reach (interior), then the other owned cells (halo)". Standard term of interior: core.
  unfoldable pub interior : ℕ → List ℕ
  interior i = picked S.first S.cells (λ c. owns i c && inside i c)

  -- Standard term: border (boundary) cells, NOT ghost cells: those are the imports.
  unfoldable pub halo : ℕ → List ℕ
  halo i = picked S.first S.cells (λ c. owns i c && not (inside i c))

  -- "Local cell numbers run from 1": interior, "then the other owned cells (halo), then imports by owner and number". The global numbers in
  -- local order. Standard term: local-to-global map.
  unfoldable pub locals : ℕ → List ℕ
  locals i = interior i ++ (halo i ++ blocks 1 S.parts (imports i))

-- the local number of a global one in a part's local order, and back. Standard term: local index.
unfoldable pub local_of : List ℕ → ℕ → ℕ
local_of order c = place_of c order + 1

-- Standard term: global index.
unfoldable pub global_of : List ℕ → ℕ → ℕ
global_of order l = get_or order (l - 1) 0

-- ---- lower elements

module _ (S : Split) where
  -- "A part also holds every lower element incident to a held cell." Standard term: local entity.
  unfoldable pub holds_lower : ℕ → ℕ → Bool
  holds_lower i e = some_of (S.around e) (holds S i)

  -- "Such an element touches the parts that own a cell incident to it." Standard term: adjacent subdomains of an entity.
  unfoldable pub touches : ℕ → ℕ → Bool
  touches e i = some_of (S.around e) (owns S i)

  -- some part but i passes
  unfoldable pub another : ℕ → (ℕ → Bool) → Bool
  another i p = some 1 S.parts (λ j. not (eqb i j) && p j)

  -- "For part i it is copied if it doesn't touch i; shared if it touches i and another; otherwise exposed if another part holds it, and
  -- private if none does." Standard term of copied: ghost entity.
  unfoldable pub is_copied : ℕ → ℕ → Bool
  is_copied i e = holds_lower i e && not (touches e i)

  -- Standard term: interface entity.
  unfoldable pub is_shared : ℕ → ℕ → Bool
  is_shared i e = touches e i && another i (touches e)

  -- Standard term: exported entity (owned, and in another part's halo in OP2's sense).
  unfoldable pub is_exposed : ℕ → ℕ → Bool
  is_exposed i e = touches e i && not (another i (touches e)) && another i (λ j. holds_lower j e)

  -- Standard term: purely local entity.
  unfoldable pub is_private : ℕ → ℕ → Bool
  is_private i e = touches e i && not (another i (touches e)) && not (another i (λ j. holds_lower j e))

-- the lower elements of dimension k that pass; there are none from dimension d on. "Each range rises by global number." Standard term: index set.
unfoldable pub range : Bytes → ℕ → (ℕ → Bool) → List ℕ
range m k p = cond (ltb k (top m)) (picked (below m k + 1) (counted m k) p) []

-- ---- points: the depths that a part gives at them (F-1)

module _ (S : Split) where
  -- "each point that touches its owned cells, in rising number". Standard term: vertices of the owned cells.
  unfoldable pub points_of : ℕ → List ℕ
  points_of i = picked 1 S.points (λ p. touches S p i)

  -- the points of cell c
  unfoldable pub cell_points : ℕ → List ℕ
  cell_points c = picked 1 S.points (λ p. is_in c (S.around p))

  -- 29: "if a cell incident to a point of an owned cell is outside that cell's reach"
  unfoldable pub bad29 : ℕ → Bool
  bad29 i = some_of (owned S i) (λ c. some_of (cell_points c) (λ p. some_of (S.around p) (λ x. not (reaches S c x))))

-- how many points touch part i, and the cells at the k-th of them, from k = 1 on
abbrev pub points_in : Split → ℕ → ℕ
points_in S i = length (points_of S i)

abbrev pub around_of : Split → ℕ → ℕ → List ℕ
around_of S i k = S.around (get_or (points_of S i) (k - 1) 0)

-- how many cells stand at the points up to the k-th
unfoldable pub point_ends : Split → ℕ → ℕ → ℕ
point_ends S i k = total 1 k (λ j. length (around_of S i j))
