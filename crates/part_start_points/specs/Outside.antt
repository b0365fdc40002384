-- How start tells whether a cell at a point of an owned cell is outside that cell's reach: it stamps the reach of one owned cell after another. No public
-- contract rests on this page; the laws in proofs/ tie it to the definition. Assumes nothing.
use Rattle.std.specs.Prelude.{Bool, not, ◌&&◌, List, map, ℕ, ◌-◌, leb, ltb}
use Rattle.vocabulary.specs.Bytes.{Bytes}
use Rattle.vocabulary.specs.Lists.{some_of}
use Rattle.vocabulary.specs.Intervals.{some}
use Rattle.layout.specs.Limits.{most_elements}
use Rattle.mesh.specs.Mesh.{element_in, follow, chain}
use Rattle.walk_incidence.specs.declared.inner.Incidence.{Incidence}
use Rattle.split.specs.Owners.{owns_at}
use Rattle.split_classes.specs.Classes.{reach_has}
use Rattle.part_start_points.specs.Points.{some_at, cells_on}

-- element g is a point, of which there are n, and one of the cells at it bears no stamp
unfoldable pub unstamped_at : Incidence → Bytes → ℕ → ℕ → ℕ → Bool
unstamped_at inc stamps first n g = leb g n && some_at stamps first 0 (cells_on inc g)

-- there is such an element in the chain from record i on, of at most k records
unfoldable pub chain_unstamped : Bytes → Incidence → Bytes → ℕ → ℕ → ℕ → ℕ → Bool
chain_unstamped m inc stamps first n k i = some_of (map (element_in m) (follow m k i)) (unstamped_at inc stamps first n)

-- the cell at place x bears a stamp: it is in the reach of the cell at place q
unfoldable pub stamped_at : Bytes → List ℕ → ℕ → ℕ → Bool
stamped_at table ends q x = ltb x most_elements && reach_has table ends q x

-- element g is a point, and one of the cells at it is outside the reach of the cell at place q
unfoldable pub outside_at : Incidence → Bytes → List ℕ → ℕ → ℕ → ℕ → ℕ → Bool
outside_at inc table ends first n q g = leb g n && some_of (cells_on inc g) (λ y. not (stamped_at table ends q (y - first)))

-- part i owns cell c, and there is such a point in its chain
unfoldable pub cell_outside : Bytes → Incidence → Bytes → Bytes → List ℕ → ℕ → ℕ → ℕ → ℕ → Bool
cell_outside m inc owners table ends first n i c = owns_at owners i (c - first) && some_of (chain m c) (outside_at inc table ends first n (c - first))

-- there is such a cell
unfoldable pub some_outside : Bytes → Incidence → Bytes → Bytes → List ℕ → ℕ → ℕ → ℕ → ℕ → Bool
some_outside m inc owners table ends first n i cells = some first cells (cell_outside m inc owners table ends first n i)
