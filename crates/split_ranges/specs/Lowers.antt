-- How the code tells what a part makes of lower elements: from the classes of the cells and how many parts hold each. No public contract rests
-- on this page; the laws in proofs/ tie it to the definitions. Assumes nothing.
use Rattle.std.specs.Prelude.{◌≡◌, Bool, not, cond, List, [], ℕ, ◌+◌, ◌-◌, ◌<◌, eqb, leb, ltb, length}
use Rattle.vocabulary.specs.Bytes.{Bytes, byte_at}
use Rattle.vocabulary.specs.Lists.{some_of}
use Rattle.layout.specs.Limits.{most_elements}
use Rattle.mesh.specs.Mesh.{top, counted, below, first_cell}
use Rattle.mesh.specs.Walks.{cells_at}
use Rattle.walk_incidence.specs.declared.inner.Incidence.{Incidence}
use Rattle.walk_incidence.specs.Links.{cells_on}
use Rattle.split.specs.Split.{range}
use Rattle.split_classes.specs.Classes.{held_one, class_cells}
use Rattle.split_ranges.specs.declared.inner.Side.{Side}
use Rattle.split_ranges.specs.declared.inner.Side.TheVariants.{Mine, Anothers, Held, HeldByAnother}

-- the four things that a part asks of the cells at an element, for the cell at place q
unfoldable pub side_at : Side → Bytes → Bytes → ℕ → Bool
side_at Mine class holders q = leb 17 (byte_at class q)
side_at Anothers class holders q = ltb (byte_at class q) 17
side_at Held class holders q = not (eqb (byte_at class q) 0)
side_at HeldByAnother class holders q = ltb (held_one class q) (byte_at holders q)

-- one of some cells passes
unfoldable pub some_side : List ℕ → ℕ → Side → Bytes → Bytes → Bool
some_side cells first side class holders = some_of cells (λ y. side_at side class holders (y - first))

-- what the part makes of an element at these cells: 1 is private, 2 exposed, 3 shared, 4 copied, and 0 not held
unfoldable pub lower_class : List ℕ → ℕ → Bytes → Bytes → ℕ
lower_class cells first class holders =
    cond (some_side cells first Mine class holders)
    (cond (some_side cells first Anothers class holders) 3 (cond (some_side cells first HeldByAnother class holders) 2 1))
    (cond (some_side cells first Held class holders) 4 0)

-- by the cells on an element's trail, or by those incident to it
unfoldable pub trail_class : Incidence → ℕ → Bytes → Bytes → ℕ → ℕ
trail_class w first class holders e = lower_class (cells_on w e) first class holders

unfoldable pub element_class : Bytes → Bytes → Bytes → ℕ → ℕ
element_class m class holders e = lower_class (cells_at m e) (first_cell m) class holders

-- the elements of dimension k have their classes in a row, where they are lower elements
pub record Lowered (m class holders : Bytes) (k : ℕ) (lower : Bytes) : Type 0 where
  pub room : length lower ≡ most_elements
  pub each : (q : ℕ) → k < top m → q < counted m k → byte_at lower q ≡ element_class m class holders (below m k + 1 + q)

-- those of a class, by the cells incident to each, or by their row
unfoldable pub range_of : Bytes → Bytes → Bytes → ℕ → ℕ → List ℕ
range_of m class holders k wanted = range m k (λ e. eqb (element_class m class holders e) wanted)

unfoldable pub row_range : Bytes → ℕ → Bytes → ℕ → List ℕ
row_range m k lower wanted = cond (ltb k (top m)) (class_cells lower (below m k + 1) (counted m k) wanted) []
