-- How the code turns the chains of the cells round, so that from an element it finds its cells. No public contract rests on this page; the laws
-- in proofs/ tie it to the definitions. Assumes nothing.
--
-- Each element of a cell's chain is an entry, numbered from 1: the cell, and the entry before it that has the same element.
use Rattle.std.specs.Prelude.{◌≡◌, Bool, true, false, ◌&&◌, cond, List, [], ◌∷◌, ℕ, zero, suc, ◌+◌, ◌≤◌, eqb, leb, ltb, length, get_or, set}
use Rattle.vocabulary.specs.Bytes.{Bytes}
use Rattle.vocabulary.specs.Lists.{is_in}
use Rattle.layout.specs.Limits.{element_places, most_elements, record_places}
use Rattle.mesh.specs.Accepted.{Accepted}
use Rattle.mesh.specs.Mesh.{first_cell, cell_count, chain}
use Rattle.walk_incidence.specs.declared.inner.Incidence.{Incidence}
use Rattle.walk_incidence.specs.declared.inner.IncidenceRef.{IncidenceRef}

-- the count of entries, the cell of each, the entry before each, and the last entry of each element
pub data Links : Type 0 where
  links : ℕ → List ℕ → List ℕ → List ℕ → Links

-- one entry more: element g in the chain of cell c
unfoldable pub link : ℕ → ℕ → Links → Links
link c g (links t cell prev last) = links (t + 1) (set cell (t + 1) c) (set prev (t + 1) (get_or last g 0)) (set last g (t + 1))

unfoldable pub link_all : ℕ → Links → List ℕ → Links
link_all c L [] = L
link_all c L (g ∷ gs) = link_all c (link c g L) gs

-- the chains of n cells from `first` on
unfoldable pub link_cells : Bytes → ℕ → ℕ → Links → Links
link_cells m first zero L = L
link_cells m first (suc n) L = link_all (first + n) (link_cells m first n L) (chain m (first + n))

-- the cells from entry s on, at most n of them
unfoldable pub trail : List ℕ → List ℕ → ℕ → ℕ → List ℕ
trail cell prev zero s = []
trail cell prev (suc n) s = elim (eqb s 0) [ true ↦ [] | false ↦ get_or cell s 0 ∷ trail cell prev n (get_or prev s 0) ]

-- lists of any length
abbrev pub lists : List ℕ → List ℕ → List ℕ → Incidence
lists cell prev last = record { cell = cell; prev = prev; last = last }

-- the lists that are read, as they stand
abbrev pub seen : IncidenceRef → Incidence
seen r = lists r.cell.now r.prev.now r.last.now

-- the cells at element e
abbrev pub cells_on : Incidence → ℕ → List ℕ
cells_on w e = trail w.cell w.prev record_places (get_or w.last e 0)

-- of the n numbers from a on, those that pass, falling: the order in which a trail has its cells
unfoldable pub picked_down : ℕ → ℕ → (ℕ → Bool) → List ℕ
picked_down a zero p = []
picked_down a (suc n) p = cond (p (a + n)) ((a + n) ∷ picked_down a n p) (picked_down a n p)

-- the cells at element x, of the n cells from `first` on, falling
unfoldable pub cells_with : Bytes → ℕ → ℕ → ℕ → List ℕ
cells_with m first n x = picked_down first n (λ c. is_in x (chain m c))

-- y is a cell
unfoldable pub is_cell_number : Bytes → ℕ → Bool
is_cell_number m y = leb (first_cell m) y && ltb y (first_cell m + cell_count m)

-- the chains of an accepted mesh turned round, in lists of any length: an element's trail has just the cells in whose chains it stands
pub record Inverted (m : Bytes) (w : Incidence) : Type 0 where
  pub mesh : Accepted m
  pub told : (x y : ℕ) → x ≤ most_elements → is_in y (cells_on w x) ≡ is_cell_number m y && is_in x (chain m y)
  pub trail_is : (x : ℕ) → x ≤ most_elements → cells_on w x ≡ cells_with m (first_cell m) (cell_count m) x

-- the arrays have their whole length
pub record Roomed (w : Incidence) : Type 0 where
  pub cell_room : length w.cell ≡ record_places
  pub prev_room : length w.prev ≡ record_places
  pub last_room : length w.last ≡ element_places

-- the chains of an accepted mesh turned round, in arrays of their whole length
pub record Turned (m : Bytes) (w : Incidence) : Type 0 where
  pub roomed : Roomed w
  pub inverted : Inverted m w
