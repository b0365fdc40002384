-- Incidence, stencils, walks, layers and reaches, and the refusals 10 and 13. Assumes nothing.
use Rattle.std.specs.Prelude.{Bool, not, ◌||◌, cond, List, [], ◌∷◌, map, ℕ, zero, suc, ◌+◌, ◌-◌, ◌%◌, eqb, ltb, length, get_or}
use Rattle.vocabulary.specs.Intervals.{picked, every, total}
use Rattle.vocabulary.specs.Lists.{is_in, some_of}
use Rattle.vocabulary.specs.Bytes.{Bytes, byte_at}
use Rattle.layout.specs.Limits.{most_reached, stencil_bytes}
use Rattle.mesh.specs.Mesh.{counted, below, first_cell, cell_count, chain}

module _ (m : Bytes) where
  -- "Two elements are incident if one is in the other's chain." Standard term: incidence.
  unfoldable pub incident : ℕ → ℕ → Bool
  incident e f = is_in e (chain m f) || is_in f (chain m e)

  -- the cells incident to an element, rising. Standard term: inverse incidence (in DMPlex the cells of the star).
  unfoldable pub cells_at : ℕ → List ℕ
  cells_at e = picked (first_cell m) (cell_count m) (incident e)

-- ---- stencils

-- n, where the stencil is a0, .., an. Standard term: number of hops.
unfoldable pub steps : Bytes → ℕ
steps stencil = length stencil - 1

-- place k is valid: d at every even place and less than d at every odd place
unfoldable pub valid_at : ℕ → Bytes → ℕ → Bool
valid_at d stencil k = cond (eqb (k % 2) 0) (eqb (byte_at stencil k) d) (ltb (byte_at stencil k) d)

-- "A stencil is bytes a0, .., an, with n even, n at most 8, d at every even place and less than d at every odd place." What is
-- no such stencil, for cells of dimension d, is 10. A stencil's standard term: adjacency pattern (cell–element–cell).
unfoldable pub bad10 : ℕ → Bytes → Bool
bad10 d stencil =
    not (eqb (length stencil % 2) 1)
    || ltb stencil_bytes (length stencil)
    || not (every 0 (length stencil) (valid_at d stencil))

-- ---- walks

-- a cell of a reach, with its layer
pub record Near : Type 0 where
  pub cell : ℕ
  pub layer : ℕ

-- the elements of dimension a that are incident to one of es, rising
unfoldable pub step_to : Bytes → ℕ → List ℕ → List ℕ
step_to m a es = picked (below m a + 1) (counted m a) (λ x. some_of es (λ e. incident m e x))

module _ (m stencil : Bytes) where
  -- where the walks of k steps from cell c end, rising. "A walk of k steps goes from a cell through incident elements of dimensions a1, ..,
  -- ak; a walk of k steps is a walk of k−1 steps and one step more. It may return to an element it has visited": nothing is removed.
  -- Standard term: ends of the paths in the incidence graph.
  unfoldable pub walked : ℕ → ℕ → List ℕ
  walked c zero = c ∷ []
  walked c (suc k) = step_to m (byte_at stencil (suc k)) (walked c k)

  -- the numbers of steps, from 0 to n, by which cell x is walked to from cell c, rising
  unfoldable pub steps_to : ℕ → ℕ → List ℕ
  steps_to c x = picked 0 (steps stencil + 1) (λ k. is_in x (walked c k))

  -- "The layer of a cell is the least k by which it is walked to."
  unfoldable pub layer : ℕ → ℕ → ℕ
  layer c x = get_or (steps_to c x) 0 0

  -- "The reach of a cell is every cell walked to for some k from 0 to n", rising. Standard term: neighbourhood.
  unfoldable pub reach : ℕ → List Near
  reach c =
      map (λ x. record { cell = x; layer = layer c x })
      (picked (first_cell m) (cell_count m) (λ x. ltb 0 (length (steps_to c x))))

  -- "Sizes of all cells' reaches together above 8,000."
  unfoldable pub bad13 : Bool
  bad13 = ltb most_reached (total (first_cell m) (cell_count m) (λ c. length (reach c)))
