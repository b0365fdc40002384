-- The cells two steps from each cell, listed once, and the walks of a stencil through one dimension, which go by these lists. No public contract rests on
-- this page. Assumes nothing.
use Rattle.std.specs.Prelude.{◌≡◌, Bool, true, false, not, ◌&&◌, List, [], ◌∷◌, ℕ, ◌+◌, ◌-◌, ◌*◌, ◌%◌, ◌≤◌, ◌<◌, eqb, length, get_or, take, Option, None, Some}
use Rattle.vocabulary.specs.Bytes.{Bytes, byte_at}
use Rattle.vocabulary.specs.Intervals.{some}
use Rattle.vocabulary.specs.Lists.{is_in, repeats, All, Zeros}
use Rattle.layout.specs.Limits.{element_places, most_elements}
use Rattle.mesh.specs.Meet.{Under}
use Rattle.mesh.specs.Mesh.{top, first_cell, cell_count}
use Rattle.mesh.specs.Walks.{bad10, step_to}
use Rattle.mesh.specs.Accepted.{Accepted, Cell}
use Rattle.walk_frontier.specs.Visits.{Grown}
use Rattle.walk_steps.specs.declared.steps.Space.{Space}
use Rattle.walk_steps.specs.Walking.{through_one, walked_from, layer_mark, Noted}

-- the cells two steps from cell c: down to dimension a, and up
unfoldable pub near_to : Bytes → ℕ → ℕ → List ℕ
near_to m a c = step_to m (top m) (step_to m a (c ∷ []))

-- ---- the rows

-- z is the number y, and not 0
unfoldable pub names : ℕ → ℕ → Bool
names y z = not (eqb y 0) && eqb y z

-- z stands in a list from place lo on and before hi
unfoldable pub in_row : List ℕ → ℕ → ℕ → ℕ → Bool
in_row near lo hi z = some lo (hi - lo) (λ t. names (get_or near t 0) z)

-- what stands there are the cells two steps from c, and then zeros; c itself need not be among them
pub record NearRow (m : Bytes) (a c : ℕ) (near : List ℕ) (lo hi : ℕ) : Type 0 where
  pub rising : lo ≤ hi
  pub each : (t : ℕ) → lo ≤ t → t < hi → (get_or near t 0 ≡ 0 → ⊥) → Cell m (get_or near t 0)
  pub told : (z : ℕ) → (z ≡ c → ⊥) → in_row near lo hi z ≡ is_in z (near_to m a c)
  pub closed : (t u : ℕ) → lo ≤ t → t ≤ u → u < hi → get_or near t 0 ≡ 0 → get_or near u 0 ≡ 0

-- the rows of the first n cells, one after another, each w places wide
pub record NearRows (m : Bytes) (a : ℕ) (near : List ℕ) (w n : ℕ) : Type 0 where
  pub each : (q : ℕ) → q < n → NearRow m a (first_cell m + q) near (q * w) (q * w + w)

-- and nothing after them
pub record Filled (m : Bytes) (a : ℕ) (near : List ℕ) (w n : ℕ) : Type 0 where
  pub rows : NearRows m a near w n
  pub bare : (i : ℕ) → n * w ≤ i → get_or near i 0 ≡ 0

-- ---- a walk by these lists

-- an accepted mesh and a stencil through one dimension, with the rows of all cells
pub record NearGround (m st : Bytes) (near : List ℕ) (w : ℕ) : Type 0 where
  pub mesh : Accepted m
  pub stencil : bad10 (top m) st ≡ false
  pub one : through_one st ≡ true
  pub rows : NearRows m (byte_at st 1) near w (cell_count m)
  pub room : cell_count m * w ≤ element_places

-- the first n numbers of `found` are the cells that have a layer, each once
pub record LayerList (layers found : List ℕ) (n : ℕ) : Type 0 where
  pub size : length layers ≡ element_places
  pub room : length found ≡ element_places
  pub marked : (y : ℕ) → not (eqb (get_or layers y 0) 0) ≡ is_in y (take n found)
  pub once : repeats (take n found) ≡ false
  pub in_range : All (λ y. (1 ≤ y) × (y ≤ most_elements)) (take n found)
  pub count : length (take n found) ≡ n
  pub few : n ≤ most_elements

-- those that pass got the layer k unless they had one, and were listed after the first n, which makes s of them
pub record Spread (k : ℕ) (layers found : List ℕ) (n : ℕ) (layers' found' : List ℕ) (s : ℕ) (p : ℕ → Bool) : Type 0 where
  pub notes : Noted k layers layers' p
  pub listed : LayerList layers' found' s
  pub grown : Grown found n found' s

-- what stands in a row can be listed
pub record RowFits (near : List ℕ) (lo hi : ℕ) : Type 0 where
  pub rising : lo ≤ hi
  pub each : (t : ℕ) → lo ≤ t → t < hi → get_or near t 0 ≤ most_elements
  pub closed : (t u : ℕ) → lo ≤ t → t ≤ u → u < hi → get_or near t 0 ≡ 0 → get_or near u 0 ≡ 0

-- z stands in the row of cell x, or in the row of one of the numbers of `found` from place old on and before n
unfoldable pub from_cell : List ℕ → ℕ → ℕ → ℕ → ℕ → Bool
from_cell near w first x z = in_row near ((x - first) * w) ((x - first) * w + w) z

unfoldable pub from_level : List ℕ → ℕ → ℕ → List ℕ → ℕ → ℕ → ℕ → Bool
from_level near w first found old n z = some old (n - old) (λ i. from_cell near w first (get_or found i 0) z)

-- those numbers are cells, and their rows fit
pub record LevelFits (near : List ℕ) (w first : ℕ) (found : List ℕ) (old n : ℕ) : Type 0 where
  pub rising : old ≤ n
  pub cells : (i : ℕ) → old ≤ i → i < n → first ≤ get_or found i 0
  pub room : (i : ℕ) → old ≤ i → i < n → (get_or found i 0 - first) * w + w ≤ element_places
  pub rows : (i : ℕ) → old ≤ i → i < n → RowFits near ((get_or found i 0 - first) * w) ((get_or found i 0 - first) * w + w)

-- x was walked to from cell c by some even number of steps, and two more make at most k
pub record Past (m st : Bytes) (c k x : ℕ) : Type 0 where
  pub steps : ℕ
  pub few : steps + 2 ≤ k
  pub even : steps % 2 ≡ 0
  pub ends : is_in x (walked_from m st (c ∷ []) steps) ≡ true

-- after k steps from cell c the cells walked to have their layers and are listed; those before place old were met by fewer steps
pub record Level (m st : Bytes) (c k : ℕ) (layers found : List ℕ) (old met : ℕ) : Type 0 where
  pub listed : LayerList layers found met
  pub layered : (z : ℕ) → get_or layers z 0 ≡ layer_mark m st (c ∷ []) k z
  pub rising : old ≤ met
  pub past : (x : ℕ) → is_in x (take old found) ≡ true → Past m st c k x

-- the layers of the cells walked to by at most k steps
pub record Layered (m st : Bytes) (cs : List ℕ) (k : ℕ) (layers : List ℕ) : Type 0 where
  pub size : length layers ≡ element_places
  pub each : (z : ℕ) → get_or layers z 0 ≡ layer_mark m st cs k z

-- a row without its first number stands in a list from a place on, and all else is as it was
pub record RowPut (near : List ℕ) (at : ℕ) (row near' : List ℕ) : Type 0 where
  pub here : (j : ℕ) → j < length row - 1 → get_or near' (at + j) 0 ≡ get_or row (1 + j) 0
  pub before : (j : ℕ) → j < at → get_or near' j 0 ≡ get_or near j 0
  pub after : (j : ℕ) → at + (length row - 1) ≤ j → get_or near' j 0 ≡ get_or near j 0

-- ready for the walks from all cells: either the rows are listed in `layers`, each w places wide, and `from` is free for the layers, or `layers` is
pub record WalksReady (m st : Bytes) (width : Option ℕ) (v : ℕ) (s : Space) : Type 0 where
  pub marks_low : Under v s.marks
  pub rows : (w : ℕ) → width ≡ Some w → NearGround m st s.layers w × Zeros element_places s.from
  pub steps : width ≡ None → Zeros element_places s.layers
