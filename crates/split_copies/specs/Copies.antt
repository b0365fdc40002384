-- What a part copies, told by walks as lists of elements, and the statement that the lists of an accepted split are so. Assumes nothing.
use Rattle.std.specs.Prelude.{◌≡◌, ◌↔◌, ◌≢◌, Bool, true, ◌&&◌, cond, List, [], ◌∷◌, ℕ, suc, ◌+◌, ◌<◌, ◌≤◌, eqb, ltb, length, get_or}
use Rattle.vocabulary.specs.Intervals.{is_up_to}
use Rattle.vocabulary.specs.Lists.{is_in}
use Rattle.vocabulary.specs.Bytes.{Bytes, byte_at}
use Rattle.mesh.specs.Mesh.{top, elements, dimension}
use Rattle.mesh.specs.Walks.{incident, steps, walked}
use Rattle.split.specs.Split.{Split, split_of, held, imports, locals, local_of, global_of, holds_lower}
use Rattle.split.specs.Lists.{split_number, list_of}
use Rattle.split.specs.declared.Wanted.TheVariants.{Private, Exposed, Shared, Copied}

-- e is an element of the mesh, of dimension a. "Elements have a dimension from 0 (points) to d (cells)."
unfoldable pub is_of : Bytes → ℕ → ℕ → Bool
is_of m a e = is_up_to (elements m) e && eqb (dimension m e) a

abbrev pub is_cell : Bytes → ℕ → Bool
is_cell m c = is_of m (top m) c

-- a walk of k steps from c to x. "A walk of k steps goes from a cell through incident elements of dimensions a1, .., ak .. It may return to an
-- element it has visited": nothing asks the elements of its path to differ. Standard term: path in the incidence graph.
pub record Walk (m stencil : Bytes) (k c x : ℕ) : Type 0 where
  -- c, and the element after each step
  pub path : List ℕ
  pub path_length : length path ≡ suc k
  pub begins : get_or path 0 0 ≡ c
  pub ends : get_or path k 0 ≡ x
  pub from_cell : is_cell m c ≡ true
  pub dimensions : (t : ℕ) → 1 ≤ t → t ≤ k → is_of m (byte_at stencil t) (get_or path t 0) ≡ true
  pub incidence : (t : ℕ) → t < k → incident m (get_or path t 0) (get_or path (suc t) 0) ≡ true

-- "the stencil's walk reaches it from an owned cell": a walk of k steps, for some k from 0 to n, from a cell that part i owns to x
pub record Reached (m stencil : Bytes) (S : Split) (i x : ℕ) : Type 0 where
  pub cell : ℕ
  pub owned : S.owner cell ≡ i
  pub count : ℕ
  pub count_high : count ≤ steps stencil
  pub walk : Walk m stencil count cell x

-- how many of the lists have e
unfoldable pub lists_with : ℕ → List (List ℕ) → ℕ
lists_with e [] = 0
lists_with e (xs ∷ xss) = cond (is_in e xs) 1 0 + lists_with e xss

-- what holds of the lists of part i, for the split S of the mesh m by the stencil and a part map
pub record RightLists (m stencil : Bytes) (S : Split) (i : ℕ) : Type 0 where
  -- `walked` gives the ends of the walks
  pub walk_ends : (k c x : ℕ) → k ≤ steps stencil → is_cell m c ≡ true → (is_in x (walked m stencil c k) ≡ true) ↔ Walk m stencil k c x
  -- demand 2: "A cell is copied exactly if the stencil's walk reaches it from an owned cell and another part owns it." It is copied if it
  -- stands in an import list.
  pub copied_exactly : (c : ℕ) → is_cell m c ≡ true → ((j : ℕ) × (is_in c (imports S i j) ≡ true)) ↔ (Reached m stencil S i c × (S.owner c ≢ i))
  -- the import list from j has cells, and of these only what j owns
  pub import_owner : (c j : ℕ) → is_in c (imports S i j) ≡ true → (is_cell m c ≡ true) × (S.owner c ≡ j)
  -- a lower element that part i holds is in one of the four ranges of its dimension; no other element is in any
  pub one_range : (k e : ℕ)
      → lists_with e (list_of m S i (Private k) ∷ list_of m S i (Exposed k) ∷ list_of m S i (Shared k) ∷ list_of m S i (Copied k) ∷ [])
      ≡ cond (ltb k (top m) && is_of m k e && holds_lower S i e) 1 0
  -- "Local cell numbers run from 1": they go one to one with the held cells
  pub local_count : length (locals S i) ≡ length (held S i)
  pub local_held : (l : ℕ) → 1 ≤ l → l ≤ length (held S i)
      → (is_in (global_of (locals S i) l) (held S i) ≡ true) × (local_of (locals S i) (global_of (locals S i) l) ≡ l)
  pub held_local : (c : ℕ) → is_in c (held S i) ≡ true
      → (1 ≤ local_of (locals S i) c) × (local_of (locals S i) c ≤ length (held S i)) × (global_of (locals S i) (local_of (locals S i) c) ≡ c)

-- this holds for every mesh, part map, part and stencil that are accepted
unfoldable pub CopyTheorem : Type 0
CopyTheorem =
    (m : Bytes) (parts : ℕ) (owners : Bytes) (i : ℕ) (stencil : Bytes) → split_number m parts owners (i ∷ []) stencil ≡ 0
    → RightLists m stencil (split_of m parts owners stencil) i
