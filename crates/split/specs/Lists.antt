-- The calls that give a part's lists, and the refusals 8, 9 and 12. Assumes nothing.
use Rattle.std.specs.Prelude.{Bool, not, ◌||◌, List, [], ◌∷◌, ◌++◌, ℕ, ◌*◌, eqb, ltb, length}
use Rattle.vocabulary.specs.Intervals.{is_up_to, some, total}
use Rattle.vocabulary.specs.Lists.{every_of}
use Rattle.vocabulary.specs.Tests.{Test, refuse, first_of}
use Rattle.vocabulary.specs.Bytes.{Bytes, over}
use Rattle.layout.specs.Words.{bytes_of}
use Rattle.layout.specs.Answers.{answer, if_accepted}
use Rattle.layout.specs.Answers.{Answer}
use Rattle.layout.specs.Limits.{most_parts, most_held}
use Rattle.mesh.specs.Mesh.{top, cell_count, mesh_tests}
use Rattle.mesh.specs.Walks.{bad10, bad13}
use Rattle.split.specs.declared.Wanted.{Wanted}
use Rattle.split.specs.declared.Wanted.TheVariants.{Interior, Halo, Locals, Imports, Exports, Private, Exposed, Shared, Copied}
use Rattle.split.specs.Split.{Split, split_of, owned, held, imports, exports, interior, halo, locals, is_private, is_exposed, is_shared, is_copied, range}

-- "P, the part wanted, an owner or the map's length wrong." A call may name several parts.
unfoldable pub bad8 : Bytes → ℕ → Bytes → List ℕ → Bool
bad8 m parts owners named =
    not (is_up_to most_parts parts) || not (every_of named (is_up_to parts)) || not (eqb (length owners) (cell_count m)) || not (every_of owners (is_up_to parts))

-- "A part owning no cell."
unfoldable pub bad9 : Split → Bool
bad9 S = some 1 S.parts (λ i. eqb (length (owned S i)) 0)

-- "Held cells over all parts above 4,096."
unfoldable pub bad12 : Split → Bool
bad12 S = ltb most_held (total 1 S.parts (λ i. length (held S i)))

-- what a mesh is split by: the mesh itself, P and the owners of a part map, and a stencil
pub record SplitInput : Type 0 where
  pub mesh : Bytes
  pub parts : ℕ
  pub owners : Bytes
  pub stencil : Bytes

-- from the arguments of a call
abbrev pub split_input : Bytes → ℕ → Bytes → Bytes → SplitInput
split_input m parts owners stencil = record { mesh = m; parts = parts; owners = owners; stencil = stencil }

module _ (D : SplitInput) where
  -- the owners that its part map gives, one a cell; and what the whole comes to
  abbrev pub map_in : Bytes
  map_in = D.owners

  abbrev pub split_in : Split
  split_in = split_of D.mesh D.parts map_in D.stencil

  -- what a call that is given these and the numbers of some parts tries after the mesh
  abbrev pub map_tests : List ℕ → List Test
  map_tests named = refuse 8 (bad8 D.mesh D.parts D.owners named) ∷ refuse 9 (bad9 split_in) ∷ refuse 10 (bad10 (top D.mesh) D.stencil) ∷ []

  -- what it tries first, and what it tries after 11
  unfoldable pub split_tests : List ℕ → List Test
  split_tests named = mesh_tests D.mesh ++ map_tests named

  unfoldable pub size_tests : List Test
  size_tests = refuse 12 (bad12 split_in) ∷ refuse 13 (bad13 D.mesh D.stencil) ∷ []

-- the numbers of the two, apart
unfoldable pub split_number : Bytes → ℕ → Bytes → List ℕ → Bytes → ℕ
split_number m parts owners named stencil = first_of (split_tests (split_input m parts owners stencil) named)

unfoldable pub sizes_number : Bytes → ℕ → Bytes → Bytes → ℕ
sizes_number m parts owners stencil = first_of (size_tests (split_input m parts owners stencil))

-- `Wanted`, which the code declares, has the lists of a part that can be asked for: an import or export list names the other part, a range its
-- dimension. The other part that a list names
unfoldable pub others : Wanted → List ℕ
others Interior = []
others Halo = []
others Locals = []
others (Imports j) = j ∷ []
others (Exports j) = j ∷ []
others (Private k) = []
others (Exposed k) = []
others (Shared k) = []
others (Copied k) = []

-- the list, for part i
unfoldable pub list_of : Bytes → Split → ℕ → Wanted → List ℕ
list_of m S i Interior = interior S i
list_of m S i Halo = halo S i
list_of m S i Locals = locals S i
list_of m S i (Imports j) = imports S i j
list_of m S i (Exports j) = exports S i j
list_of m S i (Private k) = range m k (is_private S i)
list_of m S i (Exposed k) = range m k (is_exposed S i)
list_of m S i (Shared k) = range m k (is_shared S i)
list_of m S i (Copied k) = range m k (is_copied S i)

-- ---- the call for a list of part i

module _ (D : SplitInput) (i : ℕ) (w : Wanted) where
  unfoldable pub list_words : List ℕ
  list_words = list_of D.mesh (split_in D) i w

  unfoldable pub list_number : Bytes → ℕ
  list_number out = first_of (split_tests D (i ∷ others w) ++ (size_tests D ++ (refuse 16 (ltb (length out) (2 * length list_words)) ∷ [])))

  -- it gives the count of words
  unfoldable pub list_answer : Bytes → Answer
  list_answer out = answer (list_number out) (length list_words)

  -- what it leaves in the output: "a list given or taken is words in the order stated"
  unfoldable pub list_out : Bytes → Bytes
  list_out out = if_accepted (list_number out) (over out 0 (bytes_of list_words)) out
