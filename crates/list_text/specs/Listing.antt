-- What the list program prints, for any input. Assumes nothing.
--
-- "The list program reads from standard input the mesh, a byte P, the owners, a byte stencil length, the stencil"
use Rattle.std.specs.Prelude.{cond, List, [], ◌∷◌, ◌++◌, map, ℕ, zero, suc, ◌+◌, ◌/◌, ◌%◌, eqb, ltb, length, take, drop}
use Prim.Native.Char.{code}
use Prim.Native.String as Text
use Prim.Native.String.{String}
use Rattle.vocabulary.specs.Intervals.{blocks}
use Rattle.vocabulary.specs.Lists.{joined}
use Rattle.vocabulary.specs.Tests.{first_of}
use Rattle.vocabulary.specs.Bytes.{Bytes, byte_at}
use Rattle.mesh.specs.Mesh.{top, cell_count, mesh_length}
use Rattle.split.specs.Split.{Split, interior, halo, imports, exports, range, is_private, is_exposed, is_shared, is_copied}
use Rattle.split.specs.Lists.{SplitInput, split_tests, size_tests, split_input, split_in}

-- ---- text

abbrev pub ascii : String → Bytes
ascii Text.[] = []
ascii (Text.◌∷◌ c s) = code c ∷ ascii s

-- a number in decimal, of at most n digits
unfoldable pub digits : ℕ → ℕ → Bytes
digits zero v = []
digits (suc n) v = cond (ltb v 10) ((48 + v) ∷ []) (digits n (v / 10) ++ ((48 + v % 10) ∷ []))

unfoldable pub decimal : ℕ → Bytes
decimal v = digits (suc v) v

-- a space and a number
unfoldable pub spaced : ℕ → Bytes
spaced v = ascii " " ++ decimal v

-- a label, numbers after it, and the end of the line. "Any other empty range prints its label alone."
unfoldable pub line : Bytes → List ℕ → Bytes
line label vs = label ++ (joined (map spaced vs) ++ ascii "\n")

-- the line, or nothing where there are no numbers: it "is left out when empty"
unfoldable pub line_unless_empty : Bytes → List ℕ → Bytes
line_unless_empty label [] = []
line_unless_empty label (v ∷ vs) = line label (v ∷ vs)

-- ---- the lists

module _ (m : Bytes) (S : Split) where
  -- "Each dimension has its ranges as private, exposed, shared, copied."
  unfoldable pub dimension_text : ℕ → ℕ → Bytes
  dimension_text i k =
      line (label " private") (range m k (is_private S i))
      ++ (line (label " exposed") (range m k (is_exposed S i))
      ++ (line (label " shared") (range m k (is_shared S i))
      ++ line (label " copied") (range m k (is_copied S i))))
    where
      label : String → Bytes
      label name = ascii "dim" ++ (spaced k ++ ascii name)

  -- "Imports come before exports, each by rising part, then the dimensions from 0 to d−1."
  unfoldable pub part_text : ℕ → Bytes
  part_text i =
      line (ascii "part") (i ∷ [])
      ++ (line (ascii "interior") (interior S i)
      ++ (line (ascii "halo") (halo S i)
      ++ (blocks 1 S.parts (λ j. line_unless_empty (ascii "import" ++ spaced j) (imports S i j))
      ++ (blocks 1 S.parts (λ j. line_unless_empty (ascii "export" ++ spaced j) (exports S i j))
      ++ blocks 0 (top m) (dimension_text i)))))

  -- "The first line gives P, then the parts rise."
  unfoldable pub split_text : Bytes
  split_text = line (ascii "parts") (S.parts ∷ []) ++ blocks 1 S.parts part_text

-- ---- the input and its pieces

module _ (b : Bytes) where
  -- "The head of the mesh gives its length"
  unfoldable pub mesh_piece : Bytes
  mesh_piece = take (mesh_length b) b

  unfoldable pub map_piece : Bytes
  map_piece = drop (mesh_length b) b

  unfoldable pub parts_piece : ℕ
  parts_piece = byte_at map_piece 0

  unfoldable pub owners_piece : Bytes
  owners_piece = take (cell_count b) (drop 1 map_piece)

  -- the length byte and what comes after it
  unfoldable pub last_piece : Bytes
  last_piece = drop (1 + cell_count b) map_piece

  -- a stencil that is cut short or has bytes after it is none, and the empty one is none (10)
  unfoldable pub stencil_piece : Bytes
  stencil_piece = cond (eqb (length (drop 1 last_piece)) (byte_at last_piece 0)) (drop 1 last_piece) []

  -- all of them, as what a mesh is split by
  abbrev pub pieces : SplitInput
  pieces = split_input mesh_piece parts_piece owners_piece stencil_piece

  -- "input cut short is 1, 3, 8 or 10 by the first piece that isn't whole (P and the owners 8, the length byte and the stencil 10), unless a
  -- smaller number holds; bytes after the stencil are 10": a mesh cut short is 1 or 3 by its length, a missing P is 0 and
  -- owners cut short are too few
  unfoldable pub listing_number : ℕ
  listing_number = first_of (split_tests pieces [] ++ size_tests pieces)

  -- "On a refusal it prints `refused` and the number. Input past 65,536 bytes prints `too long`."
  unfoldable pub list_text : Bytes
  list_text =
      cond (ltb 65536 (length b)) (line (ascii "too long") [])
      (cond (eqb listing_number 0) (split_text mesh_piece (split_in pieces))
      (line (ascii "refused") (listing_number ∷ [])))
