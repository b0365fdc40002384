-- How the code chooses a list. No public contract rests on this page; the laws in proofs/ tie it to the definitions. Assumes
-- nothing.
use Rattle.std.specs.Prelude.{List, [], ℕ, Option, None, Some}
use Rattle.vocabulary.specs.Bytes.{Bytes}
use Rattle.mesh.specs.Mesh.{first_cell, cell_count}
use Rattle.split_classes.specs.Classes.{class_cells, class_order}
use Rattle.split_ranges.specs.Lowers.{range_of}
use Rattle.split.specs.declared.Wanted.{Wanted}
use Rattle.split.specs.declared.Wanted.TheVariants.{Interior, Halo, Locals, Imports, Exports, Private, Exposed, Shared, Copied}

-- the other part that the list names, and the part i itself where it names none
abbrev pub other_of : Wanted → ℕ → ℕ
other_of Interior i = i
other_of Halo i = i
other_of Locals i = i
other_of (Imports j) i = j
other_of (Exports j) i = j
other_of (Private k) i = i
other_of (Exposed k) i = i
other_of (Shared k) i = i
other_of (Copied k) i = i

-- the part whose row of classes tells it: exports to j are what j imports
abbrev pub row_of : Wanted → ℕ → ℕ
row_of Interior i = i
row_of Halo i = i
row_of Locals i = i
row_of (Imports j) i = i
row_of (Exports j) i = j
row_of (Private k) i = i
row_of (Exposed k) i = i
row_of (Shared k) i = i
row_of (Copied k) i = i

-- the class of the lower elements in it and their dimension, and nothing where it is a list of cells
abbrev pub range_wanted : Wanted → Option (ℕ × ℕ)
range_wanted Interior = None
range_wanted Halo = None
range_wanted Locals = None
range_wanted (Imports j) = None
range_wanted (Exports j) = None
range_wanted (Private k) = Some (1, k)
range_wanted (Exposed k) = Some (2, k)
range_wanted (Shared k) = Some (3, k)
range_wanted (Copied k) = Some (4, k)

-- its words from that row, where it is a list of cells
unfoldable pub cell_words : Wanted → Bytes → ℕ → Bytes → ℕ → List ℕ
cell_words Interior m parts class i = class_cells class (first_cell m) (cell_count m) 17
cell_words Halo m parts class i = class_cells class (first_cell m) (cell_count m) 18
cell_words Locals m parts class i = class_order class (first_cell m) (cell_count m) parts
cell_words (Imports j) m parts class i = class_cells class (first_cell m) (cell_count m) j
cell_words (Exports j) m parts class i = class_cells class (first_cell m) (cell_count m) i
cell_words (Private k) m parts class i = []
cell_words (Exposed k) m parts class i = []
cell_words (Shared k) m parts class i = []
cell_words (Copied k) m parts class i = []

-- its words, from that row and the parts that hold each cell
abbrev pub words_by : Option (ℕ × ℕ) → Wanted → Bytes → ℕ → Bytes → Bytes → ℕ → List ℕ
words_by None w m parts class holders i = cell_words w m parts class i
words_by (Some range) w m parts class holders i = range_of m class holders range.1 range.0

unfoldable pub chosen : Wanted → Bytes → ℕ → Bytes → Bytes → ℕ → List ℕ
chosen w m parts class holders i = words_by (range_wanted w) w m parts class holders i
