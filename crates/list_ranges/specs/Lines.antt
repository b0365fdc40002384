-- The lines of a part by the rows of classes that the code reads them off. No public contract rests on this page. Assumes nothing.
use Rattle.std.specs.Prelude.{List, [], ◌∷◌, ◌++◌, ℕ, length}
use Rattle.vocabulary.specs.Bytes.{Bytes}
use Rattle.split.specs.Split.{split_of}
use Rattle.split_classes.specs.Classes.{class_cells, part_cells}
use Rattle.split_ranges.specs.Lowers.{range_of, row_range}
use Rattle.list_text.specs.Listing.{ascii, spaced, line, line_unless_empty, part_text}
use Rattle.list_ranges.specs.declared.row.Row.{Row}

-- the numbers of class k in a row
unfoldable pub cells_of : Row → ℕ → List ℕ
cells_of row k = class_cells row.class.now row.first (length row.class.now) k

-- the line of a range of dimension d
unfoldable pub range_line : Bytes → ℕ → List ℕ → Bytes
range_line name d vs = line (ascii "dim" ++ (spaced d ++ name)) vs

-- the lines of dimension d, by the row of its elements' classes
unfoldable pub row_lines : Bytes → Bytes → ℕ → Bytes
row_lines m lower d =
    range_line (ascii " private") d (row_range m d lower 1)
    ++ (range_line (ascii " exposed") d (row_range m d lower 2)
    ++ (range_line (ascii " shared") d (row_range m d lower 3)
    ++ range_line (ascii " copied") d (row_range m d lower 4)))

-- the lines of dimension d, by the row of cells
unfoldable pub dimension_lines : Bytes → Bytes → Bytes → ℕ → Bytes
dimension_lines m class holders d =
    range_line (ascii " private") d (range_of m class holders d 1)
    ++ (range_line (ascii " exposed") d (range_of m class holders d 2)
    ++ (range_line (ascii " shared") d (range_of m class holders d 3)
    ++ range_line (ascii " copied") d (range_of m class holders d 4)))

-- the line of what passes between the part and part j, if anything does
unfoldable pub passing : Bytes → ℕ → List ℕ → Bytes
passing label j vs = line_unless_empty (label ++ spaced j) vs

-- the imports from part j, by the part's row, and the exports of part i to part j, by the tables
unfoldable pub import_line : Row → ℕ → Bytes
import_line row j = passing (ascii "import") j (cells_of row j)

unfoldable pub export_line : Bytes → Bytes → List ℕ → ℕ → ℕ → ℕ → ℕ → Bytes
export_line owners table ends first cells i j = passing (ascii "export") j (part_cells owners table ends j first cells i)

-- the lines of the cells of part i
unfoldable pub own_lines : Row → ℕ → Bytes
own_lines row i = line (ascii "part") (i ∷ []) ++ (line (ascii "interior") (cells_of row 17) ++ line (ascii "halo") (cells_of row 18))

-- all lines of part i
unfoldable pub part_of : Bytes → ℕ → Bytes → Bytes → ℕ → Bytes
part_of m parts owners st i = part_text m (split_of m parts owners st) i
