-- Limits of the specification by name: definitions, contracts and laws go by them. Assumes nothing.
use Rattle.std.specs.Prelude.{ℕ, ◌+◌, ◌*◌}

-- of a mesh: elements, records
abbrev pub most_elements : ℕ
most_elements = 2000

abbrev pub most_records : ℕ
most_records = 12000

-- the entries of all reaches together
abbrev pub most_reached : ℕ
most_reached = 8000

-- of a stencil and a rule: steps, a weight
abbrev pub most_steps : ℕ
most_steps = 8

abbrev pub most_weight : ℕ
most_weight = 15

-- of a part map: parts, cells that they hold together
abbrev pub most_parts : ℕ
most_parts = 16

abbrev pub most_held : ℕ
most_held = 4096

-- of a run: the round at which advance is refused (26)
abbrev pub last_round : ℕ
last_round = 60000

-- ---- the sizes that follow from them

-- the bytes of a longest stencil
abbrev pub stencil_bytes : ℕ
stencil_bytes = most_steps + 1

-- a place for each element's number, and for each record's, from 0 on
abbrev pub element_places : ℕ
element_places = most_elements + 1

abbrev pub record_places : ℕ
record_places = most_records + 1

-- the table of all reaches: two words an entry
abbrev pub table_bytes : ℕ
table_bytes = 4 * most_reached
