-- The byte form of a part's state, and the refusal 20. docs/LAYOUTS.md has it as a table. Assumes nothing.
--
-- A state is first its lists, which start writes once, all words; and then what calls change, from a place on that is called `changes` (d in
-- docs/LAYOUTS.md). Word 0 has how many words come before it. Local numbers run from 1, and so do the numbers of parts, 1 to 16. A table of ends has
-- at j how many entries belong to the numbers up to j, so those of j are the ones after end (j − 1), up to end j.
use Rattle.std.specs.Prelude.{Bool, not, ◌&&◌, List, [], ◌∷◌, ℕ, ◌+◌, ◌-◌, ◌*◌, ◌%◌, eqb, ltb, leb, length, take, drop}
use Rattle.vocabulary.specs.Intervals.{is_up_to, every, listed}
use Rattle.vocabulary.specs.Lists.{some_of}
use Rattle.vocabulary.specs.Tests.{all_of}
use Rattle.vocabulary.specs.Bytes.{Bytes, byte_at}
use Rattle.layout.specs.Words.{word, word_at}
use Rattle.layout.specs.Limits.{last_round, most_elements, most_parts, most_steps}
use Rattle.depths.specs.Depths.{ranged_at}
use Rattle.round_rule.specs.Rules.{Old, new_depth, weight_count, bad11}

-- a cell of a reach by its local number, with its layer
pub record LocalNear : Type 0 where
  pub local : ℕ
  pub layer : ℕ

-- ---- where the lists stand, by their counts: the rule's weights in bytes, the rest in words, from 0 on

abbrev pub weights_place : ℕ
weights_place = 8

-- the tables of ends of the imports and of the exports, for parts from 0 on; and the held cells, for local numbers from 1 on
abbrev pub import_word : ℕ
import_word = 11

abbrev pub export_word : ℕ
export_word = 28

abbrev pub cell_word : ℕ
cell_word = 44

-- the table of ends of the reaches, the entries of the reaches (a local number and, one word later, its layer), and those of the exports
abbrev pub reach_word : ℕ → ℕ
reach_word held = 45 + held

abbrev pub entry_word : ℕ → ℕ → ℕ
entry_word held owned = 46 + held + owned

abbrev pub exports_word : ℕ → ℕ → ℕ → ℕ
exports_word held owned reached = entry_word held owned + 2 * reached

-- the points (F-1): how many, and behind that their numbers; then the table of ends of the cells at them, and these cells
abbrev pub points_word : ℕ → ℕ → ℕ → ℕ → ℕ
points_word held owned reached sent = exports_word held owned reached + sent

abbrev pub point_ends_word : ℕ → ℕ → ℕ → ℕ → ℕ → ℕ
point_ends_word held owned reached sent points = points_word held owned reached sent + 1 + points

abbrev pub point_cells_word : ℕ → ℕ → ℕ → ℕ → ℕ → ℕ
point_cells_word held owned reached sent points = points_word held owned reached sent + 2 + 2 * points

-- ---- the lists as a call follows them

pub record Lists : Type 0 where
  -- the part's number
  pub part : ℕ
  -- the mesh's first cell and how many cells it has
  pub first : ℕ
  pub cells : ℕ
  -- the rule: the new depth of a cell from its own old depth and those of its reach
  pub new : Bytes → List Old → Bytes
  -- the local numbers up to `owned` are the owned cells', and those up to `held` the held ones'
  pub owned : ℕ
  pub held : ℕ
  -- the global number of a local one
  pub global : ℕ → ℕ
  -- the reach of an owned cell, in local numbers
  pub reach : ℕ → List LocalNear
  -- imports from part j are the local numbers after `before j`, `imported j` of them
  pub before : ℕ → ℕ
  pub imported : ℕ → ℕ
  -- the local numbers of what is exported to part j
  pub exports : ℕ → List ℕ
  -- the points that touch owned cells (F-1): how many, the number of the k-th, k from 1, and the local numbers of the cells at it, 0 for one that is not to be read
  pub points : ℕ
  pub point : ℕ → ℕ
  pub around : ℕ → List ℕ

-- ---- the places of what calls change: the round at `changes` itself, a flag for each part taken from, a flag for each part written to, the depth of each held
-- cell

module _ (changes : ℕ) where
  abbrev pub taken_place : ℕ → ℕ
  taken_place j = changes + 1 + j

  abbrev pub written_place : ℕ → ℕ
  written_place j = changes + 17 + j

  -- the depths of all held cells, and that of local cell l
  abbrev pub depths_place : ℕ
  depths_place = changes + 34

  abbrev pub depth_place : ℕ → ℕ
  depth_place l = changes + 30 + 4 * l

  -- the length in bytes of a state that holds n cells
  abbrev pub state_length : ℕ → ℕ
  state_length n = depths_place + 4 * n

-- ---- three tests of lists

-- a table of n + 1 ends never falls
unfoldable pub rises : ℕ → (ℕ → ℕ) → Bool
rises n end = every 0 n (λ j. leb (end j) (end (j + 1)))

-- a table of n + 1 ends rises at each step, so each number has an entry (F-1)
unfoldable pub climbs : ℕ → (ℕ → ℕ) → Bool
climbs n end = every 0 n (λ j. ltb (end j) (end (j + 1)))

-- an entry of a reach names one of the held cells, at an even layer of at most n
abbrev pub valid_near : ℕ → ℕ → LocalNear → Bool
valid_near held n e = is_up_to held e.local && eqb (e.layer % 2) 0 && leb e.layer n

-- ---- the lists, read from the bytes b of a state, or from its first `changes` bytes

module _ (b : Bytes) where
  -- word 0: the length of the lists in words, and twice that is the place `changes`; 1: the part's number; 2: n of the stencil; 3: the rule's kind; 4 to 8: its weights
  abbrev pub dynamic : ℕ
  dynamic = 2 * word_at b 0

  abbrev pub part_number : ℕ
  part_number = word_at b 1

  abbrev pub step_count : ℕ
  step_count = word_at b 2

  abbrev pub rule_kind : ℕ
  rule_kind = word_at b 3

  unfoldable pub weights : Bytes
  weights = take (2 * weight_count rule_kind step_count) (drop weights_place b)

  -- word 9: the number of the mesh's first cell; 10: how many cells the mesh has
  abbrev pub first_of_mesh : ℕ
  first_of_mesh = word_at b 9

  abbrev pub cells_of_mesh : ℕ
  cells_of_mesh = word_at b 10

  -- words 11 to 27, for j from 0 to 16: how many held cells are owned or imported from the parts up to j
  abbrev pub import_end : ℕ → ℕ
  import_end j = word_at b (import_word + j)

  abbrev pub owned_count : ℕ
  owned_count = import_end 0

  abbrev pub held_count : ℕ
  held_count = import_end most_parts

  -- words 28 to 44, for j from 0 to 16: how many exports go to the parts up to j
  abbrev pub export_end : ℕ → ℕ
  export_end j = word_at b (export_word + j)

  abbrev pub export_count : ℕ
  export_count = export_end most_parts

  -- the global number of each held cell, in local order, from word 45 on
  abbrev pub global_at : ℕ → ℕ
  global_at l = word_at b (cell_word + l)

  -- for l from 0 to the owned count: how many entries the reaches of the local cells up to l have
  abbrev pub reach_end : ℕ → ℕ
  reach_end l = word_at b (reach_word held_count + l)

  abbrev pub reach_count : ℕ
  reach_count = reach_end owned_count

  -- the entries of the reaches, two words each, from t = 0 on: a local number and its layer
  abbrev pub entry_at : ℕ → LocalNear
  entry_at t = record { local = word_at b (entry_word held_count owned_count + 2 * t); layer = word_at b (entry_word held_count owned_count + 2 * t + 1) }

  -- the local number of each exported cell, from t = 0 on
  abbrev pub export_at : ℕ → ℕ
  export_at t = word_at b (exports_word held_count owned_count reach_count + t)

  -- how many points there are, and the number of the k-th, from k = 1 on
  abbrev pub points_from : ℕ
  points_from = points_word held_count owned_count reach_count export_count

  abbrev pub point_count : ℕ
  point_count = word_at b points_from

  abbrev pub point_at : ℕ → ℕ
  point_at k = word_at b (points_from + k)

  -- for k from 0 to the count of points: how many cells stand at the points up to the k-th
  abbrev pub point_end : ℕ → ℕ
  point_end k = word_at b (point_ends_word held_count owned_count reach_count export_count point_count + k)

  abbrev pub point_cells : ℕ
  point_cells = point_end point_count

  -- the local number of each cell at a point, from t = 0 on, or 0
  abbrev pub point_cell_at : ℕ → ℕ
  point_cell_at t = word_at b (point_cells_word held_count owned_count reach_count export_count point_count + t)

  -- the length in bytes that the counts give the lists
  abbrev pub lists_length : ℕ
  lists_length = 2 * (point_cells_word held_count owned_count reach_count export_count point_count + point_cells)

  -- the entries of the reach of an owned cell, by its local number
  unfoldable pub local_reach : ℕ → List LocalNear
  local_reach l = listed (reach_end (l - 1)) (reach_end l - reach_end (l - 1)) entry_at

  -- the local numbers of the cells exported to part j, in export order
  unfoldable pub local_exports : ℕ → List ℕ
  local_exports j = listed (export_end (j - 1)) (export_end j - export_end (j - 1)) export_at

  -- the cells at the k-th point (F-1)
  unfoldable pub local_around : ℕ → List ℕ
  local_around k = listed (point_end (k - 1)) (point_end k - point_end (k - 1)) point_cell_at

  -- the lists that stand in the first `changes` bytes of a state
  unfoldable pub lists_in : Lists
  lists_in = record {
    part = part_number;
    first = first_of_mesh;
    cells = cells_of_mesh;
    new = new_depth rule_kind weights;
    owned = owned_count;
    held = held_count;
    global = global_at;
    reach = local_reach;
    before = λ j. import_end (j - 1);
    imported = λ j. import_end j - import_end (j - 1);
    exports = local_exports;
    points = point_count;
    point = point_at;
    around = local_around;
  }

  -- ---- 20: "Not a part state by the form in docs/."

  -- a held cell is one of the mesh's
  abbrev pub valid_global : ℕ → Bool
  valid_global l = leb first_of_mesh (global_at l) && ltb (global_at l) (first_of_mesh + cells_of_mesh)

  -- entry t of the reaches is such an entry
  abbrev pub valid_entry : ℕ → Bool
  valid_entry t = valid_near held_count step_count (entry_at t)

  -- an owned cell is in its own reach, at layer 0
  abbrev pub own_found : ℕ → Bool
  own_found l = some_of (local_reach l) (λ e. eqb e.local l && eqb e.layer 0)

  -- an exported cell is owned
  abbrev pub valid_export : ℕ → Bool
  valid_export t = is_up_to owned_count (export_at t)

  -- a cell at a point is held, or not to be read (F-1)
  abbrev pub valid_point_cell : ℕ → Bool
  valid_point_cell t = leb (point_cell_at t) held_count

  -- tests of the lists b
  unfoldable pub lists_tests : List Bool
  lists_tests =
      is_up_to most_parts part_number
      ∷ (eqb (step_count % 2) 0 && leb step_count most_steps)
      ∷ not (bad11 rule_kind step_count weights)
      ∷ leb held_count most_elements
      ∷ rises most_parts import_end
      ∷ (eqb (export_end 0) 0 && rises most_parts export_end)
      ∷ (eqb (reach_end 0) 0 && rises owned_count reach_end)
      ∷ every 1 held_count valid_global
      ∷ every 0 reach_count valid_entry
      ∷ every 1 owned_count own_found
      ∷ every 0 export_count valid_export
      ∷ (eqb (point_end 0) 0 && climbs point_count point_end)
      ∷ every 0 point_cells valid_point_cell
      ∷ []

  -- the round
  abbrev pub round_at : ℕ → ℕ
  round_at changes = word b changes

  -- the flags of part j are 0 or 1
  abbrev pub valid_flags : ℕ → ℕ → Bool
  valid_flags changes j = leb (byte_at b (taken_place changes j)) 1 && leb (byte_at b (written_place changes j)) 1

  -- tests of what calls change, in the state b whose lists end at `changes` and hold n cells
  unfoldable pub dynamic_tests : ℕ → ℕ → List Bool
  dynamic_tests changes n =
      leb (state_length changes n) (length b) ∷ leb (round_at changes) last_round
      ∷ every 1 most_parts (valid_flags changes) ∷ every 0 n (ranged_at b (depths_place changes)) ∷ []

-- the lists of a state
unfoldable pub lists_of : Bytes → Lists
lists_of b = lists_in (take (dynamic b) b)

-- a part state: the lists are as long as their counts say, and all tests hold
unfoldable pub is_state : Bytes → Bool
is_state b =
    let changes : ℕ = dynamic b in
    let lists : Bytes = take (dynamic b) b in
    eqb changes (lists_length lists) && all_of (lists_tests lists) && all_of (dynamic_tests b changes (held_count lists))

unfoldable pub bad20 : Bytes → Bool
bad20 b = not (is_state b)

-- the test of a state, by the lists `lists` and the place `changes` where they end
abbrev pub is_state_at : Bytes → ℕ → Bytes → Bool
is_state_at lists changes b = eqb changes (lists_length lists) && all_of (lists_tests lists) && all_of (dynamic_tests b changes (held_count lists))
