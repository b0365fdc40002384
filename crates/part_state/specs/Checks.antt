-- How the code makes the tests of a state's lists: in four groups, the reaches last and row by row. No public contract rests on
-- this page. Assumes nothing.
use Rattle.std.specs.Prelude.{◌≡◌, Bool, not, ◌&&◌, List, [], ◌∷◌, ℕ, ◌+◌, ◌-◌, ◌*◌, ◌%◌, ◌<◌, eqb, ltb, leb, length}
use Rattle.vocabulary.specs.Bytes.{Bytes}
use Rattle.vocabulary.specs.Intervals.{is_up_to, every}
use Rattle.layout.specs.Words.{word_at}
use Rattle.layout.specs.Limits.{most_elements, most_parts, most_steps}
use Rattle.round_rule.specs.Rules.{bad11}
use Rattle.part_state.specs.State.{part_number, step_count, rule_kind, weights, import_end, owned_count, held_count, export_end, export_count, point_count}
use Rattle.part_state.specs.State.{point_end, point_cells, reach_end, reach_count, entry_at, valid_global, valid_entry, own_found, valid_export, rises}
use Rattle.part_state.specs.State.{exports_word, entry_word, reach_word, import_word, export_word, climbs, valid_point_cell, points_word, point_ends_word}
use Rattle.part_state.specs.State.{point_cells_word}
use Rattle.part_state.specs.declared.places.Sizes.{Sizes}

-- the lists b in four groups
abbrev pub header_tests : Bytes → List Bool
header_tests b =
    is_up_to most_parts (part_number b)
    ∷ (eqb (step_count b % 2) 0 && leb (step_count b) most_steps)
    ∷ not (bad11 (rule_kind b) (step_count b) (weights b))
    ∷ leb (held_count b) most_elements
    ∷ []

abbrev pub end_tests : Bytes → List Bool
end_tests b =
    rises most_parts (import_end b)
    ∷ (eqb (export_end b 0) 0 && rises most_parts (export_end b))
    ∷ (eqb (reach_end b 0) 0 && rises (owned_count b) (reach_end b))
    ∷ []

abbrev pub entry_tests : Bytes → List Bool
entry_tests b =
    every 1 (held_count b) (valid_global b)
    ∷ every 0 (export_count b) (valid_export b)
    ∷ every 0 (reach_count b) (valid_entry b)
    ∷ every 1 (owned_count b) (own_found b)
    ∷ []

abbrev pub point_tests : Bytes → List Bool
point_tests b = (eqb (point_end b 0) 0 && climbs (point_count b) (point_end b)) ∷ every 0 (point_cells b) (valid_point_cell b) ∷ []

-- the end after the one at word a + j is at least `by` more
unfoldable pub rise_at : Bytes → ℕ → ℕ → ℕ → Bool
rise_at b a by j = leb (word_at b (a + j) + by) (word_at b (a + (j + 1)))

-- entry t is that of cell l itself
unfoldable pub own_entry : Bytes → ℕ → ℕ → Bool
own_entry b l t = eqb (entry_at b t).local l && eqb (entry_at b t).layer 0

-- word i is at most n
abbrev pub within_at : Bytes → ℕ → ℕ → Bool
within_at b n i = leb (word_at b i) n

-- the row of the owned cell l: its entries are valid, and its own is among them
unfoldable pub valid_row : Bytes → ℕ → Bool
valid_row b l = every (reach_end b (l - 1)) (reach_end b l - reach_end b (l - 1)) (valid_entry b) && own_found b l

-- ---- places as the code counts them

-- with j added, the word before part j's imports end, and its exports: the end of the part before
abbrev pub before_imports : ℕ
before_imports = import_word - 1

abbrev pub before_exports : ℕ
before_exports = export_word - 1

-- with j added, the flags of part j; with 4 * l added, the depth of local cell l
abbrev pub taken_flags : ℕ → ℕ
taken_flags changes = changes + 1

abbrev pub written_flags : ℕ → ℕ
written_flags changes = changes + 17

abbrev pub depth_base : ℕ → ℕ
depth_base changes = changes + 30

-- ---- the places that counts give: the ends of the reaches, their entries, the exports, the points with the ends and the cells at them, and how many words
-- that makes

abbrev pub reach_start : Sizes → ℕ
reach_start z = reach_word z.held

abbrev pub entry_start : Sizes → ℕ
entry_start z = entry_word z.held z.owned

abbrev pub export_start : Sizes → ℕ
export_start z = exports_word z.held z.owned z.reached

abbrev pub point_start : Sizes → ℕ
point_start z = points_word z.held z.owned z.reached z.sent

abbrev pub point_end_start : Sizes → ℕ
point_end_start z = point_ends_word z.held z.owned z.reached z.sent z.points

abbrev pub point_cell_start : Sizes → ℕ
point_cell_start z = point_cells_word z.held z.owned z.reached z.sent z.points

abbrev pub word_count : Sizes → ℕ
word_count z = point_cell_start z + z.around

-- every count is a word, but for those of the exports and of the cells at points, which start adds up before it knows that they are
pub record Small (z : Sizes) : Type 0 where
  pub held_small : z.held < 65536
  pub owned_small : z.owned < 65536
  pub reached_small : z.reached < 65536
  pub sent_small : z.sent < 2000000
  pub points_small : z.points < 65536
  pub around_small : z.around < 5000000

-- they are those that stand in the lists
pub record Counts (b : Bytes) (z : Sizes) : Type 0 where
  pub held_is : z.held ≡ held_count b
  pub owned_is : z.owned ≡ owned_count b
  pub reached_is : z.reached ≡ reach_count b
  pub sent_is : z.sent ≡ export_count b
  pub points_is : z.points ≡ point_count b
  pub around_is : z.around ≡ point_cells b
  pub small : Small z

-- lists as long as their counts say
pub record Fitting (b : Bytes) (z : Sizes) : Type 0 where
  pub counts : Counts b z
  pub room : length b ≡ 2 * word_count z

-- the word at which the entries of the reaches begin, and what they are tested by
pub record Tested (b : Bytes) (at held n : ℕ) : Type 0 where
  pub at_is : at ≡ entry_word (held_count b) (owned_count b)
  pub held_is : held ≡ held_count b
  pub n_is : n ≡ step_count b
