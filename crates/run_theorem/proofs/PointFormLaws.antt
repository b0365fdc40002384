-- The points that start writes are the points that a call reads: their numbers, and the cells at each (F-1). Assumes nothing.
use Rattle.std.specs.Prelude.{◌≡◌, List, length}
use Rattle.std.proofs.Math.Path.{refl, ap}
use Rattle.std.proofs.Common.{◌∙◌}
use Prim.Native.Nat.{ℕ, suc, ◌+◌, ◌-◌, ◌*◌, ◌<◌, ◌≤◌}
use native.Mathlib.Omega.{arith}
use Rattle.std.proofs.Math.ListN.{get_or}
use Rattle.vocabulary.specs.Bytes.{Bytes}
use Rattle.vocabulary.specs.Intervals.{blocks, total}
use Rattle.vocabulary.proofs.IntervalLaws.{listed_length}
use Rattle.layout.specs.Words.{word_at}
use Rattle.layout.specs.Limits.{most_parts}
use Rattle.split.specs.Split.{Split, points_of, points_in, point_ends}
use Rattle.part_state.specs.State.{held_count, owned_count, reach_count, export_count, point_ends_word, point_cells_word, points_from, point_count, point_at}
use Rattle.part_state.specs.State.{point_end, point_cells, point_cell_at, local_around}
use Rattle.part_start_plan.specs.Start.{import_ends, around_words, lists_regions}
use Rattle.run_theorem.proofs.FormLaws.{regions, front, at_point, around_length, points_place}
use Rattle.word_lists.proofs.RegionLaws.{region_at, table_at, entry_word_lem, row_back}

module _ (S : Split) (i : ℕ) (order : List ℕ) (n kind : ℕ) (v : Bytes) (full : import_ends S i order most_parts ≡ length order) where
  abbrev words : Bytes
  words = front S i order n kind v

  abbrev parts : List (List ℕ)
  parts = regions S i order n kind v

  -- ---- the numbers

  pub points_back : point_count words ≡ points_in S i
  unfolding lists_regions
  points_back = region_at parts 9 0 (points_from words) (omega arith) (omega (arith, points_place S i order n kind v full))

  pub point_back : (k : ℕ) → 1 ≤ k → k ≤ points_in S i → point_at words k ≡ get_or (points_of S i) (k - 1) 0
  unfolding lists_regions
  point_back k h q = region_at parts 9 (suc (k - 1)) (points_from words + k) (omega arith) (omega (arith, points_place S i order n kind v full))

  -- ---- the cells at them

  pub point_ends_back : (k : ℕ) → k ≤ points_in S i → point_end words k ≡ point_ends S i k
  unfolding lists_regions
  point_ends_back k h =
      table_at parts 10 (points_in S i + 1) (point_ends S i) refl k (point_ends_word (held_count words) (owned_count words) (reach_count words) (export_count words) (point_count words) + k)
      (omega arith) (omega (arith, points_place S i order n kind v full, points_back))

  pub point_cells_back : point_cells words ≡ point_ends S i (points_in S i)
  point_cells_back = ap (point_end words) points_back ∙ point_ends_back (points_in S i) (omega arith)

  abbrev cells_from : ℕ
  cells_from = point_cells_word (held_count words) (owned_count words) (reach_count words) (export_count words) (point_count words)

  pub around_word : (k : ℕ) → k < length (blocks 1 (points_in S i) (around_words S i order)) → point_cell_at words k ≡ get_or (blocks 1 (points_in S i) (around_words S i order)) k 0
  unfolding lists_regions
  around_word k h =
      region_at parts 11 k (cells_from + k) h
      (omega (arith, points_place S i order n kind v full, points_back, listed_length 0 (point_ends S i) (points_in S i + 1)))

  module _ (k : ℕ) (h : 1 ≤ k) (q : k ≤ points_in S i) where
    around_ends : (m : ℕ) → m ≤ points_in S i → point_end words m ≡ total 1 m (at_point S i order n kind v)
    unfolding point_ends
    around_ends = point_ends_back

    pub around_back : local_around words k ≡ around_words S i order k
    unfolding local_around
    around_back =
        let ends : ℕ = point_ends_word (held_count words) (owned_count words) (reach_count words) (export_count words) (point_count words) in
        let many : ℕ → ℕ = at_point S i order n kind v in
        row_back 1 (around_words S i order) many (around_length S i order n kind v) words ends cells_from (points_in S i) around_ends around_word k h q
        (point_cell_at words) (around_words S i order k) 0 (omega (arith, around_length S i order n kind v k))
        (λ t l.
        let e : cells_from + (total 1 (k - 1) many + t) ≡ cells_from + (1 * (total 1 (k - 1) many + t) + 0) = omega arith in
        let z : 1 * t + 0 ≡ t = omega arith in
        ap (word_at words) e
        ∙ entry_word_lem 1 (around_words S i order) many (around_length S i order n kind v) words ends cells_from (points_in S i) around_ends around_word k h q t 0 l (omega arith)
        ∙ ap (λ x. get_or (around_words S i order k) x 0) z)
