-- The points in the lists that start writes (F-1): they are the points of the part with the cells at them, 29 is what the lists say, and the tests of a state
-- hold of them. Assumes nothing.
use Rattle.std.specs.Prelude.{◌≡◌, refl, Bool, true, false, ◌&&◌, get_or}
use Rattle.std.proofs.Common.{sym, ◌∙◌, subst, zero-add}
use Rattle.std.proofs.Math.Path.{ap}
use Rattle.std.proofs.Math.Bool.{cond}
use mathlib.Core.List.{List, map, reverse}
use Prim.Native.Nat.{ℕ, ◌+◌, ◌-◌, ◌<◌, ◌≤◌}
use native.Mathlib.Omega.{arith}
use Rattle.std.proofs.Math.Dec.{eqb}
use Rattle.std.proofs.Math.ListN.{length, replicate, length-replicate}
use borrow.Author.Tests.{eq-eqb, ne_eqb, le-leb}
use Rattle.vocabulary.specs.Bytes.{Bytes}
use Rattle.vocabulary.specs.Lists.{All, some_of}
use Rattle.vocabulary.proofs.ListLaws.{and_intro, cond_has, All_map, All_get_or, All_intro, All_of_map, All_reversed, map_cong, map_map, map_id, At, some_of_has, some_of_none, zeros_at}
use Rattle.vocabulary.specs.Intervals.{every, blocks, total}
use Rattle.vocabulary.proofs.IntervalLaws.{some_has, some_none, every_intro, blocks_all, total_start, total_turn}
use Rattle.mesh.specs.Walks.{steps}
use Rattle.round.specs.Rounds.{scheme_of}
use Rattle.split.specs.Split.{Split, split_of, locals, local_of, points_of, points_in, around_of, point_ends, bad29}
use Rattle.split.specs.Lists.{split_in}
use Rattle.split.proofs.SplitLaws.{local_back}
use Rattle.split.proofs.PointLaws.{split_around, point_at, point_some, point_held, outside_point}
use Rattle.part_state.specs.State.{Lists, lists_in, held_count, point_count, point_end, point_cells, point_cell_at, valid_point_cell, climbs}
use Rattle.part_state.proofs.StateLaws.{climbs_intro}
use Rattle.part_calls.specs.Calls.{outside}
use Rattle.part_start_plan.specs.Start.{around_words, Inputs, scheme_in}
use Rattle.run_theorem.proofs.FormLaws.{held_back, arounds_length}
use Rattle.run_theorem.proofs.PointFormLaws.{points_back, point_back, point_ends_back, point_cells_back, around_word, around_back}
use Rattle.run_theorem.proofs.PointLaws.{Pointed}
use Rattle.run_theorem.proofs.StartLaws.{Ready, front_in, reach_inside, owner_inside, order_full, lists_held, lists_global}

module _ (I : Inputs) (R : Ready I) (i : ℕ) where
  abbrev S : Split
  S = split_in I.split

  abbrev order : List ℕ
  order = locals (split_in I.split) i

  abbrev n : ℕ
  n = steps I.split.stencil

  abbrev L : Lists
  L = lists_in (front_in I i)

  -- ---- what a call reads

  pub lists_points : L.points ≡ points_in S i
  unfolding lists_in
  lists_points = points_back S i order n I.rule.kind I.rule.weights (order_full I R i)

  lists_point : (k : ℕ) → 1 ≤ k → k ≤ points_in S i → L.point k ≡ get_or (points_of S i) (k - 1) 0
  unfolding lists_in
  lists_point = point_back S i order n I.rule.kind I.rule.weights (order_full I R i)

  lists_around : (k : ℕ) → 1 ≤ k → k ≤ points_in S i → L.around k ≡ around_words S i order k
  unfolding lists_in
  lists_around = around_back S i order n I.rule.kind I.rule.weights (order_full I R i)

  -- where 29 does not hold, the cells at a point are held
  around_at : bad29 S i ≡ false → (k : ℕ) → 1 ≤ k → k ≤ points_in S i → All (λ x. At x order) (reverse (around_of S i k))
  around_at e k h q =
      All_reversed (λ x. At x order) (around_of S i k)
      (point_held S (split_around I.split.mesh I.split.parts I.split.owners I.split.stencil) (reach_inside I R) (owner_inside I R) i _ e (point_at S i k h q))

  around_read : bad29 S i ≡ false → (k : ℕ) → 1 ≤ k → k ≤ points_in S i → L.around k ≡ map (local_of order) (reverse (around_of S i k))
  unfolding around_words
  around_read e k h q = lists_around k h q ∙ ap (λ t. cond t (replicate (length (around_of S i k)) 0) (map (local_of order) (reverse (around_of S i k)))) e

  -- ---- 29: the lists say it

  local_there : (x : ℕ) → eqb 0 (local_of order x) ≡ false
  unfolding local_of
  local_there x = ne_eqb 0 (local_of order x) (omega arith)

  inside_read : bad29 S i ≡ false → outside L ≡ false
  unfolding outside
  inside_read e =
      some_none 1 (λ k. some_of (L.around k) (eqb 0)) L.points
      (λ j h.
      let ys : List ℕ = reverse (around_of S i (1 + j)) in
      ap (λ xs. some_of xs (eqb 0)) (around_read e (1 + j) (omega arith) (omega (arith, lists_points)))
      ∙ some_of_none (eqb 0) (map (local_of order) ys)
      (All_of_map (λ l. eqb 0 l ≡ false) (local_of order) ys (All_intro (λ x. eqb 0 (local_of order x) ≡ false) ys 0 (λ l k. local_there (get_or ys l 0)))))

  outside_read : bad29 S i ≡ true → outside L ≡ true
  unfolding outside around_words
  outside_read e =
      let p = outside_point S i e in
      let j : ℕ = p.1.place in
      let h : p.1.place < points_in S i = p.1.place_lt in
      let many : ℕ = length (around_of S i (1 + p.1.place)) in
      let zero_words : L.around (1 + p.1.place) ≡ replicate (length (around_of S i (1 + p.1.place))) 0 =
      lists_around (1 + j) (omega arith) (omega arith) ∙ ap (λ t. cond t (replicate many 0) (map (local_of order) (reverse (around_of S i (1 + j))))) e in
      some_has 1 (λ k. some_of (L.around k) (eqb 0)) L.points j (omega (arith, lists_points))
      (ap (λ xs. some_of xs (eqb 0)) zero_words
      ∙ some_of_has (eqb 0) (replicate many 0) 0 0 (omega (arith, length-replicate {A = ℕ} many 0, point_some S i (1 + p.1.place) (omega arith) (omega arith)))
      (eq-eqb 0 _ (sym (zeros_at many 0))))

  pub outside_is : outside L ≡ bad29 S i
  outside_is = go (bad29 S i) refl
    where
      go : (t : Bool) → bad29 S i ≡ t → outside L ≡ t
      go true e = outside_read e
      go false e = inside_read e

  -- ---- the tests of a state

  abbrev lists : Bytes
  lists = front_in I i

  pub points_climb : eqb (point_end lists 0) 0 && climbs (point_count lists) (point_end lists) ≡ true
  unfolding point_ends
  points_climb =
      let count : point_count lists ≡ points_in S i = points_back S i order n I.rule.kind I.rule.weights (order_full I R i) in
      let end : (k : ℕ) → k ≤ points_in S i → point_end lists k ≡ total 1 k (λ j. length (around_of S i j)) =
      point_ends_back S i order n I.rule.kind I.rule.weights (order_full I R i) in
      and_intro (eqb (point_end lists 0) 0) (climbs (point_count lists) (point_end lists))
      (eq-eqb _ _ (end 0 (omega arith) ∙ total_start 1 (λ j. length (around_of S i j))))
      (climbs_intro (point_count lists) (point_end lists)
      (λ j h.
      omega (
        arith,
        end j (omega (arith, count)),
        end (j + 1) (omega (arith, count)),
        total_turn 1 (λ j. length (around_of S i j)) j,
        point_some S i (1 + j) (omega arith) (omega (arith, count)),
      )))

  cell_held : (k : ℕ) → 1 ≤ k → k ≤ points_in S i → All (λ l. l ≤ length order) (around_words S i order k)
  unfolding around_words
  cell_held k h q =
      cond_has (All (λ l. l ≤ length order)) (bad29 S i) (replicate (length (around_of S i k)) 0) (map (local_of order) (reverse (around_of S i k)))
      (λ e. All_intro (λ l. l ≤ length order) (replicate (length (around_of S i k)) 0) 0 (λ t l. omega (arith, zeros_at (length (around_of S i k)) t)))
      (λ e.
      All_of_map (λ l. l ≤ length order) (local_of order) (reverse (around_of S i k))
      (All_map (reverse (around_of S i k)) (λ x a. (local_back S i x a).1) (around_at e k h q)))

  pub point_cells_valid : every 0 (point_cells lists) (valid_point_cell lists) ≡ true
  point_cells_valid =
      let xs : List ℕ = blocks 1 (points_in S i) (around_words S i order) in
      let a : All (λ l. l ≤ length order) (blocks 1 (points_in S i) (around_words S i order)) =
      blocks_all 1 (around_words S i order) (λ l. l ≤ length order) (points_in S i) (λ j h. cell_held (1 + j) (omega arith) (omega arith)) in
      every_intro 0 (valid_point_cell lists) (point_cells lists)
      (λ t h.
      let lt : t < length (blocks 1 (points_in S i) (around_words S i order)) =
      omega (
        arith,
        arounds_length S i order n I.rule.kind I.rule.weights (points_in S i),
        point_cells_back S i order n I.rule.kind I.rule.weights (order_full I R i),
      ) in
      let e : point_cell_at lists (0 + t) ≡ get_or (blocks 1 (points_in S i) (around_words S i order)) t 0 =
      ap (point_cell_at lists) (zero-add t) ∙ around_word S i order n I.rule.kind I.rule.weights (order_full I R i) t lt in
      le-leb (point_cell_at lists (0 + t)) (held_count lists)
      (omega (arith, All_get_or (λ l. l ≤ length order) xs t 0 a lt, held_back S i order n I.rule.kind I.rule.weights (order_full I R i))))

  -- ---- the cells at a point, by their local numbers and back

  cells_held : bad29 S i ≡ false → (k : ℕ) → 1 ≤ k → k ≤ points_in S i → All (λ l. (1 ≤ l) × (l ≤ L.held)) (L.around k)
  cells_held e k h q =
      subst (All (λ l. (1 ≤ l) × (l ≤ L.held))) (sym (around_read e k h q))
      (All_of_map (λ l. (1 ≤ l) × (l ≤ L.held)) (local_of order) (reverse (around_of S i k))
      (All_map (reverse (around_of S i k)) (λ x a. let b = local_back S i x a in (b.0, omega (arith, b.1, lists_held I R i))) (around_at e k h q)))

  cells_are : bad29 S i ≡ false → (k : ℕ) → 1 ≤ k → k ≤ points_in S i → map L.global (L.around k) ≡ reverse (around_of S i k)
  cells_are e k h q =
      let ys : List ℕ = reverse (around_of S i k) in
      ap (map L.global) (around_read e k h q)
      ∙ map_map L.global (local_of order) ys
      ∙ map_cong (λ x. L.global (local_of order x)) (λ x. x) ys
      (All_map ys (λ x a. let b = local_back S i x a in lists_global I R i (local_of order x) b.0 b.1 ∙ b.2) (around_at e k h q))
      ∙ map_id ys

pub pointed : (I : Inputs) (R : Ready I) → Pointed (scheme_in I) I.split.parts (points_of (split_in I.split)) (λ i. lists_in (front_in I i))
unfolding scheme_of split_of
pointed I R = record {
  points_are = λ i p. lists_points I R i;
  point_is = λ i p. lists_point I R i;
  around_held = λ i p e. cells_held I R i (sym (outside_is I R i) ∙ e);
  around_is = λ i p e. cells_are I R i (sym (outside_is I R i) ∙ e);
}
