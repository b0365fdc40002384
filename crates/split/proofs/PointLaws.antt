-- Laws of the points of a part (F-1): each of them has a cell, where 29 does not hold all cells at it are held, and points and the cells at
-- them are few. Assumes nothing.
use Rattle.std.specs.Prelude.{◌≡◌, true}
use Rattle.std.proofs.Math.Path.{refl, ap, subst}
use Rattle.std.proofs.Common.{sym, ◌∙◌}
use Rattle.std.proofs.Math.Bool.{false, not, cond}
use Prim.Native.Nat.{ℕ, ◌+◌, ◌-◌, ◌<◌, ◌≤◌}
use native.Mathlib.Omega.{arith}
use Rattle.std.proofs.Math.ListN.{length, get_or}
use Rattle.std.proofs.lemmas.Bool.{not-false}
use Rattle.vocabulary.specs.Bytes.{Bytes}
use Rattle.vocabulary.specs.Lists.{is_in, some_of, All}
use Rattle.vocabulary.proofs.ListLaws.{At, at_is_in, is_in_at, All_map, All_both, All_get_or, some_of_has, some_of_false, some_of_witness}
use Rattle.vocabulary.specs.Intervals.{total}
use Rattle.vocabulary.proofs.IntervalLaws.{picked_all, picked_in, picked_passes, picked_length_le, total_cong, total_mono}
use Rattle.vocabulary.proofs.CountLaws.{total_swap, picked_count, counted_once, picked_total}
use Rattle.layout.specs.Limits.{most_elements, most_records}
use Rattle.mesh.specs.Mesh.{counted, below, first_cell, cell_count, chain}
use Rattle.mesh.specs.Walks.{incident, cells_at}
use Rattle.mesh.proofs.WalkLaws.{below_grows, chains_few, point_incident}
use Rattle.mesh.specs.Accepted.{Accepted}
use Rattle.split.specs.Split.{Split, split_of, owns, owned, reaches, holds, touches, locals, points_of, cell_points, bad29}
use Rattle.split.proofs.SplitLaws.{SplitCell, held_has}

-- ---- the points of a part

module _ (S : Split) where
  -- a point that touches a part has a cell
  pub touched_some : (p i : ℕ) → touches S p i ≡ true → 0 < length (S.around p)
  unfolding touches
  touched_some p i e = let w = some_of_witness (owns S i) (S.around p) 0 e in omega (arith, w.1)

  pub point_touches : (i p : ℕ) → At p (points_of S i) → (1 ≤ p) × (p ≤ S.points) × (touches S p i ≡ true)
  unfolding points_of
  point_touches i p a = let w = picked_passes 1 (λ p. touches S p i) S.points p a in (w.0, omega (arith, w.1), w.2)

  -- the k-th point
  pub point_at : (i k : ℕ) → 1 ≤ k → k ≤ length (points_of S i) → At (get_or (points_of S i) (k - 1) 0) (points_of S i)
  point_at i k h q = record { place = k - 1; place_lt = omega arith; place_is = refl }

  pub point_some : (i k : ℕ) → 1 ≤ k → k ≤ length (points_of S i) → 0 < length (S.around (get_or (points_of S i) (k - 1) 0))
  point_some i k h q = touched_some _ i (point_touches i _ (point_at i k h q)).2

  -- where the cells at an element are cells
  module _ (around_in : (e : ℕ) → All (SplitCell S) (S.around e)) where
    -- an owned cell at a point that touches the part, and the point among that cell's
    point_owner : (i p : ℕ) → At p (points_of S i) → (c : ℕ) × At c (owned S i) × At p (cell_points S c)
    unfolding touches owned cell_points
    point_owner i p a =
        let t = point_touches i p a in
        let w = some_of_witness (owns S i) (S.around p) 0 t.2 in
        let c : ℕ = get_or (S.around p) w.0 0 in
        let h = All_get_or (SplitCell S) (S.around p) w.0 0 (around_in p) w.1 in (
          get_or (S.around p) w.0 0,
          picked_in S.first (owns S i) S.cells c h.0 h.1 w.2,
          picked_in 1 (λ p. is_in c (S.around p)) S.points p t.0 (omega (arith, t.1))
              (at_is_in c (S.around p) (record { place = w.0; place_lt = w.1; place_is = refl })),
        )

    -- where 29 does not hold, every cell at a point of the part is held
    pub point_holds : (i p : ℕ) → bad29 S i ≡ false → At p (points_of S i) → All (λ x. holds S i x ≡ true) (S.around p)
    unfolding bad29 holds
    point_holds i p e a =
        let w = point_owner i p a in
        let c : ℕ = w.0 in
        let o : At c (owned S i) = w.1 in
        let q : At p (cell_points S c) = w.2 in
        let f = All_get_or (λ c. some_of (cell_points S c) (λ p. some_of (S.around p) (λ x. not (reaches S c x))) ≡ false) (owned S i) o.place 0
        (some_of_false (λ c. some_of (cell_points S c) (λ p. some_of (S.around p) (λ x. not (reaches S c x)))) (owned S i) e) o.place_lt in
        let g : some_of (cell_points S c) (λ p. some_of (S.around p) (λ x. not (reaches S c x))) ≡ false =
        subst (λ z. some_of (cell_points S z) (λ p. some_of (S.around p) (λ x. not (reaches S z x))) ≡ false) o.place_is f in
        let h = All_get_or (λ p. some_of (S.around p) (λ x. not (reaches S c x)) ≡ false) (cell_points S c) q.place 0
        (some_of_false (λ p. some_of (S.around p) (λ x. not (reaches S c x))) (cell_points S c) g) q.place_lt in
        let k : some_of (S.around p) (λ x. not (reaches S c x)) ≡ false = subst (λ z. some_of (S.around z) (λ x. not (reaches S c x)) ≡ false) q.place_is h in
        All_map (S.around p)
        (λ x r. some_of_has (λ o. reaches S o x) (owned S i) 0 o.place o.place_lt (subst (λ z. reaches S z x ≡ true) (sym o.place_is) (not-false (reaches S c x) r)))
        (some_of_false (λ x. not (reaches S c x)) (S.around p) k)

    -- so it has a local number
    pub point_held : ((c : ℕ) → SplitCell S c → All (λ e. SplitCell S e.cell) (S.reach c)) → ((c : ℕ) → SplitCell S c → (1 ≤ S.owner c) × (S.owner c ≤ S.parts))
        → (i p : ℕ) → bad29 S i ≡ false → At p (points_of S i) → All (λ x. At x (locals S i)) (S.around p)
    point_held reach_in owner_in i p e a =
        All_map (S.around p) (λ x h. held_has S reach_in owner_in i x h.0 h.1)
        (All_both (SplitCell S) (λ x. holds S i x ≡ true) (S.around p) (around_in p) (point_holds i p e a))

  -- where 29 holds, there is a point
  pub outside_point : (i : ℕ) → bad29 S i ≡ true → (p : ℕ) × At p (points_of S i)
  unfolding bad29 owned cell_points points_of touches
  outside_point i e =
      let w = some_of_witness (λ c. some_of (cell_points S c) (λ p. some_of (S.around p) (λ x. not (reaches S c x)))) (owned S i) 0 e in
      let c : ℕ = get_or (owned S i) w.0 0 in
      let o = picked_passes S.first (owns S i) S.cells c (record { place = w.0; place_lt = w.1; place_is = refl }) in
      let v = some_of_witness (λ p. some_of (S.around p) (λ x. not (reaches S c x))) (cell_points S c) 0 w.2 in
      let p : ℕ = get_or (cell_points S c) v.0 0 in
      let q = picked_passes 1 (λ p. is_in c (S.around p)) S.points p (record { place = v.0; place_lt = v.1; place_is = refl }) in
      let a = is_in_at c (S.around p) q.2 in (
        get_or (cell_points S c) v.0 0,
        picked_in 1 (λ p. some_of (S.around p) (owns S i)) S.points p q.0 q.1
            (some_of_has (owns S i) (S.around p) 0 a.place a.place_lt (subst (λ z. owns S i z ≡ true) (sym a.place_is) o.2)),
      )

-- ---- the points of a mesh

-- the cells at an element are cells
pub split_around : (m : Bytes) (parts : ℕ) (owners st : Bytes) (e : ℕ) → All (SplitCell (split_of m parts owners st)) ((split_of m parts owners st).around e)
unfolding split_of cells_at
split_around m parts owners st e =
    picked_all (first_cell m) (incident m e) (λ c. (first_cell m ≤ c) × (c < first_cell m + cell_count m)) (cell_count m) (λ i h q. (omega arith, omega arith))

module _ (m : Bytes) (A : Accepted m) where
  -- every pair of a point and a cell at it is an entry of the cell's chain
  pairs_few : total 1 (counted m 0) (λ p. length (cells_at m p)) ≤ most_records
  unfolding cells_at
  pairs_few =
      let a : total 1 (counted m 0) (λ p. length (cells_at m p)) ≡ total 1 (counted m 0) (λ p. total (first_cell m) (cell_count m) (λ c. cond (is_in p (chain m c)) 1 0)) =
      total_cong 1 (λ p. length (cells_at m p)) (λ p. total (first_cell m) (cell_count m) (λ c. cond (is_in p (chain m c)) 1 0)) (counted m 0)
      (λ i h.
      picked_count (first_cell m) (cell_count m) (incident m (1 + i))
      ∙ total_cong (first_cell m) (λ c. cond (incident m (1 + i) c) 1 0) (λ c. cond (is_in (1 + i) (chain m c)) 1 0) (cell_count m)
      (λ j k. ap (λ t. cond t 1 0) (point_incident m A (1 + i) (first_cell m + j) (omega arith) (omega arith)))) in
      omega (
        arith,
        a,
        total_swap 1 (counted m 0) (first_cell m) (cell_count m) (λ p c. cond (is_in p (chain m c)) 1 0),
        total_mono (first_cell m) (λ c. total 1 (counted m 0) (λ p. cond (is_in p (chain m c)) 1 0)) (λ c. length (chain m c)) (cell_count m)
            (λ j k. counted_once 1 (counted m 0) (chain m (first_cell m + j))),
        chains_few m A,
      )

  module _ (parts : ℕ) (owners st : Bytes) (i : ℕ) where
    pub points_few : length (points_of (split_of m parts owners st) i) ≤ most_elements
    unfolding points_of split_of below
    points_few =
        omega (arith, picked_length_le 1 (λ p. touches (split_of m parts owners st) p i) (counted m 0), below_grows m 1 4 (omega arith), A.sizes.n_high)

    pub point_cells_few : total 1 (length (points_of (split_of m parts owners st) i))
        (λ k. length ((split_of m parts owners st).around (get_or (points_of (split_of m parts owners st) i) (k - 1) 0))) ≤ most_records
    unfolding points_of split_of
    point_cells_few = omega (arith, picked_total 1 (λ p. touches (split_of m parts owners st) p i) (λ p. length (cells_at m p)) (counted m 0), pairs_few)
