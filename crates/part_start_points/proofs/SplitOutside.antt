-- What the stamps tell of a part is 29. Assumes nothing.
use mathlib.Core.Path.{◌≡◌, refl, sym, ap, ap₂, ◌∙◌, subst}
use mathlib.Core.Bool.{Bool, true, not, ◌&&◌, ◌||◌}
use mathlib.Core.List.{List}
use Prim.Native.Nat.{ℕ, ◌+◌, ◌-◌, ◌≤◌, ◌<◌}
use native.Mathlib.Omega.{arith}
use lib.Dec.{leb}
use lib.ListN.{get_or}
use borrow.Author.Tests.{le-leb, leb-true, lt-ltb}
use Rattle.vocabulary.specs.Bytes.{Bytes}
use Rattle.vocabulary.specs.Lists.{is_in, some_of, All}
use Rattle.vocabulary.proofs.ListLaws.{and_true, and_intro, or_left, or_nothing, same_test, at_is_in, is_in_at, All_map, All_get_or, some_of_has, some_of_witness, some_of_cong}
use Rattle.vocabulary.specs.Intervals.{picked, some}
use Rattle.vocabulary.proofs.IntervalLaws.{picked_all, picked_in, picked_passes, some_cong}
use Rattle.layout.specs.Limits.{most_elements}
use Rattle.mesh.specs.Mesh.{counted, first_cell, cell_count, chain}
use Rattle.mesh.specs.Walks.{incident, cells_at}
use Rattle.mesh.specs.Accepted.{Element}
use Rattle.walk_incidence.specs.declared.inner.Incidence.{Incidence}
use Rattle.walk_incidence.specs.Links.{Inverted}
use Rattle.split.specs.Split.{Split, split_of, owns, owned, reaches, cell_points, bad29}
use Rattle.split.specs.Owners.{owns_at}
use Rattle.split_classes.specs.Classes.{reach_has, Prepared}
use Rattle.split_classes.proofs.GroupLaws.{some_of_picked}
use Rattle.split_classes.proofs.HoldLaws.{reach_told}
use Rattle.part_start_points.specs.Points.{cells_on}
use Rattle.part_start_points.specs.Outside.{stamped_at, outside_at, cell_outside, some_outside}
use Rattle.part_start_points.proofs.SplitPoints.{some_of_reverse, cells_are}

module _ (m : Bytes) (parts : ℕ) (owners st table : Bytes) (ends : List ℕ) (holders : Bytes) (R : Prepared m parts owners st table ends holders) (inc : Incidence)
    (G : Inverted m inc) where
  abbrev S : Split
  S = split_of m parts owners st

  -- the cells at a point are cells
  around_cells : (p : ℕ) → All (λ y. (first_cell m ≤ y) × (y < first_cell m + cell_count m)) (S.around p)
  unfolding cells_at split_of
  around_cells p = picked_all (first_cell m) (incident m p) (λ y. (first_cell m ≤ y) × (y < first_cell m + cell_count m)) (cell_count m) (λ k h t. (omega arith, omega arith))

  -- of cell c, at place q
  module _ (q : ℕ) (h : q < cell_count m) where
    abbrev c : ℕ
    c = first_cell m + q

    -- some cell at point p is outside the reach of c
    abbrev beyond : ℕ → Bool
    beyond p = some_of (S.around p) (λ x. not (reaches S c x))

    reach_is : (y : ℕ) → first_cell m ≤ y → y < first_cell m + cell_count m → stamped_at table ends q (y - first_cell m) ≡ reaches S c y
    unfolding stamped_at
    reach_is y low high =
        let z : first_cell m + (y - first_cell m) ≡ y = omega arith in
        ap (λ b. b && reach_has table ends q (y - first_cell m)) (lt-ltb (y - first_cell m) most_elements (omega (arith, R.mesh.cells_in, R.mesh.sizes.n_high)))
        ∙ reach_told m parts owners st table ends R.ended R.entries q (y - first_cell m) h
        ∙ ap (reaches S c) z

    beyond_is : (p : ℕ) → 1 ≤ p → p ≤ counted m 0 → some_of (cells_on inc p) (λ y. not (stamped_at table ends q (y - first_cell m))) ≡ beyond p
    beyond_is p low high =
        ap (λ xs. some_of xs (λ y. not (stamped_at table ends q (y - first_cell m)))) (cells_are m parts owners st inc G p low high)
        ∙ some_of_reverse (λ y. not (stamped_at table ends q (y - first_cell m))) (S.around p)
        ∙ some_of_cong (λ y. not (stamped_at table ends q (y - first_cell m))) (λ x. not (reaches S c x)) (S.around p)
        (All_map (S.around p) (λ y w. ap not (reach_is y w.0 w.1)) (around_cells p))

    element : Element m c
    element = record { low = omega arith; high = omega (arith, R.mesh.cells_in) }

    -- a point stands in the chain of c if c is among the cells at it
    point_in : (p : ℕ) → 1 ≤ p → p ≤ counted m 0 → is_in c (S.around p) ≡ true → is_in p (chain m c) ≡ true
    unfolding cells_at split_of incident is_in
    point_in p low high e =
        let w = picked_passes (first_cell m) (incident m p) (cell_count m) c (is_in_at c (cells_at m p) e) in
        sym (or_nothing (is_in p (chain m c))) ∙ ap (λ xs. is_in p (chain m c) || is_in c xs) (sym (R.mesh.point_bare p low high)) ∙ w.2

    in_point : (p : ℕ) → is_in p (chain m c) ≡ true → is_in c (S.around p) ≡ true
    unfolding cells_at split_of incident
    in_point p e =
        at_is_in c (cells_at m p) (picked_in (first_cell m) (incident m p) (cell_count m) c (omega arith) (omega arith) (or_left (is_in p (chain m c)) (is_in c (chain m p)) e))

    outside_is : some_of (chain m c) (outside_at inc table ends (first_cell m) (counted m 0) q) ≡ some_of (cell_points S c) beyond
    unfolding outside_at cell_points
    outside_is = same_test _ _ there back
      where
        there : some_of (chain m c) (outside_at inc table ends (first_cell m) (counted m 0) q) ≡ true → some_of (cell_points S c) beyond ≡ true
        there e =
            let w = some_of_witness (outside_at inc table ends (first_cell m) (counted m 0) q) (chain m c) 0 e in
            let g : ℕ = get_or (chain m c) w.0 0 in
            let u = and_true (leb g (counted m 0)) (some_of (cells_on inc g) (λ y. not (stamped_at table ends q (y - first_cell m)))) w.2 in
            let low : 1 ≤ g = (All_get_or _ (chain m c) w.0 0 (R.mesh.chain_lower c element) w.1).0 in
            let high : g ≤ counted m 0 = leb-true g (counted m 0) u.0 in
            let a : is_in g (chain m c) ≡ true = at_is_in g (chain m c) (record { place = w.0; place_lt = w.1; place_is = refl }) in
            let k = picked_in 1 (λ p. is_in c (S.around p)) S.points g low (points_up g high) (in_point g a) in
            some_of_has beyond (cell_points S c) 0 k.place k.place_lt (subst (λ p. beyond p ≡ true) (sym k.place_is) (sym (beyond_is g low high) ∙ u.1))
          where
            points_up : (g : ℕ) → g ≤ counted m 0 → g < 1 + S.points
            points_up g h = unfold split_of in omega arith

        back : some_of (cell_points S c) beyond ≡ true → some_of (chain m c) (outside_at inc table ends (first_cell m) (counted m 0) q) ≡ true
        back e =
            let w = some_of_witness beyond (cell_points S c) 0 e in
            let p : ℕ = get_or (cell_points S c) w.0 0 in
            let t = picked_passes 1 (λ p. is_in c (S.around p)) S.points p (record { place = w.0; place_lt = w.1; place_is = refl }) in
            let high : p ≤ counted m 0 = points_low p t.1 in
            let a = is_in_at p (chain m c) (point_in p t.0 high t.2) in
            some_of_has (outside_at inc table ends (first_cell m) (counted m 0) q) (chain m c) 0 a.place a.place_lt
            (subst (λ g. outside_at inc table ends (first_cell m) (counted m 0) q g ≡ true) (sym a.place_is)
            (and_intro (leb p (counted m 0)) (some_of (cells_on inc p) (λ y. not (stamped_at table ends q (y - first_cell m)))) (le-leb p (counted m 0) high) (beyond_is p t.0 high ∙ w.2)))
          where
            points_low : (p : ℕ) → p < 1 + S.points → p ≤ counted m 0
            points_low p h = unfold split_of in omega arith

  pub outside_told : (first n cells i : ℕ) → first ≡ first_cell m → n ≡ counted m 0 → cells ≡ cell_count m
      → some_outside m inc owners table ends first n i cells ≡ bad29 S i
  unfolding some_outside cell_outside bad29 owned
  outside_told first n cells i fe ne ce =
      (λ x. some (fe x) (ce x) (λ c. owns_at owners i (c - fe x) && some_of (chain m c) (outside_at inc table ends (fe x) (ne x) (c - fe x))))
      ∙ some_cong (first_cell m) _ (λ c. owns S i c && some_of (cell_points S c) (λ p. some_of (S.around p) (λ x. not (reaches S c x)))) (cell_count m) each
      ∙ sym (some_of_picked (first_cell m) (cell_count m) (owns S i) (λ c. some_of (cell_points S c) (λ p. some_of (S.around p) (λ x. not (reaches S c x)))))
      ∙ whole
    where
      each : (q : ℕ) → q < cell_count m
          → owns_at owners i (first_cell m + q - first_cell m)
          && some_of (chain m (first_cell m + q)) (outside_at inc table ends (first_cell m) (counted m 0) (first_cell m + q - first_cell m))
          ≡ owns S i (first_cell m + q) && some_of (cell_points S (first_cell m + q)) (λ p. some_of (S.around p) (λ x. not (reaches S (first_cell m + q) x)))
      each q h =
          let z : first_cell m + q - first_cell m ≡ q = omega arith in
          ap₂ (λ a b. a && b) mine (ap (λ k. some_of (chain m (first_cell m + q)) (outside_at inc table ends (first_cell m) (counted m 0) k)) z ∙ outside_is q h)
        where
          mine : owns_at owners i (first_cell m + q - first_cell m) ≡ owns S i (first_cell m + q)
          mine = unfold owns_at owns split_of in refl

      whole : some_of (picked (first_cell m) (cell_count m) (owns S i)) (λ c. some_of (cell_points S c) (λ p. some_of (S.around p) (λ x. not (reaches S c x))))
          ≡ some_of (picked S.first S.cells (owns S i)) (λ c. some_of (cell_points S c) (λ p. some_of (S.around p) (λ x. not (reaches S c x))))
      whole = unfold split_of in refl
