-- Laws of reaches: they have each cell once and stay among the cells, a cell is in its own reach at layer 0, and layers are even; and of the chains of cells.
-- Assumes nothing.
use Rattle.std.specs.Prelude.{◌≡◌, Bool, true, cond, ◌||◌, eqb}
use Rattle.std.proofs.Math.Path.{refl, sym, ap, subst}
use Rattle.std.proofs.Common.{◌∙◌, ⊎_elim, add-zero}
use Rattle.std.proofs.Math.Bool.{false, not}
use mathlib.Core.List.{List, map}
use Prim.Native.Nat.{ℕ, zero, suc, ◌+◌, ◌-◌, ◌%◌, ◌<◌, ◌≤◌}
use native.Mathlib.Omega.{arith}
use Rattle.std.proofs.Math.Dec.{ltb}
use Rattle.std.proofs.Math.ListN.{length, get_or, length-map}
use borrow.Author.Tests.{eqb-true, eq-eqb, ne_eqb, ltb-true, ltb-false, lt-ltb, not-false}
use Rattle.vocabulary.specs.Bytes.{Bytes, byte_at}
use Rattle.vocabulary.specs.Lists.{is_in, some_of, All, Rises}
use Rattle.vocabulary.proofs.ListLaws.{or_left, or_nothing, or_false, is_in_at, At, All_of_map, get_or_map_any, map_map, map_id}
use Rattle.vocabulary.specs.Intervals.{picked, every, blocks, total}
use Rattle.vocabulary.proofs.IntervalLaws.{last_or, every_in, picked_passes, picked_all, picked_at, picked_in, picked_rises, blocks_length, blocks_inner, total_cong}
use Rattle.layout.specs.Limits.{most_records, most_steps, stencil_bytes}
use Rattle.mesh.specs.Mesh.{top, counted, below, elements, first_cell, cell_count, element_in, records, chain, all_records}
use Rattle.mesh.specs.Walks.{Near, incident, reach, layer, steps, valid_at, bad10, step_to, steps_to, walked}
use Rattle.mesh.specs.Accepted.{Accepted}

module _ (m st : Bytes) (c : ℕ) where
  abbrev near : ℕ → Near
  near x = record { cell = x; layer = layer m st c x }

  abbrev met : ℕ → Bool
  met x = ltb 0 (length (steps_to m st c x))

  -- "A cell counts once, whatever the number of walks": the cells of a reach rise
  pub reach_rises : Rises (map (λ e. e.cell) (reach m st c))
  unfolding reach
  reach_rises =
      let xs : List ℕ = picked (first_cell m) (cell_count m) met in
      subst Rises (sym (map_map (λ e. e.cell) near xs ∙ map_id xs)) (picked_rises (first_cell m) met (cell_count m))

  pub reach_in : All (λ e. (first_cell m ≤ e.cell) × (e.cell < first_cell m + cell_count m)) (reach m st c)
  unfolding reach
  reach_in =
      All_of_map (λ e. (first_cell m ≤ e.cell) × (e.cell < first_cell m + cell_count m)) near (picked (first_cell m) (cell_count m) met)
      (picked_all (first_cell m) met (λ x. (first_cell m ≤ x) × (x < first_cell m + cell_count m)) (cell_count m) (λ i h e. (omega arith, omega arith)))

  -- no step leads a cell to itself
  own_steps : At 0 (steps_to m st c c)
  unfolding steps_to walked is_in
  own_steps =
      subst (λ k. At k (picked 0 (steps st + 1) (λ k. is_in c (walked m st c k)))) (add-zero 0)
      (picked_at 0 (λ k. is_in c (walked m st c k)) (steps st + 1) 0 (omega arith) (or_left (eqb c c) false (eq-eqb c c refl)))

  own_layer : layer m st c c ≡ 0
  unfolding layer steps_to
  own_layer = go own_steps.place own_steps.place_lt own_steps.place_is
    where
      go : (t : ℕ) → t < length (steps_to m st c c) → get_or (steps_to m st c c) t 0 ≡ 0 → get_or (steps_to m st c c) 0 0 ≡ 0
      go zero h e = e
      go (suc t) h e =
          let r : get_or (steps_to m st c c) 0 0 < get_or (steps_to m st c c) (suc t) 0 = picked_rises 0 (λ k. is_in c (walked m st c k)) (steps st + 1) 0 (suc t) (omega arith) h in
          omega arith

  pub reach_own : first_cell m ≤ c → c < first_cell m + cell_count m
      → (t : ℕ) × (t < length (reach m st c)) × (get_or (reach m st c) t (record { cell = 0; layer = 0 }) ≡ record { cell = c; layer = 0 })
  unfolding reach
  reach_own h k =
      let xs : List ℕ = picked (first_cell m) (cell_count m) met in
      let a = picked_in (first_cell m) met (cell_count m) c h k (lt-ltb 0 (length (steps_to m st c c)) (omega (arith, own_steps.place_lt))) in (
        a.place,
        omega (arith, a.place_lt, length-map xs near),
        get_or_map_any near xs a.place 0 (record { cell = 0; layer = 0 }) a.place_lt
            ∙ ap near a.place_is
            ∙ ap (λ l. record { cell = c; layer = l }) own_layer,
      )

-- ---- layers

-- the numbers of a dimension come after those of all lower ones
pub below_grows : (m : Bytes) (j k : ℕ) → j ≤ k → below m j ≤ below m k
unfolding below
below_grows m j zero h = let e : j ≡ 0 = omega arith in subst (λ x. below m j ≤ below m x) e (omega arith)
below_grows m j (suc k) h =
    ⊎_elim (λ l. omega (arith, below_grows m j k (omega arith))) (λ e. subst (λ x. below m j ≤ below m x) e (omega arith)) (last_or j (suc k) (omega arith))

-- ---- cells and points of an accepted mesh

module _ (m : Bytes) (A : Accepted m) where
  -- the chains of all cells have no more entries than there are records
  pub chains_few : total (first_cell m) (cell_count m) (λ c. length (chain m c)) ≤ most_records
  unfolding all_records chain
  chains_few =
      let q : 1 + (first_cell m - 1) ≡ first_cell m = omega arith in
      let a : length (blocks (1 + (first_cell m - 1)) (cell_count m) (records m)) ≤ length (all_records m) =
      blocks_inner 1 (records m) (first_cell m - 1) (cell_count m) (elements m) (omega (arith, A.cells_in)) in
      let b : total (first_cell m) (cell_count m) (λ c. length (chain m c)) ≡ length (blocks (first_cell m) (cell_count m) (records m)) =
      total_cong (first_cell m) (λ c. length (chain m c)) (λ c. length (records m c)) (cell_count m) (λ j k. length-map (records m (first_cell m + j)) (element_in m))
      ∙ sym (blocks_length (first_cell m) (records m) (cell_count m)) in
      let f : length (blocks (1 + (first_cell m - 1)) (cell_count m) (records m)) ≡ length (blocks (first_cell m) (cell_count m) (records m)) =
      ap (λ x. length (blocks x (cell_count m) (records m))) q in
      omega (arith, A.records_few, A.sizes.r_high)

  -- a point's chain is empty, so it is incident to the cells in whose chain it stands
  pub point_incident : (p c : ℕ) → 1 ≤ p → p ≤ counted m 0 → incident m p c ≡ is_in p (chain m c)
  unfolding incident is_in
  point_incident p c h k = ap (λ xs. is_in p (chain m c) || is_in c xs) (A.point_bare p h k) ∙ or_nothing (is_in p (chain m c))

-- ---- stencils

-- an accepted stencil
module _ (d : ℕ) (st : Bytes) (good : bad10 d st ≡ false) where
  pub stencil_parts : (length st % 2 ≡ 1) × (length st ≤ stencil_bytes) × (every 0 (length st) (valid_at d st) ≡ true)
  unfolding bad10
  stencil_parts =
      let a = not (eqb (length st % 2) 1) in
      let b = ltb stencil_bytes (length st) in
      let c = not (every 0 (length st) (valid_at d st)) in
      let p = or_false (a || b) c good in
      let q = or_false a b p.0 in
      (eqb-true _ _ (not-false _ q.0), ltb-false _ _ q.1, not-false _ p.1)

  pub steps_even : steps st % 2 ≡ 0
  unfolding steps
  steps_even = omega (arith, stencil_parts.0)

  pub within : (k : ℕ) → k ≤ steps st → k < length st
  unfolding steps
  within k h = omega (arith, stencil_parts.0)

  pub steps_few : steps st ≤ most_steps
  unfolding steps
  steps_few = omega (arith, stencil_parts.1)

  place : (k : ℕ) → k < length st → cond (eqb (k % 2) 0) (eqb (byte_at st k) d) (ltb (byte_at st k) d) ≡ true
  unfolding valid_at
  place k h = every_in 0 (valid_at d st) (length st) k stencil_parts.2 (omega arith) (omega arith)

  -- an odd place has a lower dimension, an even one that of the cells
  pub stencil_odd : (k : ℕ) → k < length st → k % 2 ≡ 1 → byte_at st k < d
  stencil_odd k h o = ltb-true (byte_at st k) d (rw (ne_eqb (k % 2) 0 (omega arith)) at (place k h))

  pub stencil_even : (k : ℕ) → k < length st → (k % 2 ≡ 1 → ⊥) → byte_at st k ≡ d
  stencil_even k h o = eqb-true (byte_at st k) d (rw (eq-eqb (k % 2) 0 (omega arith)) at (place k h))

module _ (m st : Bytes) (c : ℕ) (good : bad10 (top m) st ≡ false) where
  -- a cell is walked to in an even number of steps
  walked_even : (x k : ℕ) → first_cell m ≤ x → k ≤ steps st → is_in x (walked m st c k) ≡ true → k % 2 ≡ 0
  unfolding walked step_to below
  walked_even x zero h q e = refl
  walked_even x (suc k) h q e = go (suc k % 2) refl (omega arith)
    where
      low : suc k % 2 ≡ 1 → ⊥
      low o =
          let a : ℕ = byte_at st (suc k) in
          let t = picked_passes (below m (byte_at st (suc k)) + 1) (λ y. some_of (walked m st c k) (λ e. incident m e y)) (counted m (byte_at st (suc k))) x (is_in_at x (walked m st c (suc k)) e) in
          let s : byte_at st (suc k) < top m = stencil_odd (top m) st good (suc k) (within (top m) st good (suc k) q) o in
          let g : below m (suc (byte_at st (suc k))) ≤ below m (top m) = below_grows m (suc (byte_at st (suc k))) (top m) (omega arith) in
          omega (arith, t.1)

      go : (r : ℕ) → suc k % 2 ≡ r → r < 2 → suc k % 2 ≡ 0
      go zero p l = p
      go (suc r) p l = let o : suc k % 2 ≡ 1 = omega arith in absurd (low o)

  pub reach_layers : All (λ e. (e.layer % 2 ≡ 0) × (e.layer ≤ steps st)) (reach m st c)
  unfolding reach layer steps_to
  reach_layers =
      All_of_map (λ e. (e.layer % 2 ≡ 0) × (e.layer ≤ steps st)) (near m st c) (picked (first_cell m) (cell_count m) (met m st c))
      (picked_all (first_cell m) (met m st c) (λ x. (layer m st c x % 2 ≡ 0) × (layer m st c x ≤ steps st)) (cell_count m)
      (λ i h e.
      let x : ℕ = first_cell m + i in
      let l : 0 < length (steps_to m st c (first_cell m + i)) = ltb-true _ _ e in
      let t = picked_passes 0 (λ k. is_in x (walked m st c k)) (steps st + 1) (layer m st c x) (record { place = 0; place_lt = l; place_is = refl }) in
      let q : layer m st c x ≤ steps st = omega (arith, t.1) in
      (walked_even x (layer m st c x) (omega arith) q t.2, q)))
