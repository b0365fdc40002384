-- Start leaves a state, and so start and all accepted calls do. Assumes nothing.
use Rattle.std.specs.Prelude.{◌≡◌, refl, Bool, ◌&&◌, ◌||◌, eqb, take}
use Rattle.std.proofs.Math.Path.{sym, ap, ap₂, subst}
use Rattle.std.proofs.Common.{◌∙◌, subst₂, zero-add}
use Rattle.std.proofs.Math.Bool.{true, false, not}
use mathlib.Core.List.{List, map}
use Prim.Native.Nat.{ℕ, suc, ◌+◌, ◌-◌, ◌*◌, ◌%◌, ◌<◌, ◌≤◌}
use native.Mathlib.Omega.{arith}
use Rattle.std.proofs.Math.Dec.{leb, ltb}
use Rattle.std.proofs.Math.ListN.{length, get_or, length-map}
use borrow.Author.Tests.{eq-eqb, le-leb, ltb-false, lt-ltb}
use Rattle.vocabulary.specs.Bytes.{Bytes, byte_at}
use Rattle.vocabulary.specs.Lists.{All, some_of}
use Rattle.vocabulary.proofs.ListLaws.{and_intro, or_false, All_map, All_get_or, get_or_map_any, some_of_has, At, All_of_map}
use Rattle.vocabulary.specs.Intervals.{is_up_to, every, some, blocks, total}
use Rattle.vocabulary.proofs.IntervalLaws.{every_intro, picked_length_le, blocks_cases, blocks_all, blocks_length, total_start, total_turn, up_to_intro}
use Rattle.vocabulary.specs.Tests.{all_of}
use Rattle.vocabulary.proofs.TestLaws.{all_of_intro}
use Rattle.depths.specs.Depths.{four}
use Rattle.depths.proofs.DepthLaws.{value_four}
use Rattle.mesh.specs.Mesh.{top, below, elements, record_count, first_cell, cell_count, bad1, bad2, bad_count}
use Rattle.mesh.proofs.MeshLaws.{mesh_sized}
use Rattle.mesh.specs.Walks.{Near, steps}
use Rattle.mesh.proofs.WalkLaws.{reach_own, below_grows, steps_even, reach_layers}
use Rattle.round_rule.specs.Rules.{bad11}
use Rattle.round.specs.Rounds.{scheme_of, depth_in}
use Rattle.round.proofs.RoundLaws.{field_depth}
use Rattle.split.specs.Split.{Split, split_of, held, holds, imports, exports, locals, local_of, global_of}
use Rattle.split.proofs.SplitLaws.{SplitCell, split_own, order_cells, own_is, own_number, own_local, import_own, local_back, local_held, reach_held}
use Rattle.part_state.specs.State.{LocalNear, valid_near, part_number, step_count, rule_kind, weights, first_of_mesh, cells_of_mesh, import_end, owned_count}
use Rattle.part_state.specs.State.{held_count, export_end, export_count, global_at, reach_end, reach_count, entry_at, export_at, local_reach, lists_length}
use Rattle.part_state.specs.State.{rises, lists_tests, dynamic_tests, is_state, round_at, taken_place, written_place, state_length, depth_place, is_state_at}
use Rattle.part_state.proofs.StateLaws.{rises_intro, state_at}
use Rattle.part_start_plan.specs.Start.{owned_in, reach_of, import_ends, export_ends, reach_ends, export_words, lists_long, Inputs, start_number, start_state}
use Rattle.run_theorem.proofs.FormLaws.{front_length, part_back, steps_back, kind_back, first_back, cells_back, weights_back, import_back, export_back}
use Rattle.run_theorem.proofs.FormLaws.{owned_back, global_back, held_back, ends_back, count_back, entry_back, reach_back, export_word_lem, exports_length}
use Rattle.run_theorem.proofs.PointFormLaws.{points_back, point_cells_back}
use Rattle.run_theorem.proofs.PointStartLaws.{points_climb, point_cells_valid}
use Rattle.run_theorem.specs.Run.{StatesKept}
use Rattle.run_theorem.proofs.RunLaws.{Part}
use Rattle.run_theorem.proofs.StartLaws.{Ready, started_facts, front_in, reach_inside, owner_inside, order_full, state_of, state_dynamic, state_front}
use Rattle.run_theorem.proofs.StartLaws.{state_length_lem, state_flag, state_round, state_depth, start_is}
use Rattle.run_theorem.proofs.KeptLaws.{ValidFour, local_ranged, write_kept, take_kept, advance_kept}
use Rattle.split.specs.Lists.{split_in}
use Rattle.layout.specs.Limits.{last_round, most_elements, most_parts, most_records, most_steps}

-- an accepted mesh has few cells
cells_few : (m : Bytes) → bad1 m ≡ false → bad2 m ≡ false → cell_count m ≤ most_elements
unfolding bad1 bad2 below
cells_few m e f =
    let t : top m ≤ 3 = ltb-false 3 (top m) (or_false (ltb (length m) 12 || ltb (top m) 1) (ltb 3 (top m)) e).1 in
    let n : elements m ≤ most_elements =
    ltb-false most_elements (elements m)
    (or_false (some 0 4 (bad_count m)) (ltb most_elements (elements m)) (or_false (some 0 4 (bad_count m) || ltb most_elements (elements m)) (ltb most_records (record_count m)) f).0).1 in
    let g : below m (suc (top m)) ≤ below m 4 = below_grows m (suc (top m)) 4 (omega arith) in
    omega arith

-- the entry of the cell itself
abbrev own_entry : ℕ → LocalNear → Bool
own_entry l e = eqb e.local l && eqb e.layer 0

-- ends that grow by counts rise
ends_rise : (n own : ℕ) (e c : ℕ → ℕ) → ((j : ℕ) → j ≤ n → e j ≡ own + total 1 j c) → rises n e ≡ true
ends_rise n own e c f = rises_intro n e (λ j h. omega (arith, f j (omega arith), f (j + 1) (omega arith), total_turn 1 c j))

module _ (I : Inputs) (R : Ready I) (i : ℕ) (part : Part I.split.parts i) where
  abbrev S : Split
  S = split_in I.split

  abbrev order : List ℕ
  order = locals (split_in I.split) i

  abbrev n : ℕ
  n = steps I.split.stencil

  abbrev v : Bytes
  v = I.rule.weights

  abbrev k : ℕ
  k = I.rule.kind

  abbrev lists : Bytes
  lists = front_in I i

  held_is : held_count lists ≡ length order
  held_is = held_back S i order n k v (order_full I R i)

  owned_is : owned_count lists ≡ owned_in S i
  owned_is = owned_back S i order n k v

  order_few : length order ≤ most_elements
  unfolding held split_of
  order_few =
      omega (
        arith,
        local_held S (reach_inside I R) (owner_inside I R) (split_own I.split.mesh I.split.parts I.split.owners I.split.stencil) i,
        picked_length_le (first_cell I.split.mesh) (holds S i) (cell_count I.split.mesh),
        cells_few I.split.mesh (mesh_sized I.split.mesh R.mesh_good).0 (mesh_sized I.split.mesh R.mesh_good).1,
      )

  import_rises : rises most_parts (import_end lists) ≡ true
  unfolding import_ends
  import_rises = ends_rise most_parts (owned_in S i) (import_end lists) (λ k. length (imports S i k)) (import_back S i order n k v)

  export_rises : rises most_parts (export_end lists) ≡ true
  unfolding export_ends
  export_rises = ends_rise most_parts 0 (export_end lists) (λ k. length (exports S i k)) (λ j h. export_back S i order n k v j h ∙ sym (zero-add _))

  export_zero : export_end lists 0 ≡ 0
  unfolding export_ends
  export_zero = export_back S i order n k v 0 (omega arith) ∙ total_start 1 (λ k. length (exports S i k))

  reach_rises : rises (owned_count lists) (reach_end lists) ≡ true
  unfolding reach_ends
  reach_rises =
      ends_rise (owned_count lists) 0 (reach_end lists) (λ k. length (reach_of S i order k))
      (λ l h. ends_back S i order n k v (order_full I R i) l (omega (arith, owned_is)) ∙ sym (zero-add _))

  reach_zero : reach_end lists 0 ≡ 0
  unfolding reach_ends
  reach_zero = ends_back S i order n k v (order_full I R i) 0 (omega arith) ∙ total_start 1 (λ k. length (reach_of S i order k))

  globals_in : every 1 (held_count lists) (λ l. leb (first_of_mesh lists) (global_at lists l) && ltb (global_at lists l) (first_of_mesh lists + cells_of_mesh lists)) ≡ true
  unfolding global_of
  globals_in =
      every_intro 1 (λ l. leb (first_of_mesh lists) (global_at lists l) && ltb (global_at lists l) (first_of_mesh lists + cells_of_mesh lists)) (held_count lists)
      (λ j h.
      let z : 1 + j - 1 ≡ j = omega arith in
      let q : j < length order = omega (arith, held_is) in
      let c = All_get_or (λ c. SplitCell S c) order j 0 (order_cells S i) q in
      let e : global_at lists (1 + j) ≡ get_or order j 0 = global_back S i order n k v (1 + j) (omega arith) (omega arith) ∙ ap (λ x. get_or order x 0) z in
      let a = first_back S i order n k v in
      let b = cells_back S i order n k v in
      and_intro (leb (first_of_mesh lists) (global_at lists (1 + j))) (ltb (global_at lists (1 + j)) (first_of_mesh lists + cells_of_mesh lists))
      (le-leb (first_of_mesh lists) (global_at lists (1 + j)) (omega (arith, c.0)))
      (lt-ltb (global_at lists (1 + j)) (first_of_mesh lists + cells_of_mesh lists) (omega (arith, c.1))))

  -- the entries of the reaches
  module _ (l : ℕ) (h : 1 ≤ l) (q : l ≤ owned_in S i) where
    abbrev to_local_of : Near → LocalNear
    to_local_of e = record { local = local_of order e.cell; layer = e.layer }

    abbrev near : List Near
    near = reach_of S i order l

    near_layers : All (λ e. (e.layer % 2 ≡ 0) × (e.layer ≤ n)) near
    unfolding split_of
    near_layers = reach_layers I.split.mesh I.split.stencil (global_of order l) R.stencil_good

    near_fine : (t : ℕ) → t < length near → valid_near (held_count lists) (step_count lists) (to_local_of (get_or near t (record { cell = 0; layer = 0 }))) ≡ true
    near_fine t lt =
        let d : Near = record { cell = 0; layer = 0 } in
        let e : Near = get_or near t (record { cell = 0; layer = 0 }) in
        let o = own_is S i l h q in
        let a = All_get_or (λ e. At e.cell order) near t d (reach_held S (reach_inside I R) (owner_inside I R) i (global_of order l) o.0 o.1) lt in
        let b = local_back S i e.cell a in
        let y = All_get_or (λ e. (e.layer % 2 ≡ 0) × (e.layer ≤ n)) near t d near_layers lt in
        let p = is_up_to (held_count lists) (local_of order e.cell) in
        let r = eqb (e.layer % 2) 0 in
        let s = leb e.layer (step_count lists) in
        and_intro (p && r) s
        (and_intro p r (up_to_intro (held_count lists) (local_of order e.cell) b.0 (omega (arith, b.1, held_is))) (eq-eqb _ _ y.0))
        (le-leb e.layer (step_count lists) (omega (arith, y.1, steps_back S i order n k v)))

    near_own : some_of (local_reach lists l) (own_entry l) ≡ true
    unfolding split_of
    near_own =
        let d : Near = record { cell = 0; layer = 0 } in
        let c : ℕ = global_of order l in
        let o = own_is S i l h q in
        let t = reach_own I.split.mesh I.split.stencil (global_of order l) o.0.0 o.0.1 in
        let e : get_or (map to_local_of near) t.0 (to_local_of d) ≡ to_local_of (record { cell = global_of order l; layer = 0 }) =
        get_or_map_any to_local_of near t.0 d (to_local_of d) t.1 ∙ ap to_local_of t.2 in
        rw (reach_back S i order n k v (order_full I R i) l h q)
        (some_of_has (own_entry l) (map to_local_of near) (to_local_of d) t.0 (omega (arith, t.1, length-map near to_local_of))
        (ap (own_entry l) e ∙ and_intro (eqb (local_of order c) l) (eqb 0 0) (eq-eqb _ _ (own_number S i l h q)) refl))

  entries_fine : every 0 (reach_count lists) (λ t. valid_near (held_count lists) (step_count lists) (entry_at lists t)) ≡ true
  unfolding reach_ends
  entries_fine =
      every_intro 0 (λ t. valid_near (held_count lists) (step_count lists) (entry_at lists t)) (reach_count lists)
      (λ t h.
      let O : ℕ = owned_in S i in
      let g : ℕ → List Near = reach_of S i order in
      let c : reach_count lists ≡ total 1 (owned_in S i) (λ k. length (reach_of S i order k)) = count_back S i order n k v (order_full I R i) in
      let b = blocks_cases 1 g O t (omega (arith, blocks_length 1 g O)) in
      let l : ℕ = 1 + b.0 in
      let z : 1 + b.0 - 1 ≡ b.0 = omega arith in
      let q : 1 + b.0 ≤ owned_in S i = omega (arith, b.1) in
      let p : 0 + t ≡ reach_ends S i order (1 + b.0 - 1) + b.2.0 =
      omega (arith, b.2.2, blocks_length 1 g b.0, ap (λ x. total 1 x (λ k. length (reach_of S i order k))) z) in
      let e : entry_at lists (0 + t)
      ≡ record { local = local_of order (get_or (g l) b.2.0 (record { cell = 0; layer = 0 })).cell; layer = (get_or (g l) b.2.0 (record { cell = 0; layer = 0 })).layer } =
      ap (entry_at lists) p ∙ entry_back S i order n k v (order_full I R i) l (omega arith) q b.2.0 b.2.1 in
      ap (valid_near (held_count lists) (step_count lists)) e ∙ near_fine l (omega arith) q b.2.0 b.2.1)

  own_entries : every 1 (owned_count lists) (λ l. some_of (local_reach lists l) (own_entry l)) ≡ true
  own_entries =
      every_intro 1 (λ l. some_of (local_reach lists l) (own_entry l)) (owned_count lists) (λ j h. near_own (1 + j) (omega arith) (omega (arith, owned_is)))

  exports_own : every 0 (export_count lists) (λ t. is_up_to (owned_count lists) (export_at lists t)) ≡ true
  unfolding export_words exports local_of
  exports_own =
      let xs : List ℕ = blocks 1 most_parts (export_words S i order) in
      let a : All (λ l. (1 ≤ l) × (l ≤ owned_in S i)) (blocks 1 most_parts (export_words S i order)) =
      blocks_all 1 (export_words S i order) (λ l. (1 ≤ l) × (l ≤ owned_in S i)) most_parts
      (λ j h.
      All_of_map (λ l. (1 ≤ l) × (l ≤ owned_in S i)) (local_of order) (imports S (1 + j) i)
      (All_map (imports S (1 + j) i) (λ c p. (omega arith, (own_local S i c p).0)) (import_own S (1 + j) i))) in
      every_intro 0 (λ t. is_up_to (owned_count lists) (export_at lists t)) (export_count lists)
      (λ t h.
      let lt : t < length (blocks 1 most_parts (export_words S i order)) = omega (arith, exports_length S i order n k v most_parts, export_back S i order n k v most_parts (omega arith)) in
      let p = All_get_or (λ l. (1 ≤ l) × (l ≤ owned_in S i)) xs t 0 a lt in
      let e : export_at lists (0 + t) ≡ get_or (blocks 1 most_parts (export_words S i order)) t 0 =
      ap (export_at lists) (zero-add t) ∙ export_word_lem S i order n k v (order_full I R i) t lt in
      up_to_intro (owned_count lists) (export_at lists (0 + t)) (omega (arith, p.0)) (omega (arith, p.1, owned_is)))

  -- all tests of the lists
  lists_fine : all_of (lists_tests lists) ≡ true
  unfolding lists_tests
  lists_fine =
      let even : step_count lists % 2 ≡ 0 = ap (λ x. x % 2) (steps_back S i order n k v) ∙ steps_even (top I.split.mesh) I.split.stencil R.stencil_good in
      let rule : bad11 (rule_kind lists) (step_count lists) (weights lists) ≡ false =
      ap₂ (λ x y. bad11 x y (weights lists)) (kind_back S i order n k v) (steps_back S i order n k v)
      ∙ ap (bad11 I.rule.kind n) (weights_back S i order n k v R.rule R.short)
      ∙ R.rule in
      let few : held_count lists ≤ most_elements = omega (arith, held_is, order_few) in
      let short : step_count lists ≤ most_steps = omega (arith, steps_back S i order n k v, R.short) in
      let me : is_up_to most_parts (part_number lists) ≡ true =
      ap (is_up_to most_parts) (part_back S i order n k v) ∙ up_to_intro most_parts i part.0 (omega (arith, part.1, R.few_parts)) in
      all_of_intro (lists_tests lists) (
        me,
        (
          and_intro (eqb (step_count lists % 2) 0) (leb (step_count lists) most_steps) (eq-eqb _ _ even) (le-leb _ _ short),
          (
            ap not rule,
            (
              le-leb _ _ few,
              (
                import_rises,
                (
                  and_intro (eqb (export_end lists 0) 0) (rises most_parts (export_end lists)) (eq-eqb _ _ export_zero) export_rises,
                  (
                    and_intro (eqb (reach_end lists 0) 0) (rises (owned_count lists) (reach_end lists)) (eq-eqb _ _ reach_zero) reach_rises,
                    (globals_in, (entries_fine, (own_entries, (exports_own, (points_climb I R i, (point_cells_valid I R i, tt)))))),
                  ),
                ),
              ),
            ),
          ),
        ),
      )

  lists_long_lem : length lists ≡ lists_length lists
  unfolding lists_long
  lists_long_lem =
      let a : length lists ≡ 2 * lists_long S i order = front_length S i order n k v in
      let c : reach_count lists ≡ reach_ends S i order (owned_in S i) = count_back S i order n k v (order_full I R i) in
      let d : export_end lists most_parts ≡ export_ends S i order most_parts = export_back S i order n k v most_parts (omega arith) in
      omega (arith, held_is, owned_is, points_back S i order n k v (order_full I R i), point_cells_back S i order n k v (order_full I R i))

  -- all tests of what calls change
  module _ (tail : Bytes) where
    abbrev b : Bytes
    b = state_of I i tail

    state_long : state_length (length lists) (held_count lists) ≤ length b
    state_long = omega (arith, held_is, state_length_lem I i tail)

    zero_flag : (p : ℕ) → p < 2 * most_parts → (q : ℕ) → q ≡ length lists + (2 + p) → leb (byte_at b q) 1 ≡ true
    zero_flag p h q e = le-leb (byte_at b q) 1 (omega (arith, ap (λ x. byte_at b x) e ∙ state_flag I i tail p h))

    state_fine : (l : ℕ) → 1 ≤ l → l ≤ held_count lists → ValidFour (four b (depth_place (length lists) l))
    unfolding depth_in scheme_of
    state_fine l h q =
        subst ValidFour (sym (state_depth I i tail l h (omega (arith, held_is))))
        (rw value_four (field_depth (cell_count I.split.mesh) I.field R.field_good (global_of order l - first_cell I.split.mesh)))

    changes_fine : all_of (dynamic_tests b (length lists) (held_count lists)) ≡ true
    unfolding dynamic_tests
    changes_fine =
        all_of_intro (dynamic_tests b (length lists) (held_count lists)) (
          le-leb _ _ state_long,
          (
            le-leb (round_at b (length lists)) last_round (omega (arith, state_round I i tail)),
            (
              every_intro 1 (λ j. leb (byte_at b (taken_place (length lists) j)) 1 && leb (byte_at b (written_place (length lists) j)) 1) most_parts
                  (λ j h.
                  and_intro (leb (byte_at b (taken_place (length lists) (1 + j))) 1) (leb (byte_at b (written_place (length lists) (1 + j))) 1)
                  (zero_flag j (omega arith) (taken_place (length lists) (1 + j)) (omega arith))
                  (zero_flag (most_parts + j) (omega arith) (written_place (length lists) (1 + j)) (omega arith))),
              (local_ranged b (length lists) (held_count lists) state_fine, tt),
            ),
          ),
        )

    begun : is_state b ≡ true
    begun =
        state_at b
        ∙ subst₂ (λ x y. is_state_at x y b ≡ true) (sym (ap (λ m. take m b) (state_dynamic I i tail) ∙ state_front I i tail)) (sym (state_dynamic I i tail))
        (and_intro (eqb (length lists) (lists_length lists) && all_of (lists_tests lists)) (all_of (dynamic_tests b (length lists) (held_count lists)))
        (and_intro (eqb (length lists) (lists_length lists)) (all_of (lists_tests lists)) (eq-eqb _ _ lists_long_lem) lists_fine)
        changes_fine)

-- an accepted start leaves a state
pub start_kept : (I : Inputs) (i : ℕ) (buffer : Bytes) → start_number I i buffer ≡ 0 → is_state (start_state I i buffer) ≡ true
start_kept I i buffer e = let f = started_facts I i buffer e in rw (start_is I i buffer e) (begun I f.inputs i f.part _)

-- "Start and accepted calls always leave one."
pub states_kept : StatesKept
states_kept = record { started = start_kept; written = write_kept; taken = take_kept; advanced = advance_kept }
