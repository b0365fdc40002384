-- Laws of the form of a state: what the test 20 says of a state, and that it goes by the lists and by what calls change. Assumes nothing.
use Rattle.std.specs.Prelude.{◌≡◌, refl, true, false, not, ◌&&◌, ℕ, zero, suc, ◌+◌, ◌-◌, ◌*◌, ◌%◌, ◌<◌, ◌≤◌, eqb, ltb, leb, length, take}
use Rattle.std.proofs.Common.{sym, ◌∙◌, subst, ⊎_elim, zero-add, add-one, arith, get_or-take, ext_get_or, length-take-le, eqb-true, ltb-true, leb-true, lt-ltb, le-leb}
use Rattle.std.proofs.Math.Path.{ap}
use Rattle.std.proofs.lemmas.Bool.{not-true}
use Rattle.vocabulary.specs.Bytes.{Bytes, byte_at}
use Rattle.vocabulary.specs.Lists.{All}
use Rattle.vocabulary.specs.Intervals.{is_up_to, every}
use Rattle.vocabulary.proofs.IntervalLaws.{last_or, every_in, every_intro, up_to_true, listed_all}
use Rattle.vocabulary.proofs.ListLaws.{and_true, and_intro}
use Rattle.vocabulary.specs.Tests.{all_of}
use Rattle.vocabulary.proofs.TestLaws.{all_of_true, all_of_intro}
use Rattle.layout.specs.Words.{word_at}
use Rattle.layout.proofs.WordLaws.{word_same}
use Rattle.layout.specs.Limits.{last_round, most_elements, most_parts, most_steps}
use Rattle.depths.specs.Depths.{ranged_at}
use Rattle.round_rule.specs.Rules.{bad11}
use Rattle.part_state.specs.State.{is_state_at, step_count, rule_kind, weights, first_of_mesh, cells_of_mesh, global_at, export_end, export_count, export_at}
use Rattle.part_state.specs.State.{valid_global, valid_entry, valid_export, reach_end, reach_count, climbs, point_count, point_end, point_cells, point_cell_at}
use Rattle.part_state.specs.State.{valid_point_cell, entry_at, local_reach, dynamic, import_end, owned_count, held_count, rises, lists_length, lists_tests}
use Rattle.part_state.specs.State.{valid_flags, dynamic_tests, is_state, round_at, taken_place, written_place, state_length, depths_place}

-- a table of ends that never falls
pub rises_grow : (n : ℕ) (end : ℕ → ℕ) → rises n end ≡ true → (i j : ℕ) → i ≤ j → j ≤ n → end i ≤ end j
unfolding rises
rises_grow n end e i zero h k = let q : i ≡ 0 = omega arith in subst (λ x. end i ≤ end x) q (omega arith)
rises_grow n end e i (suc j) h k =
    ⊎_elim
    (λ l.
    let s : leb (end j) (end (j + 1)) ≡ true = every_in 0 (λ j. leb (end j) (end (j + 1))) n j e (omega arith) (omega arith) in
    let t : end j ≤ end (suc j) = subst (λ x. end j ≤ end x) (add-one j) (leb-true (end j) (end (j + 1)) s) in
    omega (arith, rises_grow n end e i j (omega arith) (omega arith)))
    (λ q. subst (λ x. end i ≤ end x) q (omega arith))
    (last_or i (suc j) (omega arith))

pub rises_intro : (n : ℕ) (end : ℕ → ℕ) → ((j : ℕ) → j < n → end j ≤ end (j + 1)) → rises n end ≡ true
unfolding rises
rises_intro n end f =
    every_intro 0 (λ j. leb (end j) (end (j + 1))) n (λ i h. subst (λ j. leb (end j) (end (j + 1)) ≡ true) (sym (zero-add i)) (le-leb (end i) (end (i + 1)) (f i h)))

-- a table of ends that climbs
pub climbs_grow : (n : ℕ) (end : ℕ → ℕ) → climbs n end ≡ true → (i j : ℕ) → i < j → j ≤ n → end i < end j
unfolding climbs
climbs_grow n end e i zero h k = let z : ⊥ = omega arith in absurd z
climbs_grow n end e i (suc j) h k =
    let s : ltb (end j) (end (j + 1)) ≡ true = every_in 0 (λ j. ltb (end j) (end (j + 1))) n j e (omega arith) (omega arith) in
    let t : end j < end (suc j) = subst (λ x. end j < end x) (add-one j) (ltb-true (end j) (end (j + 1)) s) in
    ⊎_elim
    (λ l. omega (arith, climbs_grow n end e i j (omega arith) (omega arith)))
    (λ q. subst (λ x. end x < end (suc j)) (sym q) t)
    (last_or i j (omega arith))

pub climbs_intro : (n : ℕ) (end : ℕ → ℕ) → ((j : ℕ) → j < n → end j < end (j + 1)) → climbs n end ≡ true
unfolding climbs
climbs_intro n end f =
    every_intro 0 (λ j. ltb (end j) (end (j + 1))) n (λ i h. subst (λ j. ltb (end j) (end (j + 1)) ≡ true) (sym (zero-add i)) (lt-ltb (end i) (end (i + 1)) (f i h)))

-- ---- the test, by the lists `lists` and the place `changes` where they end

pub state_at : (b : Bytes) → is_state b ≡ is_state_at (take (dynamic b) b) (dynamic b) b
unfolding is_state
state_at b = refl

-- what it says, as far as calls go by it
pub record Whole (lists : Bytes) (changes : ℕ) (b : Bytes) : Type 0 where
  pub lists_fit : changes ≡ lists_length lists
  pub long : state_length changes (held_count lists) ≤ length b
  pub few : held_count lists ≤ most_elements
  pub ends : (i j : ℕ) → i ≤ j → j ≤ most_parts → import_end lists i ≤ import_end lists j
  pub early : round_at b changes ≤ last_round
  pub flags : (j : ℕ) → 1 ≤ j → j ≤ most_parts → (byte_at b (taken_place changes j) ≤ 1) × (byte_at b (written_place changes j) ≤ 1)
  pub ranged : every 0 (held_count lists) (ranged_at b (depths_place changes)) ≡ true
  pub reach_ends : (i j : ℕ) → i ≤ j → j ≤ owned_count lists → reach_end lists i ≤ reach_end lists j
  pub entries : (t : ℕ) → t < reach_count lists → (1 ≤ (entry_at lists t).local) × ((entry_at lists t).local ≤ held_count lists)
  pub steps_few : step_count lists ≤ most_steps
  pub rule : bad11 (rule_kind lists) (step_count lists) (weights lists) ≡ false
  pub globals : (l : ℕ) → 1 ≤ l → l ≤ held_count lists → (first_of_mesh lists ≤ global_at lists l) × (global_at lists l < first_of_mesh lists + cells_of_mesh lists)
  pub layers : (t : ℕ) → t < reach_count lists → (entry_at lists t).layer ≤ step_count lists
  pub export_ends : (i j : ℕ) → i ≤ j → j ≤ most_parts → export_end lists i ≤ export_end lists j
  pub exported : (t : ℕ) → t < export_count lists → (1 ≤ export_at lists t) × (export_at lists t ≤ owned_count lists)
  pub point_first : point_end lists 0 ≡ 0
  pub point_ends : (i j : ℕ) → i < j → j ≤ point_count lists → point_end lists i < point_end lists j
  pub point_cells_is : (t : ℕ) → t < point_cells lists → point_cell_at lists t ≤ held_count lists

pub whole_is : (lists : Bytes) (changes : ℕ) (b : Bytes) → is_state_at lists changes b ≡ true → Whole lists changes b
unfolding lists_tests dynamic_tests
whole_is lists changes b e =
    let p = and_true (eqb changes (lists_length lists) && all_of (lists_tests lists)) (all_of (dynamic_tests b changes (held_count lists))) e in
    let q = and_true (eqb changes (lists_length lists)) (all_of (lists_tests lists)) p.0 in
    let l = all_of_true (lists_tests lists) q.1 in
    let c = all_of_true (dynamic_tests b changes (held_count lists)) p.1 in
    -- each test is found by what it says, and not by its place among them
    let steps_pass : eqb (step_count lists % 2) 0 && leb (step_count lists) most_steps ≡ true = search l in
    let rule_pass : not (bad11 (rule_kind lists) (step_count lists) (weights lists)) ≡ true = search l in
    let held_pass : leb (held_count lists) most_elements ≡ true = search l in
    let imports_pass : rises most_parts (import_end lists) ≡ true = search l in
    let exports_pass : eqb (export_end lists 0) 0 && rises most_parts (export_end lists) ≡ true = search l in
    let reaches_pass : eqb (reach_end lists 0) 0 && rises (owned_count lists) (reach_end lists) ≡ true = search l in
    let globals_pass : every 1 (held_count lists) (valid_global lists) ≡ true = search l in
    let entries_pass : every 0 (reach_count lists) (valid_entry lists) ≡ true = search l in
    let exported_pass : every 0 (export_count lists) (valid_export lists) ≡ true = search l in
    let points_pass : eqb (point_end lists 0) 0 && climbs (point_count lists) (point_end lists) ≡ true = search l in
    let cells_pass : every 0 (point_cells lists) (valid_point_cell lists) ≡ true = search l in
    let long_pass : leb (state_length changes (held_count lists)) (length b) ≡ true = search c in
    let round_pass : leb (round_at b changes) last_round ≡ true = search c in
    let flags_pass : every 1 most_parts (valid_flags b changes) ≡ true = search c in
    let depths_pass : every 0 (held_count lists) (ranged_at b (depths_place changes)) ≡ true = search c in
    record {
      lists_fit = eqb-true _ _ q.0;
      long = leb-true _ _ long_pass;
      few = leb-true _ _ held_pass;
      ends = λ i j h k. rises_grow most_parts (import_end lists) imports_pass i j h k;
      early = leb-true _ _ round_pass;
      flags = λ j h k.
          let r = and_true (leb (byte_at b (taken_place changes j)) 1) (leb (byte_at b (written_place changes j)) 1)
          (every_in 1 (valid_flags b changes) most_parts j flags_pass h (omega arith)) in
          (leb-true _ _ r.0, leb-true _ _ r.1);
      ranged = depths_pass;
      reach_ends = λ i j h k. rises_grow (owned_count lists) (reach_end lists) (and_true (eqb (reach_end lists 0) 0) (rises (owned_count lists) (reach_end lists)) reaches_pass).1 i j h k;
      entries = λ t h.
          let x = every_in 0 (valid_entry lists) (reach_count lists) t entries_pass (omega arith) (omega arith) in
          let p = is_up_to (held_count lists) (entry_at lists t).local in
          let q = eqb ((entry_at lists t).layer % 2) 0 in
          let r = leb (entry_at lists t).layer (step_count lists) in
          up_to_true (held_count lists) (entry_at lists t).local (and_true p q (and_true (p && q) r x).0).0;
      steps_few = leb-true _ _ (and_true (eqb (step_count lists % 2) 0) (leb (step_count lists) most_steps) steps_pass).1;
      rule = not-true _ rule_pass;
      globals = λ x h k.
          let r = and_true (leb (first_of_mesh lists) (global_at lists x)) (ltb (global_at lists x) (first_of_mesh lists + cells_of_mesh lists))
          (every_in 1 (valid_global lists) (held_count lists) x globals_pass h (omega arith)) in
          (leb-true _ _ r.0, ltb-true _ _ r.1);
      layers = λ t h.
          let x = every_in 0 (valid_entry lists) (reach_count lists) t entries_pass (omega arith) (omega arith) in
          let p = is_up_to (held_count lists) (entry_at lists t).local in
          let q = eqb ((entry_at lists t).layer % 2) 0 in
          let r = leb (entry_at lists t).layer (step_count lists) in
          leb-true _ _ (and_true (p && q) r x).1;
      export_ends = λ i j h k. rises_grow most_parts (export_end lists) (and_true (eqb (export_end lists 0) 0) (rises most_parts (export_end lists)) exports_pass).1 i j h k;
      exported = λ t h.
          up_to_true (owned_count lists) (export_at lists t) (every_in 0 (valid_export lists) (export_count lists) t exported_pass (omega arith) (omega arith));
      point_first = eqb-true _ _ (and_true (eqb (point_end lists 0) 0) (climbs (point_count lists) (point_end lists)) points_pass).0;
      point_ends = λ i j h k. climbs_grow (point_count lists) (point_end lists) (and_true (eqb (point_end lists 0) 0) (climbs (point_count lists) (point_end lists)) points_pass).1 i j h k;
      point_cells_is = λ t h. leb-true _ _ (every_in 0 (valid_point_cell lists) (point_cells lists) t cells_pass (omega arith) (omega arith));
    }

-- every entry of an owned cell's reach is held
pub near_whole : (lists : Bytes) (changes : ℕ) (b : Bytes) → Whole lists changes b → (l : ℕ) → 1 ≤ l → l ≤ owned_count lists
    → All (λ e. (1 ≤ e.local) × (e.local ≤ held_count lists)) (local_reach lists l)
unfolding local_reach
near_whole lists changes b w l h k =
    listed_all (λ e. (1 ≤ e.local) × (e.local ≤ held_count lists)) (reach_end lists (l - 1)) (reach_end lists l - reach_end lists (l - 1)) (entry_at lists)
    (λ t q. w.entries (reach_end lists (l - 1) + t) (omega (arith, w.reach_ends (l - 1) l (omega arith) k, w.reach_ends l (owned_count lists) k (omega arith))))

-- the lists' side of the test says nothing of what calls change, and what calls change is tested by itself
pub still_whole : (lists : Bytes) (changes : ℕ) (b b' : Bytes) → is_state_at lists changes b ≡ true → state_length changes (held_count lists) ≤ length b' → round_at b' changes ≤ last_round
    → ((j : ℕ) → 1 ≤ j → j ≤ most_parts → (byte_at b' (taken_place changes j) ≤ 1) × (byte_at b' (written_place changes j) ≤ 1))
    → every 0 (held_count lists) (ranged_at b' (depths_place changes)) ≡ true → is_state_at lists changes b' ≡ true
unfolding dynamic_tests
still_whole lists changes b b' e long early flags ranged =
    and_intro (eqb changes (lists_length lists) && all_of (lists_tests lists)) (all_of (dynamic_tests b' changes (held_count lists)))
    (and_true (eqb changes (lists_length lists) && all_of (lists_tests lists)) (all_of (dynamic_tests b changes (held_count lists))) e).0
    (all_of_intro (dynamic_tests b' changes (held_count lists)) (
      le-leb _ _ long,
      (
        le-leb _ _ early,
        (
          every_intro 1 (λ j. leb (byte_at b' (taken_place changes j)) 1 && leb (byte_at b' (written_place changes j)) 1) most_parts
              (λ i h.
              let r = flags (1 + i) (omega arith) (omega arith) in
              and_intro (leb (byte_at b' (taken_place changes (1 + i))) 1) (leb (byte_at b' (written_place changes (1 + i))) 1) (le-leb _ _ r.0) (le-leb _ _ r.1)),
          (ranged, tt),
        ),
      ),
    ))

-- ---- the lists stay where the bytes before `changes` do

-- b' differs from b only at `changes` or past it
pub record Frame (changes : ℕ) (b b' : Bytes) : Type 0 where
  pub same_length : length b' ≡ length b
  pub same : (i : ℕ) → i < changes → byte_at b' i ≡ byte_at b i

module _ (changes : ℕ) (b b' : Bytes) (h : changes ≤ length b) (f : Frame changes b b') where
  pub frame_take : take changes b' ≡ take changes b
  frame_take =
      let e₁ : length (take changes b') ≡ changes = length-take-le changes b' (omega (arith, f.same_length)) in
      let e₂ : length (take changes b) ≡ changes = length-take-le changes b h in
      ext_get_or 0 (take changes b') (take changes b) (omega arith)
      (λ i k. let q : i < changes = omega arith in get_or-take changes b' i 0 q ∙ f.same i q ∙ sym (get_or-take changes b i 0 q))

  pub frame_dynamic : 2 ≤ changes → dynamic b' ≡ dynamic b
  unfolding word_at
  frame_dynamic k = ap (λ n. 2 * n) (word_same b' b 0 0 (f.same 0 (omega arith)) (f.same 1 (omega arith)))
