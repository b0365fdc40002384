-- An accepted call on a state leaves a state. Assumes nothing.
use Rattle.std.specs.Prelude.{◌≡◌, refl, Bool, true, false, eqb, set, take}
use Rattle.std.proofs.Common.{sym, ap, ◌∙◌, subst₂, inl, eqb-true, leb-false}
use Rattle.std.proofs.Math.Path.{subst}
use mathlib.Core.List.{List, map}
use Prim.Native.Nat.{ℕ, ◌+◌, ◌-◌, ◌*◌, ◌<◌, ◌≤◌}
use native.Mathlib.Omega.{arith}
use Rattle.std.proofs.Math.ListN.{length, length-set}
use Rattle.std.proofs.Math.Seq.{get_or-set_same, get_or-set_other}
use Rattle.std.proofs.lemmas.Bool.{eqb-false}
use Rattle.vocabulary.specs.Bytes.{Bytes, byte_at}
use Rattle.vocabulary.proofs.ByteLaws.{Place, below, inside, above, place, over_before}
use Rattle.vocabulary.proofs.ListLaws.{cond_has, All_map, All_of_map}
use Rattle.vocabulary.specs.Intervals.{every}
use Rattle.vocabulary.proofs.IntervalLaws.{every_intro}
use Rattle.vocabulary.proofs.TestLaws.{passed_by}
use Rattle.layout.proofs.WordLaws.{word_set}
use Rattle.layout.specs.Limits.{last_round, most_parts}
use Rattle.depths.specs.Depths.{deepest, Within, Valid, four, value_from, value_of, ranged_at}
use Rattle.depths.proofs.DepthLaws.{length_four, four_set, value_four, within_valid, ranged_valid}
use Rattle.round_rule.specs.Rules.{Old}
use Rattle.round_rule.proofs.RuleLaws.{SmallOld, new_within, new_length}
use Rattle.messages.specs.Messages.{header_size, depth_start, depths_of, from_in, count_in}
use Rattle.part_state.specs.State.{LocalNear, lists_in, lists_of, dynamic, rule_kind, weights, held_count, owned_count, local_reach, is_state, round_at}
use Rattle.part_state.specs.State.{taken_place, written_place, depth_place, depths_place, is_state_at}
use Rattle.part_state.proofs.StateLaws.{state_at, Whole, whole_is, still_whole, near_whole, Frame, frame_take, frame_dynamic}
use Rattle.part_calls.specs.Calls.{depth_at, written_in, taken_in, advance_tests_in, new_at, advanced_in, write_number, write_state, take_number, take_state, advance_number, advance_state}
use Rattle.part_calls.proofs.CallLaws.{Room, room_of, Taken, taken_facts}
use Rattle.part_calls.proofs.EffectLaws.{take_room, take_flag, take_frame, take_word, take_in, take_below, take_above, advance_frame, advance_word, advance_flag, advance_owned, advance_others}
use Rattle.run_theorem.proofs.StepLaws.{write_part}

-- a valid value, by its four bytes
abbrev pub ValidFour : Bytes → Type 0
ValidFour x = Within deepest (value_of x)

-- ---- what is left when the bytes before d stay

-- the values of the local cells
pub ranged_local : (b : Bytes) (changes n l : ℕ) → every 0 n (ranged_at b (depths_place changes)) ≡ true → 1 ≤ l → l ≤ n → ValidFour (depth_at changes b l)
ranged_local b changes n l e h k =
    let q : depths_place changes + 4 * (l - 1) ≡ depth_place changes l = omega arith in
    rw value_four (subst (λ o. Valid b o) q (ranged_valid b (depths_place changes) n (l - 1) e (omega arith)))

pub local_ranged : (b : Bytes) (changes n : ℕ) → ((l : ℕ) → 1 ≤ l → l ≤ n → ValidFour (depth_at changes b l)) → every 0 n (ranged_at b (depths_place changes)) ≡ true
unfolding ranged_at
local_ranged b changes n f =
    every_intro 0 (ranged_at b (depths_place changes)) n
    (λ i h.
    let q : depth_place changes (i + 1) ≡ depths_place changes + 4 * (0 + i) = omega arith in
    within_valid (value_from b (depths_place changes + 4 * (0 + i))) (subst (λ o. Valid b o) q (rw value_four at (f (i + 1) (omega arith) (omega arith)))))

module _ (b : Bytes) (s : is_state b ≡ true) where
  at_front : is_state_at (take (dynamic b) b) (dynamic b) b ≡ true
  at_front = sym (state_at b) ∙ s

  whole : Whole (take (dynamic b) b) (dynamic b) b
  whole = whole_is (take (dynamic b) b) (dynamic b) b at_front

  room : Room (lists_of b) (dynamic b) b
  unfolding lists_of
  room = room_of (take (dynamic b) b) (dynamic b) b whole

  kept : (b' : Bytes) → Frame (dynamic b) b b' → round_at b' (dynamic b) ≤ last_round
      → ((j : ℕ) → 1 ≤ j → j ≤ most_parts → (byte_at b' (taken_place (dynamic b) j) ≤ 1) × (byte_at b' (written_place (dynamic b) j) ≤ 1))
      → ((l : ℕ) → 1 ≤ l → l ≤ held_count (take (dynamic b) b) → ValidFour (depth_at (dynamic b) b' l)) → is_state b' ≡ true
  kept b' f early flags fine =
      let h : dynamic b ≤ length b = omega (arith, whole.long) in
      let e : dynamic b' ≡ dynamic b = frame_dynamic (dynamic b) b b' h f (omega (arith, whole.lists_fit)) in
      let t : take (dynamic b') b' ≡ take (dynamic b) b = ap (λ n. take n b') e ∙ frame_take (dynamic b) b b' h f in
      state_at b'
      ∙ subst₂ (λ x n. is_state_at x n b' ≡ true) (sym t) (sym e)
      (still_whole (take (dynamic b) b) (dynamic b) b b' at_front (omega (arith, whole.long, f.same_length)) early flags (local_ranged b' (dynamic b) (held_count (take (dynamic b) b)) fine))

  fine : (l : ℕ) → 1 ≤ l → l ≤ held_count (take (dynamic b) b) → ValidFour (depth_at (dynamic b) b l)
  fine l h k = ranged_local b (dynamic b) (held_count (take (dynamic b) b)) l whole.ranged h k

  -- ---- write

  set_flag : (p q : ℕ) → p < length b → byte_at b q ≤ 1 → byte_at (set b p 1) q ≤ 1
  set_flag p q h k = go (eqb q p) refl
    where
      go : (t : Bool) → eqb q p ≡ t → byte_at (set b p 1) q ≤ 1
      go true e = omega (arith, ap (λ n. byte_at (set b p 1) n) (eqb-true q p e) ∙ get_or-set_same b p 1 0 h)
      go false e = omega (arith, get_or-set_other b p q 1 0 (eqb-false q p e))

  written : (j : ℕ) → 1 ≤ j → j ≤ most_parts → is_state (written_in (lists_of b) (dynamic b) b j) ≡ true
  unfolding written_in
  written j least most =
      let changes : ℕ = dynamic b in
      let p : written_place (dynamic b) j < length b = omega (arith, whole.long) in
      kept (set b (written_place changes j) 1)
      (record { same_length = length-set b (written_place changes j) 1; same = λ i h. get_or-set_other b (written_place changes j) i 1 0 (omega arith) })
      (rw (word_set b (written_place changes j) 1 changes (omega arith) (omega arith)) whole.early)
      (λ i h k. let g = whole.flags i h k in (set_flag (written_place changes j) (taken_place changes i) p g.0, set_flag (written_place changes j) (written_place changes i) p g.1))
      (λ l h k. subst ValidFour (sym (four_set b (written_place changes j) 1 (depth_place changes l) (inl (omega arith)))) (fine l h k))

  -- ---- take

  module _ (x : Bytes) (v : Taken (lists_of b) (dynamic b) b x) where
    taken_set : byte_at (taken_in (lists_of b) (dynamic b) b x) (taken_place (dynamic b) (from_in x)) ≡ 1
    unfolding taken_in
    taken_set =
        over_before (set b (taken_place (dynamic b) (from_in x)) 1) (depth_place (dynamic b) ((lists_of b).before (from_in x) + 1)) (depths_of x) (take_room (lists_of b) (dynamic b) b x room v)
        (taken_place (dynamic b) (from_in x)) (omega (arith, v.from_most))
        ∙ get_or-set_same b (taken_place (dynamic b) (from_in x)) 1 0 (omega (arith, v.from_most, room.long))

    taken_flag : (i : ℕ) → i < depths_place (dynamic b) → byte_at b i ≤ 1 → byte_at (taken_in (lists_of b) (dynamic b) b x) i ≤ 1
    taken_flag i h k = go (eqb i (taken_place (dynamic b) (from_in x))) refl
      where
        go : (t : Bool) → eqb i (taken_place (dynamic b) (from_in x)) ≡ t → byte_at (taken_in (lists_of b) (dynamic b) b x) i ≤ 1
        go true e = omega (arith, ap (λ n. byte_at (taken_in (lists_of b) (dynamic b) b x) n) (eqb-true i _ e) ∙ taken_set)
        go false e = omega (arith, take_flag (lists_of b) (dynamic b) b x room v i h (eqb-false i _ e))

    taken_depth : (l : ℕ) → 1 ≤ l → l ≤ held_count (take (dynamic b) b) → Place ((lists_of b).before (from_in x) + 1) ((lists_of b).imported (from_in x)) l
        → ValidFour (depth_at (dynamic b) (taken_in (lists_of b) (dynamic b) b x) l)
    taken_depth l h k (below q) = subst ValidFour (sym (take_below (lists_of b) (dynamic b) b x room v l h q)) (fine l h k)
    taken_depth l h k (inside t q p) =
        let c : t < count_in x = omega (arith, v.count_is) in
        let e : depth_at (dynamic b) (taken_in (lists_of b) (dynamic b) b x) l ≡ four x (depth_start t) =
        ap (λ n. depth_at (dynamic b) (taken_in (lists_of b) (dynamic b) b x) n) p ∙ take_in (lists_of b) (dynamic b) b x room v t q in
        subst ValidFour (sym e) (rw value_four (ranged_valid x header_size (count_in x) t v.ranged c))
    taken_depth l h k (above q) = subst ValidFour (sym (take_above (lists_of b) (dynamic b) b x room v l h q)) (fine l h k)

    taken : is_state (taken_in (lists_of b) (dynamic b) b x) ≡ true
    taken =
        let changes : ℕ = dynamic b in
        kept (taken_in (lists_of b) (dynamic b) b x)
        (take_frame (lists_of b) (dynamic b) b x room v)
        (rw (take_word (lists_of b) (dynamic b) b x room v) whole.early)
        (λ j h k. let g = whole.flags j h k in (taken_flag (taken_place changes j) (omega arith) g.0, taken_flag (written_place changes j) (omega arith) g.1))
        (λ l h k. taken_depth l h k (place ((lists_of b).before (from_in x) + 1) ((lists_of b).imported (from_in x)) l))

  -- ---- advance

  new_four : (l : ℕ) → length (new_at (lists_of b) (dynamic b) b l) ≡ 4
  unfolding new_at lists_of lists_in
  new_four l = new_length (rule_kind (take (dynamic b) b)) (weights (take (dynamic b) b)) _ _ (length_four b _)

  new_fine : (l : ℕ) → 1 ≤ l → l ≤ owned_count (take (dynamic b) b) → ValidFour (new_at (lists_of b) (dynamic b) b l)
  unfolding new_at lists_of lists_in
  new_fine l h k =
      let es : List LocalNear = local_reach (take (dynamic b) b) l in
      let old : LocalNear → Old = λ e. record { layer = e.layer; depth = depth_at (dynamic b) b e.local } in
      new_within (weights (take (dynamic b) b)) deepest (rule_kind (take (dynamic b) b)) (depth_at (dynamic b) b l) (map old es) (omega arith)
      (fine l h (omega (arith, whole.ends 0 most_parts (omega arith) (omega arith))))
      (All_of_map (SmallOld deepest) old es (All_map es (λ e q. fine e.local q.0 q.1) (near_whole (take (dynamic b) b) (dynamic b) b whole l h k)))

  advanced_depth : (l : ℕ) → 1 ≤ l → l ≤ held_count (take (dynamic b) b) → Place 0 ((lists_of b).owned + 1) l → ValidFour (depth_at (dynamic b) (advanced_in (lists_of b) (dynamic b) b) l)
  unfolding lists_of lists_in
  advanced_depth l h k (below q) = let z : ⊥ = omega arith in absurd z
  advanced_depth l h k (inside t q p) =
      let c : l ≤ owned_count (take (dynamic b) b) = omega arith in
      subst ValidFour (sym (advance_owned (lists_of b) (dynamic b) b room new_four l h c)) (new_fine l h c)
  advanced_depth l h k (above q) = subst ValidFour (sym (advance_others (lists_of b) (dynamic b) b room new_four l (omega arith))) (fine l h k)

  advanced : round_at b (dynamic b) < last_round → is_state (advanced_in (lists_of b) (dynamic b) b) ≡ true
  advanced early =
      let changes : ℕ = dynamic b in
      let b' : Bytes = advanced_in (lists_of b) (dynamic b) b in
      let flag : (k : ℕ) → k < 32 → byte_at b' (changes + 2 + k) ≡ 0 = advance_flag (lists_of b) (dynamic b) b room new_four in
      kept b'
      (advance_frame (lists_of b) (dynamic b) b room new_four)
      (omega (arith, advance_word (lists_of b) (dynamic b) b room new_four))
      (λ j h k.
      let p : changes + 2 + (j - 1) ≡ taken_place changes j = omega arith in
      let q : changes + 2 + (j + 15) ≡ written_place changes j = omega arith in (
        omega (arith, ap (λ n. byte_at b' n) (sym p) ∙ flag (j - 1) (omega arith)),
        omega (arith, ap (λ n. byte_at b' n) (sym q) ∙ flag (j + 15) (omega arith)),
      ))
      (λ l h k. advanced_depth l h k (place 0 ((lists_of b).owned + 1) l))

-- ---- the calls

pub write_kept : (b out : Bytes) (j : ℕ) → is_state b ≡ true → is_state (write_state b j out) ≡ true
unfolding write_state
write_kept b out j s =
    cond_has (λ x. is_state x ≡ true) (eqb (write_number b j out) 0) (written_in (lists_of b) (dynamic b) b j) b
    (λ e. let u = write_part b j out (eqb-true _ 0 e) in written b s j u.0 u.1) (λ e. s)

pub take_kept : (b x : Bytes) → is_state b ≡ true → is_state (take_state b x) ≡ true
unfolding take_state take_number
take_kept b x s =
    cond_has (λ y. is_state y ≡ true) (eqb (take_number b x) 0) (taken_in (lists_of b) (dynamic b) b x) b
    (λ e. taken b s x (taken_facts (lists_of b) (dynamic b) b x (eqb-true _ 0 e))) (λ e. s)

pub advance_kept : (b : Bytes) → is_state b ≡ true → is_state (advance_state b) ≡ true
unfolding advance_state advance_number advance_tests_in
advance_kept b s =
    cond_has (λ y. is_state y ≡ true) (eqb (advance_number b) 0) (advanced_in (lists_of b) (dynamic b) b) b
    (λ e. advanced b s (leb-false last_round (round_at b (dynamic b)) (passed_by 26 (advance_tests_in (lists_of b) (dynamic b) b) tt (eqb-true _ 0 e)))) (λ e. s)
