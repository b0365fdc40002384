-- What the tests of a state's lists answer, by the tests that the code makes one after the other. Assumes nothing.
use mathlib.Core.Path.{◌≡◌, refl, sym, ap, ap₂, ◌∙◌}
use mathlib.Core.Bool.{Bool, true, false, not, ◌&&◌}
use mathlib.Core.List.{List, [], ◌∷◌, ◌++◌}
use Prim.Native.Nat.{ℕ, zero, suc, ◌+◌, ◌-◌, ◌*◌, ◌/◌, ◌%◌, ◌≤◌, ◌<◌}
use native.Mathlib.Nat.{zero-add}
use Rattle.std.proofs.Math.Numerals.{add-one}
use native.Mathlib.Omega.{arith}
use lib.Dec.{eqb, ltb, leb}
use lib.ListN.{length, take, drop}
use borrow.Author.Tests.{eqb-true, ne_eqb, le-leb, lt-leb}
use Rattle.vocabulary.specs.Bytes.{Bytes}
use Rattle.vocabulary.proofs.ListLaws.{and_all, and_true, and_left, and_right, and_assoc}
use Rattle.vocabulary.specs.Intervals.{is_up_to, every, some}
use Rattle.vocabulary.proofs.IntervalLaws.{every_stop, every_turn, every_cong, some_of_listed}
use Rattle.vocabulary.proofs.ScanLaws.{some_stop_from, some_end_from, every_stop_from, every_turn_from}
use Rattle.vocabulary.specs.Tests.{all_of}
use Rattle.vocabulary.proofs.TestLaws.{all_of_true}
use Rattle.layout.specs.Words.{word_at}
use Rattle.round_rule.specs.Rules.{weight_count, bad11}
use Rattle.round_rule.specs.Kinds.{kind_number, rule_of}
use Rattle.round_rule.specs.declared.Kind.{Kind}
use Rattle.round_rule.specs.declared.Kind.TheVariants.{Hold, Mean, Shoalest}
use Rattle.std.specs.Prelude.{Result, Ok, Err}
use Rattle.layout.specs.declared.refusal.Refusal.{Refusal}
use Rattle.round_rule.proofs.KindLaws.{known_number}
use Rattle.round_rule.proofs.Refusals.{unknown_rule}
use Rattle.part_state.specs.State.{LocalNear, step_count, owned_count, held_count, reach_end, reach_count, rises, entry_at}
use Rattle.part_state.specs.State.{weights_place, export_count, climbs, point_count, point_end, point_cells, point_cell_at}
use Rattle.part_state.specs.State.{valid_point_cell, point_ends_word, point_cells_word, export_at, local_reach, valid_global, valid_entry, own_found}
use Rattle.part_state.specs.State.{valid_export, lists_tests, exports_word, entry_word, reach_word}
use Rattle.part_state.proofs.StateLaws.{rises_grow}
use Rattle.part_state.specs.declared.places.Sizes.{Sizes}
use Rattle.part_state.specs.Checks.{reach_start, entry_start, export_start, point_end_start, point_cell_start, Counts, Fitting, Tested, rise_at}
use Rattle.part_state.specs.Checks.{own_entry, within_at, valid_row, header_tests, end_tests, entry_tests, point_tests}

-- ---- a test of a range, asked with the count that stands in the lists

-- ---- an entry

-- one at an odd layer is not valid
pub entry_odd : (b : Bytes) (t : ℕ) → ((entry_at b t).layer % 2 ≡ 0 → ⊥) → false ≡ valid_entry b t
entry_odd b t o = go (is_up_to (held_count b) (entry_at b t).local) (leb (entry_at b t).layer (step_count b))
  where
    go : (x y : Bool) → false ≡ x && eqb ((entry_at b t).layer % 2) 0 && y
    go false y = refl
    go true y = simp (ne_eqb _ _ o)

-- ---- a table of ends

module _ (b : Bytes) (a n by j end next : ℕ) (ee : end ≡ word_at b (a + j)) (ne : next ≡ word_at b (a + (j + 1))) where
  pub ends_fall : j < n → next < end + by → false ≡ every 0 n (rise_at b a by)
  unfolding rise_at
  ends_fall h k = every_stop (rise_at b a by) n j false h (simp (sym ee, sym ne, lt-leb _ _ k)) refl

  pub ends_turn : every 0 j (rise_at b a by) ≡ true → end + by ≤ next → every 0 (j + 1) (rise_at b a by) ≡ true
  unfolding rise_at
  ends_turn i k = every_turn (rise_at b a by) n j true i (simp (sym ee, sym ne, le-leb _ _ k)) refl

-- with 0 they rise, with 1 they climb
over_ltb : (x y : ℕ) → leb (x + 1) y ≡ ltb x y
over_ltb x y = ap (λ n. leb n y) (add-one x)

pub rises_told : (b : Bytes) (a n : ℕ) → every 0 n (rise_at b a 0) ≡ rises n (λ j. word_at b (a + j))
unfolding rise_at rises
rises_told b a n =
    every_cong 0 (rise_at b a 0) (λ j. leb (word_at b (a + j)) (word_at b (a + (j + 1)))) n
    (λ i h. ap (λ x. leb x (word_at b (a + (0 + i + 1)))) (let e : word_at b (a + (0 + i)) + 0 ≡ word_at b (a + (0 + i)) = omega arith in e))

pub climbs_told : (b : Bytes) (a n : ℕ) → every 0 n (rise_at b a 1) ≡ climbs n (λ j. word_at b (a + j))
unfolding rise_at climbs
climbs_told b a n =
    every_cong 0 (rise_at b a 1) (λ j. ltb (word_at b (a + j)) (word_at b (a + (j + 1)))) n (λ i h. over_ltb (word_at b (a + (0 + i))) (word_at b (a + (0 + i + 1))))

pub ends_start : (b : Bytes) (a end : ℕ) → end ≡ word_at b a → end ≡ word_at b (a + 0)
ends_start b a end e = e ∙ ap (word_at b) (let p : a ≡ a + 0 = omega arith in p)

-- ---- the held cells

-- ---- an entry of the reaches

-- ---- a row: p of all its entries, and q of some

-- the first k, then j more
every_split : (a : ℕ) (p : ℕ → Bool) (k j : ℕ) → every a (k + j) p ≡ every a k p && every (a + k) j p
unfolding every
every_split a p k zero = let e : k + 0 ≡ k = omega arith in ap (λ x. every a x p) e ∙ sym (and_all (every a k p))
every_split a p k (suc j) =
    let e : k + suc j ≡ suc (k + j) = omega arith in
    let f : a + (k + j) ≡ a + k + j = omega arith in
    ap (λ x. every a x p) e ∙ ap₂ ◌&&◌ (every_split a p k j) (ap p f) ∙ and_assoc (every a k p) (every (a + k) j p) (p (a + k + j))

module _ (p : ℕ → Bool) (from to t : ℕ) (low : from ≤ t) where
  pub rest_wrong : (r : Bool) → t < to → r ≡ p t → not r ≡ true → false ≡ every from (to - from) p
  rest_wrong r h e z = every_stop_from from p (to - from) t r e z low (omega arith)

module _ (p q : ℕ → Bool) (from to : ℕ) where
  pub row_wrong : (t : ℕ) (r : Bool) → r ≡ p t → not r ≡ true → from ≤ t → t < to → false ≡ every from (to - from) p && some from (to - from) q
  row_wrong t r e z g h = sym (and_left _ (some from (to - from) q) (sym (rest_wrong p from to t g r h e z)))

  -- the own entry is found: what is left decides
  pub row_found : (t : ℕ) (r s w : Bool) → every from (t - from) p ≡ true → r ≡ p t → not r ≡ false → s ≡ q t → s ≡ true → w ≡ every (t + 1) (to - (t + 1)) p → from ≤ t → t < to
      → w ≡ every from (to - from) p && some from (to - from) q
  row_found t r s w i e z f y we g h =
      let k : to - from ≡ (t + 1 - from) + (to - (t + 1)) = omega arith in
      let m : from + (t + 1 - from) ≡ t + 1 = omega arith in
      let all : every from (to - from) p ≡ w = ap (λ x. every from x p) k ∙ every_split from p (t + 1 - from) (to - (t + 1))
      ∙ ap₂ (λ x y. x && every y (to - (t + 1)) p) (every_turn_from from p t r g i e z) m ∙ sym we in
      let one : some from (to - from) q ≡ true = sym (some_stop_from from q (to - from) t s f y g (omega arith)) in
      sym (ap₂ ◌&&◌ all one ∙ and_all w)

  pub row_end : (t : ℕ) → some from (t - from) q ≡ false → t ≤ to → to ≤ t → from ≤ t → false ≡ every from (to - from) p && some from (to - from) q
  row_end t i g h k = sym (and_right (every from (to - from) p) _ (sym (some_end_from from q (to - from) t i (omega arith) (omega arith))))

-- ---- the rows one after another, from 0 on

and_both : (a b c changes : Bool) → (a && b) && (c && changes) ≡ (a && c) && (b && changes)
and_both true true c changes = refl
and_both true false c changes = sym (and_right c false refl)
and_both false b c changes = refl

-- p of every row's entries is p of all entries
rows_are : (end : ℕ → ℕ) (p q : ℕ → Bool) → end 0 ≡ 0 → (n : ℕ) → ((j : ℕ) → j < n → end j ≤ end (j + 1))
    → every 1 n (λ l. every (end (l - 1)) (end l - end (l - 1)) p && q l) ≡ every 0 (end n) p && every 1 n q
unfolding every
rows_are end p q z zero h = sym (ap (λ x. every 0 x p && true) z)
rows_are end p q z (suc n) h =
    let e : 1 + n - 1 ≡ n = omega arith in
    let s : n + 1 ≡ suc n = omega arith in
    let u : 1 + n ≡ suc n = omega arith in
    let k : end (suc n) ≡ end n + (end (suc n) - end n) = omega (arith, h n (omega arith), ap end s) in
    let w : every 0 (end (suc n)) p ≡ every 0 (end n) p && every (end n) (end (suc n) - end n) p =
    ap (λ x. every 0 x p) k ∙ every_split 0 p (end n) (end (suc n) - end n)
    ∙ ap (λ x. every 0 (end n) p && every x (end (suc n) - end n) p) (zero-add (end n)) in
    ap₂ ◌&&◌ (rows_are end p q z n (λ j l. h j (omega arith))) (ap₂ (λ x y. every (end x) (end y - end x) p && q (1 + n)) e u)
    ∙ and_both (every 0 (end n) p) (every 1 n q) (every (end n) (end (suc n) - end n) p) (q (1 + n))
    ∙ ap (λ x. x && (every 1 n q && q (1 + n))) (sym w)

pub row_tested : (b : Bytes) (z : Sizes) (at n : ℕ) → Counts b z → at ≡ entry_start z → n ≡ step_count b → Tested b at z.held n
row_tested b z at n C ae e = record { at_is = ae ∙ ap₂ (λ x y. entry_word x y) C.held_is C.owned_is; held_is = C.held_is; n_is = e }

module _ (b : Bytes) (good : all_of (end_tests b) ≡ true) where
  reach_tests : (eqb (reach_end b 0) 0 ≡ true) × (rises (owned_count b) (reach_end b) ≡ true)
  reach_tests = and_true (eqb (reach_end b 0) 0) (rises (owned_count b) (reach_end b)) (all_of_true (end_tests b) good).1.1.0

  reach_grow : (i j : ℕ) → i ≤ j → j ≤ owned_count b → reach_end b i ≤ reach_end b j
  reach_grow = rises_grow (owned_count b) (reach_end b) reach_tests.1

  -- the first row begins at 0
  pub rows_start : 0 ≡ reach_end b (1 - 1)
  rows_start = sym (eqb-true _ _ reach_tests.0)

  rows_tests : every 1 (owned_count b) (valid_row b) ≡ every 0 (reach_count b) (valid_entry b) && every 1 (owned_count b) (own_found b)
  unfolding valid_row
  rows_tests =
      rows_are (reach_end b) (valid_entry b) (own_found b) (eqb-true _ _ reach_tests.0) (owned_count b)
      (λ j h. reach_grow j (j + 1) (omega arith) (omega arith))

  pub rows_told : (owned : ℕ) → owned ≡ owned_count b → every 1 owned (valid_row b) ≡ every 0 (reach_count b) (valid_entry b) && every 1 (owned_count b) (own_found b)
  rows_told owned oe = ap (λ k. every 1 k (valid_row b)) oe ∙ rows_tests

  module _ (z : Sizes) (F : Fitting b z) (ends : ℕ) (ee : ends ≡ reach_start z) (l from to : ℕ) (low : 1 ≤ l) (high : l < 1 + z.owned) (te : to ≡ word_at b (ends + l)) where
    to_is : to ≡ reach_end b l
    to_is = te ∙ ap (λ k. word_at b (k + l)) (ee ∙ ap reach_word F.counts.held_is)

    -- and the next where this one ends
    pub rows_next : to ≡ reach_end b (l + 1 - 1)
    rows_next = to_is ∙ ap (reach_end b) (let e : l ≡ l + 1 - 1 = omega arith in e)

    pub row_rises : from ≡ reach_end b (l - 1) → from ≤ to
    row_rises fe = omega (arith, fe, to_is, F.counts.owned_is, reach_grow (l - 1) l (omega arith) (omega (arith, F.counts.owned_is)))

    pub row_room : (at : ℕ) → at ≡ entry_start z → 2 * (at + 2 * to) ≤ length b
    row_room at ae = omega (arith, ae, to_is, F.room, F.counts.reached_is, reach_grow l (owned_count b) (omega (arith, F.counts.owned_is)) (omega arith))

    pub row_told : (r : Bool) → from ≡ reach_end b (l - 1) → r ≡ every from (to - from) (valid_entry b) && some from (to - from) (own_entry b l) → r ≡ valid_row b l
    unfolding valid_row own_entry local_reach
    row_told r fe e =
        e
        ∙ ap₂ (λ x y. every x (y - x) (valid_entry b) && some x (y - x) (own_entry b l)) fe to_is
        ∙ ap (λ x. every (reach_end b (l - 1)) (reach_end b l - reach_end b (l - 1)) (valid_entry b) && x)
        (sym (some_of_listed (λ (e : LocalNear). eqb e.local l && eqb e.layer 0) (entry_at b) (reach_end b (l - 1)) (reach_end b l - reach_end b (l - 1))))

  pub row_above : (z : Sizes) (F : Fitting b z) (ends l from : ℕ) → ends ≡ reach_start z → 1 ≤ l → l < 1 + z.owned → from ≡ reach_end b (l - 1) → from ≤ word_at b (ends + l)
  row_above z F ends l from ee low high fe = row_rises z F ends ee l from (word_at b (ends + l)) low high refl fe

-- ---- the end of a row, as the greater of two numbers

-- ---- the exports

module _ (b : Bytes) (z : Sizes) (C : Counts b z) (at : ℕ) (ae : at ≡ export_start z) (t l : ℕ) (le : l ≡ word_at b (at + t)) where
  export_local : export_at b t ≡ l
  export_local =
      let p : exports_word (held_count b) (owned_count b) (reach_count b) + t ≡ at + t = omega (arith, ae, C.held_is, C.owned_is, C.reached_is) in
      ap (word_at b) p ∙ sym le

  pub export_told : (r : Bool) → r ≡ is_up_to z.owned l → r ≡ valid_export b t
  export_told r e = e ∙ ap₂ is_up_to C.owned_is (sym export_local)

-- ---- the cells at the points

module _ (b : Bytes) (z : Sizes) (C : Counts b z) (at : ℕ) (ae : at ≡ point_cell_start z) (t l : ℕ) (le : l ≡ word_at b (at + t)) where
  point_local : point_cell_at b t ≡ l
  point_local =
      let p : point_cells_word (held_count b) (owned_count b) (reach_count b) (export_count b) (point_count b) + t ≡ at + t =
      omega (arith, ae, C.held_is, C.owned_is, C.reached_is, C.sent_is, C.points_is) in
      ap (word_at b) p ∙ sym le

  point_held : valid_point_cell b t ≡ leb l z.held
  point_held = ap₂ leb point_local (sym C.held_is)

-- four at a time
and_four : (x a b c d : Bool) → x && (a && b && c && d) ≡ x && a && b && c && d
and_four true a b c d = refl
and_four false a b c d = refl

every_fours : (p : ℕ → Bool) (n : ℕ) → every 0 n (λ k. p (4 * k) && p (4 * k + 1) && p (4 * k + 2) && p (4 * k + 3)) ≡ every 0 (4 * n) p
unfolding every
every_fours p zero = refl
every_fours p (suc n) =
    let m : ℕ = 4 * n in
    let e : 4 * suc n ≡ suc (suc (suc (suc m))) = omega arith in
    let q₀ : m ≡ 0 + m = omega arith in
    let q₁ : m + 1 ≡ 0 + suc m = omega arith in
    let q₂ : m + 2 ≡ 0 + suc (suc m) = omega arith in
    let q₃ : m + 3 ≡ 0 + suc (suc (suc m)) = omega arith in
    ap₂ (λ x k. x && (p (4 * k) && p (4 * k + 1) && p (4 * k + 2) && p (4 * k + 3))) (every_fours p n) (zero-add n)
    ∙ and_four (every 0 m p) (p m) (p (m + 1)) (p (m + 2)) (p (m + 3))
    ∙ ap₂ (λ x y. every 0 m p && p x && p y && p (m + 2) && p (m + 3)) q₀ q₁
    ∙ ap₂ (λ x y. every 0 m p && p (0 + m) && p (0 + suc m) && p x && p y) q₂ q₃
    ∙ sym (ap (λ k. every 0 k p) e)

-- the cells at the points, four at a time and then the rest
module _ (b : Bytes) (z : Sizes) (C : Counts b z) (at fours : ℕ) (ae : at ≡ point_cell_start z) (fe : fours ≡ z.around / 4) (r : Bool)
    (re : r ≡ every 0 fours (λ k. within_at b z.held (at + 4 * k) && within_at b z.held (at + 4 * k + 1) && within_at b z.held (at + 4 * k + 2) && within_at b z.held (at + 4 * k + 3))) where
  abbrev held_at : ℕ → Bool
  held_at t = within_at b z.held (at + t)

  fours_told : r ≡ every 0 (4 * fours) held_at
  fours_told =
      re
      ∙ every_cong 0 (λ k. within_at b z.held (at + 4 * k) && within_at b z.held (at + 4 * k + 1) && within_at b z.held (at + 4 * k + 2) && within_at b z.held (at + 4 * k + 3))
      (λ k. held_at (4 * k) && held_at (4 * k + 1) && held_at (4 * k + 2) && held_at (4 * k + 3)) fours
      (λ i h.
      let m : ℕ = 4 * (0 + i) in
      let q₁ : at + m + 1 ≡ at + (m + 1) = omega arith in
      let q₂ : at + m + 2 ≡ at + (m + 2) = omega arith in
      let q₃ : at + m + 3 ≡ at + (m + 3) = omega arith in
      ap₂ (λ x y. held_at m && within_at b z.held x && within_at b z.held y && within_at b z.held (at + m + 3)) q₁ q₂
      ∙ ap (λ x. held_at m && held_at (m + 1) && held_at (m + 2) && within_at b z.held x) q₃)
      ∙ every_fours held_at fours

  cells_told : every 0 (4 * fours) held_at && every (4 * fours) (z.around - 4 * fours) held_at ≡ every 0 (point_cells b) (valid_point_cell b)
  cells_told =
      let n : 4 * fours + (z.around - 4 * fours) ≡ point_cells b = omega (arith, fe, C.around_is) in
      ap (λ a. every 0 (4 * fours) held_at && every a (z.around - 4 * fours) held_at) (sym (zero-add (4 * fours)))
      ∙ sym (every_split 0 held_at (4 * fours) (z.around - 4 * fours))
      ∙ ap (λ k. every 0 k held_at) n
      ∙ every_cong 0 held_at (valid_point_cell b) (point_cells b) (λ i h. sym (point_held b z C at ae (0 + i) (word_at b (at + (0 + i))) refl))

  pub points_stop : r ≡ false → r ≡ every 0 (point_cells b) (valid_point_cell b)
  points_stop f = f ∙ ap (λ x. x && every (4 * fours) (z.around - 4 * fours) held_at) (sym f ∙ fours_told) ∙ cells_told

  pub points_rest : r ≡ true → (s : Bool) → s ≡ every (4 * fours) (z.around - 4 * fours) (λ t. within_at b z.held (at + t)) → s ≡ every 0 (point_cells b) (valid_point_cell b)
  points_rest f s e = e ∙ ap (λ x. x && every (4 * fours) (z.around - 4 * fours) held_at) (sym f ∙ fours_told) ∙ cells_told

-- ---- the rule and the header

module _ (kind : Kind) (n : ℕ) where
  pub weights_hold : kind ≡ Hold → 0 ≡ weight_count (kind_number kind) n
  unfolding weight_count kind_number
  weights_hold e = rw e refl

  pub weights_mean : kind ≡ Mean → n / 2 + 1 ≡ weight_count (kind_number kind) n
  unfolding weight_count kind_number
  weights_mean e = rw e refl

  pub weights_shoalest : kind ≡ Shoalest → 0 ≡ weight_count (kind_number kind) n
  unfolding weight_count kind_number
  weights_shoalest e = rw e refl

module _ (b : Bytes) (number n : ℕ) (r : Result Kind Refusal) (re : r ≡ rule_of number) where
  pub rule_told : (k : Kind) → r ≡ Ok k → (count : ℕ) → count ≡ weight_count (kind_number k) n → (w : Bool)
      → w ≡ bad11 (kind_number k) n (take (weights_place + 2 * count - weights_place) (drop weights_place b))
      → not w ≡ not (bad11 number n (take (2 * weight_count number n) (drop weights_place b)))
  rule_told k q count ce w we =
      let p : weights_place + 2 * count - weights_place ≡ 2 * weight_count (kind_number k) n = omega (arith, ce) in
      ap not (we ∙ ap (λ x. bad11 (kind_number k) n (take x (drop weights_place b))) p)
      ∙ ap (λ x. not (bad11 x n (take (2 * weight_count x n) (drop weights_place b)))) (sym (known_number number k (sym re ∙ q)))

  pub rule_unknown : {e : Refusal} → r ≡ Err e → false ≡ not (bad11 number n (take (2 * weight_count number n) (drop weights_place b)))
  rule_unknown q = ap not (unknown_rule (take (2 * weight_count number n) (drop weights_place b)) n number r re q)

-- ---- the tables of ends, by the words at which they begin

module _ (b : Bytes) (z : Sizes) (C : Counts b z) (ends : ℕ) where
  pub reach_first : ends ≡ reach_start z → word_at b ends ≡ reach_end b 0
  reach_first ee = ap (word_at b) (let p : ends ≡ reach_word (held_count b) + 0 = omega (arith, ee, C.held_is) in p)

  pub reach_rises : ends ≡ reach_start z → every 0 z.owned (rise_at b ends 0) ≡ rises (owned_count b) (reach_end b)
  reach_rises ee = rises_told b ends z.owned ∙ ap₂ (λ k n. rises n (λ j. word_at b (k + j))) (ee ∙ ap reach_word C.held_is) C.owned_is

  module _ (ee : ends ≡ point_end_start z) where
    ends_at : ends ≡ point_ends_word (held_count b) (owned_count b) (reach_count b) (export_count b) (point_count b)
    ends_at = omega (arith, ee, C.held_is, C.owned_is, C.reached_is, C.sent_is, C.points_is)

    pub point_first : word_at b ends ≡ point_end b 0
    point_first = ap (word_at b) (let p : ends ≡ point_ends_word (held_count b) (owned_count b) (reach_count b) (export_count b) (point_count b) + 0 = omega (arith, ends_at) in p)

    pub points_climb : every 0 z.points (rise_at b ends 1) ≡ climbs (point_count b) (point_end b)
    points_climb = climbs_told b ends z.points ∙ ap₂ (λ k n. climbs n (λ j. word_at b (k + j))) ends_at C.points_is

-- ---- the four groups

all_of_append : (xs ys : List Bool) → all_of (xs ++ ys) ≡ all_of xs && all_of ys
all_of_append [] ys = refl
all_of_append (x ∷ xs) ys = ap (λ t. x && t) (all_of_append xs ys) ∙ sym (and_assoc x (all_of xs) (all_of ys))

-- the third of three tests first
third_first : (x y z : Bool) → x && (y && (z && true)) ≡ z && (x && (y && true))
third_first false y true = refl
third_first false y false = refl
third_first true false true = refl
third_first true false false = refl
third_first true true true = refl
third_first true true false = refl

and_swap : (x y : Bool) → x && y ≡ y && x
and_swap true y = sym (and_all y)
and_swap false true = refl
and_swap false false = refl

pub in_groups : (b : Bytes) → all_of (lists_tests b) ≡ all_of (header_tests b) && (all_of (end_tests b) && (all_of (point_tests b) && all_of (entry_tests b)))
unfolding lists_tests
in_groups b =
    let globals : Bool = every 1 (held_count b) (valid_global b) in
    let entries : Bool = every 0 (reach_count b) (valid_entry b) in
    let own : Bool = every 1 (owned_count b) (own_found b) in
    let sent : Bool = every 0 (export_count b) (valid_export b) in
    let middle : List Bool = globals ∷ entries ∷ own ∷ sent ∷ [] in
    all_of_append (header_tests b) (end_tests b ++ middle ++ point_tests b)
    ∙ ap (λ t. all_of (header_tests b) && t) (all_of_append (end_tests b) (middle ++ point_tests b))
    ∙ ap (λ t. all_of (header_tests b) && (all_of (end_tests b) && t))
    (all_of_append middle (point_tests b) ∙ and_swap (all_of middle) (all_of (point_tests b)) ∙ ap (λ t. all_of (point_tests b) && (globals && t)) (third_first entries own sent))
