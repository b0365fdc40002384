-- A mesh that no test refuses has what `Accepted` says. Assumes nothing.
use mathlib.Core.Path.{◌≡◌, refl, sym, ◌∙◌, subst}
use mathlib.Core.Bool.{Bool, true, false, not, ◌||◌}
use mathlib.Core.List.{[], map}
use Prim.Native.Nat.{ℕ, zero, suc, ◌+◌, ◌-◌, ◌≤◌}
use native.Mathlib.Omega.{arith}
use lib.Dec.{ltb, leb}
use lib.ListN.{length}
use borrow.Author.Tests.{ltb-false, leb-true, eqb-true, not-false}
use Rattle.vocabulary.specs.Bytes.{Bytes}
use Rattle.vocabulary.specs.Intervals.{is_up_to, some}
use Rattle.vocabulary.proofs.IntervalLaws.{some_at, some_witness, blocks_each, blocks_all}
use Rattle.vocabulary.specs.Lists.{is_in, repeats, some_of, All}
use Rattle.vocabulary.proofs.ListLaws.{or_false, and_true, All_map, All_split, All_both, All_get_or, some_of_false, is_in_at, once_few, repeats_parts}
use Rattle.vocabulary.proofs.TestLaws.{holds_of, passed_by}
use Rattle.layout.specs.Limits.{most_elements}
use Rattle.mesh.specs.Mesh.{top, counted, below, elements, record_count, first_cell, cell_count, dimension, head_of, element_in, follow, records, chain}
use Rattle.mesh.specs.Mesh.{all_records, headed, bad_item, bad_chain, leaves, unclosed, bare, bad1, bad2, bad3, bad4, bad5, bad6, bad7, mesh_length, mesh_tests}
use Rattle.mesh.specs.Mesh.{mesh_number}
use Rattle.mesh.specs.Meet.{Sizes}
use Rattle.mesh.specs.Accepted.{Element, Cell, Accepted}
use Rattle.mesh.proofs.MeetLaws.{outside}
use Rattle.mesh.proofs.DimensionLaws.{lower_right, below_next}
use Rattle.mesh.proofs.FollowLaws.{follow_positive}
use Rattle.mesh.proofs.NumberLaws.{counts, no_counts, sized}

-- the seven tests of a mesh whose number is 0
record Passed (m : Bytes) : Type 0 where
  one : bad1 m ≡ false
  two : bad2 m ≡ false
  three : bad3 m ≡ false
  four : bad4 m ≡ false
  five : bad5 m ≡ false
  six : bad6 m ≡ false
  seven : bad7 m ≡ false

all_passed : (m : Bytes) → mesh_number m ≡ 0 → Passed m
unfolding mesh_number mesh_tests
all_passed m e =
    let by : (n : ℕ) → holds_of n (mesh_tests m) ≡ false = λ n. passed_by n (mesh_tests m) tt e in
    record { one = by 1; two = by 2; three = by 3; four = by 4; five = by 5; six = by 6; seven = by 7 }

-- a test that fails at every number from 1 to n, at one of them
at_one : (p : ℕ → Bool) (n x : ℕ) → some 1 n p ≡ false → 1 ≤ x → x ≤ n → p x ≡ false
at_one p n x s l h = let q : 1 + (x - 1) ≡ x = omega arith in rw q at (some_at 1 p n (x - 1) s (omega arith))

-- what test 4 leaves
module _ (m : Bytes) (four : bad4 m ≡ false) where
  parts4 : (some 1 (counted m 0) (headed m) || some_of (all_records m) (ltb (record_count m)) ≡ false) × (repeats (all_records m) ≡ false)
  unfolding bad4
  parts4 = or_false (some 1 (counted m 0) (headed m) || some_of (all_records m) (ltb (record_count m))) (repeats (all_records m)) four

  parts4a : (some 1 (counted m 0) (headed m) ≡ false) × (some_of (all_records m) (ltb (record_count m)) ≡ false)
  parts4a = or_false (some 1 (counted m 0) (headed m)) (some_of (all_records m) (ltb (record_count m))) parts4.0

  pub bare_point : (e : ℕ) → 1 ≤ e → e ≤ counted m 0 → chain m e ≡ []
  unfolding headed chain records follow
  bare_point e l h =
      let z : head_of m e ≡ 0 = (let y : head_of m e ≤ 0 = ltb-false 0 (head_of m e) (at_one (headed m) (counted m 0) e parts4a.0 l h) in omega arith) in
      rw z (ended (record_count m + 1))
    where
      ended : (n : ℕ) → map (λ i. element_in m i) (follow m n 0) ≡ []
      ended zero = refl
      ended (suc n) = refl

  low_records : (e : ℕ) → Element m e → All (λ i. ltb (record_count m) i ≡ false) (records m e)
  unfolding all_records
  low_records e x =
      let q : 1 + (e - 1) ≡ e = omega (arith, x.low) in
      rw q at (blocks_each (All (λ i. ltb (record_count m) i ≡ false)) (All_split _) 1 (records m) (elements m) (e - 1) (omega (arith, x.low, x.high))
      (some_of_false (ltb (record_count m)) (all_records m) parts4a.1))

  fine_records : (e : ℕ) → Element m e → All (λ i. (1 ≤ i) × (i ≤ record_count m)) (records m e)
  unfolding records
  fine_records e x =
      All_map (records m e) (λ i w. (w.0, ltb-false (record_count m) i w.1))
      (All_both (λ i. 1 ≤ i) (λ i. ltb (record_count m) i ≡ false) (records m e) (follow_positive m _ _) (low_records e x))

  fine_end : (e : ℕ) → Element m e → length (records m e) ≤ record_count m
  unfolding all_records
  fine_end e x =
      let q : 1 + (e - 1) ≡ e = omega (arith, x.low) in
      once_few (record_count m) (records m e) (fine_records e x)
      (rw q at (blocks_each (λ xs. repeats xs ≡ false) repeats_parts 1 (records m) (elements m) (e - 1) (omega (arith, x.low, x.high)) parts4.1))

  few_records : length (all_records m) ≤ record_count m
  unfolding all_records
  few_records =
      once_few (record_count m) (all_records m)
      (blocks_all 1 (records m) (λ i. (1 ≤ i) × (i ≤ record_count m)) (elements m) (λ j h. fine_records (1 + j) (record { low = omega arith; high = omega arith })))
      parts4.1

-- what test 5 leaves
module _ (m : Bytes) (high : top m ≤ 3) (five : bad5 m ≡ false) where
  right_chain : (e : ℕ) → Element m e → (some_of (chain m e) (bad_item m e) ≡ false) × (repeats (chain m e) ≡ false)
  unfolding bad5 bad_chain
  right_chain e x = or_false (some_of (chain m e) (bad_item m e)) (repeats (chain m e)) (at_one (bad_chain m) (elements m) e five x.low x.high)

  pub lower_chain : (e : ℕ) → Element m e → All (λ g. (1 ≤ g) × (g ≤ below m (dimension m e))) (chain m e)
  unfolding outside is_up_to
  lower_chain e x =
      All_map (chain m e)
      (λ g q.
      let w = and_true (leb 1 g) (leb g (below m (dimension m e))) (not-false _ (lower_right m e g high ∙ q)) in
      (leb-true 1 g w.0, leb-true g (below m (dimension m e)) w.1))
      (some_of_false (bad_item m e) (chain m e) (right_chain e x).0)

module _ (m : Bytes) (p : Passed m) where
  fine_sizes : Sizes m (top m) (elements m) (record_count m)
  fine_sizes = sized m false false (top m) (elements m) (record_count m) (sym p.one) refl (sym p.two) refl refl refl refl

  top_least : 1 ≤ top m
  unfolding bad1
  top_least =
      let a = or_false (ltb (length m) 12 || ltb (top m) 1) (ltb 3 (top m)) p.one in
      ltb-false _ _ (or_false (ltb (length m) 12) (ltb (top m) 1) a.0).1

  long : length m ≡ mesh_length m
  unfolding bad3
  long = eqb-true _ _ (not-false _ p.three)

  last_cells : first_cell m + cell_count m ≡ elements m + 1
  last_cells = omega (arith, below_next m (top m), fine_sizes.n_last)

  -- 6
  closed_chain : (e f g : ℕ) → Element m e → is_in f (chain m e) ≡ true → is_in g (chain m f) ≡ true → is_in g (chain m e) ≡ true
  unfolding bad6 unclosed leaves
  closed_chain e f g x a b =
      let u : All (λ y. leaves m e y ≡ false) (chain m e) = some_of_false (leaves m e) (chain m e) (at_one (unclosed m) (elements m) e p.six x.low x.high) in
      let i = is_in_at f (chain m e) a in
      let j = is_in_at g (chain m f) b in
      let w : leaves m e f ≡ false = subst (λ y. leaves m e y ≡ false) i.place_is (All_get_or _ (chain m e) i.place 0 u i.place_lt) in
      let v : not (is_in g (chain m e)) ≡ false =
      subst (λ y. not (is_in y (chain m e)) ≡ false) j.place_is (All_get_or _ (chain m f) j.place 0 (some_of_false (λ y. not (is_in y (chain m e))) (chain m f) w) j.place_lt) in
      not-false (is_in g (chain m e)) v

  -- 7
  in_cell : (g : ℕ) → 1 ≤ g → g ≤ below m (top m) → (c : ℕ) × Cell m c × (is_in g (chain m c) ≡ true)
  unfolding bad7 bare
  in_cell g l h =
      let w = some_witness (first_cell m) (λ c. is_in g (chain m c)) (cell_count m) (not-false _ (at_one (bare m) (below m (top m)) g p.seven l h)) in
      (first_cell m + w.0, record { low = omega arith; high = omega (arith, w.1) }, w.2)

-- what an accepted mesh gives
pub accepted_mesh : (m : Bytes) → mesh_number m ≡ 0 → Accepted m
accepted_mesh m e =
    let p = all_passed m e in
    record {
      sizes = fine_sizes m p;
      top_low = top_least m p;
      some_counted = λ k h. counts m p.two k h (omega (arith, (fine_sizes m p).d_high));
      none_counted = no_counts m p.two;
      length_is = long m p;
      cells_in = last_cells m p;
      point_bare = bare_point m p.four;
      records_in = fine_records m p.four;
      chains_end = fine_end m p.four;
      records_few = few_records m p.four;
      chain_lower = lower_chain m (fine_sizes m p).d_high p.five;
      chain_once = λ x h. (right_chain m (fine_sizes m p).d_high p.five x h).1;
      chain_closed = closed_chain m p;
      covered = in_cell m p;
    }

pub cells_few : (m : Bytes) (cells : ℕ) → Accepted m → cells ≡ cell_count m → cells ≤ most_elements
cells_few m cells A e = omega (arith, A.cells_in, A.sizes.n_high)

pub cells_fit : (m : Bytes) (first cells : ℕ) → Accepted m → first ≡ first_cell m → cells ≡ cell_count m → first + cells ≤ 65536
cells_fit m first cells A fe ce = omega (arith, A.cells_in, A.sizes.n_high)
