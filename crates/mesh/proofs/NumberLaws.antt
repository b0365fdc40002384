-- The number of a mesh, by the tests that the code makes one after the other. Assumes nothing.
use mathlib.Core.Path.{◌≡◌, sym, ap, ◌∙◌}
use mathlib.Core.Bool.{Bool, false, ◌||◌}
use Prim.Native.Nat.{ℕ, zero, suc, ◌+◌, ◌-◌, ◌≤◌, ◌<◌}
use native.Mathlib.Omega.{arith}
use lib.Dec.{eqb, ltb}
use lib.ListN.{length}
use Rattle.vocabulary.specs.Intervals.{some}
use Rattle.vocabulary.proofs.IntervalLaws.{some_at}
use borrow.Author.Tests.{ltb-false, le-leb, lt-leb, eqb-false, ne_eqb}
use Rattle.vocabulary.specs.Bytes.{Bytes}
use Rattle.vocabulary.proofs.ListLaws.{or_false}
use Rattle.layout.specs.Answers.{answer}
use Rattle.layout.specs.Answers.{Done, Refused}
use Rattle.layout.specs.Limits.{most_elements, most_records}
use Rattle.mesh.specs.Mesh.{top, counted, below, elements, record_count, cell_count, bad_count, bad1, bad2, mesh_number, check_answer}
use Rattle.mesh.specs.Meet.{Sizes}
use Rattle.mesh.proofs.DimensionLaws.{below_next}

-- what test 2 leaves of the counts
module _ (m : Bytes) (two : bad2 m ≡ false) where
  count_right : (k : ℕ) → k < 4 → bad_count m k ≡ false
  unfolding bad2
  count_right k h =
      let a = or_false (some 0 4 (bad_count m) || ltb most_elements (elements m)) (ltb most_records (record_count m)) two in
      let b = or_false (some 0 4 (bad_count m)) (ltb most_elements (elements m)) a.0 in
      let q : 0 + k ≡ k = omega arith in
      rw q at (some_at 0 (bad_count m) 4 k b.0 h)

  pub counts : (k : ℕ) → k ≤ top m → k < 4 → 1 ≤ counted m k
  unfolding bad_count
  counts k h l =
      let w : eqb (counted m k) 0 ≡ false = rw (le-leb k (top m) h) at (count_right k l) in
      let n : counted m k ≡ 0 → ⊥ = eqb-false (counted m k) 0 w in
      omega arith

  pub no_counts : (k : ℕ) → top m < k → k < 4 → counted m k ≡ 0
  unfolding bad_count
  no_counts k h l =
      let w : ltb 0 (counted m k) ≡ false = rw (lt-leb k (top m) h) at (count_right k l) in
      omega (arith, ltb-false 0 (counted m k) w)

  -- no element is of a dimension above that of the cells
  none_above : (j k : ℕ) → k + j ≡ 4 → top m < k → below m k ≡ below m 4
  none_above zero k e h = ap (below m) (omega arith)
  none_above (suc j) k e h =
      let s : below m (k + 1) ≡ below m k = omega (arith, below_next m k, no_counts k h (omega arith)) in
      sym s ∙ none_above j (k + 1) (omega arith) (omega arith)

  last_below : top m ≤ 3 → below m (top m + 1) ≡ elements m
  last_below h = none_above (3 - top m) (top m + 1) (omega arith) (omega arith)

-- what the tests 1 and 2 leave
pub sized : (m : Bytes) (a b : Bool) (d n r : ℕ) → a ≡ bad1 m → a ≡ false → b ≡ bad2 m → b ≡ false → d ≡ top m → n ≡ elements m → r ≡ record_count m → Sizes m d n r
unfolding bad1 bad2
sized m a b d n r e f g h p q t =
    let x = or_false (ltb (length m) 12 || ltb (top m) 1) (ltb 3 (top m)) (sym e ∙ f) in
    let y = or_false (some 0 4 (bad_count m) || ltb most_elements (elements m)) (ltb most_records (record_count m)) (sym g ∙ h) in
    let w = or_false (some 0 4 (bad_count m)) (ltb most_elements (elements m)) y.0 in
    record {
      d_is = p;
      d_high = omega (arith, ltb-false 3 (top m) x.1);
      n_is = q;
      n_high = omega (arith, ltb-false most_elements (elements m) w.1);
      n_last = ap (λ x. below m (x + 1)) p ∙ last_below m (sym g ∙ h) (ltb-false 3 (top m) x.1) ∙ sym q;
      r_is = t;
      r_high = omega (arith, ltb-false most_records (record_count m) y.1);
    }

-- the answer of the call
pub answered : (m : Bytes) (n c : ℕ) → n ≡ mesh_number m → n ≡ 0 → c ≡ cell_count m → Done c ≡ check_answer m
unfolding check_answer answer
answered m n c e z f = simp (sym e, z, sym f)

pub refused : (m : Bytes) (n : ℕ) → n ≡ mesh_number m → (n ≡ 0 → ⊥) → Refused n ≡ check_answer m
unfolding check_answer answer
refused m n e z = simp (sym e, ne_eqb n 0 z)
