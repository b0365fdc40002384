-- What the records that were met tell: test 4. Assumes nothing.
use mathlib.Core.Path.{◌≡◌, refl, sym, ap, ◌∙◌}
use mathlib.Core.Bool.{Bool, true, false, not, ◌||◌, ◌&&◌}
use mathlib.Core.List.{List}
use Prim.Native.Nat.{ℕ, ◌≤◌}
use native.Mathlib.Omega.{arith}
use lib.Dec.{ltb, leb}
use lib.ListN.{length}
use borrow.Author.Tests.{le-leb, lt-leb, ltb-true, ltb-false}
use Rattle.vocabulary.specs.Bytes.{Bytes}
use Rattle.vocabulary.specs.Intervals.{is_up_to, some, blocks}
use Rattle.vocabulary.proofs.IntervalLaws.{blocks_all}
use Rattle.vocabulary.specs.Lists.{repeats, some_of, All}
use Rattle.vocabulary.proofs.ListLaws.{or_false, some_of_cong, some_of_false, All_map, All_both, once_few}
use Rattle.mesh.specs.Mesh.{counted, record_count, records, all_records, headed, bad4}
use Rattle.mesh.specs.Meet.{met, meet}
use Rattle.mesh.proofs.FollowLaws.{follow_positive}
use Rattle.mesh.proofs.MeetLaws.{outside, fresh_tells}
use Rattle.mesh_chains.specs.Written.{MarksBelow}

pub records_positive : (m : Bytes) (k : ℕ) → All (λ x. 1 ≤ x) (blocks 1 k (records m))
unfolding records
records_positive m k = blocks_all 1 (records m) (λ x. 1 ≤ x) k (λ j h. follow_positive m _ _)

-- above r is outside, for a number that is not 0
above_outside : (r x : ℕ) → 1 ≤ x → outside r x ≡ ltb r x
unfolding outside is_up_to
above_outside r x h = go (ltb r x) refl
  where
    go : (b : Bool) → ltb r x ≡ b → not (leb 1 x && leb x r) ≡ b
    go true e = simp (le-leb _ _ h, lt-leb x r (ltb-true r x e))
    go false e = simp (le-leb _ _ h, le-leb x r (ltb-false r x e))

-- from an array without marks
module _ (r : ℕ) (blank : List ℕ) (B : MarksBelow r 1 blank) (xs : List ℕ) (positive : All (λ x. 1 ≤ x) xs) (t : List ℕ) where
  -- what meeting the numbers tells
  pub meeting_told : (b : Bool) → met b t ≡ meet 1 r blank xs → b ≡ some_of xs (ltb r) || repeats xs
  meeting_told b e =
      fresh_tells 1 r blank xs t b (λ i q. let z : ⊥ = omega (arith, B.each i) in z) B.long e
      ∙ ap (λ x. x || repeats xs) (some_of_cong (outside r) (ltb r) xs (All_map xs (λ x h. above_outside r x h) positive))

  -- with nothing amiss they are no more than r
  pub met_few : met false t ≡ meet 1 r blank xs → length xs ≤ r
  met_few e =
      let a = or_false (some_of xs (ltb r)) (repeats xs) (sym (meeting_told false e)) in
      once_few r xs
      (All_map xs (λ x w. (w.0, ltb-false r x w.1)) (All_both (λ x. 1 ≤ x) (λ x. ltb r x ≡ false) xs positive (some_of_false (ltb r) xs a.0)))
      a.1

module _ (m : Bytes) (points : ℕ) (pe : points ≡ counted m 0) (b : Bool) (f : b ≡ some 1 points (headed m)) where
  pub point_told : b ≡ true → true ≡ bad4 m
  unfolding bad4
  point_told z = simp (sym pe, sym f, z)

  pub records_told : b ≡ false → (r : ℕ) (c : Bool) → r ≡ record_count m → c ≡ some_of (all_records m) (ltb r) || repeats (all_records m) → c ≡ bad4 m
  unfolding bad4
  records_told z r c e g = g ∙ simp (sym pe, sym f, z, sym e)
