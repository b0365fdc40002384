-- The two sums of a mean over any list of old values, as a loop keeps them in its registers. Assumes nothing.
use mathlib.Core.Path.{◌≡◌, refl, sym, ap, ap₂, ◌∙◌}
use mathlib.Core.List.{List, [], ◌∷◌, ◌++◌}
use Prim.Native.Nat.{ℕ, ◌+◌, ◌*◌, ◌≤◌, ◌<◌}
use native.Mathlib.Omega.{arith}
use lib.IntN.{ℤ, pos, nat_abs, ◌+ℤ◌, ◌*ℤ◌}
use mir.Syntax.{w32, w64}
use mir.Val.{Fits, SFits, to_z, of_z}
use mir.ValLaws.{to_z-of_z}
use Rattle.vocabulary.specs.Bytes.{Bytes}
use Rattle.vocabulary.specs.Lists.{filtered}
use Rattle.layout.specs.Limits.{most_weight}
use Rattle.depths.specs.Depths.{deepest, Within, four, value_from, value_of}
use Rattle.depths.proofs.DepthLaws.{value_is}
use Rattle.depths.specs.declared.Value.{Value}
use Rattle.depths.specs.declared.Value.TheVariants.{Depth, Gap}
use Rattle.round_rule.specs.Rules.{Old, without_gaps, read_by, weight, depth_sum, weight_sum, mean_of}
use Rattle.round_rule.proofs.RuleLaws.{size_more, depth_sum_snoc, weight_sum_snoc, pass_gap, take_depth, mean_by_sums}
use Rattle.round_rule.specs.Code.{divided_by}
use Rattle.round_update.proofs.Registers.{fits_long}
use Rattle.round_update.proofs.Places.{depth_within, value_read}

-- sum is the number that the register holds; t values were looked at
pub record Summed (v : Bytes) (os : List Old) (t : ℕ) (sum : ℤ) (weights : ℕ) : Type 0 where
  pub sum_is : sum ≡ depth_sum v (without_gaps os)
  pub weights_is : weights ≡ weight_sum v (without_gaps os)
  pub sum_size : nat_abs sum ≤ weights * deepest
  pub weights_size : weights ≤ most_weight * t

pub summed_none : (v : Bytes) → Summed v [] 0 (pos 0) 0
unfolding without_gaps filtered depth_sum weight_sum
summed_none v = record { sum_is = refl; weights_is = refl; sum_size = omega arith; weights_size = omega arith }

-- a weight has room in its register: y is what was read of t
pub weights_fit : (v : Bytes) (os : List Old) (n t : ℕ) (sum : ℤ) (weights y : ℕ) → Summed v os t sum weights → t < n → n ≤ 65535 → y < 65536 → Fits w64 (weights + y)
weights_fit v os n t sum weights y S h k l = record { fits = omega (arith, S.weights_size) }

-- one more value: that of o, which was read as x at the place p of f
module _ (v : Bytes) (os more : List Old) (o : Old) (turn : more ≡ os ++ (o ∷ [])) (f : Bytes) (p q : ℕ) (there : o.depth ≡ four f q) (e : p ≡ q) (x : Value) (r : x ≡ value_from f p) where
  old_read : value_of o.depth ≡ x
  old_read = value_read f p q o.depth there e x r

  module _ (t sum weights : ℕ) (S : Summed v os t (to_z w64 sum) weights) where
    pub summed_gap : x ≡ Gap → Summed v more (t + 1) (to_z w64 sum) weights
    summed_gap g =
        let l : without_gaps more ≡ without_gaps os = ap without_gaps turn ∙ pass_gap os o (old_read ∙ g) in
        record {
          sum_is = S.sum_is ∙ ap (depth_sum v) (sym l);
          weights_is = S.weights_is ∙ ap (weight_sum v) (sym l);
          sum_size = S.sum_size;
          weights_size = omega (arith, S.weights_size);
        }

    pub summed_depth : (z s : ℤ) (w : ℕ) → x ≡ Depth z → SFits w32 z → Within deepest x → w ≡ weight v o → w ≤ most_weight → t < 65535
        → s ≡ to_z w64 sum +ℤ pos w *ℤ to_z w32 (of_z w32 z) → Summed v more (t + 1) (to_z w64 (of_z w64 s)) (weights + w)
    summed_depth z s w g h small i light few k =
        let l : without_gaps more ≡ without_gaps os ++ (o ∷ []) = ap without_gaps turn ∙ take_depth os o z (old_read ∙ g) in
        let y : s ≡ to_z w64 sum +ℤ pos w *ℤ z = rw (to_z-of_z w32 z h) at k in
        let size : nat_abs s ≤ (weights + w) * deepest = rw y (size_more w z (to_z w64 sum) weights deepest (depth_within deepest x z small g) S.sum_size) in
        let most : weights + w ≤ most_weight * (t + 1) = omega (arith, S.weights_size) in
        let held : to_z w64 (of_z w64 s) ≡ s = to_z-of_z w64 s (fits_long s (omega arith)) in
        record {
          sum_is =
              held
              ∙ y
              ∙ ap₂ (λ a c. a +ℤ c) S.sum_is (ap₂ (λ n d. pos n *ℤ d) i (value_is o.depth 0 z (old_read ∙ g)))
              ∙ sym (ap (depth_sum v) l ∙ depth_sum_snoc v (without_gaps os) o);
          weights_is = ap₂ ◌+◌ S.weights_is i ∙ sym (ap (weight_sum v) l ∙ weight_sum_snoc v (without_gaps os) o);
          sum_size = rw held size;
          weights_size = most;
        }

-- at the end
pub summed_mean : (v : Bytes) (os : List Old) (t : ℕ) (sum : ℤ) (weights : ℕ) → Summed v os t sum weights → divided_by sum weights ≡ mean_of v (read_by v 1 os)
summed_mean v os t sum weights S = ap₂ divided_by S.sum_is S.weights_is ∙ sym (mean_by_sums v os)
