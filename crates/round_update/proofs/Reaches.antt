-- What the loops over the entries of a table keep, and what their calls ask. Assumes nothing.
use mathlib.Core.Path.{◌≡◌, refl, sym, ap, ap₂, ◌∙◌, subst}
use mathlib.Core.List.{List}
use Prim.Native.Nat.{ℕ, ◌+◌, ◌*◌, ◌/◌, ◌≤◌, ◌<◌}
use native.Mathlib.Nat.{add-zero}
use native.Mathlib.Omega.{arith}
use lib.IntN.{ℤ, pos, nat_abs, ◌+ℤ◌, ◌*ℤ◌}
use lib.ListN.{length}
use mir.Syntax.{w8, w32, w64}
use mir.Val.{Fits, SFits, to_z, of_z}
use mir.ValLaws.{to_z-of_z}
use Rattle.vocabulary.specs.Bytes.{Bytes, byte_at}
use Rattle.vocabulary.specs.Lists.{filtered}
use Rattle.vocabulary.proofs.IntervalLaws.{at_last}
use Rattle.layout.specs.Words.{word, word_at}
use Rattle.layout.specs.Limits.{most_steps, most_weight}
use Rattle.depths.specs.Depths.{deepest, four, value_from, value_of}
use Rattle.depths.proofs.DepthLaws.{value_is}
use Rattle.depths.specs.declared.Value.{Value}
use Rattle.depths.specs.declared.Value.TheVariants.{Depth, Gap}
use Rattle.round_rule.specs.Rules.{Old, without_gaps, read_by, weight, mean_of, least_of}
use Rattle.round_rule.proofs.RuleLaws.{pass_gap, take_depth, least_snoc}
use Rattle.round_rule.specs.Code.{divided_by, lesser_of}
use Rattle.round_update.specs.Update.{table_entry, table_entries, old_at, olds_at, PlacesThere, Weighed}
use Rattle.round_update.proofs.UpdateLaws.{olds_start, olds_turn}
use Rattle.round_update.proofs.Places.{value_read, place_within}
use Rattle.round_update.proofs.Sums.{Summed, summed_none, summed_gap, summed_depth, summed_mean}

-- ---- a weight by its low byte

low_is : (v : Bytes) (o : ℕ) → word v o ≤ most_weight → byte_at v (o + 1) ≡ word v o
unfolding word
low_is v o h = omega arith

pub byte_fits : (v : Bytes) (i : ℕ) → ((k : ℕ) → Fits w8 (byte_at v k)) → Fits w64 (byte_at v i)
byte_fits v i w = record { fits = omega (arith, (w i).fits) }

module _ (b : Bytes) (at t : ℕ) (low : word b (at + 4 * t + 2) ≤ most_steps) where
  layer_read : byte_at b (at + 4 * t + 3) ≡ word b (at + 4 * t + 2)
  unfolding word
  layer_read = let e : at + 4 * t + 2 + 1 ≡ at + 4 * t + 3 = omega arith in rw (← e) (omega arith)

  pub layer_small : byte_at b (at + 4 * t + 3) ≤ most_steps
  layer_small = rw layer_read low

  module _ (v : Bytes) where
    pub weight_index : 2 * (word b (at + 4 * t + 2) / 2) + 1 < length v → 2 * (byte_at b (at + 4 * t + 3) / 2) + 1 < length v
    weight_index h = rw layer_read h

    module _ (light : word_at v (word b (at + 4 * t + 2) / 2) ≤ most_weight) where
      pub weight_read : byte_at v (2 * (byte_at b (at + 4 * t + 3) / 2) + 1) ≡ word_at v (word b (at + 4 * t + 2) / 2)
      unfolding word_at
      weight_read = rw layer_read (low_is v (2 * (word b (at + 4 * t + 2) / 2)) light)

      pub weight_light : byte_at v (2 * (byte_at b (at + 4 * t + 3) / 2) + 1) ≤ most_weight
      weight_light = rw weight_read light

-- ---- the mean

module _ (v b : Bytes) (at : ℕ) (f : Bytes) (base : ℕ) where
  abbrev olds : ℕ → List Old
  olds t = olds_at f base (table_entries b at t)

  pub sum_start : Summed v (olds_at f base (table_entries b at 0)) 0 (pos 0) 0
  sum_start = rw olds_start (summed_none v)

  module _ (n t : ℕ) (lt : t < n) (R : PlacesThere 4 b at n f base) where
    pub layer_low : Weighed v b at n → word b (at + 4 * t + 2) ≤ most_steps
    layer_low W = W.low t lt

    pub weight_there : Weighed v b at n → 2 * (word b (at + 4 * t + 2) / 2) + 1 < length v
    weight_there W = W.there t lt

    pub weight_known : Weighed v b at n → word_at v (word b (at + 4 * t + 2) / 2) ≤ most_weight
    weight_known W = W.light t lt

    pub is_light : (w : ℕ) → Weighed v b at n → w ≡ word_at v (word b (at + 4 * t + 2) / 2) → w ≤ most_weight
    is_light w W e = rw e (W.light t lt)

    module _ (p : ℕ) (e : p ≡ base + 4 * word b (at + 4 * t)) (x : Value) (r : x ≡ value_from f p) (sum weights sum' y : ℕ)
        (S : Summed v (olds_at f base (table_entries b at t)) t (to_z w64 sum) weights) where
      pub sum_depth : (z s : ℤ) (w : ℕ) → x ≡ Depth z → SFits w32 z → Weighed v b at n → w ≡ word_at v (word b (at + 4 * t + 2) / 2)
          → s ≡ to_z w64 sum +ℤ pos w *ℤ to_z w32 (of_z w32 z) → to_z w64 sum' ≡ to_z w64 (of_z w64 s) → y ≡ w
          → Summed v (olds_at f base (table_entries b at (t + 1))) (t + 1) (to_z w64 sum') (weights + y)
      unfolding weight
      sum_depth z s w g h W i k a c =
          rw (a, c)
          (summed_depth v (olds t) (olds (t + 1)) (old_at f base (table_entry b at t)) (olds_turn b at f base t) f p (base + 4 * word b (at + 4 * t)) refl e x r t sum weights S
          z s w g h (place_within 4 b at n f base R t lt p e x r) i (is_light w W i) (omega (arith, R.few)) k)

      pub sum_gap : x ≡ Gap → to_z w64 sum' ≡ to_z w64 sum → y ≡ 0 → Summed v (olds_at f base (table_entries b at (t + 1))) (t + 1) (to_z w64 sum') (weights + y)
      sum_gap g a c =
          rw (a, c, add-zero weights)
          (summed_gap v (olds t) (olds (t + 1)) (old_at f base (table_entry b at t)) (olds_turn b at f base t) f p (base + 4 * word b (at + 4 * t)) refl e x r t sum weights S g)

  module _ (n t sum weights : ℕ) (g : t ≤ n) (h : n ≤ t) (S : Summed v (olds_at f base (table_entries b at t)) t (to_z w64 sum) weights) where
    whole : Summed v (olds n) n (to_z w64 sum) weights
    whole = let q : t ≡ n = omega arith in subst (λ k. Summed v (olds k) k (to_z w64 sum) weights) q S

    pub sum_few : PlacesThere 4 b at n f base → weights ≤ 983025
    sum_few R = omega (arith, R.few, whole.weights_size)

    pub sum_large : nat_abs (to_z w64 sum) ≤ weights * deepest
    sum_large = S.sum_size

    pub sum_end : (x : Value) → x ≡ divided_by (to_z w64 sum) weights → x ≡ mean_of v (read_by v 1 (olds_at f base (table_entries b at n)))
    sum_end x e = e ∙ summed_mean v (olds n) n (to_z w64 sum) weights whole

-- ---- the least so far

module _ (b : Bytes) (at : ℕ) (f : Bytes) (base : ℕ) where
  pub least_start : Gap ≡ least_of (without_gaps (olds_at f base (table_entries b at 0)))
  unfolding least_of without_gaps filtered
  least_start = rw olds_start refl

  module _ (t p : ℕ) (e : p ≡ base + 4 * word b (at + 4 * t)) (x : Value) (r : x ≡ value_from f p) (y y' : Value) (i : y ≡ least_of (without_gaps (olds_at f base (table_entries b at t)))) where
    entry_read : value_of (four f (base + 4 * word b (at + 4 * t))) ≡ x
    entry_read = value_read f p (base + 4 * word b (at + 4 * t)) (four f (base + 4 * word b (at + 4 * t))) refl e x r

    pub least_depth : (z : ℤ) → x ≡ Depth z → SFits w32 z → y' ≡ lesser_of (to_z w32 (of_z w32 z)) y → y' ≡ least_of (without_gaps (olds_at f base (table_entries b at (t + 1))))
    least_depth z g h k =
        let o : Old = old_at f base (table_entry b at t) in
        let os : List Old = olds_at f base (table_entries b at t) in
        k
        ∙ ap₂ lesser_of (to_z-of_z w32 z h ∙ value_is o.depth 0 z (entry_read ∙ g)) i
        ∙ sym (ap (λ xs. least_of (without_gaps xs)) (olds_turn b at f base t) ∙ ap least_of (take_depth os o z (entry_read ∙ g)) ∙ least_snoc (without_gaps os) o)

    pub least_gap : x ≡ Gap → y' ≡ y → y' ≡ least_of (without_gaps (olds_at f base (table_entries b at (t + 1))))
    least_gap g k =
        let os : List Old = olds_at f base (table_entries b at t) in
        k ∙ i ∙ sym (ap (λ xs. least_of (without_gaps xs)) (olds_turn b at f base t) ∙ ap least_of (pass_gap os (old_at f base (table_entry b at t)) (entry_read ∙ g)))

  pub least_end : (n t : ℕ) (y : Value) → y ≡ least_of (without_gaps (olds_at f base (table_entries b at t))) → t ≤ n → n ≤ t → y ≡ least_of (without_gaps (olds_at f base (table_entries b at n)))
  least_end n t y i g h = at_last (λ j. y ≡ least_of (without_gaps (olds_at f base (table_entries b at j)))) t n g h i
