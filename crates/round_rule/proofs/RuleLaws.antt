-- Laws of the rules: what a rule reads, one more old value at the end, a plain mean in any order, a mean is rounded to the shoal side, values within a bound give a new value
-- within it, when a new value is a gap, a new value is four bytes, and what an accepted rule says of its weights. Assumes nothing.
use Rattle.std.specs.Prelude.{◌≡◌, ◌↔◌, ◌≢◌, Bool, ◌&&◌, ◌||◌, eqb, neg_ℤ, ◌+ℤ◌, ◌*ℤ◌, ◌≤ℤ◌, ◌<ℤ◌}
use Rattle.std.proofs.Math.Path.{refl, sym, ap, ap₂, subst}
use Rattle.std.proofs.Common.{◌∙◌, true≢false, le-div_iff_mul-le, div-lt_iff_lt-mul, zero-add, add-zero}
use Rattle.std.proofs.Math.Bool.{true, false, not, cond}
use mathlib.Core.List.{List, [], ◌∷◌, ◌++◌, map, reverse, reverse_aux}
use Prim.Native.Nat.{ℕ, zero, suc, ◌+◌, ◌-◌, ◌*◌, ◌/◌, ◌<◌, ◌≤◌, zero-le}
use Rattle.std.proofs.Math.Nat.{mul-le-mul_left, mul-div-le, lt-mul-div-succ, div-le_of_le-mul}
use native.Mathlib.Omega.{arith}
use Rattle.std.proofs.Math.Dec.{ltb, leb→le, le→leb, lt→ltb}
use Rattle.std.proofs.Math.IntN.{ℤ, pos, negsuc, nat_abs, sub_ℕ, +ℤ_idl, +ℤ_idr, +ℤ_one, +ℤ_assoc, +ℤ_comm, zero-*ℤ}
use Rattle.std.proofs.Math.ListN.{length}
use Rattle.std.specs.Int.Signed.{lt_z}
use borrow.Author.Tests.{ltb-true, ltb-false, eqb-true, ne_eqb, not-false}
use Rattle.vocabulary.specs.Bytes.{Bytes}
use Rattle.vocabulary.specs.Lists.{All, filtered}
use Rattle.vocabulary.proofs.ListLaws.{cond_has, or_false, All_of_map, filtered_in, filtered_out, filtered_again, filtered_has}
use Rattle.vocabulary.specs.Intervals.{some}
use Rattle.vocabulary.proofs.IntervalLaws.{some_at}
use Rattle.layout.specs.Words.{word, word_at, word_bytes, bytes_of}
use Rattle.layout.specs.Limits.{most_weight}
use Rattle.depths.specs.Depths.{depth_of, gap_bytes, is_depth, value_of, value_bytes, Within}
use Rattle.depths.proofs.DepthLaws.{gap_alone, value_is, length_value_bytes, value_back, bytes_gap}
use Rattle.depths.specs.declared.Value.{Value}
use Rattle.depths.specs.declared.Value.TheVariants.{Depth, Gap}
use Rattle.round_rule.specs.Rules.{Old, weight_count, too_heavy, bad11, without_gaps, read_by, weight, depth_sum, weight_sum, quotient, mean_of, mean, ones}
use Rattle.round_rule.specs.Rules.{plain_old, plain_mean, lesser, least, least_of, new_depth, Floored}
use Rattle.round_rule.specs.Code.{divided_by, lesser_of}

-- ---- what is read

-- one more old value at the end of a reach: a gap is passed over, a depth is read
pub pass_gap : (os : List Old) (o : Old) → value_of o.depth ≡ Gap → without_gaps (os ++ (o ∷ [])) ≡ without_gaps os
unfolding without_gaps is_depth
pass_gap os o e = filtered_out (λ o. is_depth (value_of o.depth)) os o (ap is_depth e)

pub take_depth : (os : List Old) (o : Old) (z : ℤ) → value_of o.depth ≡ Depth z → without_gaps (os ++ (o ∷ [])) ≡ without_gaps os ++ (o ∷ [])
unfolding without_gaps is_depth
take_depth os o z e = filtered_in (λ o. is_depth (value_of o.depth)) os o (ap is_depth e)

-- ---- one more at the end

pub depth_sum_snoc : (v : Bytes) (os : List Old) (o : Old) → depth_sum v (os ++ (o ∷ [])) ≡ depth_sum v os +ℤ pos (weight v o) *ℤ depth_of o.depth
unfolding depth_sum
depth_sum_snoc v [] o = let x : ℤ = pos (weight v o) *ℤ depth_of o.depth in +ℤ_idr x ∙ sym (+ℤ_idl x)
depth_sum_snoc v (p ∷ os) o =
    let x : ℤ = pos (weight v p) *ℤ depth_of p.depth in
    ap (λ s. x +ℤ s) (depth_sum_snoc v os o) ∙ sym (+ℤ_assoc x (depth_sum v os) (pos (weight v o) *ℤ depth_of o.depth))

pub weight_sum_snoc : (v : Bytes) (os : List Old) (o : Old) → weight_sum v (os ++ (o ∷ [])) ≡ weight_sum v os + weight v o
unfolding weight_sum
weight_sum_snoc v [] o = omega arith
weight_sum_snoc v (p ∷ os) o = omega (arith, weight_sum_snoc v os o)

least_last : (z : ℤ) (os : List Old) (o : Old) → least z (os ++ (o ∷ [])) ≡ lesser (depth_of o.depth) (least z os)
unfolding least
least_last z [] o = refl
least_last z (p ∷ os) o = least_last (lesser (depth_of p.depth) z) os o

pub least_snoc : (os : List Old) (o : Old) → least_of (os ++ (o ∷ [])) ≡ lesser_of (depth_of o.depth) (least_of os)
unfolding least_of lesser_of least
least_snoc [] o = refl
least_snoc (p ∷ os) o = ap Depth (least_last (depth_of p.depth) os o)

-- ---- a mean by its two sums: a weight of zero adds to neither, so to pass over it changes no mean; and of other weights only no weights have the sum zero

module _ (v : Bytes) where
  abbrev heavy : List Old → List Old
  heavy os = filtered (λ o. ltb 0 (weight v o)) os

  depths_heavy : (os : List Old) → depth_sum v (heavy os) ≡ depth_sum v os
  unfolding filtered depth_sum
  depths_heavy [] = refl
  depths_heavy (o ∷ os) = go (ltb 0 (weight v o)) refl (depths_heavy os)
    where
      go : (t : Bool) → ltb 0 (weight v o) ≡ t → depth_sum v (heavy os) ≡ depth_sum v os
          → depth_sum v (cond t (o ∷ heavy os) (heavy os)) ≡ pos (weight v o) *ℤ depth_of o.depth +ℤ depth_sum v os
      go true e r = ap (λ s. pos (weight v o) *ℤ depth_of o.depth +ℤ s) r
      go false e r =
          let h : weight v o ≤ 0 = ltb-false 0 (weight v o) e in
          let n : 0 ≡ weight v o = omega arith in
          r ∙ sym (+ℤ_idl (depth_sum v os)) ∙ ap (λ x. x +ℤ depth_sum v os) (sym (zero-*ℤ (depth_of o.depth)))
          ∙ ap (λ w. pos w *ℤ depth_of o.depth +ℤ depth_sum v os) n

  weights_heavy : (os : List Old) → weight_sum v (heavy os) ≡ weight_sum v os
  unfolding filtered weight_sum
  weights_heavy [] = refl
  weights_heavy (o ∷ os) = go (ltb 0 (weight v o)) refl (weights_heavy os)
    where
      go : (t : Bool) → ltb 0 (weight v o) ≡ t → weight_sum v (heavy os) ≡ weight_sum v os → weight_sum v (cond t (o ∷ heavy os) (heavy os)) ≡ weight v o + weight_sum v os
      go true e r = ap (λ s. weight v o + s) r
      go false e r = let h : weight v o ≤ 0 = ltb-false 0 (weight v o) e in omega arith

  -- one that is read makes a sum of weights above zero
  sum_heavy : (o : Old) (os xs : List Old) → heavy xs ≡ o ∷ os → weight_sum v xs ≢ 0
  unfolding filtered weight_sum
  sum_heavy o os [] e z = let n : 0 ≡ suc (length os) = ap length e in omega arith
  sum_heavy o os (x ∷ xs) e z = go (ltb 0 (weight v x)) refl e (λ r. sum_heavy o os xs r)
    where
      go : (t : Bool) → ltb 0 (weight v x) ≡ t → cond t (x ∷ heavy xs) (heavy xs) ≡ o ∷ os → (heavy xs ≡ o ∷ os → weight_sum v xs ≢ 0) → ⊥
      go true q r f = let h : 0 < weight v x = ltb-true 0 (weight v x) q in omega arith
      go false q r f = f r (omega arith)

  mean_heavy : (xs zs : List Old) → heavy xs ≡ zs → mean_of v zs ≡ divided_by (depth_sum v zs) (weight_sum v zs)
  unfolding mean_of weight_sum depth_sum
  mean_heavy xs [] e = refl
  mean_heavy xs (o ∷ os) e =
      simp (ne_eqb (weight_sum v (o ∷ os)) 0 (λ z. sum_heavy o os xs e (sym (weights_heavy xs) ∙ ap (weight_sum v) e ∙ z)))

  pub mean_by_sums : (os : List Old) → mean_of v (read_by v 1 os) ≡ divided_by (depth_sum v (without_gaps os)) (weight_sum v (without_gaps os))
  unfolding read_by
  mean_by_sums os =
      mean_heavy (without_gaps os) (heavy (without_gaps os)) refl ∙ ap₂ (λ s n. divided_by s n) (depths_heavy (without_gaps os)) (weights_heavy (without_gaps os))

-- ---- a plain mean is the same whichever way round its values come

module _ (v : Bytes) where
  -- what one value adds to the two sums
  abbrev added_depth : Bytes → ℤ
  added_depth x = cond (is_depth (value_of x)) (pos (weight v (plain_old x)) *ℤ depth_of x) (pos 0)

  abbrev added_weight : Bytes → ℕ
  added_weight x = cond (is_depth (value_of x)) (weight v (plain_old x)) 0

  depth_added : (x : Bytes) (os : List Old) → depth_sum v (without_gaps (plain_old x ∷ os)) ≡ added_depth x +ℤ depth_sum v (without_gaps os)
  unfolding without_gaps filtered depth_sum
  depth_added x os = go (is_depth (value_of x))
    where
      go : (t : Bool) → depth_sum v (cond t (plain_old x ∷ without_gaps os) (without_gaps os)) ≡ cond t (pos (weight v (plain_old x)) *ℤ depth_of x) (pos 0) +ℤ depth_sum v (without_gaps os)
      go true = refl
      go false = sym (+ℤ_idl (depth_sum v (without_gaps os)))

  weight_added : (x : Bytes) (os : List Old) → weight_sum v (without_gaps (plain_old x ∷ os)) ≡ added_weight x + weight_sum v (without_gaps os)
  unfolding without_gaps filtered weight_sum
  weight_added x os = go (is_depth (value_of x))
    where
      go : (t : Bool) → weight_sum v (cond t (plain_old x ∷ without_gaps os) (without_gaps os)) ≡ cond t (weight v (plain_old x)) 0 + weight_sum v (without_gaps os)
      go true = refl
      go false = sym (zero-add (weight_sum v (without_gaps os)))

  abbrev depths_of : List Bytes → ℤ
  depths_of xs = depth_sum v (without_gaps (map plain_old xs))

  abbrev weights_of : List Bytes → ℕ
  weights_of xs = weight_sum v (without_gaps (map plain_old xs))

  sum_turned : (xs ys : List Bytes) → depths_of (reverse_aux xs ys) ≡ depths_of xs +ℤ depths_of ys
  unfolding without_gaps filtered depth_sum
  sum_turned [] ys = sym (+ℤ_idl (depths_of ys))
  sum_turned (x ∷ xs) ys =
      let t : ℤ = added_depth x in
      sum_turned xs (x ∷ ys)
      ∙ ap (λ z. depths_of xs +ℤ z) (depth_added x (map plain_old ys))
      ∙ sym (+ℤ_assoc (depths_of xs) t (depths_of ys))
      ∙ ap (λ z. z +ℤ depths_of ys) (+ℤ_comm (depths_of xs) t ∙ sym (depth_added x (map plain_old xs)))

  weights_turned : (xs ys : List Bytes) → weights_of (reverse_aux xs ys) ≡ weights_of xs + weights_of ys
  unfolding without_gaps filtered weight_sum
  weights_turned [] ys = omega arith
  weights_turned (x ∷ xs) ys = omega (arith, weights_turned xs (x ∷ ys), weight_added x (map plain_old xs), weight_added x (map plain_old ys))

pub mean_reversed : (xs : List Bytes) → plain_mean (reverse xs) ≡ plain_mean xs
unfolding without_gaps filtered depth_sum weight_sum
mean_reversed xs =
    ap value_bytes
    (mean_by_sums ones (map plain_old (reverse xs))
    ∙ ap₂ (λ s n. divided_by s n) (sum_turned ones xs [] ∙ +ℤ_idr (depths_of ones xs)) (weights_turned ones xs [] ∙ add-zero (weights_of ones xs))
    ∙ sym (mean_by_sums ones (map plain_old xs)))

-- ---- a mean is rounded to the shoal side: "the greatest whole number not above the quotient" (F-4)

negative_below : (k n : ℕ) → n < k → neg_ℤ (pos k) ≤ℤ negsuc n
negative_below zero n h = let z : ⊥ = omega arith in absurd z
negative_below (suc k) n h = record { le = le→leb n k (omega arith) }

negative_above : (k n : ℕ) → k ≤ n → negsuc n <ℤ neg_ℤ (pos k)
negative_above zero n h = record { lt = tt }
negative_above (suc k) n h = record { lt = lt→ltb k n h }

negative_least : (k n : ℕ) → neg_ℤ (pos k) ≤ℤ negsuc n → n < k
negative_least zero n h = absurd h.le
negative_least (suc k) n h = let l : n ≤ k = leb→le n k h.le in omega arith

module _ (w : ℕ) (i : 1 ≤ w) where
  -- "not above the quotient": times the weights, it is not above the sum
  pub floor_below : (x : ℤ) → (pos w *ℤ quotient x w) ≤ℤ x
  unfolding quotient
  floor_below (pos n) = record { le = le→leb (w * (n / w)) n (mul-div-le n w) }
  floor_below (negsuc n) = negative_below (w * suc (n / w)) n (omega (arith, lt-mul-div-succ n i))

  -- one more is above the quotient
  pub floor_next : (x : ℤ) → x <ℤ (pos w *ℤ (quotient x w +ℤ pos 1))
  unfolding quotient
  floor_next (pos n) = record { lt = lt→ltb n (w * (n / w + 1)) (lt-mul-div-succ n i) }
  floor_next (negsuc n) = go (n / w) (mul-div-le n w)
    where
      go : (q : ℕ) → w * q ≤ n → negsuc n <ℤ (pos w *ℤ (negsuc q +ℤ pos 1))
      go zero h = record { lt = tt }
      go (suc q) h = rw (+ℤ_one (negsuc (suc q))) (negative_above (w * suc q) n h)

  -- "the greatest" of all that are not above it
  pub floor_greatest : (x z : ℤ) → (pos w *ℤ z) ≤ℤ x → z ≤ℤ quotient x w
  unfolding quotient
  floor_greatest (pos n) (pos a) h = let l : w * a ≤ n = leb→le (w * a) n h.le in record { le = le→leb a (n / w) ((le-div_iff_mul-le i).1 (omega arith)) }
  floor_greatest (pos n) (negsuc a) h = record { le = tt }
  floor_greatest (negsuc n) (pos a) h = absurd h.le
  floor_greatest (negsuc n) (negsuc a) h =
      let l : n < w * suc a = negative_least (w * suc a) n h in
      let k : n / w < suc a = (div-lt_iff_lt-mul i).1 (omega arith) in record { le = le→leb (n / w) a (omega arith) }

positive : (w : ℕ) → eqb w 0 ≡ false → 1 ≤ w
positive zero e = absurd (true≢false e)
positive (suc w) e = omega arith

divided_floor : (sum : ℤ) (w : ℕ) → Floored sum w (divided_by sum w)
unfolding Floored
divided_floor sum w =
    cond_has (Floored sum w) (eqb w 0) Gap (Depth (quotient sum w)) (λ e. tt) (λ e. (floor_below w (positive w e) sum, floor_next w (positive w e) sum))

-- ---- sizes of integers

pub size_neg : (n : ℕ) → nat_abs (neg_ℤ (pos n)) ≡ n
size_neg zero = refl
size_neg (suc n) = refl

size_sub : (a b : ℕ) → nat_abs (sub_ℕ a b) ≤ a + b
size_sub a b = go (ltb a b) refl
  where
    go : (t : Bool) → ltb a b ≡ t → nat_abs (cond t (negsuc (b - suc a)) (pos (a - b))) ≤ a + b
    go true e = let h : a < b = ltb-true a b e in omega arith
    go false e = omega arith

pub size_add : (x y : ℤ) → nat_abs (x +ℤ y) ≤ nat_abs x + nat_abs y
size_add (pos a) (pos b) = omega arith
size_add (pos a) (negsuc b) = size_sub a (suc b)
size_add (negsuc a) (pos b) = omega (arith, size_sub b (suc a))
size_add (negsuc a) (negsuc b) = omega arith

pub size_times : (w : ℕ) (x : ℤ) → nat_abs (pos w *ℤ x) ≡ w * nat_abs x
size_times w (pos a) = refl
size_times w (negsuc a) = size_neg (w * suc a)

-- if the size of a sum is at most w times m, that of its quotient by w is at most m
pub size_floor : (x : ℤ) (w m : ℕ) → 1 ≤ w → nat_abs x ≤ w * m → nat_abs (quotient x w) ≤ m
unfolding quotient
size_floor (pos n) w m i h = div-le_of_le-mul w h
size_floor (negsuc n) w m i h = let k : n < m * w = omega arith in (div-lt_iff_lt-mul i).1 k

-- one more term keeps a sum's size below the weights' multiple
pub size_more : (w : ℕ) (x s : ℤ) (a m : ℕ) → nat_abs x ≤ m → nat_abs s ≤ a * m → nat_abs (s +ℤ pos w *ℤ x) ≤ (a + w) * m
size_more w x s a m h k =
    let p : w * nat_abs x ≤ w * m = mul-le-mul_left w h in omega (arith, size_add s (pos w *ℤ x), size_times w x)

-- ---- of values within m the new value is within m

abbrev pub SmallOld : ℕ → Old → Type 0
SmallOld m o = Within m (value_of o.depth)

abbrev SmallDepth : ℕ → Old → Type 0
SmallDepth m o = nat_abs (depth_of o.depth) ≤ m

module _ (m : ℕ) where
  -- a value that is a depth
  depth_size : (x : Bytes) → is_depth (value_of x) ≡ true → Within m (value_of x) → nat_abs (depth_of x) ≤ m
  unfolding is_depth Within
  depth_size x d w = go (value_of x) refl d w
    where
      go : (y : Value) → value_of x ≡ y → is_depth y ≡ true → Within m y → nat_abs (depth_of x) ≤ m
      go (Depth z) e d w = subst (λ u. nat_abs u ≤ m) (value_is x 0 z e) w
      go Gap e d w = absurd (true≢false (sym d))

  depths_within : (os : List Old) → All (SmallOld m) os → All (SmallDepth m) (without_gaps os)
  unfolding without_gaps
  depths_within os a = filtered_has (λ o. is_depth (value_of o.depth)) (SmallOld m) (SmallDepth m) (λ o. depth_size o.depth) os a

-- a mean by its two sums
pub divided_within : (sum : ℤ) (w m : ℕ) → nat_abs sum ≤ w * m → Within m (divided_by sum w)
unfolding Within
divided_within sum w m h =
    cond_has (Within m) (eqb w 0) Gap (Depth (quotient sum w)) (λ e. tt) (λ e. size_floor sum w m (positive w e) h)

module _ (v : Bytes) (m : ℕ) where
  sum_within : (xs : List Old) → All (SmallDepth m) xs → nat_abs (depth_sum v xs) ≤ weight_sum v xs * m
  unfolding depth_sum weight_sum
  sum_within [] a = zero-le
  sum_within (o ∷ os) a =
      let x : ℤ = depth_of o.depth in
      let p : weight v o * nat_abs x ≤ weight v o * m = mul-le-mul_left (weight v o) a.0 in
      omega (arith, size_add (pos (weight v o) *ℤ x) (depth_sum v os), size_times (weight v o) x, sum_within os a.1)

  pub mean_within : (os : List Old) → All (SmallOld m) os → Within m (mean_of v (read_by v 1 os))
  mean_within os a =
      subst (Within m) (sym (mean_by_sums v os)) (divided_within (depth_sum v (without_gaps os)) (weight_sum v (without_gaps os)) m (sum_within (without_gaps os) (depths_within m os a)))

  -- "Every mean, at cells ..": "a smoothed depth deeper than its mean" is never given
  pub mean_floor : (os : List Old) → m < 2147483648 → All (SmallOld m) os
      → Floored (depth_sum v (read_by v 1 os)) (weight_sum v (read_by v 1 os)) (value_of (mean v os))
  unfolding read_by
  mean_floor os l a =
      let rs : List Old = heavy v (without_gaps os) in
      subst (Floored (depth_sum v rs) (weight_sum v rs)) (sym (value_back m l (mean_of v rs) (mean_within os a)))
      (subst (Floored (depth_sum v rs) (weight_sum v rs)) (sym (mean_heavy v (without_gaps os) rs refl)) (divided_floor (depth_sum v rs) (weight_sum v rs)))

  least_depth : (z : ℤ) (xs : List Old) → nat_abs z ≤ m → All (SmallDepth m) xs → nat_abs (least z xs) ≤ m
  unfolding least
  least_depth z [] h a = h
  least_depth z (o ∷ os) h a =
      let y : ℤ = depth_of o.depth in
      least_depth (lesser y z) os (cond_has (λ x. nat_abs x ≤ m) (lt_z y z) y z (λ e. a.0) (λ e. h)) a.1

  pub least_within : (os : List Old) → All (SmallOld m) os → Within m (least_of (without_gaps os))
  unfolding Within least_of
  least_within os a = go (without_gaps os) (depths_within m os a)
    where
      go : (xs : List Old) → All (SmallDepth m) xs → Within m (least_of xs)
      go [] b = tt
      go (o ∷ xs) b = least_depth (depth_of o.depth) xs b.0 b.1

  -- whatever the kind
  pub new_within : (kind : ℕ) (own : Bytes) (os : List Old) → m < 2147483648 → Within m (value_of own) → All (SmallOld m) os → Within m (value_of (new_depth kind v own os))
  unfolding new_depth read_by
  new_within zero own os l h a = h
  new_within (suc zero) own os l h a = subst (Within m) (sym (value_back m l (mean_of v (read_by v 1 os)) (mean_within os a))) (mean_within os a)
  new_within (suc (suc zero)) own os l h a = subst (Within m) (sym (value_back m l (least_of (without_gaps os)) (least_within os a))) (least_within os a)
  new_within (suc (suc (suc kind))) own os l h a = h

-- ---- a new value is four bytes

pub new_length : (kind : ℕ) (v own : Bytes) (os : List Old) → length own ≡ 4 → length (new_depth kind v own os) ≡ 4
unfolding new_depth
new_length zero v own os l = l
new_length (suc zero) v own os l = length_value_bytes (mean_of v (read_by v 1 os))
new_length (suc (suc zero)) v own os l = length_value_bytes (least_of (read_by v 2 os))
new_length (suc (suc (suc kind))) v own os l = l

-- ---- the paper's words on gaps (F-2)

-- "Mean and shoalest pass over gaps, a mean's divisor too"
pub passed_over : (kind : ℕ) (v own : Bytes) (os : List Old) → new_depth kind v own os ≡ new_depth kind v own (without_gaps os)
unfolding new_depth read_by without_gaps
passed_over zero v own os = refl
passed_over (suc zero) v own os = ap (λ xs. value_bytes (mean_of v (filtered (λ o. ltb 0 (weight v o)) xs))) (sym (filtered_again (λ o. is_depth (value_of o.depth)) os))
passed_over (suc (suc zero)) v own os = ap (λ xs. value_bytes (least_of xs)) (sym (filtered_again (λ o. is_depth (value_of o.depth)) os))
passed_over (suc (suc (suc kind))) v own os = refl

-- the cell's own gap stays under hold
pub hold_keeps : (v own : Bytes) (os : List Old) → new_depth 0 v own os ≡ own
unfolding new_depth
hold_keeps v own os = refl

mean_gap : (v : Bytes) (xs : List Old) → mean_of v xs ≡ Gap → xs ≡ []
unfolding mean_of
mean_gap v [] e = refl
mean_gap v (o ∷ os) e = absurd (gap_alone (quotient (depth_sum v (o ∷ os)) (weight_sum v (o ∷ os))) (sym e))

least_gap : (xs : List Old) → least_of xs ≡ Gap → xs ≡ []
unfolding least_of
least_gap [] e = refl
least_gap (o ∷ os) e = absurd (gap_alone (least (depth_of o.depth) os) (sym e))

-- "with only gaps, or only zero weights left, the new value is a gap", and else it is none, even where the cell's own old value is
pub gap_exactly : (kind : ℕ) → 1 ≤ kind → kind ≤ 2 → (v own : Bytes) (os : List Old) (m : ℕ) → m < 2147483648 → All (SmallOld m) os
    → (new_depth kind v own os ≡ gap_bytes) ↔ (read_by v kind os ≡ [])
unfolding new_depth read_by mean_of least_of value_bytes
gap_exactly zero i k v own os m l a = let z : ⊥ = omega arith in absurd z
gap_exactly (suc zero) i k v own os m l a =
    (λ e. mean_gap v (read_by v 1 os) (bytes_gap m l (mean_of v (read_by v 1 os)) (mean_within v m os a) e), λ e. ap (λ xs. value_bytes (mean_of v xs)) e)
gap_exactly (suc (suc zero)) i k v own os m l a =
    (λ e. least_gap (without_gaps os) (bytes_gap m l (least_of (without_gaps os)) (least_within v m os a) e), λ e. ap (λ xs. value_bytes (least_of xs)) e)
gap_exactly (suc (suc (suc kind))) i k v own os m l a = let z : ⊥ = omega arith in absurd z

-- "A point with only gaps is a gap", and no other is
module _ where
  abbrev read : List Bytes → List Old
  read xs = read_by ones 1 (map plain_old xs)

  read_gap : (x : Bytes) (xs : List Bytes) → value_of x ≡ Gap → read (x ∷ xs) ≡ read xs
  unfolding read_by without_gaps filtered is_depth
  read_gap x xs e = ap (λ t. heavy ones (cond t (plain_old x ∷ without_gaps (map plain_old xs)) (without_gaps (map plain_old xs)))) (ap is_depth e)

  read_depth : (x : Bytes) (xs : List Bytes) (z : ℤ) → value_of x ≡ Depth z → read (x ∷ xs) ≡ plain_old x ∷ read xs
  unfolding read_by without_gaps filtered is_depth weight word_at word bytes_of word_bytes
  read_depth x xs z e = ap (λ t. heavy ones (cond t (plain_old x ∷ without_gaps (map plain_old xs)) (without_gaps (map plain_old xs)))) (ap is_depth e)

  none_read : (xs : List Bytes) → read xs ≡ [] → All (λ x. value_of x ≡ Gap) xs
  none_read [] e = tt
  none_read (x ∷ xs) e = go (value_of x) refl (λ q. none_read xs q)
    where
      go : (y : Value) → value_of x ≡ y → (read xs ≡ [] → All (λ x. value_of x ≡ Gap) xs) → All (λ x. value_of x ≡ Gap) (x ∷ xs)
      go (Depth z) q rest = let n : suc (length (read xs)) ≡ 0 = ap length (sym (read_depth x xs z q) ∙ e) in let no : ⊥ = omega arith in absurd no
      go Gap q rest = (q, rest (sym (read_gap x xs q) ∙ e))

  gaps_read : (xs : List Bytes) → All (λ x. value_of x ≡ Gap) xs → read xs ≡ []
  unfolding read_by without_gaps filtered
  gaps_read [] a = refl
  gaps_read (x ∷ xs) a = read_gap x xs a.0 ∙ gaps_read xs a.1

pub point_gap : (xs : List Bytes) (m : ℕ) → m < 2147483648 → All (λ x. Within m (value_of x)) xs → (plain_mean xs ≡ gap_bytes) ↔ All (λ x. value_of x ≡ Gap) xs
unfolding new_depth value_bytes
point_gap xs m l a =
    let g = gap_exactly 1 (omega arith) (omega arith) ones [] (map plain_old xs) m l (All_of_map (SmallOld m) plain_old xs a) in
    (λ e. none_read xs (g.0 e), λ b. g.1 (gaps_read xs b))

-- ".. and points" (F-4)
pub point_floor : (xs : List Bytes) (m : ℕ) → m < 2147483648 → All (λ x. Within m (value_of x)) xs
    → Floored (depth_sum ones (read xs)) (weight_sum ones (read xs)) (value_of (plain_mean xs))
point_floor xs m l a = mean_floor ones m (map plain_old xs) l (All_of_map (SmallOld m) plain_old xs a)

-- ---- an accepted rule

pub rule_known : (kind n : ℕ) (v : Bytes) → bad11 kind n v ≡ false → kind ≤ 2
unfolding bad11
rule_known kind n v e =
    let a = not (eqb (length v) (2 * weight_count kind n)) in
    let b = some 0 (weight_count kind n) (too_heavy v) in
    let c = eqb kind 1 && eqb (word_at v 0) 0 in
    ltb-false 2 kind (or_false (ltb 2 kind) a (or_false (ltb 2 kind || a) b (or_false (ltb 2 kind || a || b) c e).0).0).0

module _ (n : ℕ) (v : Bytes) (e : bad11 1 n v ≡ false) where
  -- "Mean has weights v0, .., v(n/2)"
  pub rule_long : length v ≡ 2 * (n / 2 + 1)
  unfolding bad11 weight_count
  rule_long =
      let a = not (eqb (length v) (2 * (n / 2 + 1))) in
      let b = some 0 (n / 2 + 1) (too_heavy v) in
      eqb-true _ _ (not-false (eqb (length v) (2 * (n / 2 + 1))) (or_false a b (or_false (a || b) (eqb (word_at v 0) 0) e).0).0)

  none_heavy : some 0 (n / 2 + 1) (too_heavy v) ≡ false
  unfolding bad11 weight_count
  none_heavy =
      let a = not (eqb (length v) (2 * (n / 2 + 1))) in
      let b = some 0 (n / 2 + 1) (too_heavy v) in
      (or_false a b (or_false (a || b) (eqb (word_at v 0) 0) e).0).1

  -- "each 0 to 15"
  pub rule_light : (layer : ℕ) → layer ≤ n → word_at v (layer / 2) ≤ most_weight
  unfolding too_heavy
  rule_light layer h =
      ltb-false most_weight (word_at v (layer / 2))
      (ap (λ k. too_heavy v k) (sym (zero-add (layer / 2))) ∙ some_at 0 (too_heavy v) (n / 2 + 1) (layer / 2) none_heavy (omega arith))
