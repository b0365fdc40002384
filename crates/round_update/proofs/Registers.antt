-- What the registers of 32 and 64 bits hold of the numbers in a sum, a quotient, a mean and a comparison of depths. Assumes nothing.
use mathlib.Core.Path.{◌≡◌, refl, sym, ap, ◌∙◌}
use mathlib.Core.Bool.{Bool, true, false, cond, true≢false}
use Prim.Native.Nat.{ℕ, zero, suc, ◌*◌, ◌/◌, ◌≤◌, ◌<◌, ◌^◌, zero-le}
use native.Mathlib.Nat.{mul-zero, add-zero, mul-le-mul, mul-div-le, div-le_of_le-mul, lt-div-mul-add, div-eq_of_lt-le}
use native.Mathlib.Omega.{arith}
use lib.Dec.{T, leb, leb→le}
use lib.IntN.{ℤ, pos, negsuc, neg_ℤ, nat_abs, ◌+ℤ◌, ◌-ℤ◌, ◌*ℤ◌}
use lib.Signed.{mag, lt_z, quot_z}
use borrow.Author.Tests.{ltb-true, ltb-false, ne_eqb}
use mir.Syntax.{w32, w64}
use mir.Val.{SFits, to_z, of_z}
use mir.ValLaws.{to_z_pos, to_z-of_z}
use Rattle.layout.specs.Limits.{most_weight}
use Rattle.depths.specs.Depths.{deepest}
use Rattle.depths.specs.declared.Value.{Value}
use Rattle.depths.specs.declared.Value.TheVariants.{Depth, Gap}
use Rattle.std.specs.Int.{int_min}
use Rattle.round_rule.specs.Rules.{quotient, lesser}
use Rattle.round_rule.specs.Code.{divided_by, lesser_of}
use Rattle.round_rule.proofs.RuleLaws.{size_neg, size_add, size_times}

-- ---- small numbers fit

pub fits_long : (z : ℤ) → nat_abs z < 2 ^ 63 → SFits w64 z
fits_long (pos n) h = record { sfits = h }
fits_long (negsuc n) h = record { sfits = omega arith }

pub fits_short : (z : ℤ) → nat_abs z < 2147483648 → SFits w32 z
fits_short (pos n) h = record { sfits = h }
fits_short (negsuc n) h = record { sfits = omega arith }

-- ---- sum + w * d

module _ (sum : ℤ) (w : ℕ) (d : ℤ) (fs : SFits w64 sum) (fd : SFits w32 d) (pre : (nat_abs sum ≤ 1179630000000) × (w ≤ most_weight) × (nat_abs d ≤ deepest)) where
  size_term : nat_abs (pos w *ℤ d) ≤ 18000000
  size_term = omega (arith, size_times w d, mul-le-mul {n₁ = w} {m₁ = nat_abs d} {n₂ = most_weight} {m₂ = deepest} pre.1 pre.2)

  term_is : to_z w32 w *ℤ to_z w32 (of_z w32 d) ≡ pos w *ℤ d
  term_is = rw (to_z-of_z w32 d fd, to_z_pos w32 w (omega arith)) refl

  pub term_fits : SFits w32 (to_z w32 w *ℤ to_z w32 (of_z w32 d))
  term_fits = rw term_is (fits_short (pos w *ℤ d) (omega (arith, size_term)))

  term_gives : to_z w32 (of_z w32 (to_z w32 w *ℤ to_z w32 (of_z w32 d))) ≡ pos w *ℤ d
  term_gives = to_z-of_z w32 _ term_fits ∙ term_is

  pub wide_fits : SFits w64 (to_z w32 (of_z w32 (to_z w32 w *ℤ to_z w32 (of_z w32 d))))
  wide_fits = rw term_gives (fits_long (pos w *ℤ d) (omega (arith, size_term)))

  sum_is : to_z w64 (of_z w64 sum) +ℤ to_z w64 (of_z w64 (to_z w32 (of_z w32 (to_z w32 w *ℤ to_z w32 (of_z w32 d))))) ≡ sum +ℤ pos w *ℤ d
  sum_is = rw (to_z-of_z w64 sum fs, to_z-of_z w64 _ wide_fits, term_gives) refl

  pub sum_fits : SFits w64 (to_z w64 (of_z w64 sum) +ℤ to_z w64 (of_z w64 (to_z w32 (of_z w32 (to_z w32 w *ℤ to_z w32 (of_z w32 d))))))
  sum_fits = rw sum_is (fits_long (sum +ℤ pos w *ℤ d) (omega (arith, size_term, size_add sum (pos w *ℤ d), pre.0)))

  pub sum_gives : to_z w64 (of_z w64 (to_z w64 (of_z w64 sum) +ℤ to_z w64 (of_z w64 (to_z w32 (of_z w32 (to_z w32 w *ℤ to_z w32 (of_z w32 d))))))) ≡ sum +ℤ pos w *ℤ d
  sum_gives = to_z-of_z w64 _ sum_fits ∙ sum_is

-- ---- sum / w, its fraction dropped: it is no larger than a depth

-- a number between the two that a sum is held against
within : (z : ℤ) → lt_z z (negsuc 1999999999) ≡ false → lt_z (pos 2000000000) z ≡ false → nat_abs z ≤ 2000000000
within (pos a) low high = ltb-false 2000000000 a high
within (negsuc a) low high = let h : a ≤ 1999999999 = ltb-false 1999999999 a low in omega arith

size_truncated : (x : ℤ) (w : ℕ) → nat_abs (quot_z x (pos w)) ≡ nat_abs x / w
size_truncated (pos a) w = refl
size_truncated (negsuc a) w = size_neg (suc a / w)

-- what a function of a register's sum gives, where 32 bits hold it
read_back : (f : ℤ → ℤ) (sum : ℤ) → SFits w64 sum → (r : ℤ) → mag r < 2147483648 → r ≡ f (to_z w64 (of_z w64 sum)) → to_z w32 (of_z w32 r) ≡ f sum
read_back f sum fs r h e = to_z-of_z w32 r (record { sfits = h }) ∙ e ∙ ap f (to_z-of_z w64 sum fs)

pub wide_gives : (sum : ℤ) (w : ℕ) → SFits w64 sum → (r : ℤ) → mag r < 2147483648 → r ≡ quot_z (to_z w64 (of_z w64 sum)) (pos w) → to_z w32 (of_z w32 r) ≡ quot_z sum (pos w)
wide_gives sum w = read_back (λ z. quot_z z (pos w)) sum

module _ (sum : ℤ) (w : ℕ) (fs : SFits w64 sum) (pre : (1 ≤ w) × (w ≤ 983025) × (nat_abs sum ≤ w * deepest)) where
  truncated_is : quot_z (to_z w64 (of_z w64 sum)) (to_z w64 w) ≡ quot_z sum (pos w)
  truncated_is = rw (to_z-of_z w64 sum fs, to_z_pos w64 w (omega arith)) refl

  truncated_small : nat_abs (quot_z sum (pos w)) ≤ deepest
  truncated_small = rw (size_truncated sum w) (div-le_of_le-mul w pre.2)

  pub truncated_fits : SFits w64 (quot_z (to_z w64 (of_z w64 sum)) (to_z w64 w))
  truncated_fits = rw truncated_is (fits_long (quot_z sum (pos w)) (omega (arith, truncated_small)))

  pub truncated_narrow : SFits w32 (to_z w64 (of_z w64 (quot_z (to_z w64 (of_z w64 sum)) (to_z w64 w))))
  truncated_narrow = rw (to_z-of_z w64 _ truncated_fits, truncated_is) (fits_short (quot_z sum (pos w)) (omega (arith, truncated_small)))

  pub truncated_gives : to_z w32 (of_z w32 (to_z w64 (of_z w64 (quot_z (to_z w64 (of_z w64 sum)) (to_z w64 w))))) ≡ quot_z sum (pos w)
  truncated_gives = to_z-of_z w32 _ truncated_narrow ∙ to_z-of_z w64 _ truncated_fits ∙ truncated_is

  -- of a sum that has 32 bits
  module _ (low : lt_z (to_z w64 (of_z w64 sum)) (negsuc 1999999999) ≡ false) (high : lt_z (pos 2000000000) (to_z w64 (of_z w64 sum)) ≡ false) where
    few : nat_abs sum ≤ 2000000000
    few = rw (← to_z-of_z w64 sum fs) (within (to_z w64 (of_z w64 sum)) low high)

    pub short_sum : SFits w32 (to_z w64 (of_z w64 sum))
    short_sum = rw (to_z-of_z w64 sum fs) (fits_short sum (omega (arith, few)))

    short_is : quot_z (to_z w32 (of_z w32 (to_z w64 (of_z w64 sum)))) (to_z w32 w) ≡ quot_z sum (pos w)
    short_is = rw (to_z-of_z w32 _ short_sum, to_z-of_z w64 sum fs, to_z_pos w32 w (omega arith)) refl

    pub short_fits : SFits w32 (quot_z (to_z w32 (of_z w32 (to_z w64 (of_z w64 sum)))) (to_z w32 w))
    short_fits = rw short_is (fits_short (quot_z sum (pos w)) (omega (arith, truncated_small)))

    pub short_gives : to_z w32 (of_z w32 (quot_z (to_z w32 (of_z w32 (to_z w64 (of_z w64 sum)))) (to_z w32 w))) ≡ quot_z sum (pos w)
    short_gives = to_z-of_z w32 _ short_fits ∙ short_is

-- ---- the greatest whole number not above sum / w

times_negative : (w q : ℕ) → pos w *ℤ neg_ℤ (pos q) ≡ neg_ℤ (pos (w * q))
times_negative w zero = rw (mul-zero w) refl
times_negative w (suc p) = refl

one_less : (q : ℕ) → neg_ℤ (pos q) -ℤ pos 1 ≡ negsuc q
one_less zero = refl
one_less (suc p) = ap (λ n. negsuc (suc n)) (add-zero p)

above_is : (k n : ℕ) → lt_z (negsuc n) (neg_ℤ (pos k)) ≡ true → k ≤ n
above_is zero n e = zero-le
above_is (suc k) n e = ltb-true k n e

not_above_is : (k n : ℕ) → lt_z (negsuc n) (neg_ℤ (pos k)) ≡ false → n < k
not_above_is zero n e = absurd (true≢false e)
not_above_is (suc k) n e = let h : n ≤ k = ltb-false k n e in omega arith

-- w times the quotient without its fraction, held against the sum, tells whether it is the mean or one more
floor_lowered : (x : ℤ) (w : ℕ) → 1 ≤ w → lt_z x (pos w *ℤ quot_z x (pos w)) ≡ true → quot_z x (pos w) -ℤ pos 1 ≡ quotient x w
unfolding quotient
floor_lowered (pos n) w i e =
    let l : n < w * (n / w) = ltb-true n (w * (n / w)) e in let no : ⊥ = omega (arith, mul-div-le n w) in absurd no
floor_lowered (negsuc n) w i e =
    let q : ℕ = suc n / w in
    let l : w * q ≤ n = above_is (w * q) n (ap (lt_z (negsuc n)) (sym (times_negative w q)) ∙ e) in
    let d : n / w ≡ q = div-eq_of_lt-le w (omega arith) (omega (arith, lt-div-mul-add {a = suc n} i)) in
    one_less q ∙ ap negsuc (sym d)

floor_same : (x : ℤ) (w : ℕ) → 1 ≤ w → lt_z x (pos w *ℤ quot_z x (pos w)) ≡ false → quot_z x (pos w) ≡ quotient x w
unfolding quotient
floor_same (pos n) w i e = refl
floor_same (negsuc n) w i e = go (suc n / w) (mul-div-le (suc n) w) e
  where
    go : (q : ℕ) → w * q ≤ suc n → lt_z (negsuc n) (pos w *ℤ neg_ℤ (pos q)) ≡ false → neg_ℤ (pos q) ≡ negsuc (n / w)
    go zero h f = let l : n < w * 0 = not_above_is (w * 0) n (ap (lt_z (negsuc n)) (sym (times_negative w 0)) ∙ f) in let no : ⊥ = omega arith in absurd no
    go (suc p) h f =
        let l : n < w * suc p = not_above_is (w * suc p) n (ap (lt_z (negsuc n)) (sym (times_negative w (suc p))) ∙ f) in
        ap negsuc (sym (div-eq_of_lt-le w (omega arith) (omega arith)))

module _ (sum : ℤ) (w : ℕ) (fs : SFits w64 sum) (pre : (1 ≤ w) × (w ≤ 983025) × (nat_abs sum ≤ w * deepest)) where
  -- r is the quotient without its fraction
  module _ (r : ℤ) (h : mag r < 2147483648) (e : r ≡ quot_z (to_z w64 (of_z w64 sum)) (pos w)) where
    number_is : to_z w32 (of_z w32 r) ≡ quot_z sum (pos w)
    number_is = wide_gives sum w fs r h e

    pub number_fits : SFits w64 (to_z w32 (of_z w32 r))
    number_fits = rw number_is (fits_long (quot_z sum (pos w)) (omega (arith, truncated_small sum w fs pre)))

    times_is : to_z w64 w *ℤ to_z w64 (of_z w64 (to_z w32 (of_z w32 r))) ≡ pos w *ℤ quot_z sum (pos w)
    times_is = rw (to_z-of_z w64 _ number_fits, number_is, to_z_pos w64 w (omega arith)) refl

    pub times_fits : SFits w64 (to_z w64 w *ℤ to_z w64 (of_z w64 (to_z w32 (of_z w32 r))))
    times_fits =
        rw times_is
        (fits_long (pos w *ℤ quot_z sum (pos w))
        (omega (arith, size_times w (quot_z sum (pos w)), mul-le-mul {n₁ = w} {n₂ = 983025} pre.1 (truncated_small sum w fs pre))))

    -- one less fits, and so do the number itself and one more: a wrong answer is to be refused as such, and not for its size
    pub less_fits : (j : ℤ) → T (leb (nat_abs j) 1) → SFits w32 (to_z w32 (of_z w32 r) +ℤ j)
    less_fits j k =
        rw number_is (fits_short (quot_z sum (pos w) +ℤ j) (omega (arith, size_add (quot_z sum (pos w)) j, leb→le (nat_abs j) 1 k, truncated_small sum w fs pre)))

    test_same : lt_z (to_z w64 (of_z w64 sum)) (to_z w64 (of_z w64 (to_z w64 w *ℤ to_z w64 (of_z w64 (to_z w32 (of_z w32 r)))))) ≡ lt_z sum (pos w *ℤ quot_z sum (pos w))
    test_same = rw (to_z-of_z w64 sum fs, to_z-of_z w64 _ times_fits, times_is) refl

    pub lowered_gives : lt_z (to_z w64 (of_z w64 sum)) (to_z w64 (of_z w64 (to_z w64 w *ℤ to_z w64 (of_z w64 (to_z w32 (of_z w32 r)))))) ≡ true
        → to_z w32 (of_z w32 (to_z w32 (of_z w32 r) -ℤ pos 1)) ≡ quotient sum w
    lowered_gives t = to_z-of_z w32 _ (less_fits (negsuc 0) tt) ∙ ap (λ z. z -ℤ pos 1) number_is ∙ floor_lowered sum w pre.0 (sym test_same ∙ t)

    pub same_gives : lt_z (to_z w64 (of_z w64 sum)) (to_z w64 (of_z w64 (to_z w64 w *ℤ to_z w64 (of_z w64 (to_z w32 (of_z w32 r)))))) ≡ false
        → to_z w32 (of_z w32 r) ≡ quotient sum w
    same_gives t = number_is ∙ floor_same sum w pre.0 (sym test_same ∙ t)

-- ---- a mean by its sums

module _ (sum : ℤ) (w : ℕ) where
  pub nothing_read : w ≡ 0 → Gap ≡ divided_by sum w
  nothing_read e = simp e

  pub something_read : (w ≡ 0 → ⊥) → SFits w64 sum → (r : ℤ) → mag r < 2147483648 → r ≡ quotient (to_z w64 (of_z w64 sum)) w → Depth (to_z w32 (of_z w32 r)) ≡ divided_by sum w
  something_read h fs r k e = simp (ne_eqb w 0 h) (ap Depth (read_back (λ z. quotient z w) sum fs r k e))

-- ---- the lesser of two

module _ (y : ℤ) (x : Value) (fy : SFits w32 y) where
  pub lesser_least : (z r : ℤ) → x ≡ Depth z → SFits w32 z → r ≡ int_min (to_z w32 (of_z w32 z)) (to_z w32 (of_z w32 y)) → Depth (to_z w32 (of_z w32 r)) ≡ lesser_of y x
  unfolding lesser_of
  lesser_least z r e fz m =
      let q : r ≡ lesser y z = rw (to_z-of_z w32 y fy, to_z-of_z w32 z fz) at m in
      rw (e, q) (ap Depth (to_z-of_z w32 (lesser y z) (go (lt_z y z))))
    where
      go : (b : Bool) → SFits w32 (cond b y z)
      go true = fy
      go false = fz

  pub lesser_alone : x ≡ Gap → Depth (to_z w32 (of_z w32 y)) ≡ lesser_of y x
  unfolding lesser_of
  lesser_alone e = rw e (ap Depth (to_z-of_z w32 y fy))
