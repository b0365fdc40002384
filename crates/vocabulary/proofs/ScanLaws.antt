-- Laws for a loop that tries the numbers x from a on, n of them, and stops at the first that tells: `some` and `every` as its turns make
-- them. The answer t of a test stands in for the test, as a call gives it. IntervalLaws has the same for a loop from 0 on. Assumes nothing.
use Rattle.std.specs.Prelude.{◌≡◌, Bool, true, false, not, ℕ, ◌+◌, ◌-◌, ◌≤◌, ◌<◌}
use Rattle.std.proofs.Common.{sym, ap, ◌∙◌}
use native.Mathlib.Omega.{arith}
use Rattle.vocabulary.specs.Intervals.{every, some}
use Rattle.vocabulary.proofs.IntervalLaws.{none_fails, every_by, some_in, some_more}

module _ (a : ℕ) (p : ℕ → Bool) where
  pub some_start_from : some a (a - a) p ≡ false
  unfolding some
  some_start_from = let z : a - a ≡ 0 = omega arith in rw z

  pub some_stop_from : (n x : ℕ) (t : Bool) → t ≡ p x → t ≡ true → a ≤ x → x < a + n → true ≡ some a n p
  some_stop_from n x t e f g h = sym (some_in a p n x g h (sym e ∙ f))

  pub some_turn_from : (x : ℕ) (t : Bool) → a ≤ x → some a (x - a) p ≡ false → t ≡ p x → t ≡ false → some a (x + 1 - a) p ≡ false
  some_turn_from x t g i e f =
      let q : x + 1 - a ≡ x - a + 1 = omega arith in
      let r : a + (x - a) ≡ x = omega arith in
      rw q (some_more a p (x - a) i (ap p r ∙ sym e ∙ f))

  pub some_end_from : (n x : ℕ) → some a (x - a) p ≡ false → x ≤ a + n → a + n ≤ x → false ≡ some a n p
  some_end_from n x i g h = sym i ∙ ap (λ k. some a k p) (omega arith)

-- every: none fails
module _ (a : ℕ) (p : ℕ → Bool) where
  abbrev fails : ℕ → Bool
  fails x = not (p x)

  pub every_start_from : every a (a - a) p ≡ true
  every_start_from = every_by a p (a - a) false (some_start_from a fails)

  pub every_stop_from : (n x : ℕ) (t : Bool) → t ≡ p x → not t ≡ true → a ≤ x → x < a + n → false ≡ every a n p
  every_stop_from n x t e f g h = sym (every_by a p n true (sym (some_stop_from a fails n x (not t) (ap not e) f g h)))

  pub every_turn_from : (x : ℕ) (t : Bool) → a ≤ x → every a (x - a) p ≡ true → t ≡ p x → not t ≡ false → every a (x + 1 - a) p ≡ true
  every_turn_from x t g i e f = every_by a p (x + 1 - a) false (some_turn_from a fails x (not t) g (none_fails a p (x - a) i) (ap not e) f)

  pub every_end_from : (n x : ℕ) → every a (x - a) p ≡ true → x ≤ a + n → a + n ≤ x → true ≡ every a n p
  every_end_from n x i g h = sym (every_by a p n false (sym (some_end_from a fails n x (none_fails a p (x - a) i) g h)))
