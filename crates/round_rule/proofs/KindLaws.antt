-- The kind of a number, by the match on it, and what a caller learns from each case. Assumes nothing.
use mathlib.Core.Path.{◌≡◌, refl, sym, ap}
use mathlib.Core.Bool.{Bool, true, false, true≢false}
use Prim.Native.Nat.{ℕ, zero, suc, ◌<◌}
use native.Mathlib.Omega.{arith}
use Rattle.round_rule.specs.Kinds.{kind_number, rule_of}
use Rattle.round_rule.specs.declared.Kind.{Kind}
use Rattle.round_rule.specs.declared.Kind.TheVariants.{Hold, Mean, Shoalest}
use Rattle.std.specs.Prelude.{Result, Ok, Err}
use Rattle.layout.specs.declared.refusal.Refusal.{Refusal}
use Rattle.layout.specs.declared.refusal.Refusal.TheVariants.{Rule}

-- ---- by the number

module _ (number : ℕ) where
  pub is_hold : number ≡ 0 → Ok Hold ≡ rule_of number
  unfolding rule_of
  is_hold e = rw e refl

  pub is_mean : number ≡ 1 → Ok Mean ≡ rule_of number
  unfolding rule_of
  is_mean e = rw e refl

  pub is_shoalest : number ≡ 2 → Ok Shoalest ≡ rule_of number
  unfolding rule_of
  is_shoalest e = rw e refl

-- what a range of the match learns is that the number is none of those before it
pub is_unknown : (number : ℕ) → (number ≡ 0 → ⊥) → (number ≡ 1 → ⊥) → (number ≡ 2 → ⊥) → Err Rule ≡ rule_of number
unfolding rule_of
is_unknown zero a b c = absurd (a refl)
is_unknown (suc zero) a b c = absurd (b refl)
is_unknown (suc (suc zero)) a b c = absurd (c refl)
is_unknown (suc (suc (suc n))) a b c = refl

-- ---- what the result tells

abbrev is_known : Result Kind Refusal → Bool
is_known (Ok k) = true
is_known (Err e) = false

abbrev kind_in : Kind → Result Kind Refusal → Kind
kind_in d (Ok k) = k
kind_in d (Err e) = d

abbrev refusal_in : Result Kind Refusal → Refusal
refusal_in (Ok k) = Rule
refusal_in (Err e) = e

pub known_number : (number : ℕ) (k : Kind) → rule_of number ≡ Ok k → number ≡ kind_number k
unfolding rule_of kind_number
known_number zero k e = ap kind_number (ap (kind_in k) e)
known_number (suc zero) k e = ap kind_number (ap (kind_in k) e)
known_number (suc (suc zero)) k e = ap kind_number (ap (kind_in k) e)
known_number (suc (suc (suc n))) k e = absurd (true≢false (sym (ap is_known e)))

pub unknown_number : {r : Refusal} (number : ℕ) → rule_of number ≡ Err r → 2 < number
unfolding rule_of
unknown_number zero e = absurd (true≢false (ap is_known e))
unknown_number (suc zero) e = absurd (true≢false (ap is_known e))
unknown_number (suc (suc zero)) e = absurd (true≢false (ap is_known e))
unknown_number (suc (suc (suc n))) e = omega arith

pub unknown_rule : {r : Refusal} (number : ℕ) → rule_of number ≡ Err r → r ≡ Rule
unfolding rule_of
unknown_rule zero e = absurd (true≢false (ap is_known e))
unknown_rule (suc zero) e = absurd (true≢false (ap is_known e))
unknown_rule (suc (suc zero)) e = absurd (true≢false (ap is_known e))
unknown_rule (suc (suc (suc n))) e = sym (ap refusal_in e)
