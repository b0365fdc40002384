-- What the test 11 answers, by the tests that the code makes one after the other. Assumes nothing.
use mathlib.Core.Path.{◌≡◌, refl, sym, ap, ◌∙◌}
use mathlib.Core.Bool.{Bool, true, false, not, ◌||◌}
use Prim.Native.Nat.{ℕ, ◌+◌, ◌*◌, ◌/◌, ◌%◌}
use native.Mathlib.Omega.{arith}
use lib.Dec.{eqb}
use lib.ListN.{length}
use borrow.Author.Tests.{lt-ltb, eq-eqb, ne_eqb}
use Rattle.vocabulary.specs.Bytes.{Bytes}
use Rattle.vocabulary.specs.Intervals.{some}
use Rattle.layout.specs.Words.{word_at}
use Rattle.round_rule.specs.Rules.{weight_count, too_heavy, bad11}
use Rattle.round_rule.specs.Kinds.{kind_number, rule_of}
use Rattle.round_rule.specs.declared.Kind.{Kind}
use Rattle.round_rule.specs.declared.Kind.TheVariants.{Hold, Mean, Shoalest}
use Rattle.std.specs.Prelude.{Result, Ok, Err}
use Rattle.layout.specs.declared.refusal.Refusal.{Refusal}
use Rattle.round_rule.proofs.KindLaws.{known_number, unknown_number}

-- ---- the weights of a mean

module _ (v : Bytes) (n : ℕ) where
  wrong_number : (length v ≡ 2 * (n / 2 + 1) → ⊥) → true ≡ bad11 1 n v
  unfolding bad11 weight_count
  wrong_number h = simp (ne_eqb _ _ h)

  pub odd_weights : (length v % 2 ≡ 0 → ⊥) → true ≡ bad11 1 n v
  odd_weights h = wrong_number (λ e. h (omega arith))

  pub other_number : length v % 2 ≡ 0 → (length v / 2 ≡ n / 2 + 1 → ⊥) → true ≡ bad11 1 n v
  other_number g h = wrong_number (λ e. h (omega arith))

  module _ (g : length v % 2 ≡ 0) (h : length v / 2 ≡ n / 2 + 1) (b : Bool) (f : b ≡ some 0 (n / 2 + 1) (too_heavy v)) where
    right_number : length v ≡ 2 * (n / 2 + 1)
    right_number = omega arith

    pub heavy_weights : b ≡ true → true ≡ bad11 1 n v
    unfolding bad11 weight_count
    heavy_weights t = simp (eq-eqb _ _ right_number, sym f, t)

    pub light_weights : (w : ℕ) → b ≡ false → w ≡ word_at v 0 → eqb w 0 ≡ bad11 1 n v
    unfolding bad11 weight_count
    light_weights w t e = simp (eq-eqb _ _ right_number, sym f, t, sym e)

-- ---- the rule, by its kind

module _ (v : Bytes) (n : ℕ) where
  or_nothing : (t : Bool) → t ≡ t || false || false
  or_nothing true = refl
  or_nothing false = refl

  pub hold_rule : (kind : Kind) → kind ≡ Hold → not (eqb (length v) 0) ≡ bad11 (kind_number kind) n v
  unfolding bad11 weight_count some kind_number
  hold_rule kind e = rw e (or_nothing (not (eqb (length v) 0)))

  pub shoalest_rule : (kind : Kind) → kind ≡ Shoalest → not (eqb (length v) 0) ≡ bad11 (kind_number kind) n v
  unfolding bad11 weight_count some kind_number
  shoalest_rule kind e = rw e (or_nothing (not (eqb (length v) 0)))

  pub mean_rule : (kind : Kind) (b : Bool) → kind ≡ Mean → b ≡ bad11 1 n v → b ≡ bad11 (kind_number kind) n v
  unfolding kind_number
  mean_rule kind b e f = rw e f

  -- ---- and by its number

  pub known_rule : (number : ℕ) (kind : Kind) (r : Result Kind Refusal) (b : Bool) → r ≡ rule_of number → r ≡ Ok kind → b ≡ bad11 (kind_number kind) n v → b ≡ bad11 number n v
  known_rule number kind r b e q f = f ∙ ap (λ x. bad11 x n v) (sym (known_number number kind (sym e ∙ q)))

  pub unknown_rule : {e : Refusal} (number : ℕ) (r : Result Kind Refusal) → r ≡ rule_of number → r ≡ Err e → true ≡ bad11 number n v
  unfolding bad11
  unknown_rule number r e q = simp (lt-ltb 2 number (unknown_number number (sym e ∙ q)))
