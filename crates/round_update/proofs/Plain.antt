-- What the loop of a plain mean keeps, and what its calls ask. Assumes nothing.
use mathlib.Core.Path.{◌≡◌, refl, ap, ◌∙◌, subst}
use mathlib.Core.List.{List, [], ◌∷◌, ◌++◌, map}
use Prim.Native.Nat.{ℕ, ◌+◌, ◌*◌, ◌≤◌, ◌<◌}
use native.Mathlib.Nat.{zero-add, add-zero}
use native.Mathlib.Omega.{arith}
use lib.IntN.{ℤ, pos, nat_abs, ◌+ℤ◌, ◌*ℤ◌}
use mir.Syntax.{w32, w64}
use mir.Val.{SFits, to_z, of_z}
use Rattle.vocabulary.specs.Bytes.{Bytes}
use Rattle.vocabulary.proofs.ListLaws.{map_append}
use Rattle.vocabulary.specs.Intervals.{listed}
use Rattle.vocabulary.proofs.IntervalLaws.{listed_turn}
use Rattle.layout.specs.Words.{word, word_at, word_bytes, bytes_of}
use Rattle.depths.specs.Depths.{deepest, Within, value_from, value_bytes}
use Rattle.depths.specs.declared.Value.{Value}
use Rattle.depths.specs.declared.Value.TheVariants.{Depth, Gap}
use Rattle.round_rule.specs.Rules.{Old, weight, ones, plain_old, plain_mean}
use Rattle.round_rule.specs.Code.{divided_by}
use Rattle.round_rule.proofs.RuleLaws.{divided_within}
use Rattle.round_update.specs.Update.{placed_at, PlacesThere}
use Rattle.round_update.proofs.Places.{place_within}
use Rattle.round_update.proofs.Sums.{Summed, summed_none, summed_gap, summed_depth, summed_mean}

weight_one : (x : Bytes) → 1 ≡ weight ones (plain_old x)
unfolding weight word_at word bytes_of word_bytes
weight_one x = refl

-- the old values of a plain mean
abbrev pub plain_olds : Bytes → ℕ → Bytes → ℕ → ℕ → List Old
plain_olds b at f base t = map plain_old (listed 0 t (placed_at b at f base))

-- ---- one more value: p is its place in f, and x what was read there

module _ (b : Bytes) (at n : ℕ) (f : Bytes) (base : ℕ) (R : PlacesThere 2 b at n f base) (t : ℕ) (lt : t < n) (p : ℕ) (e : p ≡ base + 4 * word b (at + 2 * t)) (x : Value)
    (r : x ≡ value_from f p) where
  olds_more : plain_olds b at f base (t + 1) ≡ plain_olds b at f base t ++ (plain_old (placed_at b at f base t) ∷ [])
  olds_more =
      ap (λ xs. map plain_old xs) (listed_turn 0 (placed_at b at f base) t ∙ ap (λ j. listed 0 t (placed_at b at f base) ++ (placed_at b at f base j ∷ [])) (zero-add t))
      ∙ map_append plain_old (listed 0 t (placed_at b at f base)) (placed_at b at f base t ∷ [])

  module _ (sum count sum' y : ℕ) (S : Summed ones (plain_olds b at f base t) t (to_z w64 sum) count) where
    pub plain_depth : (z s : ℤ) → x ≡ Depth z → SFits w32 z → s ≡ to_z w64 sum +ℤ pos 1 *ℤ to_z w32 (of_z w32 z) → sum' ≡ of_z w64 s → y ≡ 1
        → Summed ones (plain_olds b at f base (t + 1)) (t + 1) (to_z w64 sum') (count + y)
    unfolding placed_at
    plain_depth z s g h k a c =
        rw (a, c)
        (summed_depth ones (plain_olds b at f base t) (plain_olds b at f base (t + 1)) (plain_old (placed_at b at f base t)) olds_more f p (base + 4 * word b (at + 2 * t)) refl e x r t sum count S
        z s 1 g h (place_within 2 b at n f base R t lt p e x r) (weight_one (placed_at b at f base t)) (omega arith) (omega (arith, R.few)) k)

    pub plain_gap : x ≡ Gap → sum' ≡ sum → y ≡ 0 → Summed ones (plain_olds b at f base (t + 1)) (t + 1) (to_z w64 sum') (count + y)
    unfolding placed_at
    plain_gap g a c =
        rw (a, c, add-zero count)
        (summed_gap ones (plain_olds b at f base t) (plain_olds b at f base (t + 1)) (plain_old (placed_at b at f base t)) olds_more f p (base + 4 * word b (at + 2 * t)) refl e x r t sum count S g)

-- ---- the loop's beginning and end

module _ (b : Bytes) (at : ℕ) (f : Bytes) (base : ℕ) where
  pub plain_start : Summed ones (plain_olds b at f base 0) 0 (pos 0) 0
  unfolding listed
  plain_start = summed_none ones

  module _ (n t sum count : ℕ) (g : t ≤ n) (h : n ≤ t) (S : Summed ones (plain_olds b at f base t) t (to_z w64 sum) count) where
    whole : Summed ones (plain_olds b at f base n) n (to_z w64 sum) count
    whole = let q : t ≡ n = omega arith in subst (λ k. Summed ones (plain_olds b at f base k) k (to_z w64 sum) count) q S

    pub plain_few : PlacesThere 2 b at n f base → count ≤ 983025
    plain_few R = omega (arith, R.few, whole.weights_size)

    pub plain_large : nat_abs (to_z w64 sum) ≤ count * deepest
    plain_large = S.sum_size

    pub plain_end : (x : Value) → x ≡ divided_by (to_z w64 sum) count → value_bytes x ≡ plain_mean (listed 0 n (placed_at b at f base))
    plain_end x e = ap value_bytes (e ∙ summed_mean ones (plain_olds b at f base n) n (to_z w64 sum) count whole)

    pub plain_within : (x : Value) → x ≡ divided_by (to_z w64 sum) count → Within deepest x
    plain_within x e = rw e (divided_within (to_z w64 sum) count deepest S.sum_size)
