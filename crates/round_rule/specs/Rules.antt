-- Rules and the new value of one cell, a depth or a gap, and the refusal 11. Assumes nothing.
--
-- "The rule kind is 0 hold, 1 mean, 2 shoalest."
use Rattle.std.specs.Prelude.{Bool, ◌&&◌, ◌||◌, not, cond, List, [], ◌∷◌, map, ℕ, zero, suc, ◌+◌, ◌*◌, ◌/◌, eqb, ltb, ℤ, pos, negsuc, ◌+ℤ◌, ◌*ℤ◌, ◌≤ℤ◌, ◌<ℤ◌, length}
use Rattle.std.specs.Int.Signed.{lt_z}
use Rattle.vocabulary.specs.Lists.{filtered}
use Rattle.vocabulary.specs.Intervals.{some}
use Rattle.vocabulary.specs.Bytes.{Bytes}
use Rattle.layout.specs.Words.{word_at, bytes_of}
use Rattle.layout.specs.Limits.{most_weight}
use Rattle.depths.specs.Depths.{depth_of, is_depth, value_of, value_bytes}
use Rattle.depths.specs.declared.Value.{Value}
use Rattle.depths.specs.declared.Value.TheVariants.{Depth, Gap}

-- a rule as a call is given it: its kind, and its weights as words
pub record RuleInput : Type 0 where
  pub kind : ℕ
  pub weights : Bytes

-- how many weights a rule of this kind has under a stencil of n steps: "Mean has weights v0, .., v(n/2)"; "Weights are empty for kinds 0
-- and 2."
unfoldable pub weight_count : ℕ → ℕ → ℕ
weight_count kind n = cond (eqb kind 1) (n / 2 + 1) 0

-- weight k is above 15; weights are given as words
unfoldable pub too_heavy : Bytes → ℕ → Bool
too_heavy v k = ltb most_weight (word_at v k)

-- "Unknown rule, or weights wrong in number or range": "each 0 to 15, v0 at least 1"
unfoldable pub bad11 : ℕ → ℕ → Bytes → Bool
bad11 kind n v =
    ltb 2 kind
    || not (eqb (length v) (2 * weight_count kind n))
    || some 0 (weight_count kind n) (too_heavy v)
    || (eqb kind 1 && eqb (word_at v 0) 0)

-- an old value of a reach, as its four bytes, and the layer it is met at
pub record Old : Type 0 where
  pub layer : ℕ
  pub depth : Bytes

-- "pass over gaps" (F-2)
unfoldable pub without_gaps : List Old → List Old
without_gaps os = filtered (λ o. is_depth (value_of o.depth)) os

module _ (v : Bytes) where
  -- the weight of what is met at a layer. Standard term: kernel coefficient.
  unfoldable pub weight : Old → ℕ
  weight o = word_at v (o.layer / 2)

  -- what a mean (kind 1) or shoalest (kind 2) reads of a reach: "Mean and shoalest pass over gaps" (F-2), and a mean passes over what has weight zero. Hold reads none
  -- of it; what stands here for other kinds is arbitrary.
  unfoldable pub read_by : ℕ → List Old → List Old
  read_by kind os = cond (eqb kind 1) (filtered (λ o. ltb 0 (weight o)) (without_gaps os)) (without_gaps os)

  -- "the sum of v(layer/2) × old depth over the reach", and "the sum of those weights", over a list without gaps
  unfoldable pub depth_sum : List Old → ℤ
  depth_sum [] = pos 0
  depth_sum (o ∷ os) = pos (weight o) *ℤ depth_of o.depth +ℤ depth_sum os

  unfoldable pub weight_sum : List Old → ℕ
  weight_sum [] = 0
  weight_sum (o ∷ os) = weight o + weight_sum os

-- "divided by the sum of those weights", rounded: "Every mean, at cells and points, takes the greatest whole number not above the quotient: sum −7 over weights 4 becomes
-- −2." (F-4, for 01's "fraction dropped toward zero"). `negsuc n` is −(n + 1), and its quotient by w is −(n / w + 1).
unfoldable pub quotient : ℤ → ℕ → ℤ
quotient (pos n) weights = pos (n / weights)
quotient (negsuc n) weights = negsuc (n / weights)

-- what is proved of every mean that is no gap: it is not deeper than its sum over its weights, and one more would be (F-4)
unfoldable pub Floored : ℤ → ℕ → Value → Type 0
Floored sum weights (Depth z) = ((pos weights *ℤ z) ≤ℤ sum) × (sum <ℤ (pos weights *ℤ (z +ℤ pos 1)))
Floored sum weights Gap = Unit {0}

-- of what is read: "The new depth is the sum of v(layer/2) × old depth over the reach, divided by the sum of those weights"; ".. with only gaps, or only zero weights
-- left, the new value is a gap" (F-2). Standard term: weighted average (normalized convolution).
unfoldable pub mean_of : Bytes → List Old → Value
mean_of v [] = Gap
mean_of v (o ∷ os) = Depth (quotient (depth_sum v (o ∷ os)) (weight_sum v (o ∷ os)))

-- the mean as four bytes; F-2: "pass over gaps, a mean's divisor too"
abbrev pub mean : Bytes → List Old → Bytes
mean v os = value_bytes (mean_of v (read_by v 1 os))

-- the mean of values alone: "the plain mean .., all weights 1, rounded like the rule" (F-1); "A point with only gaps is a gap." (F-2)
abbrev pub ones : Bytes
ones = bytes_of (1 ∷ [])

abbrev pub plain_old : Bytes → Old
plain_old x = record { layer = 0; depth = x }

abbrev pub plain_mean : List Bytes → Bytes
plain_mean xs = mean ones (map plain_old xs)

-- the lesser of two depths
abbrev pub lesser : ℤ → ℤ → ℤ
lesser y z = cond (lt_z y z) y z

-- the least of z and the old depths, over a list without gaps
unfoldable pub least : ℤ → List Old → ℤ
least z [] = z
least z (o ∷ os) = least (lesser (depth_of o.depth) z) os

-- of what is read: "Shoalest is the least old depth in the reach"; with only gaps, a gap (F-2)
unfoldable pub least_of : List Old → Value
least_of [] = Gap
least_of (o ∷ os) = Depth (least (depth_of o.depth) os)

-- the new value of a cell as four bytes, from its own old value and those of its reach in rising order of the cells, itself among them: 0 hold, 1 mean,
-- 2 shoalest. 11 refuses every other kind before a value is made, so what stands for it here is arbitrary.
unfoldable pub new_depth : ℕ → Bytes → Bytes → List Old → Bytes
new_depth zero v own os = own
new_depth (suc zero) v own os = mean v os
new_depth (suc (suc zero)) v own os = value_bytes (least_of (read_by v 2 os))
new_depth (suc (suc (suc kind))) v own os = own
