-- The places of values that a loop follows, and the values that it reads there. Assumes nothing.
use mathlib.Core.Path.{◌≡◌, sym, ap, ◌∙◌}
use Prim.Native.Nat.{ℕ, suc, ◌+◌, ◌*◌, ◌≤◌, ◌<◌}
use native.Mathlib.Nat.{mul-le-mul_left}
use native.Mathlib.Omega.{arith}
use lib.IntN.{ℤ, nat_abs}
use lib.ListN.{length}
use mir.Syntax.{w32}
use mir.Val.{SFits, to_z, of_z}
use mir.ValLaws.{to_z-of_z}
use Rattle.vocabulary.specs.Bytes.{Bytes}
use Rattle.layout.specs.Words.{word}
use Rattle.depths.specs.Depths.{deepest, Within, four, value_from, value_of}
use Rattle.depths.proofs.DepthLaws.{value_four}
use Rattle.depths.specs.declared.Value.{Value}
use Rattle.depths.specs.declared.Value.TheVariants.{Depth}
use Rattle.round_update.specs.Update.{PlacesThere}

-- a depth within a size
pub depth_within : (m : ℕ) (x : Value) (z : ℤ) → Within m x → x ≡ Depth z → nat_abs z ≤ m
unfolding Within
depth_within m x z h e = rw e at h

-- x was read at the place p of f, where the old value y stands
pub value_read : (f : Bytes) (p q : ℕ) (y : Bytes) → y ≡ four f q → p ≡ q → (x : Value) → x ≡ value_from f p → value_of y ≡ x
value_read f p q y there e x r = ap value_of there ∙ value_four f q ∙ ap (λ n. value_from f n) (sym e) ∙ sym r

-- the t-th of the entries, and the value that it names: p is its place in f, and x what was read there
module _ (width : ℕ) (b : Bytes) (at n : ℕ) (f : Bytes) (base : ℕ) (R : PlacesThere width b at n f base) (t : ℕ) (lt : t < n) where
  pub place_listed : 2 ≤ width → at + width * t + 1 < length b
  place_listed wide = let p : width * suc t ≤ width * n = mul-le-mul_left width lt in omega (arith, R.listed_there)

  pub place_fits : length f < 18446744073709551616 → base + 4 * word b (at + width * t) < 18446744073709551616
  place_fits l = omega (arith, R.there t lt)

  module _ (p : ℕ) (e : p ≡ base + 4 * word b (at + width * t)) where
    pub place_there : p + 3 < length f
    place_there = rw e (R.there t lt)

    module _ (x : Value) (r : x ≡ value_from f p) where
      pub place_within : Within deepest x
      place_within = rw (r, e) (R.ranged t lt)

      pub place_small : (z : ℤ) → x ≡ Depth z → SFits w32 z → nat_abs (to_z w32 (of_z w32 z)) ≤ deepest
      place_small z g h = rw (to_z-of_z w32 z h) (depth_within deepest x z place_within g)
