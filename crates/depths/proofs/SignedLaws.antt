-- What the functions' needs ask: signed numbers of 32 bits and their registers, stored bytes, and the loop over values. Assumes nothing.
use mathlib.Core.Path.{◌≡◌, refl, sym, ap, ◌∙◌}
use mathlib.Core.Bool.{Bool, true, false, true≢false}
use Prim.Native.Nat.{ℕ, suc, ◌+◌, ◌-◌, ◌*◌, ◌/◌, ◌%◌, ◌≤◌, ◌<◌}
use native.Mathlib.Nat.{zero-add}
use native.Mathlib.Omega.{arith}
use lib.IntN.{ℤ, pos, negsuc}
use lib.Signed.{le_z}
use lib.Dec.{ltb}
use lib.ListN.{get_or}
use mir.Syntax.{w32}
use mir.Syntax.{w8}
use mir.Val.{Fits, SFits, to_z, of_z, sel}
use Rattle.std.specs.Int.{from_be_bytes, to_be_bytes}
use borrow.Rule.Slice.PartMut.{put_mid}
use mathlib.Core.List.{[], ◌∷◌}
use mathlib.Core.Bool.{cond}
use mir.ValLaws.{of_z_fits, to_z-of_z, of_z-to_z}
use borrow.Author.Tests.{leb-true, leb-false, le-leb, lt-leb}
use Rattle.vocabulary.specs.Bytes.{Bytes, byte_at, over}
use Rattle.vocabulary.proofs.ByteLaws.{over_mid}
use Rattle.vocabulary.specs.Intervals.{every}
use Rattle.vocabulary.proofs.IntervalLaws.{every_more, every_fails, every_witness, at_last}
use Rattle.layout.specs.Words.{word}
use Rattle.depths.specs.Depths.{number_from, number_bytes, signed, unsigned, depth_from, depth_bytes, in_range, gap_number, value_from, value_bytes, is_valid, ranged_at}
use Rattle.depths.specs.declared.Value.{Value}
use Rattle.depths.specs.declared.Value.TheVariants.{Depth, Gap}
use Rattle.depths.proofs.DepthLaws.{length_value_bytes, gap_is, value_gap, value_depth}

-- ---- signed numbers: below 2^31 a number is itself, from there on it is the number less 2^32

signed_is : (v : ℕ) → to_z w32 v ≡ signed v
unfolding signed
signed_is v = go (ltb v 2147483648)
  where
    go : (b : Bool) → sel b (pos v) (negsuc (4294967296 - suc v)) ≡ cond b (pos v) (negsuc (4294967295 - v))
    go true = refl
    go false = ap negsuc (omega arith)

-- the way back
unsigned_is : (z : ℤ) → of_z w32 z ≡ unsigned z
unfolding unsigned
unsigned_is (pos n) = refl
unsigned_is (negsuc n) = omega arith

bytes_are : (n : ℕ) → n < 4294967296 → to_be_bytes w32 n ≡ number_bytes n
unfolding number_bytes
bytes_are n h = let p : n / 16777216 % 256 ≡ n / 16777216 = omega arith in ap (λ x. x ∷ n / 65536 % 256 ∷ n / 256 % 256 ∷ n % 256 ∷ []) p

-- ---- depths in range

module _ (z : ℤ) (f : SFits w32 z) where
  pub in_above : le_z (negsuc 1199999) (to_z w32 (of_z w32 z)) ≡ true → le_z (to_z w32 (of_z w32 z)) (pos 1200000) ≡ in_range z
  unfolding in_range
  in_above t = rw (to_z-of_z w32 z f) (go z (rw (to_z-of_z w32 z f) at t))
    where
      go : (y : ℤ) → le_z (negsuc 1199999) y ≡ true → le_z y (pos 1200000) ≡ in_range y
      go (pos n) s = refl
      go (negsuc n) s = sym (le-leb (suc n) 1200000 (omega (arith, leb-true n 1199999 s)))

  pub in_below : le_z (negsuc 1199999) (to_z w32 (of_z w32 z)) ≡ false → le_z (negsuc 1199999) (to_z w32 (of_z w32 z)) ≡ in_range z
  unfolding in_range
  in_below t = rw (to_z-of_z w32 z f) (go z (rw (to_z-of_z w32 z f) at t))
    where
      go : (y : ℤ) → le_z (negsuc 1199999) y ≡ false → le_z (negsuc 1199999) y ≡ in_range y
      go (pos n) s = absurd (true≢false s)
      go (negsuc n) s = s ∙ sym (lt-leb (suc n) 1200000 (omega (arith, leb-false n 1199999 s)))

-- ---- depths and gaps

-- what was read
module _ (b : Bytes) (o : ℕ) (bytes : (i : ℕ) → Fits w8 (get_or b i 0)) (z : ℤ)
    (e : z ≡ to_z w32 (from_be_bytes w32 (byte_at b o ∷ byte_at b (o + 1) ∷ byte_at b (o + 2) ∷ byte_at b (o + 3) ∷ []))) where
  number : from_be_bytes w32 (byte_at b o ∷ byte_at b (o + 1) ∷ byte_at b (o + 2) ∷ byte_at b (o + 3) ∷ []) ≡ number_from b o
  unfolding number_from word
  number = let q : o + 2 + 1 ≡ o + 3 = omega arith in omega (arith, ap (byte_at b) q)

  few : from_be_bytes w32 (byte_at b o ∷ byte_at b (o + 1) ∷ byte_at b (o + 2) ∷ byte_at b (o + 3) ∷ []) < 4294967296
  few = omega (arith, (bytes o).fits, (bytes (o + 1)).fits, (bytes (o + 2)).fits, (bytes (o + 3)).fits)

  bits : of_z w32 z ≡ number_from b o
  bits = ap (of_z w32) e ∙ of_z-to_z w32 _ (record { fits = few }) ∙ number

  pub gap_read : of_z w32 z ≡ gap_number → Gap ≡ value_from b o
  gap_read g = sym (value_gap b o (sym bits ∙ g))

  pub depth_read : (of_z w32 z ≡ gap_number → ⊥) → Depth (to_z w32 (of_z w32 z)) ≡ value_from b o
  unfolding depth_from
  depth_read h = ap Depth (ap (to_z w32) bits ∙ signed_is (number_from b o)) ∙ sym (value_depth b o (λ q. h (bits ∙ q)))

-- what is stored: y is the number that stands for the value
module _ (x : Value) (y : ℤ) (bs : Bytes) (e : bs ≡ to_be_bytes w32 (of_z w32 y)) where
  pub depth_stored : (z : ℤ) → y ≡ to_z w32 (of_z w32 z) → x ≡ Depth z → SFits w32 z → bs ≡ value_bytes x
  unfolding value_bytes depth_bytes
  depth_stored z q g f =
      let back : y ≡ z = q ∙ to_z-of_z w32 z f in
      e ∙ rw (back, g) (bytes_are (of_z w32 z) (of_z_fits w32 z f).fits ∙ ap (λ n. number_bytes n) (unsigned_is z))

  pub gap_stored : y ≡ negsuc 2147483647 → x ≡ Gap → bs ≡ value_bytes x
  unfolding value_bytes
  gap_stored q g = e ∙ rw (q, g) (bytes_are 2147483648 (omega arith) ∙ gap_is)

pub value_put : (x : Value) (bs b : Bytes) (o k : ℕ) (ys : Bytes) → ys ≡ bs → bs ≡ value_bytes x → k ≡ 4 → put_mid o k b ys ≡ over b o (value_bytes x)
value_put x bs b o k ys q g h = over_mid b o k (value_bytes x) ys (q ∙ g) (length_value_bytes x ∙ sym h)

-- what the test says of the k-th value
module _ (b : Bytes) (at k : ℕ) (x : Value) (e : x ≡ value_from b (at + 4 * k)) where
  pub depth_told : (z : ℤ) (t : Bool) → x ≡ Depth z → SFits w32 z → t ≡ in_range (to_z w32 (of_z w32 z)) → t ≡ ranged_at b at k
  unfolding ranged_at is_valid
  depth_told z t q f g = rw (← e, q) (rw (to_z-of_z w32 z f) at g)

  pub gap_told : (t : Bool) → x ≡ Gap → t ≡ true → t ≡ ranged_at b at k
  unfolding ranged_at is_valid
  gap_told t q g = rw (← e, q) g

-- the test goes on with one more value: t is what was told of it
module _ (b : Bytes) (at k : ℕ) (v w : Bool) (i : v ≡ every 0 k (ranged_at b at)) (t : Bool) (told : t ≡ ranged_at b at k) where
  last : ranged_at b at (0 + k) ≡ t
  last = ap (ranged_at b at) (zero-add k) ∙ sym told

  pub fine_turn : t ≡ true → w ≡ v → w ≡ every 0 (k + 1) (ranged_at b at)
  fine_turn f e = go v i e
    where
      go : (u : Bool) → u ≡ every 0 k (ranged_at b at) → w ≡ u → w ≡ every 0 (k + 1) (ranged_at b at)
      go true q g = g ∙ sym (every_more 0 (ranged_at b at) k (sym q) (last ∙ f))
      go false q g =
          let y = every_witness 0 (ranged_at b at) k (sym q) in g ∙ sym (every_fails 0 (ranged_at b at) (k + 1) y.0 (omega (arith, y.1)) y.2)

  pub wrong_turn : t ≡ false → w ≡ t → w ≡ every 0 (k + 1) (ranged_at b at)
  wrong_turn f g = g ∙ f ∙ sym (every_fails 0 (ranged_at b at) (k + 1) k (omega arith) (last ∙ f))

pub valid_end : (b : Bytes) (at n k : ℕ) (v : Bool) → k ≤ n → n ≤ k → v ≡ every 0 k (ranged_at b at) → v ≡ every 0 n (ranged_at b at)
valid_end b at n k v g h i = at_last (λ j. v ≡ every 0 j (ranged_at b at)) k n g h i
