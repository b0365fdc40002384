-- Laws of depths and gaps in bytes: fours and where they stand, depths and values written and read back, both ways, the range, and what is valid. Assumes nothing.
use Rattle.std.specs.Prelude.{◌≡◌, refl, ◌⊎◌, Bool, true, false, cond, ℕ, zero, suc, ◌+◌, ◌-◌, ◌*◌, ◌/◌, ◌%◌, ◌<◌, ◌≤◌, ℤ, pos, negsuc, nat_abs, eqb, ltb, length, get_or, set, take, drop}
use Rattle.std.proofs.Common.{sym, ap, ap₂, ◌∙◌, subst, ⊎_elim, not-suc-le-zero, le_of_suc-le-suc, add-zero, zero-add, length-append, length-drop}
use Rattle.std.proofs.Common.{get_or-append-add, get_or-set_other, get_or-take, get_or-drop, length-take-le, ext_get_or, lt-ltb, le-ltb, leb-true, le-leb}
use Rattle.std.proofs.Common.{eq-eqb, ne_eqb, eqb-true}
use Rattle.std.proofs.lemmas.Bool.{false≢true}
use mathlib.Core.List.{List, [], ◌∷◌, ◌++◌}
use native.Mathlib.Omega.{arith}
use Rattle.std.proofs.Math.ListN.{get_or-append}
use Rattle.vocabulary.specs.Bytes.{Bytes, byte_at, over}
use Rattle.vocabulary.specs.Lists.{All, joined}
use Rattle.vocabulary.specs.Intervals.{every, listed, blocks}
use Rattle.vocabulary.proofs.IntervalLaws.{every_at, rows_length, rows_at, blocks_turn, joined_listed}
use Rattle.vocabulary.proofs.ByteLaws.{over_in, over_before, over_after, over_more}
use Rattle.layout.specs.Words.{word}
use Rattle.layout.proofs.WordLaws.{word_same}
use Rattle.depths.specs.Depths.{deepest, Valid, four, number_from, signed, unsigned, depth_from, depth_of, number_bytes, depth_bytes, in_range, ranged_at}
use Rattle.depths.specs.Depths.{gap_bytes, gap_number, value_from, value_of, value_bytes, is_depth, is_valid, Within}
use Rattle.depths.specs.declared.Value.{Value}
use Rattle.depths.specs.declared.Value.TheVariants.{Depth, Gap}

-- ---- fours

-- equal bytes give equal fours
pub four_same : (x y : Bytes) (o p : ℕ) → ((k : ℕ) → k < 4 → byte_at x (o + k) ≡ byte_at y (p + k)) → four x o ≡ four y p
unfolding four
four_same x y o p h =
    let h0 : byte_at x o ≡ byte_at y p = ap (λ n. byte_at x n) (sym (add-zero o)) ∙ h 0 (omega arith) ∙ ap (λ n. byte_at y n) (add-zero p) in
    λ i. h0 i ∷ h 1 (omega arith) i ∷ h 2 (omega arith) i ∷ h 3 (omega arith) i ∷ []

pub length_four : (b : Bytes) (o : ℕ) → length (four b o) ≡ 4
unfolding four
length_four b o = refl

get_or_four : (b : Bytes) (o k : ℕ) → k < 4 → byte_at (four b o) k ≡ byte_at b (o + k)
unfolding four
get_or_four b o zero h = ap (λ n. byte_at b n) (sym (add-zero o))
get_or_four b o (suc zero) h = refl
get_or_four b o (suc (suc zero)) h = refl
get_or_four b o (suc (suc (suc zero))) h = refl
get_or_four b o (suc (suc (suc (suc k)))) h = let z : ⊥ = omega arith in absurd z

-- four bytes are their own four
pub four_whole : (x : Bytes) → length x ≡ 4 → four x 0 ≡ x
four_whole x l =
    ext_get_or 0 (four x 0) x (length_four x 0 ∙ sym l)
    (λ k h. get_or_four x 0 k (omega (arith, length_four x 0)) ∙ ap (λ n. byte_at x n) (zero-add k))

-- of two texts joined
pub four_left : (p q : Bytes) (o : ℕ) → o + 4 ≤ length p → four (p ++ q) o ≡ four p o
four_left p q o h = four_same (p ++ q) p o o (λ k l. get_or-append p q 0 (o + k) (omega arith))

pub four_past : (p q : Bytes) (o : ℕ) → four (p ++ q) (length p + o) ≡ four q o
four_past p q o =
    four_same (p ++ q) q (length p + o) o
    (λ k h. ap (λ n. byte_at (p ++ q) n) (let e : length p + o + k ≡ length p + (o + k) = omega arith in e) ∙ get_or-append-add p q (o + k) 0)

-- of a part
pub four_drop : (n : ℕ) (b : Bytes) (o : ℕ) → four (drop n b) o ≡ four b (n + o)
four_drop n b o =
    four_same (drop n b) b o (n + o) (λ k l. get_or-drop n b (o + k) 0 ∙ ap (λ i. byte_at b i) (let e : n + (o + k) ≡ n + o + k = omega arith in e))

-- after a byte is stored elsewhere
pub four_set : (b : Bytes) (i v o : ℕ) → (i < o) ⊎ (o + 4 ≤ i) → four (set b i v) o ≡ four b o
four_set b i v o c = four_same (set b i v) b o o (λ k l. get_or-set_other b i (o + k) v 0 (⊎_elim (λ h. omega arith) (λ h. omega arith) c))

-- after a replacement: inside it, before it and after it
module _ (b : Bytes) (at : ℕ) (xs : Bytes) (h : at + length xs ≤ length b) where
  pub four_in : (t : ℕ) → t + 4 ≤ length xs → four (over b at xs) (at + t) ≡ four xs t
  four_in t k =
      four_same (over b at xs) xs (at + t) t
      (λ j l.
      let e : at + t + j ≡ at + (t + j) = omega arith in
      ap (λ n. byte_at (over b at xs) n) e ∙ over_in b at xs h (t + j) (omega arith))

  pub four_before : (o : ℕ) → o + 4 ≤ at → four (over b at xs) o ≡ four b o
  four_before o k = four_same (over b at xs) b o o (λ j l. over_before b at xs h (o + j) (omega arith))

  pub four_after : (o : ℕ) → at + length xs ≤ o → four (over b at xs) o ≡ four b o
  four_after o k = four_same (over b at xs) b o o (λ j l. over_after b at xs h (o + j) (omega arith))

-- fours one after another
module _ (a n : ℕ) (g : ℕ → Bytes) (l : (j : ℕ) → j < n → length (g (a + j)) ≡ 4) where
  pub fours_length : length (blocks a n g) ≡ 4 * n
  fours_length = rows_length a g 4 n l

  pub fours_at : (t : ℕ) → t < n → four (blocks a n g) (4 * t) ≡ g (a + t)
  fours_at t h =
      four_same (blocks a n g) (g (a + t)) (4 * t) 0 (λ k q. rows_at a g 4 n t k 0 l h q ∙ ap (λ i. byte_at (g (a + t)) i) (sym (zero-add k)))
      ∙ four_whole (g (a + t)) (l t h)

  -- one more stored after them
  pub fours_store : (b : Bytes) (at : ℕ) → at + 4 * n ≤ length b → over (over b at (blocks a n g)) (at + 4 * n) (g (a + n)) ≡ over b at (blocks a (n + 1) g)
  fours_store b at h =
      rw blocks_turn
      (subst (λ m. over (over b at (blocks a n g)) (at + m) (g (a + n)) ≡ over b at (blocks a n g ++ g (a + n))) fours_length
      (over_more b at (blocks a n g) (omega (arith, fours_length)) (g (a + n))))

-- the fours of a part are the part
pub fours_of : (b : Bytes) (at n : ℕ) → at + 4 * n ≤ length b → blocks 0 n (λ k. four b (at + 4 * k)) ≡ take (4 * n) (drop at b)
fours_of b at n h =
    let g : ℕ → Bytes = λ k. four b (at + 4 * k) in
    let m : length (take (4 * n) (drop at b)) ≡ 4 * n = length-take-le (4 * n) (drop at b) (omega (arith, length-drop at b)) in
    let r : length (blocks 0 n g) ≡ 4 * n = fours_length 0 n g (λ j k. length_four b (at + 4 * (0 + j))) in
    ext_get_or 0 (blocks 0 n g) (take (4 * n) (drop at b)) (r ∙ sym m) (λ i k. byte i (i / 4) (i % 4) (omega arith) (omega arith) (omega arith))
  where
    byte : (i t k : ℕ) → i ≡ 4 * t + k → k < 4 → t < n → byte_at (blocks 0 n (λ k. four b (at + 4 * k))) i ≡ byte_at (take (4 * n) (drop at b)) i
    byte i t k e h q =
        let f : at + 4 * (0 + t) + k ≡ at + i = omega arith in
        ap (λ x. byte_at (blocks 0 n (λ k. four b (at + 4 * k))) x) e
        ∙ rows_at 0 (λ k. four b (at + 4 * k)) 4 n t k 0 (λ j l. length_four b (at + 4 * (0 + j))) q h
        ∙ get_or_four b (at + 4 * (0 + t)) k h
        ∙ ap (λ x. byte_at b x) f
        ∙ sym (get_or-take (4 * n) (drop at b) i 0 (omega arith) ∙ get_or-drop at b i 0)

-- texts of four bytes, one after another
pub joined_at : (ds : List Bytes) (t : ℕ) → All (λ x. length x ≡ 4) ds → t < length ds → four (joined ds) (4 * t) ≡ get_or ds t []
unfolding joined
joined_at [] t a h = absurd (not-suc-le-zero h)
joined_at (x ∷ ds) zero a h = four_left x (joined ds) 0 (omega (arith, a.0)) ∙ four_whole x a.0
joined_at (x ∷ ds) (suc t) a h =
    let e : 4 * suc t ≡ length x + 4 * t = omega (arith, a.0) in
    ap (λ n. four (x ++ joined ds) n) e ∙ four_past x (joined ds) (4 * t) ∙ joined_at ds t a.1 (le_of_suc-le-suc h)

pub joined_length : (ds : List Bytes) → All (λ x. length x ≡ 4) ds → length (joined ds) ≡ 4 * length ds
unfolding joined
joined_length [] a = refl
joined_length (x ∷ ds) a = omega (arith, length-append x (joined ds), a.0, joined_length ds a.1)

-- the fours of a part, joined, are the part
pub joined_fours : (b : Bytes) (at n : ℕ) → at + 4 * n ≤ length b → joined (listed 0 n (λ k. four b (at + 4 * k))) ≡ take (4 * n) (drop at b)
joined_fours b at n h = joined_listed 0 (λ k. four b (at + 4 * k)) n ∙ fours_of b at n h

-- n fours, one after another, are told by their fours
pub fours_same : (n : ℕ) (G H : Bytes) → length G ≡ 4 * n → length H ≡ 4 * n → ((c : ℕ) → c < n → four G (4 * c) ≡ four H (4 * c)) → G ≡ H
fours_same n G H p q e =
    ext_get_or 0 G H (omega arith)
    (λ x h.
    let c : x / 4 < n = omega arith in
    let y : 4 * (x / 4) + x % 4 ≡ x = omega arith in
    let k : x % 4 < 4 = omega arith in
    ap (λ z. byte_at G z) (sym y)
    ∙ sym (get_or_four G (4 * (x / 4)) (x % 4) k)
    ∙ ap (λ z. byte_at z (x % 4)) (e (x / 4) c)
    ∙ get_or_four H (4 * (x / 4)) (x % 4) k
    ∙ ap (λ z. byte_at H z) y)

-- ---- numbers of four bytes

number_same : (x y : Bytes) (o p : ℕ) → ((k : ℕ) → k < 4 → byte_at x (o + k) ≡ byte_at y (p + k)) → number_from x o ≡ number_from y p
unfolding number_from
number_same x y o p h =
    let a : byte_at x o ≡ byte_at y p = ap (λ n. byte_at x n) (sym (add-zero o)) ∙ h 0 (omega arith) ∙ ap (λ n. byte_at y n) (add-zero p) in
    let e : o + 2 + 1 ≡ o + 3 = omega arith in
    let f : p + 3 ≡ p + 2 + 1 = omega arith in
    ap₂ (λ u v. u * 65536 + v)
    (word_same x y o p a (h 1 (omega arith)))
    (word_same x y (o + 2) (p + 2) (h 2 (omega arith)) (ap (λ n. byte_at x n) e ∙ h 3 (omega arith) ∙ ap (λ n. byte_at y n) f))

number_back : (v : ℕ) → number_from (number_bytes v) 0 ≡ v
unfolding number_from number_bytes word
number_back v = omega arith

module _ (b : Bytes) (o : ℕ) (h : (k : ℕ) → k < 4 → byte_at b (o + k) < 256) where
  first_byte : byte_at b o < 256
  first_byte = subst (λ n. byte_at b n < 256) (add-zero o) (h 0 (omega arith))

  last_byte : byte_at b (o + 2 + 1) < 256
  last_byte = let e : o + 3 ≡ o + 2 + 1 = omega arith in subst (λ n. byte_at b n < 256) e (h 3 (omega arith))

  number_less : number_from b o < 4294967296
  unfolding number_from word
  number_less = omega (arith, first_byte, h 1 (omega arith), h 2 (omega arith), last_byte)

  number_bytes_lem : number_bytes (number_from b o) ≡ four b o
  unfolding number_bytes number_from word four
  number_bytes_lem =
      let e : o + 2 + 1 ≡ o + 3 = omega arith in
      let x = byte_at b o in
      let y = byte_at b (o + 1) in
      let z = byte_at b (o + 2) in
      let w = byte_at b (o + 3) in
      let hx : x < 256 = first_byte in
      let hy : y < 256 = h 1 (omega arith) in
      let hz : z < 256 = h 2 (omega arith) in
      let hw : w < 256 = h 3 (omega arith) in
      rw e (digits x y z w hx hy hz hw)
    where
      digits : (x y z w : ℕ) → x < 256 → y < 256 → z < 256 → w < 256
          → number_bytes ((x * 256 + y) * 65536 + (z * 256 + w)) ≡ x ∷ y ∷ z ∷ w ∷ []
      digits x y z w hx hy hz hw =
          let v = (x * 256 + y) * 65536 + (z * 256 + w) in
          let p : v / 16777216 ≡ x = omega arith in
          let q : v / 65536 % 256 ≡ y = omega arith in
          let r : v / 256 % 256 ≡ z = omega arith in
          let s : v % 256 ≡ w = omega arith in
          λ i. p i ∷ q i ∷ r i ∷ s i ∷ []

-- ---- two's complement

signed_unsigned : (z : ℤ) → nat_abs z < 2147483648 → signed (unsigned z) ≡ z
unfolding signed unsigned
signed_unsigned (pos n) h = simp (lt-ltb _ _ h)
signed_unsigned (negsuc n) h =
    let a : 2147483648 ≤ 4294967295 - n = omega arith in
    let b : 4294967295 - (4294967295 - n) ≡ n = omega arith in
    simp (le-ltb _ _ a, b)

unsigned_signed : (v : ℕ) → v < 4294967296 → unsigned (signed v) ≡ v
unfolding signed unsigned
unsigned_signed v h = go (ltb v 2147483648) refl
  where
    go : (t : Bool) → ltb v 2147483648 ≡ t → unsigned (cond t (pos v) (negsuc (4294967295 - v))) ≡ v
    go true e = refl
    go false e = omega arith

-- ---- depths

length_depth_bytes : (z : ℤ) → length (depth_bytes z) ≡ 4
unfolding depth_bytes number_bytes
length_depth_bytes z = refl

-- equal fours are equal depths
pub depth_four : (b : Bytes) (o : ℕ) → depth_of (four b o) ≡ depth_from b o
unfolding depth_from
depth_four b o = ap signed (number_same (four b o) b 0 o (λ k h. ap (λ n. byte_at (four b o) n) (zero-add k) ∙ get_or_four b o k h))

-- the depth that was written
depth_back : (z : ℤ) → nat_abs z < 2147483648 → depth_of (depth_bytes z) ≡ z
unfolding depth_from depth_bytes
depth_back z h = ap signed (number_back (unsigned z)) ∙ signed_unsigned z h

-- the bytes of the depth that was read
depth_bytes_lem : (b : Bytes) (o : ℕ) → ((k : ℕ) → k < 4 → byte_at b (o + k) < 256) → depth_bytes (depth_from b o) ≡ four b o
unfolding depth_from depth_bytes
depth_bytes_lem b o h = ap (λ v. number_bytes v) (unsigned_signed (number_from b o) (number_less b o h)) ∙ number_bytes_lem b o h

-- ---- the range

range_size : (z : ℤ) → in_range z ≡ true → nat_abs z ≤ deepest
unfolding in_range
range_size z e = leb-true _ _ e

range_intro : (z : ℤ) → nat_abs z ≤ deepest → in_range z ≡ true
unfolding in_range
range_intro z h = le-leb _ _ h

-- ---- depths and gaps (F-2)

-- a gap is no depth
pub gap_alone : (z : ℤ) → Gap ≡ Depth z → ⊥
unfolding is_depth
gap_alone z e = false≢true (ap is_depth e)

pub length_value_bytes : (x : Value) → length (value_bytes x) ≡ 4
unfolding value_bytes gap_bytes
length_value_bytes (Depth z) = length_depth_bytes z
length_value_bytes Gap = refl

-- the gap as a number
gap_number_lem : number_from gap_bytes 0 ≡ gap_number
unfolding number_from gap_bytes word
gap_number_lem = omega arith

pub gap_is : number_bytes gap_number ≡ gap_bytes
unfolding number_bytes gap_bytes
gap_is = refl

-- the number tells which of the two it is
pub value_gap : (b : Bytes) (o : ℕ) → number_from b o ≡ gap_number → value_from b o ≡ Gap
unfolding value_from
value_gap b o e = simp (eq-eqb _ _ e)

pub value_depth : (b : Bytes) (o : ℕ) → (number_from b o ≡ gap_number → ⊥) → value_from b o ≡ Depth (depth_from b o)
unfolding value_from
value_depth b o h = simp (ne_eqb _ _ h)

-- a value that is a depth is the depth that its bytes have
pub value_is : (b : Bytes) (o : ℕ) (z : ℤ) → value_from b o ≡ Depth z → z ≡ depth_from b o
unfolding value_from
value_is b o z e = go (eqb (number_from b o) gap_number) e
  where
    z_of : Value → ℤ
    z_of (Depth y) = y
    z_of Gap = pos 0

    go : (t : Bool) → cond t Gap (Depth (depth_from b o)) ≡ Depth z → z ≡ depth_from b o
    go true q = absurd (gap_alone z q)
    go false q = ap z_of (sym q)

-- equal fours are equal values
pub value_four : (b : Bytes) (o : ℕ) → value_of (four b o) ≡ value_from b o
unfolding value_from
value_four b o =
    ap₂ (λ n z. cond (eqb n gap_number) Gap (Depth z)) (number_same (four b o) b 0 o (λ k h. ap (λ n. byte_at (four b o) n) (zero-add k) ∙ get_or_four b o k h)) (depth_four b o)

pub value_same : (x y : Bytes) (o p : ℕ) → four x o ≡ four y p → value_from x o ≡ value_from y p
value_same x y o p e = sym (value_four x o) ∙ ap (λ f. value_of f) e ∙ value_four y p

-- no depth of a size below 2^31 has the gap's number
number_no_gap : (z : ℤ) → nat_abs z < 2147483648 → unsigned z ≡ gap_number → ⊥
unfolding unsigned
number_no_gap (pos n) h e = omega arith
number_no_gap (negsuc n) h e = omega arith

-- what was written
pub value_back : (m : ℕ) → m < 2147483648 → (x : Value) → Within m x → value_of (value_bytes x) ≡ x
unfolding Within value_bytes gap_bytes depth_bytes
value_back m l (Depth z) h =
    value_depth (depth_bytes z) 0 (λ e. number_no_gap z (omega arith) (sym (number_back (unsigned z)) ∙ e)) ∙ ap Depth (depth_back z (omega arith))
value_back m l Gap h = value_gap gap_bytes 0 gap_number_lem

-- the bytes of what was read
pub value_bytes_lem : (b : Bytes) (o : ℕ) → ((k : ℕ) → k < 4 → byte_at b (o + k) < 256) → value_bytes (value_from b o) ≡ four b o
unfolding value_from value_bytes
value_bytes_lem b o h = go (eqb (number_from b o) gap_number) refl
  where
    go : (t : Bool) → eqb (number_from b o) gap_number ≡ t → value_bytes (cond t Gap (Depth (depth_from b o))) ≡ four b o
    go true e = sym gap_is ∙ ap (λ v. number_bytes v) (sym (eqb-true _ _ e)) ∙ number_bytes_lem b o h
    go false e = depth_bytes_lem b o h

-- a value within m has a gap's bytes only if it is one; the depth -2^31 has them too
pub bytes_gap : (m : ℕ) → m < 2147483648 → (x : Value) → Within m x → value_bytes x ≡ gap_bytes → x ≡ Gap
unfolding value_bytes
bytes_gap m l x h e = sym (value_back m l x h) ∙ ap (λ f. value_of f) e ∙ value_gap gap_bytes 0 gap_number_lem

-- valid, and within the range
valid_within : (x : Value) → is_valid x ≡ true → Within deepest x
unfolding is_valid Within
valid_within (Depth z) e = range_size z e
valid_within Gap e = tt

pub within_valid : (x : Value) → Within deepest x → is_valid x ≡ true
unfolding is_valid Within
within_valid (Depth z) h = range_intro z h
within_valid Gap h = refl

-- each of the values valid
pub ranged_valid : (b : Bytes) (at n k : ℕ) → every 0 n (ranged_at b at) ≡ true → k < n → Valid b (at + 4 * k)
unfolding ranged_at
ranged_valid b at n k e h =
    valid_within (value_from b (at + 4 * k)) (ap (λ j. is_valid (value_from b (at + 4 * j))) (sym (zero-add k)) ∙ every_at 0 (ranged_at b at) n k e h)
