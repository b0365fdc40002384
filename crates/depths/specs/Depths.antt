-- Depths and gaps in bytes. "A depth is a signed whole number of centimetres from −1,200,000 to 1,200,000, positive down. A field is four bytes a
-- cell, two's complement, high byte first." In fields, messages and states a depth or a gap (F-2) stays its four bytes; only the rules,
-- the tests 14, 15 and 20 and the equality of fields read what they stand for. Where a name says depth and gives bytes, they may be a gap's. Assumes nothing.
use Rattle.std.specs.Prelude.{Bool, true, false, cond, [], ◌∷◌, ℕ, ◌+◌, ◌-◌, ◌*◌, ◌/◌, ◌%◌, ◌≤◌, eqb, ltb, leb, ℤ, pos, negsuc, nat_abs}
use Rattle.vocabulary.specs.Bytes.{Bytes, byte_at}
use Rattle.layout.specs.Words.{word}
use Rattle.depths.specs.declared.Value.{Value}
use Rattle.depths.specs.declared.Value.TheVariants.{Depth, Gap}

-- the four bytes from o on; a byte past the end counts 0
unfoldable pub four : Bytes → ℕ → Bytes
four b o = byte_at b o ∷ byte_at b (o + 1) ∷ byte_at b (o + 2) ∷ byte_at b (o + 3) ∷ []

-- four bytes as a number, high byte first
unfoldable pub number_from : Bytes → ℕ → ℕ
number_from b o = word b o * 65536 + word b (o + 2)

-- a number below 2^32 read as two's complement, and back
unfoldable pub signed : ℕ → ℤ
signed v = cond (ltb v 2147483648) (pos v) (negsuc (4294967295 - v))

unfoldable pub unsigned : ℤ → ℕ
unsigned (pos n) = n
unsigned (negsuc n) = 4294967295 - n

-- the depth in the four bytes from o on. Standard term: big-endian 32-bit integer.
unfoldable pub depth_from : Bytes → ℕ → ℤ
depth_from b o = signed (number_from b o)

-- the depth in four bytes, and the four bytes of a depth
abbrev pub depth_of : Bytes → ℤ
depth_of x = depth_from x 0

unfoldable pub number_bytes : ℕ → Bytes
number_bytes v = v / 16777216 ∷ v / 65536 % 256 ∷ v / 256 % 256 ∷ v % 256 ∷ []

unfoldable pub depth_bytes : ℤ → Bytes
depth_bytes z = number_bytes (unsigned z)

-- the greatest depth, up or down, in centimetres
abbrev pub deepest : ℕ
deepest = 1200000

-- "from −1,200,000 to 1,200,000"
unfoldable pub in_range : ℤ → Bool
in_range z = leb (nat_abs z) deepest

-- ---- gaps (F-2)

-- "The four bytes 80 00 00 00 (hexadecimal) now stand for a gap", and the number that they are. Standard term: missing value.
unfoldable pub gap_bytes : Bytes
gap_bytes = 128 ∷ 0 ∷ 0 ∷ 0 ∷ []

abbrev pub gap_number : ℕ
gap_number = 2147483648

-- "Reading a depth gives either a depth or a gap": what the four bytes from o on stand for. Standard term: optional value.
unfoldable pub value_from : Bytes → ℕ → Value
value_from b o = cond (eqb (number_from b o) gap_number) Gap (Depth (depth_from b o))

-- what four bytes stand for, and the four bytes of each
abbrev pub value_of : Bytes → Value
value_of x = value_from x 0

unfoldable pub value_bytes : Value → Bytes
value_bytes (Depth z) = depth_bytes z
value_bytes Gap = gap_bytes

-- whether it is a depth
unfoldable pub is_depth : Value → Bool
is_depth (Depth z) = true
is_depth Gap = false

-- what a field, a message or a state may hold: a depth in range, or a gap ("14 and 15 let this value through")
unfoldable pub is_valid : Value → Bool
is_valid (Depth z) = in_range z
is_valid Gap = true

-- of the values that stand one after another from the place `at` on, the k-th is valid
unfoldable pub ranged_at : Bytes → ℕ → ℕ → Bool
ranged_at b at k = is_valid (value_from b (at + 4 * k))

-- a depth of at most m centimetres, up or down, or a gap; and as a fact that the four bytes from o on are valid
unfoldable pub Within : ℕ → Value → Type 0
Within m (Depth z) = nat_abs z ≤ m
Within m Gap = Unit {0}

abbrev pub Valid : Bytes → ℕ → Type 0
Valid b o = Within deepest (value_from b o)
