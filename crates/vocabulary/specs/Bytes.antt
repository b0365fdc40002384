-- Words over bytes and buffers: the byte at a place, and a buffer with a part replaced. Assumes nothing.
use Rattle.std.specs.Prelude.{List, ◌++◌, ℕ, ◌+◌, length, get_or, take, drop}

abbrev pub Bytes : Type 0
Bytes = List ℕ

-- the byte at a place, and 0 past the end
abbrev pub byte_at : Bytes → ℕ → ℕ
byte_at b i = get_or b i 0

-- the buffer b with the bytes from the place `at` on replaced by xs
unfoldable pub over : Bytes → ℕ → Bytes → Bytes
over b at xs = take at b ++ (xs ++ drop (at + length xs) b)
