-- Words in bytes. "A word is two bytes, high byte first." Assumes nothing.
use Rattle.std.specs.Prelude.{List, [], ◌∷◌, ℕ, ◌+◌, ◌*◌, ◌/◌, ◌%◌}
use Rattle.vocabulary.specs.Bytes.{Bytes, byte_at}
use Rattle.vocabulary.specs.Intervals.{listed}

-- the word whose high byte stands at o; a byte past the end counts 0. Standard term: 16-bit big-endian integer.
unfoldable pub word : Bytes → ℕ → ℕ
word b o = byte_at b o * 256 + byte_at b (o + 1)

-- the word of index i, from 0
unfoldable pub word_at : Bytes → ℕ → ℕ
word_at b i = word b (2 * i)

-- n words from index a on
unfoldable pub words : Bytes → ℕ → ℕ → List ℕ
words b a n = listed a n (word_at b)

-- the two bytes of a word
unfoldable pub word_bytes : ℕ → Bytes
word_bytes v = v / 256 ∷ v % 256 ∷ []

-- the bytes of a list of words: "a list given or taken is words in the order stated"
unfoldable pub bytes_of : List ℕ → Bytes
bytes_of [] = []
bytes_of (v ∷ vs) = v / 256 ∷ v % 256 ∷ bytes_of vs
