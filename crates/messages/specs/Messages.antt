-- Messages, and the refusal 15. Assumes nothing.
--
-- "A message is words from, to, round, count, then count depths of four bytes in export order, all high byte first."
use Rattle.std.specs.Prelude.{Bool, ◌||◌, not, cond, List, [], ◌∷◌, ◌++◌, ℕ, ◌+◌, ◌*◌, eqb, ltb, length, drop}
use Rattle.vocabulary.specs.Intervals.{every, listed}
use Rattle.vocabulary.specs.Lists.{joined}
use Rattle.vocabulary.specs.Bytes.{Bytes}
use Rattle.layout.specs.Words.{word_at, bytes_of}
use Rattle.depths.specs.Depths.{four, ranged_at}

-- a message, each depth as its four bytes, or since F-2 a gap; its count is the number of these. Standard term: halo exchange message.
pub record Message : Type 0 where
  pub from : ℕ
  pub to : ℕ
  pub round : ℕ
  pub depths : List Bytes

unfoldable pub encode : Message → Bytes
encode x = bytes_of (x.from ∷ x.to ∷ x.round ∷ length x.depths ∷ []) ++ joined x.depths

-- the bytes of the four words before the depths; the place of depth t, from 0 on; the length of a message of n depths
abbrev pub header_size : ℕ
header_size = 8

abbrev pub depth_start : ℕ → ℕ
depth_start t = header_size + 4 * t

abbrev pub message_size : ℕ → ℕ
message_size n = header_size + 4 * n

module _ (b : Bytes) where
  -- the words of a message's bytes, and all its depths
  abbrev pub from_in : ℕ
  from_in = word_at b 0

  abbrev pub to_in : ℕ
  to_in = word_at b 1

  abbrev pub round_in : ℕ
  round_in = word_at b 2

  abbrev pub count_in : ℕ
  count_in = word_at b 3

  abbrev pub depths_of : Bytes
  depths_of = drop header_size b

  -- "Message under 8 bytes, length not 8 + 4 × count, or a depth out of range"; since F-2 a gap is let through
  unfoldable pub bad15 : Bool
  bad15 = ltb (length b) header_size || not (eqb (length b) (message_size count_in)) || not (every 0 count_in (ranged_at b header_size))

-- "What reading gives is either the message or a refusal."
pub data Reading : Type 0 where
  read : Message → Reading
  refused : ℕ → Reading

unfoldable pub reading : Bytes → Reading
reading b =
    let depths : List Bytes = listed 0 (count_in b) (λ t. four b (depth_start t)) in
    cond (bad15 b) (refused 15) (read (record { from = from_in b; to = to_in b; round = round_in b; depths = depths }))
