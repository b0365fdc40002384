-- What the code of a call knows of a state that it has opened, and its tests after 20 in the order in which it makes them. No public contract rests
-- on this page. Assumes nothing.
use Rattle.std.specs.Prelude.{◌≡◌, Bool, true, not, ◌||◌, cond, [], ◌∷◌, ℕ, ◌+◌, ◌-◌, ◌*◌, ◌<◌, eqb, ltb, leb, length, take}
use Rattle.vocabulary.specs.Bytes.{Bytes, byte_at}
use Rattle.vocabulary.specs.Intervals.{is_up_to}
use Rattle.vocabulary.specs.Tests.{refuse, first_of}
use Rattle.layout.specs.Words.{word_at}
use Rattle.layout.specs.Limits.{last_round, most_parts}
use Rattle.depths.specs.Depths.{four}
use Rattle.part_state.specs.State.{Lists, round_at, taken_place, depth_place, export_at, point_cell_at, dynamic, is_state}
use Rattle.part_calls.specs.Calls.{imports_from, outside, all_taken, all_written}

-- b begins with a state, whose lists end at `changes`
pub record Opened (lists : Bytes) (changes : ℕ) (b : Bytes) : Type 0 where
  pub lists_are : lists ≡ take changes b
  pub place_is : changes ≡ dynamic b
  pub place_small : changes < 131072
  pub state : is_state b ≡ true

-- take's tests of a message's words, in the order in which they are tried
unfoldable pub bad_sender : Lists → ℕ → ℕ → ℕ → Bool
bad_sender L from to count = not (eqb to L.part) || not (imports_from L from) || not (eqb count (L.imported from))

unfoldable pub take_rest : Lists → ℕ → Bytes → ℕ → ℕ → ℕ → ℕ → ℕ
take_rest L changes b from to round count =
    first_of (
    refuse 21 (bad_sender L from to count)
    ∷ refuse 22 (not (eqb round (round_at b changes)))
    ∷ refuse 23 (eqb (byte_at b (taken_place changes from)) 1)
    ∷ []
    )

-- how many depths go to part j: none where j is no part
unfoldable pub sent_to : Lists → ℕ → ℕ
sent_to L j = cond (is_up_to most_parts j) (length (L.exports j)) 0

-- the depth of export entry x
unfoldable pub sent_at : Bytes → ℕ → Bytes → ℕ → Bytes
sent_at lists changes b x = four b (depth_place changes (export_at lists x))

-- there is nothing between the ends that stand at words `ends` + j and the next, or the flag at `flags` + j is set
unfoldable pub settled_at : Bytes → Bytes → ℕ → ℕ → ℕ → Bool
settled_at lists b ends flags j = not (ltb 0 (word_at lists (ends + j + 1) - word_at lists (ends + j))) || eqb (byte_at b (flags + j)) 1

-- advance's tests after 20, in the order in which they are tried
unfoldable pub advance_rest : Lists → ℕ → Bytes → ℕ
advance_rest L changes b = first_of (refuse 24 (not (all_taken L changes b)) ∷ refuse 25 (not (all_written L changes b)) ∷ refuse 26 (leb last_round (round_at b changes)) ∷ [])

-- of the cells at the points, the t-th is not to be read
unfoldable pub unread_at : Bytes → ℕ → Bool
unread_at lists t = eqb 0 (point_cell_at lists t)

-- points' tests after 20, in the order in which they are tried, where the output has `room` bytes
unfoldable pub points_rest : Lists → ℕ → Bytes → ℕ → ℕ
points_rest L changes b room = first_of (refuse 24 (not (all_taken L changes b)) ∷ refuse 29 (outside L) ∷ refuse 16 (ltb room (6 * L.points)) ∷ [])
