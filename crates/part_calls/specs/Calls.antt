-- What write, take, advance, collect and points answer and leave. Each is defined over the lists L of a state, the place `changes` of what calls change and
-- the state's bytes b, and then over the bytes alone. Assumes nothing.
--
-- "A call tries each number whose inputs it is given, in rising number, the first list first; only 16 comes last of all." "A refusal gives its
-- number and zero for every count; all lent bytes stay."
use Rattle.std.specs.Prelude.{Bool, not, ◌&&◌, ◌||◌, List, [], ◌∷◌, ◌++◌, map, ℕ, zero, suc, ◌+◌, ◌-◌, ◌*◌, eqb, ltb, leb, length, set, replicate}
use Rattle.vocabulary.specs.Intervals.{is_up_to, every, some, blocks}
use Rattle.vocabulary.specs.Lists.{some_of}
use Rattle.vocabulary.specs.Tests.{Test, refuse, first_of}
use Rattle.vocabulary.specs.Bytes.{Bytes, byte_at, over}
use Rattle.layout.specs.Words.{word_bytes}
use Rattle.layout.specs.Answers.{answer, if_accepted}
use Rattle.layout.specs.Answers.{Answer}
use Rattle.layout.specs.Limits.{most_parts, last_round}
use Rattle.depths.specs.Depths.{four}
use Rattle.round_rule.specs.Rules.{plain_mean}
use Rattle.messages.specs.Messages.{depths_of, Message, encode, from_in, to_in, round_in, count_in, bad15}
use Rattle.part_state.specs.State.{Lists, lists_of, dynamic, bad20, round_at, taken_place, written_place, depth_place}

-- the part imports from j, exports to j
unfoldable pub imports_from : Lists → ℕ → Bool
imports_from L j = is_up_to most_parts j && ltb 0 (L.imported j)

-- Standard term: receiving neighbour.
unfoldable pub exports_to : Lists → ℕ → Bool
exports_to L j = is_up_to most_parts j && ltb 0 (length (L.exports j))

-- some cell at a point is written as 0; start does this to all of them where 29 holds of the part (F-1)
unfoldable pub outside : Lists → Bool
outside L = some 1 L.points (λ k. some_of (L.around k) (eqb 0))

-- the depth of local cell l, as its four bytes
abbrev pub depth_at : ℕ → Bytes → ℕ → Bytes
depth_at changes b l = four b (depth_place changes l)

-- f with the pieces 1 to n put into it, in this order: piece l at byte w × place l
unfoldable pub scatter : ℕ → (ℕ → ℕ) → (ℕ → Bytes) → ℕ → Bytes → Bytes
scatter w place piece zero f = f
scatter w place piece (suc n) f = over (scatter w place piece n f) (w * place (suc n)) (piece (suc n))

-- ---- write: "gives the message to one importer; it may be repeated"

module _ (L : Lists) (changes : ℕ) (b : Bytes) where
  -- the message to part j, and its bytes
  abbrev pub sent_message_in : ℕ → Message
  sent_message_in j = record { from = L.part; to = j; round = round_at b changes; depths = map (depth_at changes b) (L.exports j) }

  -- Standard term: pack.
  unfoldable pub message_to : ℕ → Bytes
  message_to j = encode (sent_message_in j)

  -- 27: "Write to a number that isn't a part importing from here."
  unfoldable pub write_tests_in : ℕ → Bytes → List Test
  write_tests_in j out = refuse 20 (bad20 b) ∷ refuse 27 (not (exports_to L j)) ∷ refuse 16 (ltb (length out) (length (message_to j))) ∷ []

  -- the flag of part j is set
  unfoldable pub written_in : ℕ → Bytes
  written_in j = set b (written_place changes j) 1

  -- ---- take: "accepts one message"

  -- 21: "To is not this part, or from is no part that this one imports from, or count is not the length of that import list." 22: "The
  -- message's round is not the state's." 23: "Already taken this round."
  unfoldable pub take_tests_in : Bytes → List Test
  take_tests_in x =
      refuse 15 (bad15 x) ∷ refuse 20 (bad20 b)
      ∷ refuse 21 (not (eqb (to_in x) L.part) || not (imports_from L (from_in x)) || not (eqb (count_in x) (L.imported (from_in x))))
      ∷ refuse 22 (not (eqb (round_in x) (round_at b changes))) ∷ refuse 23 (eqb (byte_at b (taken_place changes (from_in x))) 1) ∷ []

  -- the flag is set, and the message's depths become those of the cells imported from there. Standard term: unpack.
  unfoldable pub taken_in : Bytes → Bytes
  taken_in x = over (set b (taken_place changes (from_in x)) 1) (depth_place changes (L.before (from_in x) + 1)) (depths_of x)

  -- ---- advance: "makes a round of the owned cells"

  -- every import is taken, every export is written
  unfoldable pub all_taken : Bool
  all_taken = every 1 most_parts (λ j. not (imports_from L j) || eqb (byte_at b (taken_place changes j)) 1)

  unfoldable pub all_written : Bool
  all_written = every 1 most_parts (λ j. not (exports_to L j) || eqb (byte_at b (written_place changes j)) 1)

  -- 24: "Advance with an import not taken." 25: "Advance with an export not written." 26: "Advance at round 60,000."
  unfoldable pub advance_tests_in : List Test
  advance_tests_in = refuse 20 (bad20 b) ∷ refuse 24 (not all_taken) ∷ refuse 25 (not all_written) ∷ refuse 26 (leb last_round (round_at b changes)) ∷ []

  -- the new depth of an owned cell: "All new depths come from old ones."
  unfoldable pub new_at : ℕ → Bytes
  new_at l = L.new (depth_at changes b l) (map (λ e. record { layer = e.layer; depth = depth_at changes b e.local }) (L.reach l))

  -- those of all owned cells, in local order
  abbrev pub new_depths : Bytes
  new_depths = blocks 1 L.owned new_at

  -- the next round, no flag set ("At each new round nothing is taken and nothing written"), the new depths; imported cells keep theirs.
  -- Standard term: the computation of a superstep (BSP).
  unfoldable pub advanced_in : Bytes
  advanced_in = over b changes (word_bytes (round_at b changes + 1) ++ (replicate (2 * most_parts) 0 ++ new_depths))

  -- ---- collect: "puts the owned depths into a field and changes no other byte of it"

  -- 28: "Collect for another round than the state's."
  unfoldable pub collect_tests_in : ℕ → Bytes → List Test
  collect_tests_in k f = refuse 20 (bad20 b) ∷ refuse 28 (not (eqb k (round_at b changes))) ∷ refuse 16 (ltb (length f) (4 * L.cells)) ∷ []

  -- the field f with the depths of the local cells 1 to n put at their places. Standard term: one rank's share of a gather.
  abbrev pub collected_in : ℕ → Bytes → Bytes
  collected_in n f = scatter 4 (λ l. L.global l - L.first) (depth_at changes b) n f

  -- ---- points (F-1): "A part gives each point that touches its owned cells, in rising number, as the word of its number and then its depth, at
  -- a round whose imports are all taken; otherwise 24."

  -- 29: "if a cell incident to a point of an owned cell is outside that cell's reach, tried after 24 and by this call alone"
  unfoldable pub points_tests_in : Bytes → List Test
  points_tests_in out = refuse 20 (bad20 b) ∷ refuse 24 (not all_taken) ∷ refuse 29 (outside L) ∷ refuse 16 (ltb (length out) (6 * L.points)) ∷ []

  -- what is given of the k-th point: "the plain mean of the depths of the cells incident to it" behind its number
  unfoldable pub point_given : ℕ → Bytes
  point_given k = word_bytes (L.point k) ++ plain_mean (map (depth_at changes b) (L.around k))

  -- Standard term: output at the vertices.
  abbrev pub points_given : Bytes
  points_given = blocks 1 L.points point_given

-- ---- the calls over the bytes b of a state

module _ (b : Bytes) where
  -- its lists, and the place of what calls change
  abbrev L : Lists
  L = lists_of b

  abbrev changes : ℕ
  changes = dynamic b

  unfoldable pub write_number : ℕ → Bytes → ℕ
  write_number j out = first_of (write_tests_in L changes b j out)

  abbrev pub sent_message : ℕ → Message
  sent_message j = sent_message_in L changes b j

  unfoldable pub message : ℕ → Bytes
  message j = message_to L changes b j

  -- it gives the length of the message
  unfoldable pub write_answer : ℕ → Bytes → Answer
  write_answer j out = answer (write_number j out) (length (message j))

  unfoldable pub write_state : ℕ → Bytes → Bytes
  write_state j out = if_accepted (write_number j out) (written_in L changes b j) b

  unfoldable pub write_out : ℕ → Bytes → Bytes
  write_out j out = if_accepted (write_number j out) (over out 0 (message j)) out

  unfoldable pub take_number : Bytes → ℕ
  take_number x = first_of (take_tests_in L changes b x)

  unfoldable pub take_answer : Bytes → Answer
  take_answer x = answer (take_number x) 0

  unfoldable pub take_state : Bytes → Bytes
  take_state x = if_accepted (take_number x) (taken_in L changes b x) b

  unfoldable pub advance_number : ℕ
  advance_number = first_of (advance_tests_in L changes b)

  unfoldable pub advance_answer : Answer
  advance_answer = answer advance_number 0

  unfoldable pub advance_state : Bytes
  advance_state = if_accepted advance_number (advanced_in L changes b) b

  unfoldable pub collect_number : ℕ → Bytes → ℕ
  collect_number k f = first_of (collect_tests_in L changes b k f)

  -- it gives how many depths it put
  unfoldable pub collect_answer : ℕ → Bytes → Answer
  collect_answer k f = answer (collect_number k f) L.owned

  unfoldable pub collect_out : ℕ → Bytes → Bytes
  collect_out k f = if_accepted (collect_number k f) (collected_in L changes b L.owned f) f

  unfoldable pub points_number : Bytes → ℕ
  points_number out = first_of (points_tests_in L changes b out)

  -- it gives how many points there are
  unfoldable pub points_answer : Bytes → Answer
  points_answer out = answer (points_number out) L.points

  unfoldable pub points_out : Bytes → Bytes
  points_out out = if_accepted (points_number out) (over out 0 (points_given L changes b)) out
