-- Examples beside those of document 01, as entries of tables under a theorem each, all by computation over the definitions. The examples of later
-- requests go here; the table of `worked_examples` stays document 01's but for the one answer that F-4 changed. Assumes nothing.
use Rattle.std.specs.Prelude.{◌≡◌, refl, Bool, true, false, List, [], ◌∷◌, ◌++◌, map, ℕ, ◌+◌, ◌*◌, ℤ, pos, negsuc, length, replicate}
use Rattle.vocabulary.specs.Bytes.{Bytes, over}
use Rattle.vocabulary.specs.Lists.{is_in, place_of, joined, repeats, some_of, every_of, filtered}
use Rattle.vocabulary.specs.Intervals.{is_up_to, picked, every, some, listed, blocks, total}
use Rattle.layout.specs.Words.{word, word_at, words, word_bytes, bytes_of}
use Rattle.depths.specs.Depths.{four, number_from, signed, unsigned, depth_from, number_bytes, depth_bytes, in_range, gap_bytes, value_from, value_bytes, is_depth, is_valid, ranged_at}
use Rattle.depths.specs.declared.Value.{Value}
use Rattle.depths.specs.declared.Value.TheVariants.{Depth, Gap}
use Rattle.mesh.specs.Meet.{meet, stamp, unlike}
use Rattle.mesh.specs.Mesh.{below, dimension, element_in, next_of, follow, records, chain, all_records, bad1, bad_count, bad2, mesh_length, bad3, headed, bad4}
use Rattle.mesh.specs.Mesh.{bad_item, bad_chain, bad5, leaves, unclosed, bad6, bare, bad7, mesh_tests, mesh_number}
use Rattle.mesh.specs.Walks.{incident, steps, valid_at, bad10, step_to, walked, steps_to, layer, reach, bad13, cells_at}
use Rattle.round_rule.specs.Rules.{weight_count, too_heavy, bad11, without_gaps, weight, read_by, depth_sum, weight_sum, quotient, mean_of, plain_mean, least, least_of, new_depth}
use Rattle.round.specs.Rounds.{bad14, scheme_of, depth_in, olds_in, new_in, round, undivided}
use Rattle.messages.specs.Messages.{bad15}
use Rattle.split.specs.Lists.{bad8, bad9, bad12, split_tests, size_tests}
use Rattle.split.specs.Split.{split_of, owns, owned, reaches, holds, held, imports, exports, inside, interior, halo, locals, local_of, global_of, touches, points_of, cell_points, point_ends, bad29}
use Rattle.part_state.specs.State.{weights, local_reach, local_exports, local_around, lists_in, lists_of, rises, climbs, lists_tests, dynamic_tests, is_state, bad20}
use Rattle.part_calls.specs.Calls.{imports_from, outside, take_tests_in, taken_in, all_taken, points_tests_in, point_given, take_number, take_state, points_number, points_out}
use Rattle.part_start_plan.specs.Start.{import_ends, export_ends, reach_ends, reach_words, export_words, around_words, lists_long, lists_regions, state_size}
use Rattle.part_start_plan.specs.Start.{size_number, inputs, Inputs, first_state, start_number, start_state}
use Rattle.place_search.specs.Places.{lower_bound, place_in, read_for, words_in}
use Rattle.example_inputs.specs.Inputs.{five, triangles, field, five_inputs}

-- ---- depths at the points (F-1)

-- a part as started, in a buffer longer than each state
abbrev started : Inputs → ℕ → Bytes
started I i = start_state I i (replicate 300 7)

-- part 1 of the five cells when its import is taken: 00 02 00 01 00 00 00 01 00 00 01 90
abbrev took_in : Bytes
took_in = take_state (started five_inputs 1) (0x00 ∷ 0x02 ∷ 0x00 ∷ 0x01 ∷ 0x00 ∷ 0x00 ∷ 0x00 ∷ 0x01 ∷ 0x00 ∷ 0x00 ∷ 0x01 ∷ 0x90 ∷ [])

-- the five cells in one part, under the rule hold
abbrev five_in_one : Bytes → Bytes → Inputs
five_in_one st f = inputs five 1 (1 ∷ 1 ∷ 1 ∷ 1 ∷ 1 ∷ []) st 0 [] f

-- the three triangles
abbrev three_in : ℕ → Bytes → Bytes → Inputs
three_in parts owners st = inputs triangles parts owners st 0 [] (field (3 ∷ 6 ∷ 10 ∷ []))

-- triangles 15 and 16 in part 1, triangle 17 in part 2; through edges 15 and 17 are not in each other's reach, and both have point 1
abbrev through_edges : Inputs
through_edges = three_in 2 (1 ∷ 1 ∷ 2 ∷ []) (2 ∷ 1 ∷ 2 ∷ [])

-- one cell between two points
abbrev one_cell : Inputs
one_cell = inputs (bytes_of (1 ∷ 2 ∷ 1 ∷ 0 ∷ 0 ∷ 2 ∷ 0 ∷ 0 ∷ 1 ∷ 1 ∷ 2 ∷ 2 ∷ 0 ∷ [])) 1 (1 ∷ []) (1 ∷ []) 0 [] (field (300 ∷ []))

-- a point as it is given
abbrev at : ℕ → ℕ → Bytes
at p depth = word_bytes p ++ depth_bytes (pos depth)

-- ---- gaps (F-2)

-- the bytes of values
abbrev values : List Value → Bytes
values xs = joined (map value_bytes xs)

-- a depth of n centimetres
abbrev deep : ℕ → Value
deep n = Depth (pos n)

-- five cells, three of them without a depth
abbrev with_holes : List Value
with_holes = deep 100 ∷ Gap ∷ deep 300 ∷ Gap ∷ Gap ∷ []

-- a message of one value, from part 2 to part 1 at round 0
abbrev message_of : Bytes → Bytes
message_of x = bytes_of (2 ∷ 1 ∷ 0 ∷ 1 ∷ []) ++ x

-- ---- the table

-- an entry, by the definition that it is about
pub data Example : Type 0 where
  -- a rule's kind and weights, a number of rounds and the undivided field of the five cells
  rounds : ℕ → Bytes → ℕ → List ℕ → Example
  -- depths and their plain mean
  plain : List ℤ → ℤ → Example
  -- a state, a word of it, and the words from there to the end of its lists: how many points, their numbers, the ends of the cells at them, these cells
  point_words : Bytes → ℕ → List ℕ → Example
  -- a state, how many bytes a points call on it is lent, and the number of that call
  points_number_is : Bytes → ℕ → ℕ → Example
  -- a state, and what a points call on it gives
  points_given : Bytes → List Bytes → Example
  -- a rule's kind and weights, and the undivided fields of the five cells after one round, after two and so on, from the one with gaps
  filled : ℕ → Bytes → List (List Value) → Example
  -- the bytes of one value, and whether 15 refuses a message of it
  sent : Bytes → Bool → Example
  -- a field of the five cells that 14 does not refuse
  sounded : List Value → Example
  -- the bytes of a list, numbers sought, and for each its place, 0 for none, and how many numbers are read
  searched : Bytes → List ℕ → List (List ℕ) → Example
  -- a sum, weights and their quotient
  divided : ℤ → ℕ → ℤ → Example
  -- depths of the five cells, and those after one round of mean 2 1
  smoothed : List ℤ → List ℤ → Example

-- what an entry claims
abbrev pub Holds : Example → Type 0
Holds (rounds kind v k ds) = undivided (scheme_of five five_inputs.split.stencil kind v) five_inputs.field k ≡ field ds
Holds (plain zs z) = plain_mean (map depth_bytes zs) ≡ depth_bytes z
Holds (point_words b a ws) = word_at b 0 ∷ listed a (length ws) (word_at b) ≡ (a + length ws) ∷ ws
Holds (points_number_is b long n) = points_number b (replicate long 0) ≡ n
Holds (points_given b ps) = points_out b (replicate (6 * length ps) 0) ≡ joined ps
Holds (filled kind v fs) = listed 1 (length fs) (undivided (scheme_of five five_inputs.split.stencil kind v) (values with_holes)) ≡ map values fs
Holds (sent x refused) = bad15 (message_of x) ≡ refused
Holds (sounded xs) = bad14 5 (values xs) ≡ false
Holds (searched b xs rs) = map (λ x. place_in x (words_in b) ∷ read_for x (words_in b) ∷ []) xs ≡ rs
Holds (divided s w q) = quotient s w ≡ q
Holds (smoothed zs ys) = undivided (scheme_of five five_inputs.split.stencil 1 (bytes_of (2 ∷ 1 ∷ []))) (joined (map depth_bytes zs)) 1 ≡ joined (map depth_bytes ys)

abbrev pub AllHold : List Example → Type 0
AllHold [] = Unit {0}
AllHold (e ∷ es) = Holds e × AllHold es

abbrev pub table : List Example
table =
    -- shoalest, which has no weights: the least depth of each reach, from 100 200 300 400 500
    rounds 2 [] 1 (100 ∷ 100 ∷ 200 ∷ 300 ∷ 400 ∷ [])
    ∷ rounds 2 [] 2 (100 ∷ 100 ∷ 100 ∷ 200 ∷ 300 ∷ [])
    -- 701 over 3 and, above the water, −7 over 4, which is −2 (F-4)
    ∷ plain (pos 100 ∷ pos 200 ∷ pos 401 ∷ []) (pos 233)
    ∷ plain (negsuc 0 ∷ negsuc 1 ∷ negsuc 1 ∷ negsuc 1 ∷ []) (negsuc 1)
    -- F-1: the points of the two parts of the five cells
    ∷ point_words (started five_inputs 1) 70 (4 ∷ 1 ∷ 2 ∷ 3 ∷ 4 ∷ 0 ∷ 1 ∷ 3 ∷ 5 ∷ 7 ∷ 1 ∷ 2 ∷ 1 ∷ 3 ∷ 2 ∷ 4 ∷ 3 ∷ [])
    ∷ point_words (started five_inputs 2) 62 (3 ∷ 4 ∷ 5 ∷ 6 ∷ 0 ∷ 2 ∷ 4 ∷ 5 ∷ 2 ∷ 3 ∷ 1 ∷ 2 ∷ 1 ∷ [])
    -- "at a round whose imports are all taken; otherwise 24"; it comes before 16
    ∷ points_number_is (started five_inputs 1) 0 24
    ∷ points_number_is took_in 23 16
    -- 29 is about the reach of each owned cell: a part that has all cells is refused where the stencil has no steps
    ∷ points_number_is (started (five_in_one (1 ∷ []) five_inputs.field) 1) 36 29
    -- −3 over 2 is −2, and −2 over 2 is −1 (F-4)
    ∷ points_given (started (five_in_one (1 ∷ 0 ∷ 1 ∷ []) (joined (map depth_bytes (negsuc 0 ∷ negsuc 1 ∷ pos 0 ∷ pos 0 ∷ pos 0 ∷ [])))) 1) (
    (0x00 ∷ 0x01 ∷ 0xFF ∷ 0xFF ∷ 0xFF ∷ 0xFF ∷ [])
    ∷ (0x00 ∷ 0x02 ∷ 0xFF ∷ 0xFF ∷ 0xFF ∷ 0xFE ∷ [])
    ∷ (0x00 ∷ 0x03 ∷ 0xFF ∷ 0xFF ∷ 0xFF ∷ 0xFF ∷ [])
    ∷ at 4 0
    ∷ at 5 0
    ∷ at 6 0
    ∷ []
    )
    -- the triangles through points, in one part
    ∷ points_given (started (three_in 1 (1 ∷ 1 ∷ 1 ∷ []) (2 ∷ 0 ∷ 2 ∷ [])) 1) (at 1 6 ∷ at 2 4 ∷ at 3 4 ∷ at 4 6 ∷ at 5 10 ∷ at 6 10 ∷ [])
    -- the triangles through edges, in two parts: neither has imports, both are refused, and the cells at their points are written as 0
    ∷ points_number_is (started through_edges 1) 24 29
    ∷ points_number_is (started through_edges 2) 18 29
    ∷ point_words (started through_edges 2) 50 (3 ∷ 1 ∷ 5 ∷ 6 ∷ 0 ∷ 2 ∷ 3 ∷ 4 ∷ 0 ∷ 0 ∷ 0 ∷ 0 ∷ [])
    -- a cell is in its own reach
    ∷ points_given (started one_cell 1) (at 1 300 ∷ at 2 300 ∷ [])
    -- F-2: a mean of weights 2 1 passes over gaps, in its divisor too, and so fills them
    ∷ filled 1 (bytes_of (2 ∷ 1 ∷ [])) (
    (deep 100 ∷ deep 200 ∷ deep 300 ∷ deep 300 ∷ Gap ∷ [])
    ∷ (deep 133 ∷ deep 200 ∷ deep 275 ∷ deep 300 ∷ deep 300 ∷ [])
    ∷ []
    )
    -- "with .. only zero weights left, the new value is a gap": weights 1 0 leave every cell as it is, so it is so at every round
    ∷ filled 1 (bytes_of (1 ∷ 0 ∷ [])) (with_holes ∷ [])
    -- shoalest passes over gaps; hold keeps them
    ∷ filled 2 [] ((deep 100 ∷ deep 100 ∷ deep 300 ∷ deep 300 ∷ Gap ∷ []) ∷ (deep 100 ∷ deep 100 ∷ deep 100 ∷ deep 300 ∷ deep 300 ∷ []) ∷ [])
    ∷ filled 0 [] (with_holes ∷ [])
    -- "A point with only gaps is a gap."
    ∷ points_given (started (five_in_one (1 ∷ 0 ∷ 1 ∷ []) (values with_holes)) 1) (
    at 1 100
    ∷ at 2 100
    ∷ at 3 300
    ∷ at 4 300
    ∷ (0x00 ∷ 0x05 ∷ 0x80 ∷ 0x00 ∷ 0x00 ∷ 0x00 ∷ [])
    ∷ (0x00 ∷ 0x06 ∷ 0x80 ∷ 0x00 ∷ 0x00 ∷ 0x00 ∷ [])
    ∷ []
    )
    -- "14 and 15 let this value through", and none beside it
    ∷ sent (0x80 ∷ 0x00 ∷ 0x00 ∷ 0x00 ∷ []) false
    ∷ sent (0x80 ∷ 0x00 ∷ 0x00 ∷ 0x01 ∷ []) true
    ∷ sounded (Gap ∷ Gap ∷ Gap ∷ Gap ∷ Gap ∷ [])
    ∷ []

pub changed : AllHold table
unfolding over is_in place_of joined repeats some_of every_of is_up_to picked every some listed blocks total word word_at words word_bytes bytes_of four number_from signed unsigned
    depth_from number_bytes depth_bytes in_range gap_bytes value_from value_bytes is_depth is_valid ranged_at meet stamp unlike below dimension element_in next_of follow records chain
    all_records bad1 bad_count bad2 mesh_length bad3 headed bad4 bad_item bad_chain bad5 leaves unclosed bad6 bare bad7 mesh_tests mesh_number incident steps valid_at bad10 step_to
    walked steps_to layer reach bad13 cells_at weight_count too_heavy bad11 filtered without_gaps weight read_by depth_sum weight_sum quotient mean_of least least_of new_depth bad14
    scheme_of depth_in olds_in new_in round undivided bad15 bad8 bad9 bad12 split_tests size_tests split_of owns owned reaches holds held imports exports inside interior halo locals
    local_of global_of touches points_of cell_points point_ends bad29 weights local_reach local_exports local_around lists_in lists_of rises climbs lists_tests dynamic_tests is_state bad20
    imports_from outside take_tests_in taken_in all_taken points_tests_in point_given take_number take_state points_number points_out import_ends export_ends reach_ends reach_words export_words
    around_words lists_long lists_regions state_size size_number first_state start_number start_state five triangles field five_inputs
changed = (refl, (refl, (refl, (refl, (refl, (refl, (refl, (refl, (refl, (refl, (refl, (refl, (refl, (refl, (refl, (refl, (refl, (refl, (refl, (refl, (refl, (refl, (refl, tt)))))))))))))))))))))))

-- ---- places (F-3)

abbrev pub places : List Example
places =
    -- 3 5 9: "to end at the first number not below the one sought", "or the whole list if there is none"; what is sought may be too large for a word
    searched (0x00 ∷ 0x03 ∷ 0x00 ∷ 0x05 ∷ 0x00 ∷ 0x09 ∷ []) (5 ∷ 3 ∷ 4 ∷ 1 ∷ 10 ∷ 65541 ∷ 70000 ∷ [])
    ((2 ∷ 2 ∷ []) ∷ (1 ∷ 1 ∷ []) ∷ (0 ∷ 2 ∷ []) ∷ (0 ∷ 1 ∷ []) ∷ (0 ∷ 3 ∷ []) ∷ (0 ∷ 3 ∷ []) ∷ (0 ∷ 3 ∷ []) ∷ [])
    -- 9 3 5 does not rise
    ∷ searched (bytes_of (9 ∷ 3 ∷ 5 ∷ [])) (5 ∷ []) ((0 ∷ 1 ∷ []) ∷ [])
    -- no numbers, and half a word at the end, which is none
    ∷ searched [] (0 ∷ []) ((0 ∷ 0 ∷ []) ∷ [])
    ∷ searched (0x00 ∷ 0x03 ∷ 0x00 ∷ 0x05 ∷ 0x00 ∷ []) (5 ∷ 6 ∷ []) ((2 ∷ 2 ∷ []) ∷ (0 ∷ 2 ∷ []) ∷ [])
    ∷ []

pub places_found : AllHold places
unfolding listed word word_at words bytes_of lower_bound place_in read_for words_in
places_found = (refl, (refl, (refl, (refl, tt))))

-- ---- rounding to the shoal side (F-4)

abbrev pub rounded : List Example
rounded =
    -- "sum −7 over weights 4 becomes −2"; 7 over 4, −8 over 4, −1 over 15 and 0 over 4
    divided (negsuc 6) 4 (negsuc 1)
    ∷ divided (pos 7) 4 (pos 1)
    ∷ divided (negsuc 7) 4 (negsuc 1)
    ∷ divided (negsuc 0) 15 (negsuc 0)
    ∷ divided (pos 0) 4 (pos 0)
    -- −100 to −500: −400 over 3 is −134, and −1400 over 3 is −467
    ∷ smoothed
    (negsuc 99 ∷ negsuc 199 ∷ negsuc 299 ∷ negsuc 399 ∷ negsuc 499 ∷ [])
    (negsuc 133 ∷ negsuc 199 ∷ negsuc 299 ∷ negsuc 399 ∷ negsuc 466 ∷ [])
    -- the mean of −1,200,000, the least depth, and −1,199,999 is −1,200,000, in range
    ∷ plain (negsuc 1199999 ∷ negsuc 1199998 ∷ []) (negsuc 1199999)
    ∷ []

pub means_rounded : AllHold rounded
unfolding over is_in place_of joined some_of is_up_to picked some listed blocks word word_at word_bytes bytes_of four number_from signed unsigned depth_from number_bytes depth_bytes value_from
    value_bytes is_depth below dimension element_in next_of follow records chain incident steps step_to walked steps_to layer reach filtered without_gaps weight read_by depth_sum
    weight_sum quotient mean_of new_depth scheme_of depth_in olds_in new_in round undivided five five_inputs
means_rounded = (refl, (refl, (refl, (refl, (refl, (refl, (refl, tt)))))))
