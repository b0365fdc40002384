-- The worked examples of document 01 that it marks (P), as entries of one table under one theorem, all by computation over the definitions. Their run gives
-- depths at the points too (F-1), and one answer is now document 02's (F-4). Assumes nothing.
use Rattle.std.specs.Prelude.{◌≡◌, refl, ℕ, zero, suc, ◌*◌, ◌<◌, ◌≤◌, ℤ, negsuc, length, take, replicate}
use Rattle.std.proofs.Common.{sym, subst, arith}
use mathlib.Core.List.{List, [], ◌∷◌, ◌++◌, Memᴰ}
use Prim.Native.String.{String}
use Rattle.vocabulary.specs.Bytes.{Bytes, over}
use Rattle.vocabulary.specs.Lists.{is_in, place_of, joined, repeats, some_of, every_of, filtered}
use Rattle.vocabulary.specs.Intervals.{is_up_to, picked, every, some, listed, blocks, total}
use Rattle.layout.specs.Answers.{answer}
use Rattle.depths.specs.Depths.{four, number_from, signed, unsigned, depth_from, number_bytes, depth_bytes, in_range, value_from, value_bytes, is_depth, is_valid, ranged_at}
use Rattle.layout.specs.Words.{word, word_at, words, word_bytes, bytes_of}
use Rattle.mesh.specs.Meet.{meet, stamp, unlike}
use Rattle.mesh.specs.Mesh.{below, dimension, element_in, next_of, follow, records, chain, all_records, bad1, bad_count, bad2, mesh_length, bad3, headed, bad4}
use Rattle.mesh.specs.Mesh.{bad_item, bad_chain, bad5, leaves, unclosed, bad6, bare, bad7, mesh_tests, mesh_number, check_answer}
use Rattle.mesh.specs.Walks.{Near, incident, steps, valid_at, bad10, step_to, walked, steps_to, layer, reach, bad13, cells_at}
use Rattle.round.specs.Rounds.{bad14, scheme_of, depth_in, olds_in, new_in, round, undivided, round_number, round_answer, round_out}
use Rattle.round_rule.specs.Rules.{weight_count, too_heavy, bad11, without_gaps, weight, read_by, depth_sum, weight_sum, quotient, mean_of, least, least_of, new_depth}
use Rattle.round_update.specs.Update.{table_entries, olds_at}
use Rattle.messages.specs.Messages.{encode, bad15, reading}
use Rattle.split.specs.Lists.{bad8, bad9, bad12, split_tests, size_tests, others, list_of, list_words, list_number, list_answer, list_out, split_input}
use Rattle.split.specs.declared.Wanted.{Wanted}
use Rattle.split.specs.declared.Wanted.TheVariants.{Interior, Imports}
use Rattle.split.specs.Split.{split_of, owns, owned, reaches, holds, held, imports, exports, inside, interior, halo, locals, local_of, global_of, holds_lower}
use Rattle.split.specs.Split.{touches, another, is_copied, is_shared, is_exposed, is_private, range, points_of, cell_points, point_ends, bad29}
use Rattle.part_calls.specs.Calls.{imports_from, exports_to, message_to, write_tests_in, written_in, take_tests_in, taken_in, all_taken, all_written}
use Rattle.part_calls.specs.Calls.{advance_tests_in, new_at, advanced_in, collect_tests_in, scatter, write_number, message, write_answer, write_state}
use Rattle.part_calls.specs.Calls.{write_out, take_number, take_answer, take_state, advance_number, advance_answer, advance_state, collect_number}
use Rattle.part_calls.specs.Calls.{collect_answer, collect_out, outside, points_tests_in, point_given, points_number, points_out}
use Rattle.part_state.specs.State.{weights, local_reach, local_exports, local_around, lists_in, lists_of, rises, climbs, lists_tests, dynamic_tests, is_state, bad20}
use Rattle.part_start_plan.specs.Start.{import_ends, export_ends, reach_ends, reach_words, export_words, around_words, lists_long, lists_regions, state_size}
use Rattle.part_start_plan.specs.Start.{size_number, size_answer, inputs, scheme_in, first_state, start_number, start_answer, start_state}
use Rattle.example_inputs.specs.Inputs.{five, triangles, field, five_inputs}
use Rattle.run_theorem.specs.Run.{owner_in, Gathered, collects_of, Run, World, Collected, PointDepths, collect, points, advance, take_in, write, Call, put}
use Rattle.run_theorem.specs.Run.{more, step, run, Fair, Honest, begin, StateBound}
use Rattle.list_text.specs.Listing.{ascii, digits, decimal, spaced, line, line_unless_empty, dimension_text, part_text, split_text, mesh_piece, map_piece}
use Rattle.list_text.specs.Listing.{parts_piece, owners_piece, last_piece, stencil_piece, listing_number, list_text}

-- ---- short forms, and what the list program reads

abbrev at : ℕ → ℕ → Near
at c l = record { cell = c; layer = l }

-- "P = 2, owners 1 1 1 2 2, stencil 1 0 1": what the list program reads
unfoldable pub list_input : Bytes
list_input = five ++ (2 ∷ 1 ∷ 1 ∷ 1 ∷ 2 ∷ 2 ∷ 3 ∷ 1 ∷ 0 ∷ 1 ∷ [])

-- ---- a run of two rounds

-- "Part 2 to part 1, round 0, in hexadecimal: 00 02 00 01 00 00 00 01 00 00 01 90", and what the parts write to each other at other rounds
abbrev from_two : ℕ → ℕ → Bytes
from_two round depth = 0 ∷ 2 ∷ 0 ∷ 1 ∷ 0 ∷ round ∷ 0 ∷ 1 ∷ 0 ∷ 0 ∷ 1 ∷ depth ∷ []

abbrev from_one : ℕ → Bytes
from_one round = 0 ∷ 1 ∷ 0 ∷ 2 ∷ 0 ∷ round ∷ 0 ∷ 1 ∷ 0 ∷ 0 ∷ 1 ∷ 44 ∷ []

abbrev space : Bytes
space = replicate 12 0

abbrev empty : Bytes
empty = replicate 20 0

-- a buffer a little longer than each state
unfoldable pub buffers : ℕ → Bytes
buffers i = replicate 240 7

-- part 1 runs ahead: refused are an advance with nothing taken, a second take, part 1's message of round 1 taken at round 0, a write into too
-- short a buffer, an advance with nothing written and a collect of another round
unfoldable pub calls : List Call
calls =
    write 2 1 space
    ∷ write 1 2 space
    ∷ advance 1
    ∷ take_in 1 (from_two 0 144)
    ∷ take_in 1 (from_two 0 144)
    ∷ points 1 (replicate 24 0)
    ∷ advance 1
    ∷ write 1 2 (take 11 space)
    ∷ write 1 2 space
    ∷ take_in 2 (from_one 1)
    ∷ take_in 2 (from_one 0)
    ∷ points 2 (replicate 18 0)
    ∷ collect 1 1 empty
    ∷ advance 2
    ∷ take_in 2 (from_one 1)
    ∷ advance 2
    ∷ write 2 1 space
    ∷ advance 2
    ∷ collect 1 2 empty
    ∷ take_in 1 (from_two 1 144)
    ∷ advance 1
    ∷ collect 1 2 empty
    ∷ collect 2 2 empty
    ∷ []

-- the number that a call answers
unfoldable pub number_at : World → Call → ℕ
number_at w (write i j out) = write_number (w.states i) j out
number_at w (take_in i x) = take_number (w.states i) x
number_at w (advance i) = advance_number (w.states i)
number_at w (collect i k f) = collect_number (w.states i) k f
number_at w (points i out) = points_number (w.states i) out

unfoldable pub run_numbers : World → List Call → List ℕ
run_numbers w [] = []
run_numbers w (c ∷ cs) = number_at w c ∷ run_numbers (step w c) cs

-- ---- the table

-- the call of a list of the five cells, for P = 2
abbrev list_call : Bytes → Bytes → ℕ → Wanted → ℕ
list_call owners st i w = list_number (split_input five 2 owners st) i w (replicate 40 0)

-- the start of part 1 of the five cells from another field
abbrev start_call : List ℕ → ℕ
start_call ds = start_number (inputs five 2 five_inputs.split.owners five_inputs.split.stencil 1 five_inputs.rule.weights (field ds)) 1 (buffers 1)

-- an accepted collect of the run, into a field of zeros
abbrev collected : ℕ → ℕ → List ℕ → Collected
collected i k ds = record { part = i; round = k; made = k; before = empty; field = field ds }

-- the accepted collects of the run
abbrev all_collected : List Collected
all_collected = collected 2 2 (0 ∷ 0 ∷ 0 ∷ 391 ∷ 444 ∷ []) ∷ collected 1 2 (155 ∷ 208 ∷ 300 ∷ 0 ∷ 0 ∷ []) ∷ collected 1 1 (133 ∷ 200 ∷ 300 ∷ 0 ∷ 0 ∷ []) ∷ []

-- an accepted points call of the run, at round 0
abbrev points_at_start : ℕ → ℕ → Bytes → PointDepths
points_at_start i long out = record { part = i; round = 0; made = 0; before = replicate long 0; out = out }

-- where the message of an accepted take stands among those written
last : {x : Bytes} {xs : List Bytes} → Memᴰ x (x ∷ xs)
last = Memᴰ.head refl

last_but_one : {x y : Bytes} {xs : List Bytes} → Memᴰ x (y ∷ x ∷ xs)
last_but_one = Memᴰ.tail (Memᴰ.head refl)

-- an entry, by the definition that it is about
pub data Example : Type 0 where
  -- bytes and their length
  long : Bytes → ℕ → Example
  -- a mesh and its number
  mesh : Bytes → ℕ → Example
  -- the list program's input and what it prints
  listing : Bytes → String → Example
  -- owners, a stencil, a part, a list of it, the number of that call
  list_number_is : Bytes → Bytes → ℕ → Wanted → ℕ → Example
  -- a stencil, a part, a list of it and its words
  list_words_is : Bytes → ℕ → Wanted → List ℕ → Example
  -- a cell of the triangles and its reach under 2 1 2 0 2
  reached : ℕ → List Near → Example
  -- a number of rounds and the undivided field of the five cells
  rounds : ℕ → List ℕ → Example
  -- a sum, weights and their quotient
  divided : ℤ → ℕ → ℤ → Example
  -- a starting field and the number of start
  start_number_is : List ℕ → ℕ → Example
  -- a part, another, and the message between them at round 0
  first_message : ℕ → ℕ → Bytes → Example
  -- the numbers that the calls of the run answer
  answers : List ℕ → Example
  -- its accepted collects, the last one first
  collects : List Collected → Example
  -- a part of the run is started
  begins : ℕ → Example
  -- what its accepted takes are handed was written before
  fair : Example
  -- its accepted points calls, the last one first
  point_depths : List PointDepths → Example

-- what an entry claims
abbrev pub Holds : Example → Type 0
Holds (long b n) = length b ≡ n
Holds (mesh b n) = mesh_number b ≡ n
Holds (listing b t) = list_text b ≡ ascii t
Holds (list_number_is owners st i w n) = list_call owners st i w ≡ n
Holds (list_words_is st i w ws) = list_words (split_input five 2 five_inputs.split.owners st) i w ≡ ws
Holds (reached c r) = reach triangles (2 ∷ 1 ∷ 2 ∷ 0 ∷ 2 ∷ []) c ≡ r
Holds (rounds k ds) = undivided (scheme_in five_inputs) five_inputs.field k ≡ field ds
Holds (divided s w q) = quotient s w ≡ q
Holds (start_number_is ds n) = start_call ds ≡ n
Holds (first_message i j b) = message ((begin five_inputs buffers).states i) j ≡ b
Holds (answers ns) = run_numbers (begin five_inputs buffers) calls ≡ ns
Holds (collects gs) = (run (begin five_inputs buffers) calls).given ≡ gs
Holds (begins i) = start_number five_inputs i (buffers i) ≡ 0
Holds fair = Honest (begin five_inputs buffers) calls
Holds (point_depths gs) = (run (begin five_inputs buffers) calls).pointed ≡ gs

abbrev pub AllHold : List Example → Type 0
AllHold [] = Unit {0}
AllHold (e ∷ es) = Holds e × AllHold es

abbrev pub table : List Example
table =
    long five 74
    ∷ mesh five 0
    ∷ listing list_input "parts 2\npart 1\ninterior 7 8\nhalo 9\nimport 2 10\nexport 2 9\ndim 0 private 1 2\ndim 0 exposed 3\ndim 0 shared 4\ndim 0 copied 5\npart 2\ninterior 11\nhalo 10\nimport 1 9\nexport 1 10\ndim 0 private 6\ndim 0 exposed 5\ndim 0 shared 4\ndim 0 copied 3\n"
    -- "Mean, weights 2 1, from 100 200 300 400 500: 133 200 300 400 466, then 155 208 300 391 444."
    ∷ rounds 1 (133 ∷ 200 ∷ 300 ∷ 400 ∷ 466 ∷ [])
    ∷ rounds 2 (155 ∷ 208 ∷ 300 ∷ 391 ∷ 444 ∷ [])
    -- "Part 2 to part 1, round 0, in hexadecimal: 00 02 00 01 00 00 00 01 00 00 01 90."
    ∷ first_message 2 1 (0x00 ∷ 0x02 ∷ 0x00 ∷ 0x01 ∷ 0x00 ∷ 0x00 ∷ 0x00 ∷ 0x01 ∷ 0x00 ∷ 0x00 ∷ 0x01 ∷ 0x90 ∷ [])
    -- "Sum −7, weights 4: −1.", which document 02 changed: "sum −7 over weights 4 becomes −2" (F-4)
    ∷ divided (negsuc 6) 4 (negsuc 1)
    -- "Triangles ..: reach of 15 is all, 17 at layer 4; 17 reaches 15 and itself only; 16 reaches 17."
    ∷ mesh triangles 0
    ∷ reached 15 (at 15 0 ∷ at 16 2 ∷ at 17 4 ∷ [])
    ∷ reached 16 (at 15 2 ∷ at 16 0 ∷ at 17 4 ∷ [])
    ∷ reached 17 (at 15 4 ∷ at 17 0 ∷ [])
    -- "Stencil 1: no imports. Stencil of length 0, 2 or 11: 10."
    ∷ list_words_is (1 ∷ []) 1 (Imports 2) []
    ∷ list_words_is (1 ∷ []) 2 (Imports 1) []
    ∷ list_number_is five_inputs.split.owners (1 ∷ []) 1 (Imports 2) 0
    ∷ list_number_is five_inputs.split.owners [] 1 Interior 10
    ∷ list_number_is five_inputs.split.owners (1 ∷ 0 ∷ []) 1 Interior 10
    ∷ list_number_is five_inputs.split.owners (1 ∷ 0 ∷ 1 ∷ 0 ∷ 1 ∷ 0 ∷ 1 ∷ 0 ∷ 1 ∷ 0 ∷ 1 ∷ []) 1 Interior 10
    -- "73 bytes: 3. 11 bytes: 1." "Owners 1 1 1 1 1, P = 2: 9."
    ∷ mesh (take 73 five) 3
    ∷ mesh (take 11 five) 1
    ∷ list_number_is (1 ∷ 1 ∷ 1 ∷ 1 ∷ 1 ∷ []) (1 ∷ 0 ∷ 1 ∷ []) 1 Interior 9
    -- "Depth 1,200,000 accepted, 1,200,001: 14."
    ∷ start_number_is (100 ∷ 200 ∷ 1200000 ∷ 400 ∷ 500 ∷ []) 0
    ∷ start_number_is (100 ∷ 200 ∷ 1200001 ∷ 400 ∷ 500 ∷ []) 14
    -- "Message for round 1 at round 0: 22; after advance, taken": the tenth call, and the fifteenth
    ∷ answers (0 ∷ 0 ∷ 24 ∷ 0 ∷ 23 ∷ 0 ∷ 0 ∷ 16 ∷ 0 ∷ 22 ∷ 0 ∷ 0 ∷ 0 ∷ 0 ∷ 0 ∷ 25 ∷ 0 ∷ 0 ∷ 28 ∷ 0 ∷ 0 ∷ 0 ∷ 0 ∷ [])
    -- a run of two rounds, out of order
    ∷ begins 1
    ∷ begins 2
    ∷ fair
    ∷ collects all_collected
    -- its depths at the points of each part, in hexadecimal; both have point 4 (F-1)
    ∷ point_depths (
    points_at_start 2 18 (
    0x00 ∷ 0x04 ∷ 0x00 ∷ 0x00 ∷ 0x01 ∷ 0x5E
    ∷ 0x00 ∷ 0x05 ∷ 0x00 ∷ 0x00 ∷ 0x01 ∷ 0xC2
    ∷ 0x00 ∷ 0x06 ∷ 0x00 ∷ 0x00 ∷ 0x01 ∷ 0xF4
    ∷ []
    )
    ∷ points_at_start 1 24 (
    0x00 ∷ 0x01 ∷ 0x00 ∷ 0x00 ∷ 0x00 ∷ 0x64
    ∷ 0x00 ∷ 0x02 ∷ 0x00 ∷ 0x00 ∷ 0x00 ∷ 0x96
    ∷ 0x00 ∷ 0x03 ∷ 0x00 ∷ 0x00 ∷ 0x00 ∷ 0xFA
    ∷ 0x00 ∷ 0x04 ∷ 0x00 ∷ 0x00 ∷ 0x01 ∷ 0x5E
    ∷ []
    )
    ∷ []
    )
    ∷ []

pub worked : AllHold table
unfolding over is_in place_of joined repeats some_of every_of is_up_to picked every some listed blocks total answer four number_from signed unsigned depth_from number_bytes depth_bytes
    in_range value_from value_bytes is_depth is_valid ranged_at word word_at words word_bytes bytes_of meet stamp unlike below dimension element_in next_of follow records chain all_records
    bad1 bad_count bad2 mesh_length bad3 headed bad4 bad_item bad_chain bad5 leaves unclosed bad6 bare bad7 mesh_tests mesh_number check_answer incident steps valid_at bad10 step_to
    walked steps_to layer reach bad13 bad14 scheme_of depth_in olds_in new_in round undivided round_number round_answer round_out weight_count too_heavy bad11 filtered without_gaps weight
    read_by depth_sum weight_sum quotient mean_of least least_of new_depth table_entries olds_at encode bad15 reading bad8 bad9 bad12 split_tests size_tests others list_of list_words
    list_number list_answer list_out split_of owns owned reaches holds held imports exports inside interior halo locals local_of global_of cells_at holds_lower touches another is_copied
    is_shared is_exposed is_private range points_of cell_points point_ends bad29 imports_from exports_to message_to write_tests_in written_in take_tests_in taken_in all_taken all_written
    advance_tests_in new_at advanced_in collect_tests_in scatter outside points_tests_in point_given write_number message write_answer write_state write_out take_number take_answer take_state
    advance_number advance_answer advance_state collect_number collect_answer collect_out points_number points_out put more step run Fair Honest start_number start_state begin StateBound
    import_ends export_ends reach_ends reach_words export_words around_words lists_long lists_regions state_size size_number size_answer first_state start_answer weights local_reach
    local_exports local_around lists_in lists_of rises climbs lists_tests dynamic_tests is_state bad20 digits decimal spaced line line_unless_empty dimension_text part_text
    split_text mesh_piece map_piece parts_piece owners_piece last_piece stencil_piece listing_number list_text buffers calls field five five_inputs list_input number_at run_numbers
    triangles
worked = (refl, (refl, (refl, (refl, (refl, (refl, (refl, (refl, (refl, (refl, (refl, (refl, (refl, (refl, (refl, (refl, (refl, (refl, (refl, (refl, (refl, (refl, (refl, (refl, (refl, (honest, (refl, (refl, tt))))))))))))))))))))))))))))
  where
    honest : Honest (begin five_inputs buffers) calls
    honest = (
      tt,
      (
        tt,
        (
          tt,
          (
            λ e. last_but_one,
            (
              λ e. last_but_one,
              (
                tt,
                (
                  tt,
                  (
                    tt,
                    (
                      tt,
                      (
                        λ e. last,
                        (
                          λ e. last_but_one,
                          (
                            tt,
                            (
                              tt,
                              (tt, (λ e. last, (tt, (tt, (tt, (tt, (λ e. last, (tt, (tt, (tt, tt)))))))))),
                            ),
                          ),
                        ),
                      ),
                    ),
                  ),
                ),
              ),
            ),
          ),
        ),
      ),
    )

-- ---- the run is one of those that demand 3 is about, and it gathers a field

abbrev results : Holds (begins 1) × Holds (begins 2) × Holds fair × Holds (collects all_collected)
results = (
  worked.1.1.1.1.1.1.1.1.1.1.1.1.1.1.1.1.1.1.1.1.1.1.1.0,
  worked.1.1.1.1.1.1.1.1.1.1.1.1.1.1.1.1.1.1.1.1.1.1.1.1.0,
  worked.1.1.1.1.1.1.1.1.1.1.1.1.1.1.1.1.1.1.1.1.1.1.1.1.1.0,
  worked.1.1.1.1.1.1.1.1.1.1.1.1.1.1.1.1.1.1.1.1.1.1.1.1.1.1.0,
)

pub two_rounds : Run five_inputs
unfolding five_inputs
two_rounds = record { some_part = omega arith; buffers = buffers; started = started; calls = calls; honest = results.2 }
  where
    started : (i : ℕ) → 1 ≤ i → i ≤ 2 → start_number five_inputs i (buffers i) ≡ 0
    started zero h k = let z : ⊥ = omega arith in absurd z
    started (suc zero) h k = results.0
    started (suc (suc zero)) h k = results.1
    started (suc (suc (suc i))) h k = let z : ⊥ = omega arith in absurd z

-- all parts collected at round 2, so the run gathers the whole field after two rounds
pub after_two : Gathered five_inputs (collects_of two_rounds) 2 (field (155 ∷ 208 ∷ 300 ∷ 391 ∷ 444 ∷ []))
unfolding two_rounds five_inputs five field joined four depth_bytes number_bytes unsigned bytes_of word_at word
after_two = subst (λ gs. Gathered five_inputs gs 2 (field (155 ∷ 208 ∷ 300 ∷ 391 ∷ 444 ∷ []))) (sym results.3) (record { long = refl; collected = at_cell })
  where
    by_two : Memᴰ (collected 2 2 (0 ∷ 0 ∷ 0 ∷ 391 ∷ 444 ∷ [])) all_collected
    by_two = Memᴰ.head refl

    by_one : Memᴰ (collected 1 2 (155 ∷ 208 ∷ 300 ∷ 0 ∷ 0 ∷ [])) all_collected
    by_one = Memᴰ.tail (Memᴰ.head refl)

    at_cell : (c : ℕ) → c < 5
        → (g : Collected) × Memᴰ g all_collected × (g.part ≡ owner_in five_inputs c) × (g.round ≡ 2)
        × (four (field (155 ∷ 208 ∷ 300 ∷ 391 ∷ 444 ∷ [])) (4 * c) ≡ four g.field (4 * c))
    at_cell zero h = (collected 1 2 (155 ∷ 208 ∷ 300 ∷ 0 ∷ 0 ∷ []), by_one, refl, refl, refl)
    at_cell (suc zero) h = (collected 1 2 (155 ∷ 208 ∷ 300 ∷ 0 ∷ 0 ∷ []), by_one, refl, refl, refl)
    at_cell (suc (suc zero)) h = (collected 1 2 (155 ∷ 208 ∷ 300 ∷ 0 ∷ 0 ∷ []), by_one, refl, refl, refl)
    at_cell (suc (suc (suc zero))) h = (collected 2 2 (0 ∷ 0 ∷ 0 ∷ 391 ∷ 444 ∷ []), by_two, refl, refl, refl)
    at_cell (suc (suc (suc (suc zero)))) h = (collected 2 2 (0 ∷ 0 ∷ 0 ∷ 391 ∷ 444 ∷ []), by_two, refl, refl, refl)
    at_cell (suc (suc (suc (suc (suc c))))) h = let z : ⊥ = omega arith in absurd z
