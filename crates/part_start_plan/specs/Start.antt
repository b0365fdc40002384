-- Start and the size of a state. Assumes nothing.
--
-- "Start takes a mesh, a part map, a part's number, a stencil, a rule and a field, and makes a state at round 0."
use Rattle.std.specs.Prelude.{cond, List, [], ◌∷◌, ◌++◌, map, reverse, ℕ, ◌+◌, ◌*◌, ltb, length, replicate}
use Rattle.vocabulary.specs.Intervals.{listed, blocks, total}
use Rattle.vocabulary.specs.Lists.{joined}
use Rattle.vocabulary.specs.Tests.{Test, refuse, first_of}
use Rattle.vocabulary.specs.Bytes.{Bytes, over}
use Rattle.layout.specs.Words.{word_at, word_bytes, bytes_of}
use Rattle.layout.specs.Answers.{answer, if_accepted}
use Rattle.layout.specs.Limits.{most_parts}
use Rattle.layout.specs.Answers.{Answer}
use Rattle.mesh.specs.Mesh.{cell_count}
use Rattle.mesh.specs.Walks.{Near, steps}
use Rattle.round_rule.specs.Rules.{RuleInput, bad11}
use Rattle.round.specs.Rounds.{Scheme, scheme_of, depth_in, bad14}
use Rattle.split.specs.Split.{Split, owned, imports, exports, locals, local_of, global_of, points_of, points_in, around_of, point_ends, bad29}
use Rattle.split.specs.Lists.{SplitInput, split_input, split_in, split_tests, size_tests}
use Rattle.part_state.specs.State.{state_length, point_cells_word}

-- ---- the lists of a part as the words of its state

-- how many cells part i owns
abbrev pub owned_in : Split → ℕ → ℕ
owned_in S i = length (owned S i)

-- of part i, whose held cells in local order are `order`
module _ (S : Split) (i : ℕ) (order : List ℕ) where
  -- the reach of its local cell l
  abbrev pub reach_of : ℕ → List Near
  reach_of l = S.reach (global_of order l)

  -- how many held cells are owned or imported from the parts up to j, exports go to the parts up to j, entries the reaches up to l have
  unfoldable pub import_ends : ℕ → ℕ
  import_ends j = owned_in S i + total 1 j (λ k. length (imports S i k))

  unfoldable pub export_ends : ℕ → ℕ
  export_ends j = total 1 j (λ k. length (exports S i k))

  unfoldable pub reach_ends : ℕ → ℕ
  reach_ends l = total 1 l (λ k. length (reach_of k))

  -- the reach of a local cell in local numbers, two words an entry
  unfoldable pub reach_words : ℕ → List ℕ
  reach_words l = joined (map (λ e. local_of order e.cell ∷ e.layer ∷ []) (reach_of l))

  -- what is exported to part j, in local numbers
  unfoldable pub export_words : ℕ → List ℕ
  export_words j = map (local_of order) (exports S i j)

  -- the cells at the k-th point in local numbers, falling by global number; where 29 holds of the part, no cell is to be read (F-1)
  unfoldable pub around_words : ℕ → List ℕ
  around_words k = cond (bad29 S i) (replicate (length (around_of S i k)) 0) (map (local_of order) (reverse (around_of S i k)))

  -- the length of the lists in words
  unfoldable pub lists_long : ℕ
  lists_long =
      point_cells_word (length order) (owned_in S i) (reach_ends (owned_in S i)) (export_ends most_parts) (points_in S i) + point_ends S i (points_in S i)

  -- the words, region by region, for a stencil of n steps and a rule
  unfoldable pub lists_regions : ℕ → ℕ → Bytes → List (List ℕ)
  lists_regions n kind v =
      (lists_long ∷ i ∷ n ∷ kind ∷ [])
      ∷ listed 0 5 (word_at v)
      ∷ (S.first ∷ S.cells ∷ [])
      ∷ listed 0 (most_parts + 1) import_ends
      ∷ listed 0 (most_parts + 1) export_ends
      ∷ order
      ∷ listed 0 (owned_in S i + 1) reach_ends
      ∷ blocks 1 (owned_in S i) reach_words
      ∷ blocks 1 most_parts export_words
      ∷ (points_in S i ∷ points_of S i)
      ∷ listed 0 (points_in S i + 1) (point_ends S i)
      ∷ blocks 1 (points_in S i) around_words
      ∷ []

-- ---- the calls for part i

module _ (D : SplitInput) (i : ℕ) where
  abbrev pub order_of : List ℕ
  order_of = locals (split_in D) i

  -- the bytes that start needs
  unfoldable pub state_size : ℕ
  state_size = state_length (2 * lists_long (split_in D) i order_of) (length order_of)

  unfoldable pub size_number : ℕ
  size_number = first_of (split_tests D (i ∷ []) ++ size_tests D)

  unfoldable pub size_answer : Answer
  size_answer = answer size_number state_size

-- what every part of a run is started from, but for its number
pub record Inputs : Type 0 where
  pub split : SplitInput
  pub rule : RuleInput
  pub field : Bytes

-- from the arguments of a call
abbrev pub inputs : Bytes → ℕ → Bytes → Bytes → ℕ → Bytes → Bytes → Inputs
inputs m parts owners stencil kind v f = record { split = split_input m parts owners stencil; rule = record { kind = kind; weights = v }; field = f }

-- what their mesh, stencil and rule come to, for the undivided round
abbrev pub scheme_in : Inputs → Scheme
scheme_in I = scheme_of I.split.mesh I.split.stencil I.rule.kind I.rule.weights

module _ (I : Inputs) (i : ℕ) where
  -- the state of the part at round 0: "nothing is taken and nothing written". Standard term: setup of the communication plan.
  unfoldable pub first_state : Bytes
  first_state =
      let order : List ℕ = order_of I.split i in
      let lists : List ℕ = joined (lists_regions (split_in I.split) i order (steps I.split.stencil) I.rule.kind I.rule.weights) in
      let round : Bytes = word_bytes 0 in
      let taken : Bytes = replicate most_parts 0 in
      let written : Bytes = replicate most_parts 0 in
      let depths : Bytes = blocks 1 (length order) (λ l. depth_in (scheme_in I) I.field (global_of order l)) in
      bytes_of lists ++ (round ++ (taken ++ (written ++ depths)))

  -- what start tries after 13
  abbrev pub last_tests : Bytes → List Test
  last_tests state = refuse 14 (bad14 (cell_count I.split.mesh) I.field) ∷ refuse 16 (ltb (length state) (state_size I.split i)) ∷ []

  unfoldable pub start_number : Bytes → ℕ
  start_number state =
      let eleven : Test = refuse 11 (bad11 I.rule.kind (steps I.split.stencil) I.rule.weights) in
      first_of (split_tests I.split (i ∷ []) ++ (eleven ∷ size_tests I.split ++ last_tests state))

  -- it gives the length of the state
  unfoldable pub start_answer : Bytes → Answer
  start_answer state = answer (start_number state) (state_size I.split i)

  unfoldable pub start_state : Bytes → Bytes
  start_state state = if_accepted (start_number state) (over state 0 first_state) state
