-- Runs: lists of calls on the states of all parts, what they gather, and the statement of demand 3, with the depths at the points (F-1) and with gaps (F-2). Assumes nothing.
use Rattle.std.specs.Prelude.{◌≡◌, ◌↔◌, true, false, not, cond, ℕ, suc, ◌+◌, ◌-◌, ◌*◌, ◌/◌, ◌<◌, ◌≤◌, eqb, ltb, ℤ, length, get_or, take}
use mathlib.Core.List.{List, [], ◌∷◌, ◌++◌, map, Memᴰ}
use Rattle.vocabulary.specs.Intervals.{is_up_to, total}
use Rattle.vocabulary.specs.Lists.{All, joined}
use Rattle.vocabulary.specs.Tests.{refuse, first_of}
use Rattle.vocabulary.specs.Bytes.{Bytes, byte_at, over}
use Rattle.layout.specs.Words.{word, word_bytes}
use Rattle.depths.specs.Depths.{four, gap_bytes, value_from, value_of}
use Rattle.depths.specs.declared.Value.TheVariants.{Depth, Gap}
use Rattle.mesh.specs.Mesh.{cell_count}
use Rattle.round.specs.Rounds.{bad14, undivided, point_in}
use Rattle.messages.specs.Messages.{read, reading}
use Rattle.split.specs.Split.{Split, owner_at, owned, held, exports, locals, global_of, points_of, points_in, bad29}
use Rattle.part_state.specs.State.{is_state, lists_of, dynamic, round_at}
use Rattle.part_calls.specs.Calls.{write_number, sent_message, message, write_state, write_out, take_number, take_state, advance_number, advance_state}
use Rattle.part_calls.specs.Calls.{collect_number, collect_out, all_taken, points_number, points_out}
use Rattle.split.specs.Lists.{map_in, SplitInput, split_in}
use Rattle.part_start_plan.specs.Start.{Inputs, scheme_in, start_number, start_state, size_number, state_size}

-- "Each call is on one part, and gets that part's state". The first number is the part; a write is lent an output, a take is handed any bytes,
-- a collect names a round and is lent a field, and a points call is lent an output.
pub data Call : Type 0 where
  write : ℕ → ℕ → Bytes → Call
  take_in : ℕ → Bytes → Call
  advance : ℕ → Call
  collect : ℕ → ℕ → Bytes → Call
  points : ℕ → Bytes → Call

-- an accepted collect: its part and round, how many advances of the part were accepted before it, and the field before and after
pub record Collected : Type 0 where
  pub part : ℕ
  pub round : ℕ
  pub made : ℕ
  pub before : Bytes
  pub field : Bytes

-- an accepted points call (F-1): its part, the round of its part's state, how many advances of the part were accepted before it, and the output before and after
pub record PointDepths : Type 0 where
  pub part : ℕ
  pub round : ℕ
  pub made : ℕ
  pub before : Bytes
  pub out : Bytes

pub record World : Type 0 where
  pub states : ℕ → Bytes
  -- how many advances of each part were accepted
  pub made : ℕ → ℕ
  -- the whole messages that accepted writes gave, the last one first
  pub sent : List Bytes
  -- the accepted collects, the last one first
  pub given : List Collected
  -- the accepted points calls, the last one first
  pub pointed : List PointDepths

-- w with s at i
unfoldable pub put : {A : Type 0} → (ℕ → A) → ℕ → A → ℕ → A
put w i s j = cond (eqb i j) s (w j)

-- one more where the number n says that the call was accepted
unfoldable pub more : {A : Type 0} → ℕ → A → List A → List A
more n x xs = cond (eqb n 0) (x ∷ xs) xs

-- one call. "A refused call leaves the state as it was."
unfoldable pub step : World → Call → World
step w (write i j out) =
    let b : Bytes = w.states i in
    let sent : List Bytes = more (write_number b j out) (take (length (message b j)) (write_out b j out)) w.sent in
    record { states = put w.states i (write_state b j out); made = w.made; sent = sent; given = w.given; pointed = w.pointed }
step w (take_in i x) = record { states = put w.states i (take_state (w.states i) x); made = w.made; sent = w.sent; given = w.given; pointed = w.pointed }
step w (advance i) =
    let b : Bytes = w.states i in
    let made : ℕ = cond (eqb (advance_number b) 0) (suc (w.made i)) (w.made i) in
    record { states = put w.states i (advance_state b); made = put w.made i made; sent = w.sent; given = w.given; pointed = w.pointed }
step w (collect i k f) =
    let b : Bytes = w.states i in
    let g : Collected = record { part = i; round = k; made = w.made i; before = f; field = collect_out b k f } in
    record { states = w.states; made = w.made; sent = w.sent; given = more (collect_number b k f) g w.given; pointed = w.pointed }
step w (points i out) =
    let b : Bytes = w.states i in
    let g : PointDepths = record { part = i; round = round_at b (dynamic b); made = w.made i; before = out; out = points_out b out } in
    record { states = w.states; made = w.made; sent = w.sent; given = w.given; pointed = more (points_number b out) g w.pointed }

-- a list of calls, the first one first
unfoldable pub run : World → List Call → World
run w [] = w
run w (c ∷ cs) = run (step w c) cs

-- "A take may be handed any bytes; the claim is about the lists in which those of every accepted take equal a whole message given by an
-- accepted write earlier in that list."
unfoldable pub Fair : World → Call → Type 0
Fair w (write i j out) = Unit {0}
Fair w (take_in i x) = take_number (w.states i) x ≡ 0 → Memᴰ x w.sent
Fair w (advance i) = Unit {0}
Fair w (collect i k f) = Unit {0}
Fair w (points i out) = Unit {0}

-- each call of the list is fair in its turn. Standard term: links without forged messages (no creation).
unfoldable pub Honest : World → List Call → Type 0
Honest w [] = Unit {0}
Honest w (c ∷ cs) = Fair w c × Honest (step w c) cs

-- the owner of the cell of index k, from 0
abbrev pub owner_in : Inputs → ℕ → ℕ
owner_in I k = owner_at (map_in I.split) k

-- "Each state is at first as its part's one accepted start left it" in the buffer it was lent. A start reads no other part's state, so all of them
-- may come first as well as "just before that part's first call". A number that is no part has no state.
unfoldable pub begin : Inputs → (ℕ → Bytes) → World
begin I buffers = record { states = λ i. cond (is_up_to I.split.parts i) (start_state I i (buffers i)) []; made = λ i. 0; sent = []; given = []; pointed = [] }

-- a run: all parts started, of which there is one at least, and an honest list of calls. Standard term: execution trace.
pub record Run (I : Inputs) : Type 0 where
  pub some_part : 1 ≤ I.split.parts
  pub buffers : ℕ → Bytes
  pub started : (i : ℕ) → 1 ≤ i → i ≤ I.split.parts → start_number I i (buffers i) ≡ 0
  pub calls : List Call
  pub honest : Honest (begin I buffers) calls

-- what its calls come to
abbrev pub end_of : {I : Inputs} → Run I → World
end_of {I} r = run (begin I r.buffers) r.calls

abbrev pub collects_of : {I : Inputs} → Run I → List Collected
collects_of r = (end_of r).given

-- its points calls (F-1)
abbrev pub points_given_by : {I : Inputs} → Run I → List PointDepths
points_given_by r = (end_of r).pointed

-- ---- demand 3

-- what an accepted collect at round k gave: in its part's cells the undivided field after k rounds, k being the rounds that its part had made;
-- every other byte as it was. Cells are counted from 0 here, as in a field.
pub record Right (I : Inputs) (g : Collected) : Type 0 where
  pub rounds : g.round ≡ g.made
  pub long : length g.field ≡ length g.before
  pub owned : (c : ℕ) → c < cell_count I.split.mesh → owner_in I c ≡ g.part
      → four g.field (4 * c) ≡ four (undivided (scheme_in I) I.field g.round) (4 * c)
  pub others : (x : ℕ) → (x / 4 < cell_count I.split.mesh → owner_in I (x / 4) ≡ g.part → ⊥) → byte_at g.field x ≡ byte_at g.before x

-- "Its gathered field after k rounds is what all parts collect at round k: at each cell, what an accepted collect of its owner gave, whichever
-- one if it was repeated." Standard term: gathered (assembled) field.
pub record Gathered (I : Inputs) (gs : List Collected) (k : ℕ) (G : Bytes) : Type 0 where
  pub long : length G ≡ 4 * cell_count I.split.mesh
  pub collected : (c : ℕ) → c < cell_count I.split.mesh
      → (g : Collected) × Memᴰ g gs × (g.part ≡ owner_in I c) × (g.round ≡ k) × (four G (4 * c) ≡ four g.field (4 * c))

-- what an accepted points call gave: each point that touches its part's owned cells, in rising number, with the value that the undivided field has there after
-- as many rounds; the bytes behind stay (F-1)
pub record RightPoints (I : Inputs) (g : PointDepths) : Type 0 where
  pub rounds : g.round ≡ g.made
  pub long : length g.out ≡ length g.before
  pub given : g.out ≡ over g.before 0
      (joined (map (λ p. word_bytes p ++ point_in (scheme_in I) (undivided (scheme_in I) I.field g.round) p) (points_of (split_in I.split) g.part)))

-- "The equality of gathered fields counts a gap as equal to a gap alone" (F-2): two fields of n cells are equal where they have the same depth at each cell, or both
-- a gap there
unfoldable pub SameField : ℕ → Bytes → Bytes → Type 0
SameField n f g = (c : ℕ) → c < n → value_from f (4 * c) ≡ value_from g (4 * c)

-- any order of calls on the boards gives the field that one undivided computation gives: each accepted collect is right; a gathered field is
-- the whole undivided field; and two runs on the same mesh, stencil and rule, under any two part maps, gather equal fields after k rounds
-- exactly where the undivided rule takes their starting fields to equal fields in k rounds, equal depth for depth and a gap for a gap alone. Each accepted points
-- call is right, and "two parts sharing a point must give the same depth there at the same round": the t-th point of one is the u-th of the other, both counted from 0
pub record RunTheorem : Type 0 where
  pub each_collect : (I : Inputs) (r : Run I) → All (Right I) (collects_of r)
  pub whole_field : (I : Inputs) (r : Run I) (k : ℕ) (G : Bytes) → Gathered I (collects_of r) k G → G ≡ undivided (scheme_in I) I.field k
  pub two_runs : (I J : Inputs) → I.split.mesh ≡ J.split.mesh → I.split.stencil ≡ J.split.stencil → I.rule ≡ J.rule
      → (r : Run I) (s : Run J) (k : ℕ) (G H : Bytes) → Gathered I (collects_of r) k G → Gathered J (collects_of s) k H
      → let n : ℕ = cell_count I.split.mesh in SameField n G H ↔ SameField n (undivided (scheme_in I) I.field k) (undivided (scheme_in J) J.field k)
  -- points (F-1)
  pub each_points : (I : Inputs) (r : Run I) → All (RightPoints I) (points_given_by r)
  pub shared_point : (I : Inputs) (r : Run I) (g h : PointDepths) → Memᴰ g (points_given_by r) → Memᴰ h (points_given_by r) → g.round ≡ h.round
      → (t u : ℕ) → t < points_in (split_in I.split) g.part → u < points_in (split_in I.split) h.part
      → word g.out (6 * t) ≡ word h.out (6 * u) → four g.out (6 * t + 2) ≡ four h.out (6 * u + 2)

-- of accepted fields, and a gathered one is accepted, this equality is that of their bytes (numbers below 256, as every lent byte is); of four bytes 80 00 00 00 alone
-- are a gap; and a gap is no depth (F-2)
pub record FieldEquality : Type 0 where
  pub gathered_accepted : (I : Inputs) (r : Run I) (k : ℕ) (G : Bytes) → Gathered I (collects_of r) k G → bad14 (cell_count I.split.mesh) G ≡ false
  pub same_bytes : (n : ℕ) (f g : Bytes) → bad14 n f ≡ false → bad14 n g ≡ false → All (λ x. x < 256) f → All (λ x. x < 256) g → SameField n f g ↔ (f ≡ g)
  pub gap_bytes_is : (x : Bytes) → length x ≡ 4 → All (λ y. y < 256) x → (value_of x ≡ Gap) ↔ (x ≡ gap_bytes)
  pub gap_alone : (z : ℤ) → Gap ≡ Depth z → ⊥

-- ---- the number of a points call in a run (F-1): by the mesh, the map and the stencil, whatever calls came before. 24 where an import is not taken; else 29 where
-- a cell incident to a point of an owned cell is outside that cell's reach; else 16 where the output has less than six bytes for each point that touches an
-- owned cell; else it is accepted

pub record PointNumbers : Type 0 where
  pub numbers : (I : Inputs) (r : Run I) (i : ℕ) → 1 ≤ i → i ≤ I.split.parts → (out : Bytes) →
      let b : Bytes = (end_of r).states i in
      let S : Split = split_in I.split in
      points_number b out
      ≡ first_of (refuse 24 (not (all_taken (lists_of b) (dynamic b) b)) ∷ refuse 29 (bad29 S i) ∷ refuse 16 (ltb (length out) (6 * points_in S i)) ∷ [])

-- ---- 20: "Start and accepted calls always leave one." A refused call leaves the state as it was.

pub record StatesKept : Type 0 where
  pub started : (I : Inputs) (i : ℕ) (buffer : Bytes) → start_number I i buffer ≡ 0 → is_state (start_state I i buffer) ≡ true
  pub written : (b out : Bytes) (j : ℕ) → is_state b ≡ true → is_state (write_state b j out) ≡ true
  pub taken : (b x : Bytes) → is_state b ≡ true → is_state (take_state b x) ≡ true
  pub advanced : (b : Bytes) → is_state b ≡ true → is_state (advance_state b) ≡ true

-- "A state needs at most 200 + 40 × (held cells + reach sizes of owned cells + export entries) bytes"; F-1: "The bound on a state's bytes gains 40 for each
-- point of an owned cell and each cell at it"
unfoldable pub StateBound : Type 0
StateBound =
    (D : SplitInput) (i : ℕ) → size_number D i ≡ 0 → let S : Split = split_in D in
    state_size D i ≤ 200 + 40 * (length (held S i) + total 1 (length (owned S i)) (λ l. length (S.reach (global_of (locals S i) l)))
    + total 1 D.parts (λ j. length (exports S i j)) + length (points_of S i) + total 1 (length (points_of S i)) (λ k. length (S.around (get_or (points_of S i) (k - 1) 0))))

-- ---- demand 2: "A message written is read back as the same depths, and no other bytes are read as that message."

-- an accepted write on a state b to part j leaves the message in the first bytes of the output
pub record MessageTheorem : Type 0 where
  pub read_back : (b out : Bytes) (j : ℕ) → write_number b j out ≡ 0 → reading (take (length (message b j)) (write_out b j out)) ≡ read (sent_message b j)
  pub read_once : (b out : Bytes) (j : ℕ) → write_number b j out ≡ 0 → (x : Bytes) → All (λ y. y < 256) x → reading x ≡ read (sent_message b j)
      → x ≡ take (length (message b j)) (write_out b j out)
