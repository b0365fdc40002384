-- Laws of messages: one written is read back, no other bytes are read as it, and what an accepted message has. Assumes nothing.
use Rattle.std.specs.Prelude.{◌≡◌, refl, Bool, false, ◌||◌, cond, ℕ, ◌+◌, ◌*◌, ◌≤◌, ◌<◌, eqb, ltb, get_or, take}
use Rattle.std.proofs.Common.{sym, ap₂, ◌∙◌, subst, true≢false, zero-add, length-drop, take-append-drop, get_or-take, length-take-le, take_all}
use Rattle.std.proofs.Math.Path.{ap}
use Rattle.std.proofs.Math.Bool.{true, not}
use mathlib.Core.List.{List, [], ◌∷◌, ◌++◌}
use native.Mathlib.Omega.{arith}
use Rattle.std.proofs.Math.ListN.{length, length-append}
use borrow.Author.Tests.{le-ltb, ltb-false, eq-eqb, eqb-true, not-false}
use Rattle.vocabulary.specs.Bytes.{Bytes, over}
use Rattle.vocabulary.proofs.ByteLaws.{over_more}
use Rattle.vocabulary.specs.Lists.{All, joined}
use Rattle.vocabulary.specs.Intervals.{every, listed}
use Rattle.vocabulary.proofs.ListLaws.{All_get_or, All_map, All_append, All_split, joined_all, or_false}
use Rattle.vocabulary.proofs.IntervalLaws.{every_intro, listed_length, listed_back}
use Rattle.layout.specs.Words.{word_at, words, bytes_of}
use Rattle.layout.proofs.WordLaws.{word_same, word_at_first, length_bytes_of, bytes_of_bytes, bytes_of_words, words_same}
use Rattle.depths.specs.Depths.{four, value_of, is_valid, ranged_at}
use Rattle.depths.proofs.DepthLaws.{four_past, joined_at, joined_length, joined_fours, value_four}
use Rattle.messages.specs.Messages.{header_size, depth_start, message_size, depths_of, Message, encode, from_in, to_in, round_in, count_in, bad15, Reading, read, refused, reading}

-- a value that may stand in a message: four bytes, a depth in range or a gap
abbrev pub Sound : Bytes → Type 0
Sound z = (length z ≡ 4) × (is_valid (value_of z) ≡ true)

-- ---- the bytes of a message

abbrev pub words_of : Message → List ℕ
words_of x = x.from ∷ x.to ∷ x.round ∷ length x.depths ∷ []

module _ (x : Message) where
  -- its words: from, to, round and count
  pub encode_word : (k : ℕ) → k < 4 → word_at (encode x) k ≡ get_or (words_of x) k 0
  unfolding encode
  encode_word k h = word_at_first (words_of x) (joined x.depths) k h

  -- written to a buffer: its words, and the depths behind them
  pub encode_over : (out : Bytes) → header_size ≤ length out
      → over (over out 0 (bytes_of (x.from ∷ x.to ∷ x.round ∷ length x.depths ∷ []))) header_size (joined x.depths) ≡ over out 0 (encode x)
  unfolding encode bytes_of
  encode_over out h = over_more out 0 (bytes_of (words_of x)) (omega arith) (joined x.depths)

  -- they are bytes
  pub encode_bytes : x.from < 65536 → x.to < 65536 → x.round < 65536 → length x.depths < 65536 → All (All (λ y. y < 256)) x.depths
      → All (λ y. y < 256) (encode x)
  unfolding encode
  encode_bytes p q r s a =
      All_append (λ y. y < 256) (bytes_of (words_of x)) (joined x.depths) (bytes_of_bytes (words_of x) (p, (q, (r, (s, tt))))) (joined_all (λ y. y < 256) x.depths a)

  module _ (a : All (λ z. length z ≡ 4) x.depths) where
    pub encode_length : length (encode x) ≡ message_size (length x.depths)
    unfolding encode
    encode_length = omega (arith, length-append (bytes_of (words_of x)) (joined x.depths), length_bytes_of (words_of x), joined_length x.depths a)

    -- the t-th depth
    pub encode_depth : (t : ℕ) → t < length x.depths → four (encode x) (depth_start t) ≡ get_or x.depths t []
    unfolding encode
    encode_depth t h =
        ap (λ n. four (encode x) (n + 4 * t)) (sym (length_bytes_of (words_of x)))
        ∙ four_past (bytes_of (words_of x)) (joined x.depths) (4 * t)
        ∙ joined_at x.depths t a h

  -- and it is accepted, and read as the message that it is
  module _ (s : All Sound x.depths) where
    four_long : All (λ z. length z ≡ 4) x.depths
    four_long = All_map x.depths (λ z p. p.0) s

    pub encode_good : bad15 (encode x) ≡ false
    unfolding bad15 ranged_at
    encode_good =
        let long : length (encode x) ≡ message_size (length x.depths) = encode_length four_long in
        let short : header_size ≤ length (encode x) = omega arith in
        let ranged : every 0 (length x.depths) (ranged_at (encode x) header_size) ≡ true =
        every_intro 0 (ranged_at (encode x) header_size) (length x.depths)
        (λ t h.
        ap (λ z. is_valid z) (sym (value_four (encode x) (depth_start (0 + t))) ∙ ap (λ f. value_of f) (ap (λ k. four (encode x) (depth_start k)) (zero-add t) ∙ encode_depth four_long t h))
        ∙ (All_get_or Sound x.depths t [] s h).1) in
        simp (encode_word 3 (omega arith), le-ltb _ _ short, eq-eqb _ _ long, ranged)

    pub read_back : reading (encode x) ≡ read x
    unfolding reading
    read_back =
        let ds : listed 0 (length x.depths) (λ t. four (encode x) (depth_start t)) ≡ x.depths =
        listed_back 0 (λ t. four (encode x) (depth_start t)) x.depths [] (λ t h. ap (λ k. four (encode x) (depth_start k)) (zero-add t) ∙ encode_depth four_long t h) in
        simp (encode_good, encode_word 0 (omega arith), encode_word 1 (omega arith), encode_word 2 (omega arith), encode_word 3 (omega arith), ds)

-- ---- what an accepted message has

module _ (b : Bytes) (e : bad15 b ≡ false) where
  parts15 : (ltb (length b) header_size ≡ false) × (not (eqb (length b) (message_size (count_in b))) ≡ false) × (not (every 0 (count_in b) (ranged_at b header_size)) ≡ false)
  unfolding bad15
  parts15 =
      let p = or_false (ltb (length b) header_size || not (eqb (length b) (message_size (count_in b)))) (not (every 0 (count_in b) (ranged_at b header_size))) e in
      let q = or_false (ltb (length b) header_size) (not (eqb (length b) (message_size (count_in b)))) p.0 in
      (q.0, q.1, p.1)

  pub good_long : header_size ≤ length b
  good_long = ltb-false _ _ parts15.0

  pub good_length : length b ≡ message_size (count_in b)
  good_length = eqb-true _ _ (not-false _ parts15.1)

  pub good_ranged : every 0 (count_in b) (ranged_at b header_size) ≡ true
  good_ranged = not-false _ parts15.2

  -- its depths are the bytes from 8 on
  pub good_rest : take (4 * count_in b) (depths_of b) ≡ depths_of b
  good_rest = take_all (4 * count_in b) (depths_of b) (omega (arith, good_length, length-drop 8 b))

  pub good_depths : joined (listed 0 (count_in b) (λ t. four b (depth_start t))) ≡ depths_of b
  good_depths = joined_fours b header_size (count_in b) (omega (arith, good_length)) ∙ good_rest

-- the message that they are read as
abbrev pub message_in : Bytes → Message
message_in b = record {
  from = from_in b;
  to = to_in b;
  round = round_in b;
  depths = listed 0 (count_in b) (λ t. four b (depth_start t));
}

pub good_reading : (b : Bytes) → bad15 b ≡ false → reading b ≡ read (message_in b)
unfolding reading
good_reading b e = ap (λ t. cond t (refused 15) (read (message_in b))) e

pub bad_reading : (b : Bytes) → bad15 b ≡ true → reading b ≡ refused 15
unfolding reading
bad_reading b e = ap (λ t. cond t (refused 15) (read (message_in b))) e

-- ---- no other bytes are read as that message

-- the first eight bytes
front_back : (b : Bytes) → header_size ≤ length b → All (λ y. y < 256) b → bytes_of (from_in b ∷ to_in b ∷ round_in b ∷ count_in b ∷ []) ≡ take header_size b
unfolding words listed word_at
front_back b h a =
    let bytes : All (λ y. y < 256) (take header_size b) = (All_split (λ y. y < 256) (take header_size b) (depths_of b) (subst (All (λ y. y < 256)) (sym (take-append-drop header_size b)) a)).0 in
    let same : words b 0 4 ≡ words (take header_size b) 0 4 =
    words_same b (take header_size b) 0 0 4
    (λ i k. word_same b (take header_size b) (2 * (0 + i)) (2 * (0 + i)) (sym (get_or-take header_size b (2 * (0 + i)) 0 (omega arith)))
    (sym (get_or-take header_size b (2 * (0 + i) + 1) 0 (omega arith)))) in
    ap (λ ws. bytes_of ws) same ∙ bytes_of_words (take header_size b) 4 (length-take-le header_size b h) bytes

pub message_back : (b : Bytes) → bad15 b ≡ false → All (λ y. y < 256) b → encode (message_in b) ≡ b
unfolding encode
message_back b e a =
    let n : length (listed 0 (count_in b) (λ t. four b (depth_start t))) ≡ count_in b = listed_length 0 (λ t. four b (depth_start t)) (count_in b) in
    ap₂ (λ p q. p ++ q)
    (ap (λ k. bytes_of (from_in b ∷ to_in b ∷ round_in b ∷ k ∷ [])) n ∙ front_back b (good_long b e) a)
    (good_depths b e)
    ∙ take-append-drop header_size b

abbrev pub is_read : Reading → Bool
is_read (read x) = true
is_read (refused n) = false

abbrev pub held : Message → Reading → Message
held y (read x) = x
held y (refused n) = y

abbrev pub numbered : Reading → ℕ
numbered (read x) = 0
numbered (refused n) = n

pub read_once : (b : Bytes) (x : Message) → All (λ y. y < 256) b → reading b ≡ read x → b ≡ encode x
unfolding reading
read_once b x a r = go (bad15 b) refl r
  where
    go : (t : Bool) → bad15 b ≡ t → cond t (refused 15) (read (message_in b)) ≡ read x → b ≡ encode x
    go true e p = absurd (true≢false (sym (ap is_read p)))
    go false e p = sym (message_back b e a) ∙ ap (λ y. encode y) (ap (held x) p)

-- two messages with the same bytes are one
pub encode_once : (x y : Message) → All Sound x.depths → All Sound y.depths → encode x ≡ encode y → x ≡ y
encode_once x y a c e = ap (held x) (sym (read_back x a) ∙ ap (λ b. reading b) e ∙ read_back y c)
