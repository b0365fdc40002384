-- What each call on a state leaves: the bytes, flags and depths after a take, a write's message, an advance and a collect, how many bytes are given of points,
-- and that a refused one leaves all as it was. Assumes nothing.
use Rattle.std.proofs.Math.Path.{◌≡◌, refl, sym, ap}
use Rattle.std.proofs.Common.{ap₂, ◌∙◌, subst, inl, add-zero, zero-add, mul-le-mul_left, mul-suc, length-append, length-drop, length-set, eqb-true, ne_eqb, lt-ltb}
use Rattle.std.specs.Prelude.{◌⊎◌, ◌≢◌, Bool, true, not, ◌&&◌, ◌||◌, List, [], ◌∷◌, ◌++◌, map, eqb, ltb, length, get_or, set, replicate}
use Rattle.std.proofs.Math.Logic.{⊎_elim}
use Prim.Native.Nat.{ℕ, zero, suc, ◌+◌, ◌-◌, ◌*◌, ◌<◌, ◌≤◌}
use native.Mathlib.Omega.{arith}
use Rattle.std.proofs.Math.ListN.{length-replicate, get_or-replicate, get_or-append}
use Rattle.std.proofs.lemmas.List.{length-map}
use Rattle.std.proofs.Math.Seq.{get_or-set_other, get_or-append-add}
use Rattle.std.proofs.lemmas.Bool.{not-false}
use Rattle.vocabulary.specs.Bytes.{Bytes, byte_at}
use Rattle.vocabulary.proofs.ByteLaws.{Place, below, inside, above, place as place_at, over_length, over_in, over_before, over_after}
use Rattle.vocabulary.specs.Lists.{joined}
use Rattle.vocabulary.proofs.ListLaws.{and_intro, get_or_map_any}
use Rattle.vocabulary.specs.Intervals.{is_up_to}
use Rattle.vocabulary.proofs.IntervalLaws.{every_in, up_to_intro, rows_length}
use Rattle.vocabulary.specs.Tests.{first_of}
use Rattle.vocabulary.proofs.TestLaws.{passed_by}
use Rattle.layout.specs.Words.{word, word_bytes, bytes_of}
use Rattle.layout.proofs.WordLaws.{word_same, word_in, word_left, word_back, length_word_bytes, length_bytes_of, word_at_first}
use Rattle.depths.specs.Depths.{four}
use Rattle.depths.proofs.DepthLaws.{length_value_bytes, length_four, four_same, four_whole, four_set, four_in, four_before, four_after, four_past, four_drop, fours_length, fours_at, joined_at}
use Rattle.round_rule.specs.Rules.{plain_mean}
use Rattle.messages.specs.Messages.{depth_start, message_size, depths_of, encode, from_in, to_in, round_in, count_in, header_size}
use Rattle.messages.proofs.MessageLaws.{encode_length}
use Rattle.part_state.specs.State.{Lists, round_at, taken_place, depth_place, depths_place}
use Rattle.part_state.proofs.StateLaws.{Frame}
use Rattle.part_calls.specs.Calls.{imports_from, depth_at, scatter, sent_message_in, message_to, taken_in, all_taken, advance_tests_in, new_at, new_depths}
use Rattle.part_calls.specs.Calls.{advanced_in, collected_in, write_number, write_state, write_out, take_number, take_state, advance_number, advance_state}
use Rattle.part_calls.specs.Calls.{collect_number, collect_out, point_given, points_given, points_number, points_out}
use Rattle.part_calls.proofs.CallLaws.{Room, Taken, fours_long}
use Rattle.layout.specs.Limits.{most_parts}

-- ---- take

-- where an accepted message's depths go
module _ (L : Lists) (changes : ℕ) (b x : Bytes) (w : Room L changes b) (v : Taken L changes b x) where
  abbrev flagged : Bytes
  flagged = set b (taken_place changes (from_in x)) 1

  abbrev at : ℕ
  at = depth_place changes (L.before (from_in x) + 1)

  pub load : length (depths_of x) ≡ 4 * L.imported (from_in x)
  load = omega (arith, length-drop header_size x, v.size, v.count_is)

  flagged_length : length flagged ≡ length b
  flagged_length = length-set b (taken_place changes (from_in x)) 1

  pub take_room : at + length (depths_of x) ≤ length flagged
  take_room = omega (arith, flagged_length, load, w.long, w.fits (from_in x) v.from_least v.from_most)

  -- below the depths only one flag changes
  pub take_flag : (i : ℕ) → i < depths_place changes → i ≢ taken_place changes (from_in x) → byte_at (taken_in L changes b x) i ≡ byte_at b i
  unfolding taken_in
  take_flag i h n = over_before flagged at (depths_of x) take_room i (omega arith) ∙ get_or-set_other b (taken_place changes (from_in x)) i 1 0 n

  pub take_frame : Frame changes b (taken_in L changes b x)
  unfolding taken_in
  take_frame = record {
    same_length = over_length flagged at (depths_of x) take_room ∙ flagged_length;
    same = λ i h. take_flag i (omega arith) (omega arith);
  }

  pub take_word : word (taken_in L changes b x) changes ≡ word b changes
  take_word =
      word_same (taken_in L changes b x) b changes changes (take_flag changes (omega arith) (omega (arith, v.from_least))) (take_flag (changes + 1) (omega arith) (omega (arith, v.from_least)))

  -- the t-th depth, and any other depth
  pub take_in : (t : ℕ) → t < L.imported (from_in x) → four (taken_in L changes b x) (depth_place changes (L.before (from_in x) + 1 + t)) ≡ four x (depth_start t)
  unfolding taken_in
  take_in t h =
      let p : depth_place changes (L.before (from_in x) + 1 + t) ≡ at + 4 * t = omega arith in
      ap (λ o. four (taken_in L changes b x) o) p
      ∙ four_in flagged at (depths_of x) take_room (4 * t) (omega (arith, load))
      ∙ four_drop header_size x (4 * t)

  flagged_four : (l : ℕ) → 1 ≤ l → four flagged (depth_place changes l) ≡ four b (depth_place changes l)
  flagged_four l h = four_set b (taken_place changes (from_in x)) 1 (depth_place changes l) (inl (omega (arith, v.from_most)))

  pub take_below : (l : ℕ) → 1 ≤ l → l < L.before (from_in x) + 1 → four (taken_in L changes b x) (depth_place changes l) ≡ four b (depth_place changes l)
  unfolding taken_in
  take_below l h k = four_before flagged at (depths_of x) take_room (depth_place changes l) (omega arith) ∙ flagged_four l h

  pub take_above : (l : ℕ) → 1 ≤ l → L.before (from_in x) + 1 + L.imported (from_in x) ≤ l → four (taken_in L changes b x) (depth_place changes l) ≡ four b (depth_place changes l)
  unfolding taken_in
  take_above l h k = four_after flagged at (depths_of x) take_room (depth_place changes l) (omega (arith, load)) ∙ flagged_four l h

-- ---- the message that a write gives

-- the words of a message's header
pub message_words : (L : Lists) (changes : ℕ) (b : Bytes) (j : ℕ)
    → (from_in (message_to L changes b j) ≡ L.part) × (to_in (message_to L changes b j) ≡ j) × (round_in (message_to L changes b j) ≡ round_at b changes) ×
    (count_in (message_to L changes b j) ≡ length (L.exports j))
unfolding message_to encode
message_words L changes b j =
    let ds : List Bytes = map (depth_at changes b) (L.exports j) in
    let ws : List ℕ = L.part ∷ j ∷ round_at b changes ∷ length ds ∷ [] in (
      word_at_first ws (joined ds) 0 (omega arith),
      word_at_first ws (joined ds) 1 (omega arith),
      word_at_first ws (joined ds) 2 (omega arith),
      word_at_first ws (joined ds) 3 (omega arith) ∙ length-map (L.exports j) (depth_at changes b),
    )

pub message_length : (L : Lists) (changes : ℕ) (b : Bytes) (j : ℕ) → length (message_to L changes b j) ≡ message_size (length (L.exports j))
unfolding message_to
message_length L changes b j =
    encode_length (sent_message_in L changes b j) (fours_long changes b (L.exports j)) ∙ ap (λ n. message_size n) (length-map (L.exports j) (depth_at changes b))

pub message_depth : (L : Lists) (changes : ℕ) (b : Bytes) (j t : ℕ) → t < length (L.exports j) → four (message_to L changes b j) (depth_start t) ≡ depth_at changes b (get_or (L.exports j) t 0)
unfolding message_to encode
message_depth L changes b j t h =
    let ds : List Bytes = map (depth_at changes b) (L.exports j) in
    let hd : Bytes = bytes_of (L.part ∷ j ∷ round_at b changes ∷ length ds ∷ []) in
    let ld : length (map (depth_at changes b) (L.exports j)) ≡ length (L.exports j) = length-map (L.exports j) (depth_at changes b) in
    let e : header_size ≡ length hd = sym (length_bytes_of (L.part ∷ j ∷ round_at b changes ∷ length ds ∷ [])) in
    ap (λ n. four (hd ++ joined ds) (n + 4 * t)) e
    ∙ four_past hd (joined ds) (4 * t)
    ∙ joined_at ds t (fours_long changes b (L.exports j)) (omega arith)
    ∙ get_or_map_any (depth_at changes b) (L.exports j) t 0 [] h

-- ---- advance

-- what an advance leaves, where every new depth is four bytes
module _ (L : Lists) (changes : ℕ) (b : Bytes) (w : Room L changes b) (new4 : (l : ℕ) → length (new_at L changes b l) ≡ 4) where
  -- the new depth of local cell l among all of them
  new_depth : (l : ℕ) → 1 ≤ l → l ≤ L.owned → four (new_depths L changes b) (4 * (l - 1)) ≡ new_at L changes b l
  new_depth l h k =
      let p : 1 + (l - 1) ≡ l = omega arith in
      fours_at 1 L.owned (new_at L changes b) (λ j h. new4 (1 + j)) (l - 1) (omega arith)
      ∙ ap (λ n. new_at L changes b n) p

  news_length : length (new_depths L changes b) ≡ 4 * L.owned
  news_length = fours_length 1 L.owned (new_at L changes b) (λ j h. new4 (1 + j))

  abbrev fresh : Bytes
  fresh = word_bytes (round_at b changes + 1) ++ (replicate (2 * most_parts) 0 ++ new_depths L changes b)

  pub fresh_length : length fresh ≡ depths_place 0 + 4 * L.owned
  fresh_length =
      omega (
        arith,
        length-append (word_bytes (round_at b changes + 1)) (replicate (2 * most_parts) 0 ++ new_depths L changes b),
        length-append (replicate (2 * most_parts) 0) (new_depths L changes b),
        length-replicate {A = ℕ} (2 * most_parts) 0,
        length_word_bytes (round_at b changes + 1),
        news_length,
      )

  advance_room : changes + length fresh ≤ length b
  advance_room = omega (arith, fresh_length, w.long, w.own_le)

  pub advance_frame : Frame changes b (advanced_in L changes b)
  unfolding advanced_in
  advance_frame = record { same_length = over_length b changes fresh advance_room; same = λ i h. over_before b changes fresh advance_room i h }

  pub advance_word : word (advanced_in L changes b) changes ≡ round_at b changes + 1
  unfolding advanced_in
  advance_word =
      ap (λ o. word (advanced_in L changes b) o) (sym (add-zero changes))
      ∙ word_in b changes fresh advance_room 0 (omega (arith, fresh_length))
      ∙ word_left (word_bytes (round_at b changes + 1)) (replicate (2 * most_parts) 0 ++ new_depths L changes b) 0 (omega (arith, length_word_bytes (round_at b changes + 1)))
      ∙ word_back (round_at b changes + 1)

  -- no flag is set
  pub advance_flag : (k : ℕ) → k < 32 → byte_at (advanced_in L changes b) (changes + 2 + k) ≡ 0
  unfolding advanced_in word_bytes
  advance_flag k h =
      let q : changes + 2 + k ≡ changes + (2 + k) = omega arith in
      ap (λ n. byte_at (advanced_in L changes b) n) q
      ∙ over_in b changes fresh advance_room (2 + k) (omega (arith, fresh_length))
      ∙ get_or-append-add (word_bytes (round_at b changes + 1)) (replicate (2 * most_parts) 0 ++ new_depths L changes b) k 0
      ∙ get_or-append (replicate (2 * most_parts) 0) (new_depths L changes b) 0 k (omega (arith, length-replicate {A = ℕ} (2 * most_parts) 0))
      ∙ get_or-replicate 32 k 0 0 h

  -- the new depths of the owned cells; the others keep theirs
  pub advance_owned : (l : ℕ) → 1 ≤ l → l ≤ L.owned → depth_at changes (advanced_in L changes b) l ≡ new_at L changes b l
  unfolding advanced_in word_bytes
  advance_owned l h k =
      let q : depth_place changes l ≡ changes + (2 + (32 + 4 * (l - 1))) = omega arith in
      let z : ◌≡◌ {A = ℕ} 32 (length (replicate {A = ℕ} (2 * most_parts) 0)) = sym (length-replicate {A = ℕ} (2 * most_parts) 0) in
      ap (λ n. four (advanced_in L changes b) n) q
      ∙ four_in b changes fresh advance_room (2 + (32 + 4 * (l - 1))) (omega (arith, fresh_length))
      ∙ four_past (word_bytes (round_at b changes + 1)) (replicate (2 * most_parts) 0 ++ new_depths L changes b) (32 + 4 * (l - 1))
      ∙ ap (λ n. four (replicate (2 * most_parts) 0 ++ new_depths L changes b) (n + 4 * (l - 1))) z
      ∙ four_past (replicate (2 * most_parts) 0) (new_depths L changes b) (4 * (l - 1))
      ∙ new_depth l h k

  pub advance_others : (l : ℕ) → L.owned < l → depth_at changes (advanced_in L changes b) l ≡ depth_at changes b l
  unfolding advanced_in
  advance_others l h = four_after b changes fresh advance_room (depth_place changes l) (omega (arith, fresh_length))

-- where all imports are taken, the flag of each is set
pub all_taken_lem : (L : Lists) (changes : ℕ) (b : Bytes) → all_taken L changes b ≡ true → (j : ℕ) → 1 ≤ j → j ≤ most_parts → 0 < L.imported j → byte_at b (taken_place changes j) ≡ 1
unfolding all_taken imports_from
all_taken_lem L changes b e j h k l =
    let p : ℕ → Bool = λ j. not (is_up_to most_parts j && ltb 0 (L.imported j)) || eqb (byte_at b (taken_place changes j)) 1 in
    let t : not (is_up_to most_parts j && ltb 0 (L.imported j)) || eqb (byte_at b (taken_place changes j)) 1 ≡ true = every_in 1 p most_parts j e h (omega arith) in
    let on : is_up_to most_parts j && ltb 0 (L.imported j) ≡ true = and_intro (is_up_to most_parts j) (ltb 0 (L.imported j)) (up_to_intro most_parts j h k) (lt-ltb _ _ l) in
    eqb-true _ _ (rw on at t)

-- so before an accepted advance
pub advance_taken : (L : Lists) (changes : ℕ) (b : Bytes) → first_of (advance_tests_in L changes b) ≡ 0 → (j : ℕ) → 1 ≤ j → j ≤ most_parts → 0 < L.imported j → byte_at b (taken_place changes j) ≡ 1
unfolding advance_tests_in
advance_taken L changes b e = all_taken_lem L changes b (not-false _ (passed_by 24 (advance_tests_in L changes b) tt e))

-- ---- pieces put at places

place_next : (w a c : ℕ) → a < c → w * a + w ≤ w * c
place_next w a c h = let p : w * suc a ≤ w * c = mul-le-mul_left w h in omega (arith, mul-suc w a)

module _ (w : ℕ) (place : ℕ → ℕ) (piece : ℕ → Bytes) (size : (l : ℕ) → length (piece l) ≡ w) (out : Bytes) where
  abbrev filled : ℕ → Bytes
  filled n = scatter w place piece n out

  -- the first n pieces have room
  abbrev Fits : ℕ → Type 0
  Fits n = (l : ℕ) → 1 ≤ l → l ≤ n → w * place l + w ≤ length out

  -- the piece that is put last stands at its place
  scatter_put : (n k : ℕ) → w * place (suc n) + length (piece (suc n)) ≤ length (filled n) → k < w
      → byte_at (filled (suc n)) (w * place (suc n) + k) ≡ byte_at (piece (suc n)) k
  unfolding scatter
  scatter_put n k r h = over_in (filled n) (w * place (suc n)) (piece (suc n)) r k (omega (arith, size (suc n)))

  pub scatter_length : (n : ℕ) → Fits n → length (filled n) ≡ length out
  unfolding scatter
  scatter_length zero r = refl
  scatter_length (suc n) r =
      let ih = scatter_length n (λ l h k. r l h (omega arith)) in
      over_length (filled n) (w * place (suc n)) (piece (suc n)) (omega (arith, ih, r (suc n) (omega arith) (omega arith), size (suc n))) ∙ ih

  room : (n : ℕ) → Fits (suc n) → w * place (suc n) + length (piece (suc n)) ≤ length (filled n)
  room n r = omega (arith, scatter_length n (λ l h k. r l h (omega arith)), r (suc n) (omega arith) (omega arith), size (suc n))

  pub scatter_others : (n : ℕ) → Fits n → (x : ℕ) → ((l : ℕ) → 1 ≤ l → l ≤ n → (x < w * place l) ⊎ (w * place l + w ≤ x)) → byte_at (filled n) x ≡ byte_at out x
  unfolding scatter
  scatter_others zero r x h = refl
  scatter_others (suc n) r x h =
      ⊎_elim (λ k. over_before (filled n) (w * place (suc n)) (piece (suc n)) (room n r) x k)
      (λ k. over_after (filled n) (w * place (suc n)) (piece (suc n)) (room n r) x (omega (arith, size (suc n)))) (h (suc n) (omega arith) (omega arith))
      ∙ scatter_others n (λ l h k. r l h (omega arith)) x (λ l q k. h l q (omega arith))

  -- where the pieces are the values of a function of the place
  pub scatter_pieces : (Y : ℕ → Bytes) (n : ℕ) → Fits n → ((l : ℕ) → 1 ≤ l → l ≤ n → piece l ≡ Y (place l)) → (l : ℕ) → 1 ≤ l → l ≤ n → (k : ℕ) → k < w
      → byte_at (filled n) (w * place l + k) ≡ byte_at (Y (place l)) k
  unfolding scatter
  scatter_pieces Y zero r v l h q k c = let z : ⊥ = omega arith in absurd z
  scatter_pieces Y (suc n) r v l h q k c =
      go (place_at (place (suc n)) 1 (place l)) (λ e. scatter_pieces Y n (λ l h k. r l h (omega arith)) (λ l h k. v l h (omega arith)) l h e k c)
    where
      earlier : place l ≢ place (suc n) → l ≤ n
      earlier ne = let nn : l ≢ suc n = λ p. ne (ap place p) in omega arith

      go : Place (place (suc n)) 1 (place l) → (l ≤ n → byte_at (filled n) (w * place l + k) ≡ byte_at (Y (place l)) k)
          → byte_at (filled (suc n)) (w * place l + k) ≡ byte_at (Y (place l)) k
      go (below e) ih =
          over_before (filled n) (w * place (suc n)) (piece (suc n)) (room n r) (w * place l + k) (omega (arith, place_next w (place l) (place (suc n)) e))
          ∙ ih (earlier (omega arith))
      go (inside t e p) ih =
          let same : place l ≡ place (suc n) = omega arith in
          subst (λ z. byte_at (filled (suc n)) (w * z + k) ≡ byte_at (Y z) k) (sym same)
          (scatter_put n k (room n r) c ∙ ap (λ (y : Bytes). byte_at y k) (v (suc n) (omega arith) (omega arith)))
      go (above e) ih =
          over_after (filled n) (w * place (suc n)) (piece (suc n)) (room n r) (w * place l + k)
          (omega (arith, size (suc n), place_next w (place (suc n)) (place l) (omega arith)))
          ∙ ih (earlier (omega arith))

-- ---- collect

module _ (L : Lists) (changes : ℕ) (b out : Bytes) where
  abbrev cell : ℕ → ℕ
  cell l = L.global l - L.first

  depth_size : (l : ℕ) → length (depth_at changes b l) ≡ 4
  depth_size l = length_four b (depth_place changes l)

  pub collect_length : (n : ℕ) → ((l : ℕ) → 1 ≤ l → l ≤ n → 4 * cell l + 4 ≤ length out) → length (collected_in L changes b n out) ≡ length out
  collect_length = scatter_length 4 cell (depth_at changes b) depth_size out

  pub collect_others : (n : ℕ) → ((l : ℕ) → 1 ≤ l → l ≤ n → 4 * cell l + 4 ≤ length out) → (x : ℕ)
      → ((l : ℕ) → 1 ≤ l → l ≤ n → (x < 4 * cell l) ⊎ (4 * cell l + 4 ≤ x)) → byte_at (collected_in L changes b n out) x ≡ byte_at out x
  collect_others = scatter_others 4 cell (depth_at changes b) depth_size out

  -- where the depths are the values of a function of the cell
  pub collect_owned : (Y : ℕ → Bytes) (n : ℕ) → ((l : ℕ) → 1 ≤ l → l ≤ n → 4 * cell l + 4 ≤ length out)
      → ((l : ℕ) → 1 ≤ l → l ≤ n → depth_at changes b l ≡ Y (cell l)) → (l : ℕ) → 1 ≤ l → l ≤ n → four (collected_in L changes b n out) (4 * cell l) ≡ Y (cell l)
  collect_owned Y n r v l h k =
      four_same (collected_in L changes b n out) (Y (cell l)) (4 * cell l) 0
      (λ i c. scatter_pieces 4 cell (depth_at changes b) depth_size out Y n r v l h k i c ∙ ap (byte_at (Y (cell l))) (sym (zero-add i)))
      ∙ four_whole (Y (cell l)) (sym (ap length (v l h k)) ∙ depth_size l)

-- ---- points: what is given has six bytes a point

pub given_six : (L : Lists) (changes : ℕ) (b : Bytes) (k : ℕ) → length (point_given L changes b k) ≡ 6
unfolding point_given
given_six L changes b k =
    length-append (word_bytes (L.point k)) (plain_mean (map (depth_at changes b) (L.around k))) ∙ ap₂ ◌+◌ (length_word_bytes (L.point k)) (length_value_bytes _)

pub points_length : (L : Lists) (changes : ℕ) (b : Bytes) → length (points_given L changes b) ≡ 6 * L.points
points_length L changes b = rows_length 1 (point_given L changes b) 6 L.points (λ j h. given_six L changes b (1 + j))

-- ---- refused calls

-- "A refusal gives its number and zero for every count; all lent bytes stay."
pub record Untouched (b : Bytes) : Type 0 where
  pub by_write : (j : ℕ) (out : Bytes) → write_number b j out ≢ 0 → (write_state b j out ≡ b) × (write_out b j out ≡ out)
  pub by_take : (x : Bytes) → take_number b x ≢ 0 → take_state b x ≡ b
  pub by_advance : advance_number b ≢ 0 → advance_state b ≡ b
  pub by_collect : (k : ℕ) (f : Bytes) → collect_number b k f ≢ 0 → collect_out b k f ≡ f
  pub by_points : (out : Bytes) → points_number b out ≢ 0 → points_out b out ≡ out

pub refused_stays : (b : Bytes) → Untouched b
unfolding write_state write_out take_state advance_state collect_out points_out
refused_stays b = record {
  by_write = λ j out h. (rw (ne_eqb _ 0 h) refl, rw (ne_eqb _ 0 h) refl);
  by_take = λ x h. rw (ne_eqb _ 0 h) refl;
  by_advance = λ h. rw (ne_eqb _ 0 h) refl;
  by_collect = λ k f h. rw (ne_eqb _ 0 h) refl;
  by_points = λ out h. rw (ne_eqb _ 0 h) refl;
}
