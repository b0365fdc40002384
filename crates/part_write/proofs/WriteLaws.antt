-- Write, by the tests and the loop of the code. Assumes nothing.
use mathlib.Core.Path.{◌≡◌, refl, sym, ap, ap₂, ◌∙◌, subst}
use mathlib.Core.Bool.{Bool, true, false, not, ◌&&◌, cond}
use mathlib.Core.List.{[], ◌∷◌, ◌++◌, map}
use Prim.Native.Nat.{ℕ, ◌+◌, ◌-◌, ◌≤◌, ◌<◌}
use native.Mathlib.Omega.{arith}
use lib.Dec.{ltb}
use lib.ListN.{length, set, length-map}
use borrow.Author.Tests.{lt-ltb, le-ltb, not-true, not-false}
use Rattle.vocabulary.specs.Bytes.{Bytes, over}
use Rattle.vocabulary.proofs.ByteLaws.{over_more}
use Rattle.vocabulary.specs.Lists.{joined}
use Rattle.vocabulary.specs.Intervals.{is_up_to, blocks}
use Rattle.vocabulary.proofs.IntervalLaws.{up_to_true, listed_length, joined_mapped}
use Rattle.layout.specs.Words.{word, word_at, bytes_of}
use Rattle.layout.proofs.WordLaws.{length_bytes_of}
use Rattle.depths.specs.Depths.{four}
use Rattle.depths.proofs.DepthLaws.{length_four, fours_store}
use Rattle.layout.proofs.AnswerLaws.{refuses, accepts}
use Rattle.layout.specs.Answers.{Answer}
use Rattle.layout.specs.Answers.{Done, Refused}
use Rattle.layout.specs.Limits.{most_parts}
use Rattle.messages.specs.Messages.{header_size, depth_start, message_size, encode}
use Rattle.part_state.specs.State.{Lists, lists_in, lists_of, dynamic, export_end, export_count, export_at, local_exports, held_count, owned_count, reach_count}
use Rattle.part_state.specs.State.{depth_place, written_place, exports_word, part_number, export_word}
use Rattle.part_calls.specs.Calls.{exports_to, depth_at, message_to, write_tests_in, written_in, write_number, message, write_answer, write_state, write_out}
use Rattle.part_calls.proofs.EffectLaws.{message_length}
use Rattle.part_state.specs.Checks.{export_start, Counts, before_exports}
use Rattle.part_state.specs.declared.places.Sizes.{Sizes}
use Rattle.part_calls.specs.Opened.{Opened, sent_to, sent_at}
use Rattle.part_calls.proofs.OpenedLaws.{whole, own_few, long, good_state, lists_is, part_few}

sent_at_lem : (lists : Bytes) (changes : ℕ) (b : Bytes) (x : ℕ) → four b (depth_place changes (export_at lists x)) ≡ sent_at lists changes b x
unfolding sent_at
sent_at_lem lists changes b x = refl

depths_are : (lists : Bytes) (j changes : ℕ) (b : Bytes) (from count : ℕ) → from ≡ export_end lists (j - 1) → count ≡ length ((lists_in lists).exports j)
    → blocks from count (sent_at lists changes b) ≡ joined (map (depth_at changes b) ((lists_in lists).exports j))
unfolding sent_at lists_in local_exports
depths_are lists j changes b from count fe ce =
    ap₂ (λ x n. blocks x n (λ y. four b (depth_place changes (export_at lists y)))) fe (ce ∙ listed_length (export_end lists (j - 1)) (export_at lists) (export_end lists j - export_end lists (j - 1)))
    ∙ sym (joined_mapped (depth_at changes b) (export_end lists (j - 1)) (export_at lists) (export_end lists j - export_end lists (j - 1)))

encoded_is : (lists : Bytes) (j changes : ℕ) (b : Bytes)
    → bytes_of (part_number lists ∷ j ∷ word b changes ∷ length (map (depth_at changes b) ((lists_in lists).exports j)) ∷ [])
    ++ joined (map (depth_at changes b) ((lists_in lists).exports j)) ≡ message_to
    (lists_in lists) changes b j
unfolding message_to encode lists_in
encoded_is lists j changes b = refl

-- ---- how many depths

pub sent_none : (lists : Bytes) (j : ℕ) (u : Bool) → u ≡ is_up_to most_parts j → not u ≡ true → 0 ≡ sent_to (lists_in lists) j
unfolding sent_to
sent_none lists j u ue ut = simp (sym ue, not-true u ut)

sent_length : (lists : Bytes) (j : ℕ) → length ((lists_in lists).exports j) ≡ export_end lists j - export_end lists (j - 1)
unfolding lists_in local_exports
sent_length lists j = listed_length (export_end lists (j - 1)) (export_at lists) (export_end lists j - export_end lists (j - 1))

pub sent_some : (lists : Bytes) (j n : ℕ) (u : Bool) → u ≡ is_up_to most_parts j → not u ≡ false → n ≡ word_at lists (before_exports + j + 1) - word_at lists (before_exports + j)
    → n ≡ sent_to (lists_in lists) j
unfolding sent_to
sent_some lists j n u ue uf e =
    let p : before_exports + j + 1 ≡ export_word + j = omega arith in
    let q : before_exports + j ≡ export_word + (j - 1) = omega (arith, (part_few j u ue uf).0) in
    e ∙ ap₂ (λ x y. word_at lists x - word_at lists y) p q ∙ sym (sent_length lists j) ∙ simp (sym ue, not-false u uf)

-- there is an export, so j is a part
module _ (lists : Bytes) (j count : ℕ) (ce : count ≡ sent_to (lists_in lists) j) (some : 1 ≤ count) where
  part_up : is_up_to most_parts j ≡ true
  unfolding sent_to
  part_up = go (is_up_to most_parts j) refl
    where
      go : (t : Bool) → is_up_to most_parts j ≡ t → is_up_to most_parts j ≡ true
      go true e = e
      go false e =
          let z : cond (is_up_to most_parts j) (length ((lists_in lists).exports j)) 0 ≡ 0 = ap (λ t. cond t (length ((lists_in lists).exports j)) 0) e in
          let no : ⊥ = omega (arith, ce ∙ z) in absurd no

  pub part_there : (1 ≤ j) × (j ≤ most_parts)
  part_there = up_to_true most_parts j part_up

  count_is : count ≡ length ((lists_in lists).exports j)
  unfolding sent_to
  count_is = ce ∙ ap (λ t. cond t (length ((lists_in lists).exports j)) 0) part_up

  pub sent_fits : (changes : ℕ) (b : Bytes) → Opened lists changes b → (from : ℕ) → from ≡ word_at lists (before_exports + j) → from + count ≤ export_count lists
  sent_fits changes b o from fe =
      let p : export_word + (j - 1) ≡ before_exports + j = omega (arith, part_there.0) in
      let q : export_end lists (j - 1) ≡ from = ap (word_at lists) p ∙ sym fe in
      omega (
        arith,
        count_is,
        sent_length lists j,
        (whole lists changes b o).export_ends (j - 1) j (omega arith) part_there.1,
        (whole lists changes b o).export_ends j most_parts part_there.1
            (omega arith),
      )

  -- the words and the depths are the message
  pub message_is : (changes : ℕ) (b : Bytes) (from part round : ℕ) → from ≡ word_at lists (before_exports + j) → part ≡ part_number lists → round ≡ word b changes
      → bytes_of (part ∷ j ∷ round ∷ count ∷ []) ++ blocks from count (sent_at lists changes b) ≡ message_to (lists_in lists) changes b j
  message_is changes b from part round fe pe re =
      ap₂ (λ p r. bytes_of (p ∷ j ∷ r ∷ count ∷ []) ++ blocks from count (sent_at lists changes b)) pe re
      ∙ ap₂ ◌++◌ (ap (λ n. bytes_of (part_number lists ∷ j ∷ word b changes ∷ n ∷ [])) (count_is ∙ sym (length-map ((lists_in lists).exports j) (depth_at changes b)))) depths
      ∙ encoded
    where
      first : word_at lists (before_exports + j) ≡ export_end lists (j - 1)
      first = let p : before_exports + j ≡ export_word + (j - 1) = omega (arith, part_there.0) in ap (word_at lists) p

      depths : blocks from count (sent_at lists changes b) ≡ joined (map (depth_at changes b) ((lists_in lists).exports j))
      depths = depths_are lists j changes b from count (fe ∙ first) count_is

      encoded : bytes_of (part_number lists ∷ j ∷ word b changes ∷ length (map (depth_at changes b) ((lists_in lists).exports j)) ∷ [])
          ++ joined (map (depth_at changes b) ((lists_in lists).exports j)) ≡ message_to (lists_in lists) changes b j
      encoded = encoded_is lists j changes b

-- ---- the loop over the entries

module _ (lists : Bytes) (changes : ℕ) (b : Bytes) (o : Opened lists changes b) (z : Sizes) (C : Counts lists z) (base : ℕ) (be : base ≡ export_start z) (from count : ℕ)
    (fit : from + count ≤ export_count lists) where
  sent_four : (x : ℕ) → length (sent_at lists changes b x) ≡ 4
  unfolding sent_at
  sent_four x = length_four b (depth_place changes (export_at lists x))

  module _ (t l : ℕ) (h : t < count) (le : l ≡ word_at lists (base + (from + t))) where
    local_is : export_at lists (from + t) ≡ l
    local_is =
        let p : exports_word (held_count lists) (owned_count lists) (reach_count lists) + (from + t) ≡ base + (from + t) = omega (arith, be, C.held_is, C.owned_is, C.reached_is) in
        ap (word_at lists) p ∙ sym le

    pub put_held : l ≤ held_count lists
    put_held = let w = (whole lists changes b o).exported (from + t) (omega arith) in omega (arith, w.1, local_is, own_few lists changes b o)

    pub put_turn : (out x y : Bytes) → message_size count ≤ length out → x ≡ over out header_size (blocks from t (sent_at lists changes b))
        → y ≡ over x (depth_start t) (four b (depth_place changes l))
        → y ≡ over out header_size (blocks from (t + 1) (sent_at lists changes b))
    put_turn out x y r e q =
        q
        ∙ ap₂ (λ (z : Bytes) (w : Bytes). over z (depth_start t) w) e sent_is
        ∙ fours_store from t (sent_at lists changes b) (λ k z. sent_four (from + k)) out header_size (omega arith)
      where
        sent_is : four b (depth_place changes l) ≡ sent_at lists changes b (from + t)
        sent_is = ap (λ k. four b (depth_place changes k)) (sym local_is) ∙ sent_at_lem lists changes b (from + t)

-- the words first, and the depths behind them
pub message_put : (b out x y : Bytes) (lists : Bytes) (changes j count from part round : ℕ) → Opened lists changes b → count ≡ sent_to (lists_in lists) j → 1 ≤ count → message_size count ≤ length out
    → from ≡ word_at lists (before_exports + j) → part ≡ part_number lists → round ≡ word b changes → x ≡ over out 0 (bytes_of (part ∷ j ∷ round ∷ count ∷ []))
    → y ≡ over x header_size (blocks from count (sent_at lists changes b)) → y ≡ over out 0 (message_to (lists_in lists) changes b j)
message_put b out x y lists changes j count from part round o ce some room fe pe re xe ye =
    let l : length (bytes_of (part ∷ j ∷ round ∷ count ∷ [])) ≡ header_size = length_bytes_of (part ∷ j ∷ round ∷ count ∷ []) in
    let k : 8 ≡ 0 + length (bytes_of (part ∷ j ∷ round ∷ count ∷ [])) = omega (arith, l) in
    ye
    ∙ ap₂ (λ (z : Bytes) n. over z n (blocks from count (sent_at lists changes b))) xe k
    ∙ over_more out 0 (bytes_of (part ∷ j ∷ round ∷ count ∷ [])) (omega arith) (blocks from count (sent_at lists changes b))
    ∙ ap (over out 0) (message_is lists j count ce some changes b from part round fe pe re)

-- ---- the answer, test by test

module _ (b : Bytes) (j : ℕ) (out : Bytes) where
  abbrev Answered : Answer → Bytes → Bytes → Type 0
  Answered r x y = (r ≡ write_answer b j out) × (x ≡ write_state b j out) × (y ≡ write_out b j out)

  abbrev state : Bytes
  state = written_in (lists_of b) (dynamic b) b j

  refused : (n : ℕ) → write_number b j out ≡ n → (n ≡ 0 → ⊥) → Answered (Refused n) b out
  unfolding write_answer write_state write_out
  refused n e z = let a = refuses (write_number b j out) (length (message b j)) state b n e z in (a.0, a.1, (refuses (write_number b j out) 0 (over out 0 (message b j)) out n e z).1)

  done : write_number b j out ≡ 0 → Answered (Done (length (message b j))) state (over out 0 (message b j))
  unfolding write_answer write_state write_out
  done e = let a = accepts (write_number b j out) (length (message b j)) state b e in (a.0, a.1, (accepts (write_number b j out) 0 (over out 0 (message b j)) out e).1)

  written_is : set b (written_place (dynamic b) j) 1 ≡ written_in (lists_of b) (dynamic b) b j
  unfolding written_in
  written_is = refl

-- by what the opened state has of the bytes
module _ (b : Bytes) (j : ℕ) (out lists : Bytes) {changes : ℕ} {was : Bytes} (opened : Opened lists changes was) (at : was ≡ b) (count : ℕ) (ce : count ≡ sent_to (lists_in lists) j) where
  o : Opened lists changes b
  o = subst (λ x. Opened lists changes x) at opened

  sends : exports_to (lists_of b) j ≡ ltb 0 count
  unfolding exports_to sent_to
  sends = ap (λ (L : Lists). is_up_to most_parts j && ltb 0 (length (L.exports j))) (lists_is lists changes b o) ∙ go (is_up_to most_parts j) refl
    where
      go : (t : Bool) → is_up_to most_parts j ≡ t → t && ltb 0 (length ((lists_in lists).exports j)) ≡ ltb 0 count
      go true e = ap (ltb 0) (sym (ce ∙ ap (λ t. cond t (length ((lists_in lists).exports j)) 0) e))
      go false e = ap (ltb 0) (sym (ce ∙ ap (λ t. cond t (length ((lists_in lists).exports j)) 0) e))

  number_27 : count < 1 → write_number b j out ≡ 27
  unfolding write_number write_tests_in
  number_27 h = let z : count ≤ 0 = omega arith in simp (good_state lists changes b o, sends, le-ltb 0 count z)

  pub told_27 : count < 1 → (Refused 27 ≡ write_answer b j out) × (b ≡ write_state b j out) × (out ≡ write_out b j out)
  told_27 h = refused b j out 27 (number_27 h) (λ z. omega (arith, z))

  module _ (some : 1 ≤ count) where
    pub flag_room : (j ≤ most_parts) × (written_place changes j < length b)
    flag_room = let w = part_there lists j count ce some in (w.1, omega (arith, w.1, long lists changes b o))

    message_here : message_to (lists_in lists) changes b j ≡ message b j
    unfolding message
    message_here = ap₂ (λ (L : Lists) p. message_to L p b j) (sym (lists_is lists changes b o)) o.place_is

    size_is : length (message b j) ≡ message_size count
    size_is = ap length (sym message_here) ∙ message_length (lists_in lists) changes b j ∙ ap (λ n. message_size n) (sym (count_is lists j count ce some))

    number_last : (x : Bool) → ltb (length out) (message_size count) ≡ x → write_number b j out ≡ cond x 16 0
    unfolding write_number write_tests_in message
    number_last x e = simp (good_state lists changes b o, sends, lt-ltb 0 count some, size_is, e)

    pub told_16 : length out < message_size count → (Refused 16 ≡ write_answer b j out) × (b ≡ write_state b j out) × (out ≡ write_out b j out)
    told_16 h = refused b j out 16 (number_last true (lt-ltb _ _ h)) (λ z. omega (arith, z))

    pub told_done : message_size count ≤ length out → (x y : Bytes) → y ≡ over out 0 (message_to (lists_in lists) changes was j) → x ≡ set b (written_place changes j) 1
        → (Done (message_size count) ≡ write_answer b j out) × (x ≡ write_state b j out) × (y ≡ write_out b j out)
    told_done h x y ye xe =
        let a = done b j out (number_last false (le-ltb _ _ h)) in (
          ap Done (sym size_is) ∙ a.0,
          xe ∙ ap (λ p. set b (written_place p j) 1) o.place_is ∙ written_is b j out ∙ a.1,
          ye ∙ ap (λ x. over out 0 (message_to (lists_in lists) changes x j)) at ∙ ap (over out 0) message_here ∙ a.2,
        )
