-- Advance, by the tests and the loops of the code. Assumes nothing.
use mathlib.Core.Path.{◌≡◌, refl, sym, ap, ap₂, ◌∙◌, subst}
use mathlib.Core.Bool.{Bool, true, false, not}
use mathlib.Core.List.{◌++◌}
use Prim.Native.Nat.{ℕ, ◌+◌, ◌-◌, ◌*◌, ◌≤◌, ◌<◌}
use native.Mathlib.Omega.{arith}
use lib.ListN.{length, take, drop, replicate}
use lib.Seq.{length-take-le, take_at}
use borrow.Author.Tests.{le-leb, lt-leb, not-true, not-false}
use Rattle.vocabulary.specs.Bytes.{Bytes, over}
use Rattle.vocabulary.proofs.ByteLaws.{over_length, over_more, over_front}
use Rattle.vocabulary.specs.Intervals.{blocks}
use Rattle.layout.specs.Words.{word, word_bytes}
use Rattle.layout.proofs.WordLaws.{length_word_bytes}
use Rattle.depths.proofs.DepthLaws.{fours_length}
use Rattle.layout.proofs.AnswerLaws.{refuses, accepts}
use Rattle.layout.specs.Answers.{Answer}
use Rattle.layout.specs.Answers.{Done, Refused}
use Rattle.part_state.specs.State.{Lists, lists_in, lists_of, dynamic, owned_count, state_length, depths_place}
use Rattle.part_state.specs.Checks.{Counts}
use Rattle.part_state.specs.declared.places.Sizes.{Sizes}
use Rattle.part_calls.specs.Calls.{all_taken, all_written, new_at, advanced_in, advance_tests_in, advance_number, advance_answer, advance_state}
use Rattle.part_calls.specs.Opened.{Opened, advance_rest}
use Rattle.part_calls.proofs.OpenedLaws.{cut_length, whole, own_few, long, good_state, lists_is}
use Rattle.part_update.proofs.RenewLaws.{new_four}
use Rattle.layout.specs.Limits.{last_round, most_elements, most_parts}

-- ---- the tests after 20

module _ (lists b : Bytes) (changes : ℕ) (u : Bool) (ue : u ≡ all_taken (lists_in lists) changes b) where
  pub rest_24 : not u ≡ true → 24 ≡ advance_rest (lists_in lists) changes b
  unfolding advance_rest
  rest_24 z = simp (sym ue, not-true u z)

  module _ (ut : not u ≡ false) (w : Bool) (we : w ≡ all_written (lists_in lists) changes b) where
    pub rest_25 : not w ≡ true → 25 ≡ advance_rest (lists_in lists) changes b
    unfolding advance_rest
    rest_25 z = simp (sym ue, not-false u ut, sym we, not-true w z)

    module _ (wt : not w ≡ false) (r : ℕ) (re : r ≡ word b changes) where
      pub rest_26 : last_round ≤ r → 26 ≡ advance_rest (lists_in lists) changes b
      unfolding advance_rest
      rest_26 h = simp (sym ue, not-false u ut, sym we, not-false w wt, sym re, le-leb _ _ h)

      pub rest_none : r < last_round → 0 ≡ advance_rest (lists_in lists) changes b
      unfolding advance_rest
      rest_none h = simp (sym ue, not-false u ut, sym we, not-false w wt, sym re, lt-leb _ _ h)

-- ---- what is stored

pub round_put : (b x y z new : Bytes) (changes round owned : ℕ) → state_length changes owned ≤ length b → 4 * owned ≤ length new
    → x ≡ over b changes (word_bytes round) → y ≡ over x (changes + 2) (replicate (2 * most_parts) 0)
    → z ≡ over y (depths_place changes) (take (4 * owned) (drop 0 new)) → z ≡ over b changes (word_bytes round ++ (replicate (2 * most_parts) 0 ++ take (4 * owned) new))
round_put b x y z new changes round owned room there xe ye ze =
    let l : length (word_bytes round) ≡ 2 = length_word_bytes round in
    let m : length (replicate {A = ℕ} (2 * most_parts) 0) ≡ 2 * most_parts = refl in
    let k : length (take (4 * owned) new) ≡ 4 * owned = length-take-le (4 * owned) new there in
    let s : length x ≡ length b = ap length xe ∙ over_length b changes (word_bytes round) (omega arith) in
    let p : changes + 2 ≡ changes + length (word_bytes round) = omega arith in
    let q : depths_place changes ≡ changes + 2 + length (replicate {A = ℕ} (2 * most_parts) 0) = omega arith in
    ze
    ∙ ap₂ (λ (u : Bytes) i. over u i (take (4 * owned) new)) ye q
    ∙ over_more x (changes + 2) (replicate (2 * most_parts) 0) (omega arith) (take (4 * owned) new)
    ∙ ap₂ (λ (u : Bytes) i. over u i (replicate (2 * most_parts) 0 ++ take (4 * owned) new)) xe p
    ∙ over_more b changes (word_bytes round) (omega arith) (replicate (2 * most_parts) 0 ++ take (4 * owned) new)

-- ---- the answer

module _ (b : Bytes) where
  abbrev Answered : Answer → Bytes → Type 0
  Answered r x = (r ≡ advance_answer b) × (x ≡ advance_state b)

  refused : (n : ℕ) → advance_number b ≡ n → (n ≡ 0 → ⊥) → Answered (Refused n) b
  unfolding advance_answer advance_state
  refused = refuses (advance_number b) 0 (advanced_in (lists_of b) (dynamic b) b) b

  done : advance_number b ≡ 0 → Answered (Done 0) (advanced_in (lists_of b) (dynamic b) b)
  unfolding advance_answer advance_state
  done = accepts (advance_number b) 0 (advanced_in (lists_of b) (dynamic b) b) b

  here : (lists : Bytes) (changes round : ℕ) → round ≡ word b changes + 1
      → over b changes (word_bytes round ++ (replicate (2 * most_parts) 0 ++ blocks 1 (owned_count lists) (new_at (lists_in lists) changes b))) ≡ advanced_in (lists_in lists) changes b
  unfolding advanced_in lists_in
  here lists changes round e = ap (λ r. over b changes (word_bytes r ++ (replicate (2 * most_parts) 0 ++ blocks 1 (owned_count lists) (new_at (lists_in lists) changes b)))) e

-- ---- the new round, where the lists end at `changes`

module _ (b lists was : Bytes) (changes : ℕ) (o : Opened (take changes b) changes b) (le : lists ≡ take changes b) (at : was ≡ b) where
  length_is : length lists ≡ changes
  length_is = ap length le ∙ cut_length b changes o

  pub counts_here : (z : Sizes) → Counts (take changes b) z → Counts lists z
  counts_here z C = subst (λ (x : Bytes). Counts x z) (sym le) C

  module _ (r : ℕ) (re : r ≡ word was (length lists)) where
    round : r ≡ word b changes
    round = re ∙ ap₂ (λ (x : Bytes) n. word x n) at length_is

    pub round_small : r + 1 < 65536
    round_small = omega (arith, round, (whole (take changes b) changes b o).early)

    pub owned_room : (z : Sizes) → Counts (take changes b) z → state_length changes z.owned ≤ length b
    owned_room z C = omega (arith, C.owned_is, own_few (take changes b) changes b o, long (take changes b) changes b o)

    pub next_put : (owned : ℕ) → owned ≡ owned_count (take changes b) → (new x y : Bytes) → x ≡ over new 0 (blocks 1 owned (new_at (lists_in lists) (length lists) was))
        → y ≡ over b changes (word_bytes (r + 1) ++ (replicate (2 * most_parts) 0 ++ take (4 * owned) x)) → y ≡ advanced_in (lists_in (take changes b)) changes b
    next_put owned oe new x y xe ye =
        let depths : blocks 1 owned (new_at (lists_in lists) (length lists) was) ≡ blocks 1 owned (new_at (lists_in (take changes b)) changes b) =
        ap₂ (λ (u : Bytes) n. blocks 1 owned (new_at (lists_in u) n was)) le length_is ∙ ap (λ u. blocks 1 owned (new_at (lists_in (take changes b)) changes u)) at in
        let l : length (blocks 1 owned (new_at (lists_in (take changes b)) changes b)) ≡ 4 * owned =
        fours_length 1 owned (new_at (lists_in (take changes b)) changes b) (λ t c. new_four (take changes b) changes b (1 + t)) in
        let t : take (4 * owned) x ≡ blocks 1 owned (new_at (lists_in (take changes b)) changes b) =
        ap (take (4 * owned)) (xe ∙ ap (over new 0) depths ∙ over_front new (blocks 1 owned (new_at (lists_in (take changes b)) changes b)))
        ∙ take_at (blocks 1 owned (new_at (lists_in (take changes b)) changes b)) (drop (length (blocks 1 owned (new_at (lists_in (take changes b)) changes b))) new) (4 * owned) l in
        ye
        ∙ ap (λ (u : Bytes). over b changes (word_bytes (r + 1) ++ (replicate (2 * most_parts) 0 ++ u))) (t ∙ ap (λ n. blocks 1 n (new_at (lists_in (take changes b)) changes b)) oe)
        ∙ here b (take changes b) changes (r + 1) (ap (λ k. k + 1) round)

-- ---- by what the opened state has of the bytes

module _ (b lists : Bytes) {changes : ℕ} {was : Bytes} (opened : Opened lists changes was) (at : was ≡ b) where
  o : Opened lists changes b
  o = subst (λ x. Opened lists changes x) at opened

  pub opened_whole : Opened (take changes b) changes b
  opened_whole = subst (λ (x : Bytes). Opened x changes b) o.lists_are o

  pub counts_whole : (z : Sizes) → Counts lists z → Counts (take changes b) z
  counts_whole z C = subst (λ (x : Bytes). Counts x z) o.lists_are C

  pub owned_few : (z : Sizes) → Counts lists z → z.owned ≤ most_elements
  owned_few z C = omega (arith, C.owned_is, own_few lists changes b o, (whole lists changes b o).few)

  number_here : advance_number b ≡ advance_rest (lists_of b) (dynamic b) b
  unfolding advance_number advance_tests_in advance_rest
  number_here = simp (good_state lists changes b o)

  module _ (n : ℕ) (ne : n ≡ advance_rest (lists_in lists) changes was) where
    number_is : advance_number b ≡ n
    number_is =
        number_here
        ∙ ap₂ (λ (L : Lists) p. advance_rest L p b) (lists_is lists changes b o) (sym o.place_is)
        ∙ sym (ne ∙ ap (λ x. advance_rest (lists_in lists) changes x) at)

    pub told_refused : (n ≡ 0 → ⊥) → (Refused n ≡ advance_answer b) × (b ≡ advance_state b)
    told_refused = refused b n number_is

    pub told_done : n ≡ 0 → (y : Bytes) → y ≡ advanced_in (lists_in (take changes b)) changes b → (Done 0 ≡ advance_answer b) × (y ≡ advance_state b)
    told_done z y ye =
        let a = done b (number_is ∙ z) in (
          a.0,
          ye
              ∙ ap (λ (x : Bytes). advanced_in (lists_in x) changes b) (sym o.lists_are)
              ∙ ap₂ (λ (L : Lists) p. advanced_in L p b) (sym (lists_is lists changes b o)) o.place_is
              ∙ a.1,
        )
