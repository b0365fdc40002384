-- What calls go by: the room that the test 20 says a state has, and what an accepted message says of itself. Assumes nothing.
use Rattle.std.specs.Prelude.{◌≡◌, false, true, not, ◌&&◌, ◌||◌, List, [], ◌∷◌, map, ℕ, ◌+◌, ◌-◌, ◌≤◌, eqb, ltb, length}
use Rattle.std.proofs.Common.{arith, eqb-true}
use Rattle.std.proofs.lemmas.Bool.{not-false}
use Rattle.vocabulary.specs.Bytes.{Bytes}
use Rattle.vocabulary.specs.Lists.{All}
use Rattle.vocabulary.proofs.ListLaws.{and_true, or_false}
use Rattle.vocabulary.specs.Intervals.{is_up_to, every}
use Rattle.vocabulary.proofs.IntervalLaws.{up_to_true}
use Rattle.vocabulary.specs.Tests.{first_of}
use Rattle.vocabulary.proofs.TestLaws.{holds_of, passed_by}
use Rattle.layout.specs.Limits.{most_parts}
use Rattle.depths.specs.Depths.{ranged_at}
use Rattle.depths.proofs.DepthLaws.{length_four}
use Rattle.messages.specs.Messages.{header_size, message_size, from_in, to_in, round_in, count_in, bad15}
use Rattle.part_state.specs.State.{Lists, lists_in, round_at, state_length, depth_place}
use Rattle.part_state.proofs.StateLaws.{Whole}
use Rattle.part_calls.specs.Calls.{imports_from, depth_at, take_tests_in}

-- what the test 20 says, by the lists
pub record Room (L : Lists) (changes : ℕ) (b : Bytes) : Type 0 where
  pub deep : 2 ≤ changes
  pub long : state_length changes L.held ≤ length b
  pub own_le : L.owned ≤ L.held
  pub fits : (j : ℕ) → 1 ≤ j → j ≤ most_parts → L.before j + L.imported j ≤ L.held

pub room_of : (lists : Bytes) (changes : ℕ) (b : Bytes) → Whole lists changes b → Room (lists_in lists) changes b
unfolding lists_in
room_of lists changes b w = record {
  deep = omega (arith, w.lists_fit);
  long = w.long;
  own_le = w.ends 0 most_parts (omega arith) (omega arith);
  fits = λ j h k. omega (arith, w.ends (j - 1) j (omega arith) k, w.ends j most_parts k (omega arith));
}

-- what an accepted message says of itself
pub record Taken (L : Lists) (changes : ℕ) (b x : Bytes) : Type 0 where
  pub size : length x ≡ message_size (count_in x)
  pub ranged : every 0 (count_in x) (ranged_at x header_size) ≡ true
  pub to_is : to_in x ≡ L.part
  pub from_least : 1 ≤ from_in x
  pub from_most : from_in x ≤ most_parts
  pub count_is : count_in x ≡ L.imported (from_in x)
  pub now : round_in x ≡ round_at b changes

pub taken_facts : (L : Lists) (changes : ℕ) (b x : Bytes) → first_of (take_tests_in L changes b x) ≡ 0 → Taken L changes b x
unfolding take_tests_in bad15 imports_from
taken_facts L changes b x e =
    let by : (n : ℕ) → holds_of n (take_tests_in L changes b x) ≡ false = λ n. passed_by n (take_tests_in L changes b x) tt e in
    let m = or_false (ltb (length x) header_size || not (eqb (length x) (message_size (count_in x)))) (not (every 0 (count_in x) (ranged_at x header_size))) (by 15) in
    let n = or_false (ltb (length x) header_size) (not (eqb (length x) (message_size (count_in x)))) m.0 in
    let p = or_false (not (eqb (to_in x) L.part) || not (is_up_to most_parts (from_in x) && ltb 0 (L.imported (from_in x)))) (not (eqb (count_in x) (L.imported (from_in x)))) (by 21) in
    let q = or_false (not (eqb (to_in x) L.part)) (not (is_up_to most_parts (from_in x) && ltb 0 (L.imported (from_in x)))) p.0 in
    let r = and_true (is_up_to most_parts (from_in x)) (ltb 0 (L.imported (from_in x))) (not-false _ q.1) in
    let u = up_to_true most_parts (from_in x) r.0 in
    record {
      size = eqb-true _ _ (not-false _ n.1);
      ranged = not-false _ m.1;
      to_is = eqb-true _ _ (not-false _ q.0);
      from_least = u.0;
      from_most = u.1;
      count_is = eqb-true _ _ (not-false _ p.1);
      now = eqb-true _ _ (not-false _ (by 22));
    }

-- what is sent is four bytes a depth
pub fours_long : (changes : ℕ) (b : Bytes) (ls : List ℕ) → All (λ x. length x ≡ 4) (map (depth_at changes b) ls)
fours_long changes b [] = tt
fours_long changes b (l ∷ ls) = (length_four b (depth_place changes l), fours_long changes b ls)
