-- What a call knows of an accepted state, its lists cut off at `changes`. Assumes nothing.
use mathlib.Core.Path.{◌≡◌, refl, sym, ap, ap₂, ◌∙◌, subst}
use mathlib.Core.Bool.{Bool, true, false, not, cond}
use Prim.Native.Nat.{ℕ, ◌+◌, ◌-◌, ◌*◌, ◌≤◌, ◌<◌}
use native.Mathlib.Omega.{arith}
use lib.Dec.{eqb}
use lib.ListN.{length, take, drop}
use lib.Seq.{length-take-le}
use borrow.Author.Tests.{not-false}
use Rattle.vocabulary.specs.Bytes.{Bytes}
use Rattle.vocabulary.specs.Intervals.{is_up_to, blocks}
use Rattle.vocabulary.proofs.IntervalLaws.{up_to_true}
use Rattle.layout.specs.Words.{word_at}
use Rattle.layout.specs.Answers.{answer}
use Rattle.layout.proofs.AnswerLaws.{refuses, exit_answer}
use Rattle.layout.specs.Answers.{Refused, answer_of, refusal_number}
use Rattle.layout.specs.declared.refusal.Refusal.{Refusal}
use Rattle.std.specs.Prelude.{Result}
use Rattle.std.specs.Result.{IsErrAnd}
use Rattle.layout.specs.Limits.{most_parts}
use Rattle.depths.specs.Depths.{four}
use Rattle.depths.proofs.DepthLaws.{fours_of}
use Rattle.part_state.specs.State.{lists_in, lists_of, held_count, owned_count, is_state, bad20, state_length, is_state_at}
use Rattle.part_state.proofs.StateLaws.{Whole, state_at, whole_is}
use Rattle.part_calls.specs.Opened.{Opened}

module _ (lists : Bytes) (changes : ℕ) (b : Bytes) (o : Opened lists changes b) where
  pub whole : Whole lists changes b
  whole =
      whole_is lists changes b
      (ap₂ (λ x y. is_state_at x y b) (o.lists_are ∙ ap (λ k. take k b) o.place_is) o.place_is ∙ sym (state_at b) ∙ o.state)

  pub own_few : owned_count lists ≤ held_count lists
  own_few = whole.ends 0 most_parts (omega arith) (omega arith)

  -- what calls change stands after the lists
  pub long : state_length changes (held_count lists) ≤ length b
  long = whole.long

  pub lists_is : lists_of b ≡ lists_in lists
  unfolding lists_of
  lists_is = ap lists_in (ap (λ x. take x b) (sym o.place_is) ∙ sym o.lists_are)

-- the state that a call found by its test
pub opened_here : (b : Bytes) (x : ℕ) (u : Bool) → u ≡ is_state b → not u ≡ false → x ≡ word_at b 0 → x < 65536 → Opened (take (2 * x) b) (2 * x) b
opened_here b x u ue uf e s = record { lists_are = refl; place_is = ap (λ k. 2 * k) e; place_small = omega arith; state = sym ue ∙ not-false u uf }

-- its lists, cut off
module _ (b : Bytes) (changes : ℕ) (o : Opened (take changes b) changes b) where
  pub opened_room : changes ≤ length b
  opened_room = omega (arith, long (take changes b) changes b o)

  pub cut_length : length (take changes b) ≡ changes
  cut_length = length-take-le changes b opened_room

  pub opened_cut : Opened (take changes b) (length (take changes b)) b
  opened_cut = subst (λ k. Opened (take changes b) k b) (sym cut_length) o

pub not_state : (b : Bytes) (u : Bool) → u ≡ is_state b → not u ≡ true → bad20 b ≡ true
unfolding bad20
not_state b u ue ut = ap not (sym ue) ∙ ut

-- a call that finds no state refuses first
pub told_20 : (b : Bytes) (k count : ℕ) (new old : Bytes) (e : Refusal) (r : Result ℕ Refusal) → IsErrAnd r (λ x. x ≡ e) → (refusal_number e ≡ 20) × (bad20 b ≡ true)
    → (answer_of r ≡ answer (cond (bad20 b) 20 k) count) × (old ≡ cond (eqb (cond (bad20 b) 20 k) 0) new old)
told_20 b k count new old e r x q =
    let told = refuses (cond (bad20 b) 20 k) count new old 20 (simp q.1) (λ z. omega (arith, z)) in
    (exit_answer e r 20 x q.0 ∙ told.0, told.1)

pub good_state : (lists : Bytes) (changes : ℕ) (b : Bytes) → Opened lists changes b → bad20 b ≡ false
unfolding bad20
good_state lists changes b o = ap not o.state

-- a depth, cut out of a buffer
pub four_cut : (b : Bytes) (o : ℕ) → o + 4 ≤ length b → take 4 (drop o b) ≡ four b o
unfolding blocks
four_cut b o h = let e : o ≡ o + 4 * (0 + 0) = omega arith in sym (ap (four b) e ∙ fours_of b o 1 (omega arith))

-- a part that is up to 16, as the test finds it
pub part_few : (j : ℕ) (u : Bool) → u ≡ is_up_to most_parts j → not u ≡ false → (1 ≤ j) × (j ≤ most_parts)
part_few j u ue uf = up_to_true most_parts j (sym ue ∙ not-false u uf)
