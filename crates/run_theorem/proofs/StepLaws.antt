-- What a step of a world is made of: one more state, one more in a list, and what an accepted call says of the state it is on. Assumes nothing.
use Rattle.std.specs.Prelude.{◌≡◌, refl, Bool, true, false, cond, List, ◌∷◌, ℕ, ◌≤◌, eqb, ltb, length, take, drop}
use Rattle.std.proofs.Common.{ap, ◌∙◌, subst, eqb-true, eq-eqb}
use Rattle.std.proofs.Math.Seq.{take-append_seam}
use Rattle.std.proofs.lemmas.Bool.{not-false}
use Rattle.vocabulary.specs.Bytes.{Bytes, over}
use Rattle.vocabulary.proofs.ByteLaws.{over_front}
use Rattle.vocabulary.specs.Lists.{All}
use Rattle.vocabulary.proofs.ListLaws.{and_true, cond_has}
use Rattle.vocabulary.specs.Intervals.{is_up_to}
use Rattle.vocabulary.proofs.IntervalLaws.{up_to_true}
use Rattle.vocabulary.proofs.TestLaws.{passed_by}
use Rattle.layout.specs.Limits.{most_parts}
use Rattle.part_state.specs.State.{lists_of, dynamic, is_state, bad20}
use Rattle.part_calls.specs.Calls.{exports_to, write_tests_in, take_tests_in, advance_tests_in, collect_tests_in, points_tests_in, write_number, message}
use Rattle.part_calls.specs.Calls.{write_out, take_number, advance_number, collect_number, points_number}
use Rattle.run_theorem.specs.Run.{put, more}

-- ---- one more state, one more in a list

pub put_has : (P : ℕ → Bytes → Type 0) (w : ℕ → Bytes) (i : ℕ) (s : Bytes) → P i s → ((j : ℕ) → P j (w j)) → (j : ℕ) → P j (put w i s j)
unfolding put
put_has P w i s g h j = cond_has (P j) (eqb i j) s (w j) (λ e. subst (λ k. P k s) (eqb-true i j e) g) (λ e. h j)

pub put_both : (P : ℕ → ℕ → Bytes → Type 0) (m : ℕ → ℕ) (w : ℕ → Bytes) (i n : ℕ) (s : Bytes) → P i n s → ((j : ℕ) → P j (m j) (w j)) → (j : ℕ) → P j (put m i n j) (put w i s j)
unfolding put
put_both P m w i n s g h j = go (eqb i j) refl
  where
    go : (t : Bool) → eqb i j ≡ t → P j (cond t n (m j)) (cond t s (w j))
    go true e = subst (λ k. P k n s) (eqb-true i j e) g
    go false e = h j

pub more_all : {A : Type 0} (P : A → Type 0) (n : ℕ) (x : A) (xs : List A) → (n ≡ 0 → P x) → All P xs → All P (more n x xs)
unfolding more
more_all P n x xs p q = cond_has (All P) (eqb n 0) (x ∷ xs) xs (λ e. (p (eqb-true n 0 e), q)) (λ e. q)

-- ---- accepted calls are on states

not_20 : (b : Bytes) → bad20 b ≡ false → is_state b ≡ true
unfolding bad20
not_20 b e = not-false _ e

pub on_states : (b : Bytes) → ((j : ℕ) (out : Bytes) → write_number b j out ≡ 0 → is_state b ≡ true) × ((x : Bytes) → take_number b x ≡ 0 → is_state b ≡ true)
    × (advance_number b ≡ 0 → is_state b ≡ true) × ((k : ℕ) (f : Bytes) → collect_number b k f ≡ 0 → is_state b ≡ true) × ((out : Bytes) → points_number b out ≡ 0 → is_state b ≡ true)
unfolding write_number write_tests_in take_number take_tests_in advance_number advance_tests_in collect_number collect_tests_in points_number points_tests_in
on_states b = (
  λ j out e. not_20 b (passed_by 20 (write_tests_in (lists_of b) (dynamic b) b j out) tt e),
  λ x e. not_20 b (passed_by 20 (take_tests_in (lists_of b) (dynamic b) b x) tt e),
  λ e. not_20 b (passed_by 20 (advance_tests_in (lists_of b) (dynamic b) b) tt e),
  λ k f e. not_20 b (passed_by 20 (collect_tests_in (lists_of b) (dynamic b) b k f) tt e),
  λ out e. not_20 b (passed_by 20 (points_tests_in (lists_of b) (dynamic b) b out) tt e),
)

-- and a write's is to a number from 1 to 16
pub write_part : (b : Bytes) (j : ℕ) (out : Bytes) → write_number b j out ≡ 0 → (1 ≤ j) × (j ≤ most_parts)
unfolding write_number write_tests_in exports_to
write_part b j out e =
    up_to_true most_parts j (and_true (is_up_to most_parts j) (ltb 0 (length ((lists_of b).exports j))) (not-false _ (passed_by 27 (write_tests_in (lists_of b) (dynamic b) b j out) tt e))).0

-- the message that an accepted write gives
pub written_is : (b : Bytes) (j : ℕ) (out : Bytes) → write_number b j out ≡ 0 → take (length (message b j)) (write_out b j out) ≡ message b j
unfolding write_out
written_is b j out e =
    ap (λ t. take (length (message b j)) (cond t (over out 0 (message b j)) out)) (eq-eqb _ 0 e)
    ∙ ap (λ r. take (length (message b j)) r) (over_front out (message b j))
    ∙ take-append_seam (message b j) (drop (length (message b j)) out)
