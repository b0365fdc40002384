-- Collect, by the tests and the loop of the code. Assumes nothing.
use mathlib.Core.Path.{◌≡◌, refl, sym, ap, ap₂, ◌∙◌, subst}
use mathlib.Core.Bool.{Bool, true, false, cond}
use Prim.Native.Nat.{ℕ, suc, ◌+◌, ◌-◌, ◌*◌, ◌≤◌, ◌<◌}
use native.Mathlib.Omega.{arith}
use lib.Dec.{ltb}
use lib.ListN.{length, take, drop}
use borrow.Author.Tests.{eq-eqb, ne_eqb, lt-ltb, le-ltb}
use Rattle.vocabulary.specs.Bytes.{Bytes, over}
use Rattle.layout.specs.Words.{word}
use Rattle.depths.specs.Depths.{four}
use Rattle.layout.proofs.AnswerLaws.{refuses, accepts}
use Rattle.layout.specs.Answers.{Answer}
use Rattle.layout.specs.Answers.{Done, Refused}
use Rattle.part_state.specs.State.{Lists, lists_in, lists_of, dynamic, round_at, first_of_mesh, cells_of_mesh, global_at, owned_count, held_count, depth_place}
use Rattle.part_calls.specs.Calls.{scatter, collected_in, collect_tests_in, collect_number, collect_answer, collect_out}
use Rattle.part_calls.specs.Opened.{Opened}
use Rattle.part_calls.proofs.OpenedLaws.{lists_is, whole, own_few, long, good_state, four_cut}
use Rattle.vocabulary.proofs.IntervalLaws.{at_last}

-- ---- the loop

collect_more : (lists : Bytes) (changes : ℕ) (b : Bytes) (n : ℕ) (f : Bytes)
    → over (collected_in (lists_in lists) changes b n f) (4 * (global_at lists (suc n) - first_of_mesh lists)) (four b (depth_place changes (suc n)))
    ≡ collected_in (lists_in lists) changes b (suc n) f
unfolding scatter lists_in
collect_more lists changes b n f = refl

pub gather_start : (lists : Bytes) (changes : ℕ) (b : Bytes) (f : Bytes) → f ≡ collected_in (lists_in lists) changes b (1 - 1) f
unfolding scatter
gather_start lists changes b f = refl

pub gather_end : (lists : Bytes) (changes : ℕ) (b : Bytes) (f x : Bytes) (l owned : ℕ) → l ≤ owned + 1 → owned + 1 ≤ l → x ≡ collected_in (lists_in lists) changes b (l - 1) f
    → x ≡ collected_in (lists_in lists) changes b owned f
gather_end lists changes b f x l owned g h e = at_last (λ n. x ≡ collected_in (lists_in lists) changes b n f) (l - 1) owned (omega arith) (omega arith) e

module _ (lists : Bytes) (changes : ℕ) (b : Bytes) (o : Opened lists changes b) (first owned : ℕ) (fe : first ≡ first_of_mesh lists) (oe : owned ≡ owned_count lists) where
  module _ (l g : ℕ) (h : 1 ≤ l) (k : l < owned + 1) (ge : g ≡ global_at lists l) where
    pub cell_low : first ≤ g
    cell_low = omega (arith, ((whole lists changes b o).globals l h (omega (arith, own_few lists changes b o))).0)

    pub cell_room : (q : ℕ) → q ≡ g - first → (f₀ : Bytes) (f : Bytes) → 4 * cells_of_mesh lists ≤ length f₀ → length f ≡ length f₀ → 4 * q + 4 ≤ length f
    cell_room q qe f₀ f r e = let w = (whole lists changes b o).globals l h (omega (arith, own_few lists changes b o)) in omega (arith, w.0, w.1)

    pub cell_held : l ≤ held_count lists
    cell_held = omega (arith, own_few lists changes b o)

    pub gather_turn : (q : ℕ) → q ≡ g - first → (f₀ x y : Bytes) → x ≡ collected_in (lists_in lists) changes b (l - 1) f₀ → y ≡ over x (4 * q) (four b (depth_place changes l))
        → y ≡ collected_in (lists_in lists) changes b (l + 1 - 1) f₀
    gather_turn q qe f₀ x y e z =
        let p : suc (l - 1) ≡ l + 1 - 1 = omega arith in
        let s : l ≡ suc (l - 1) = omega arith in
        z
        ∙ ap₂ (λ (z : Bytes) i. over z (4 * i) (four b (depth_place changes l))) e qe
        ∙ ap (λ c. over (collected_in (lists_in lists) changes b (l - 1) f₀) (4 * (g - c)) (four b (depth_place changes l))) fe
        ∙ ap₂ (λ c i. over (collected_in (lists_in lists) changes b (l - 1) f₀) (4 * (c - first_of_mesh lists)) (four b (depth_place changes i))) (ge ∙ ap (global_at lists) s) s
        ∙ collect_more lists changes b (l - 1) f₀
        ∙ ap (λ n. collected_in (lists_in lists) changes b n f₀) p

-- ---- the answer, test by test

module _ (b : Bytes) (k : ℕ) (f : Bytes) where
  abbrev Answered : Answer → Bytes → Type 0
  Answered r x = (r ≡ collect_answer b k f) × (x ≡ collect_out b k f)

  refused : (n : ℕ) → collect_number b k f ≡ n → (n ≡ 0 → ⊥) → Answered (Refused n) f
  unfolding collect_answer collect_out
  refused = refuses (collect_number b k f) (lists_of b).owned (collected_in (lists_of b) (dynamic b) b (lists_of b).owned f) f

  done : collect_number b k f ≡ 0 → Answered (Done (lists_of b).owned) (collected_in (lists_of b) (dynamic b) b (lists_of b).owned f)
  unfolding collect_answer collect_out
  done = accepts (collect_number b k f) (lists_of b).owned (collected_in (lists_of b) (dynamic b) b (lists_of b).owned f) f

-- by what the opened state has of the bytes
module _ (k : ℕ) (f lists : Bytes) (b : Bytes) {was : Bytes} (o : Opened lists (length lists) was) (at : was ≡ b) (r : ℕ) (re : r ≡ word was (length lists)) where
  here : Opened lists (length lists) b
  here = subst (λ x. Opened lists (length lists) x) at o

  round_is : round_at b (dynamic b) ≡ r
  round_is = ap (word b) (sym here.place_is) ∙ sym (re ∙ ap (λ x. word x (length lists)) at)

  number_28 : (r ≡ k → ⊥) → collect_number b k f ≡ 28
  unfolding collect_number collect_tests_in
  number_28 z = simp (good_state lists (length lists) b here, round_is, ne_eqb k r (λ e. z (sym e)))

  pub told_28 : (r ≡ k → ⊥) → (Refused 28 ≡ collect_answer b k f) × (f ≡ collect_out b k f)
  told_28 z = refused b k f 28 (number_28 z) (λ z. omega (arith, z))

  module _ (rk : r ≡ k) (cells : ℕ) (ce : cells ≡ cells_of_mesh lists) where
    cells_is : (lists_of b).cells ≡ cells
    unfolding lists_in
    cells_is = ap (λ (L : Lists). L.cells) (lists_is lists (length lists) b here) ∙ sym ce

    number_last : (x : Bool) → ltb (length f) (4 * cells) ≡ x → collect_number b k f ≡ cond x 16 0
    unfolding collect_number collect_tests_in
    number_last x e = simp (good_state lists (length lists) b here, round_is, eq-eqb k r (sym rk), cells_is, e)

    pub told_16 : length f < 4 * cells → (Refused 16 ≡ collect_answer b k f) × (f ≡ collect_out b k f)
    told_16 h = refused b k f 16 (number_last true (lt-ltb _ _ h)) (λ z. omega (arith, z))

    own_is : (lists_of b).owned ≡ owned_count lists
    unfolding lists_in
    own_is = ap (λ (L : Lists). L.owned) (lists_is lists (length lists) b here)

    pub told_done : 4 * cells ≤ length f → (x : Bytes) → x ≡ collected_in (lists_in lists) (length lists) was (owned_count lists) f → (owned : ℕ) → owned ≡ owned_count lists
        → (Done owned ≡ collect_answer b k f) × (x ≡ collect_out b k f)
    told_done h x e owned oe =
        let a = done b k f (number_last false (le-ltb _ _ h)) in (
          ap Done (oe ∙ sym own_is) ∙ a.0,
          e
              ∙ ap (λ y. collected_in (lists_in lists) (length lists) y (owned_count lists) f) at
              ∙ ap₂ (λ (L : Lists) n. collected_in L (length lists) b n f) (sym (lists_is lists (length lists) b here)) (sym own_is)
              ∙ ap (λ p. collected_in (lists_of b) p b (lists_of b).owned f) here.place_is
              ∙ a.1,
        )
