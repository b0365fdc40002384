-- The numbers of a dimension's elements, and that `walked` gives the ends of the walks. Assumes nothing.
use mathlib.Core.Path.{◌≡◌, refl, sym, ap, ◌∙◌, subst, subst₂}
use mathlib.Core.Logic.{⊎_elim}
use mathlib.Core.Bool.{Bool, true, false}
use mathlib.Core.List.{[], ◌∷◌, ◌++◌}
use Prim.Native.Nat.{ℕ, zero, suc, ◌+◌, ◌%◌, ◌<◌, ◌≤◌}
use native.Mathlib.Omega.{arith}
use lib.Dec.{eqb, ltb}
use lib.ListN.{length, get_or, length-append, get_or-append}
use lib.Seq.{get_or-append-add}
use borrow.Author.Tests.{eqb-true, eqb-false, eq-eqb, ltb-true, ltb-false}
use Rattle.vocabulary.specs.Bytes.{Bytes, byte_at}
use Rattle.vocabulary.specs.Lists.{is_in, some_of}
use Rattle.vocabulary.proofs.ListLaws.{and_true, and_intro, or_left, or_nothing, is_in_at, at_is_in, some_of_has, some_of_witness}
use Rattle.vocabulary.specs.Intervals.{is_up_to}
use Rattle.vocabulary.proofs.IntervalLaws.{up_to_true, up_to_intro, last_or, picked_in, picked_passes}
use Rattle.mesh.specs.Mesh.{top, counted, below, elements, dimension}
use Rattle.mesh.specs.Accepted.{Accepted}
use Rattle.mesh.specs.Walks.{incident, steps, step_to, walked, bad10}
use Rattle.mesh.proofs.WalkLaws.{below_grows, within, stencil_odd, stencil_even}
use Rattle.mesh.proofs.DimensionLaws.{below_more, dimension_le, after_below, below_after}
use Rattle.split_copies.specs.Copies.{is_of, is_cell, Walk}

-- ---- the elements of dimension a have the numbers after those below it, as many as are counted

module _ (m : Bytes) (A : Accepted m) (a e : ℕ) (h : a ≤ top m) where
  pub of_numbers : is_of m a e ≡ true → (below m a + 1 ≤ e) × (e < below m a + 1 + counted m a)
  unfolding is_of
  of_numbers t =
      let p = and_true (is_up_to (elements m) e) (eqb (dimension m e) a) t in
      let u = up_to_true (elements m) e p.0 in
      (low u.0 (eqb-true _ a p.1) (eqb a 0) refl, high u.1 (eqb-true _ a p.1) (ltb a (top m)) refl)
    where
      low : 1 ≤ e → dimension m e ≡ a → (b : Bool) → eqb a 0 ≡ b → below m a + 1 ≤ e
      low l d true z =
          let q : below m a ≡ 0 = ap (below m) (eqb-true a 0 z) ∙ (unfold below in refl) in
          omega arith
      low l d false z =
          let q : a ≡ 0 → ⊥ = eqb-false a 0 z in
          omega (arith, below_after m e a (omega arith) h (omega arith))

      high : e ≤ elements m → dimension m e ≡ a → (b : Bool) → ltb a (top m) ≡ b → e < below m a + 1 + counted m a
      high u d true z = under (ltb (below m (suc a)) e) refl
        where
          under : (b : Bool) → ltb (below m (suc a)) e ≡ b → e < below m a + 1 + counted m a
          under true y = let x : ⊥ = omega (arith, after_below m e (suc a) (omega arith) (omega (arith, ltb-true a (top m) z)) (ltb-true _ e y)) in absurd x
          under false y = omega (arith, ltb-false _ e y, below_more m a)
      high u d false z =
          let q : top m ≡ a = omega (arith, ltb-false a (top m) z) in
          subst (λ k. e < below m k + 1 + counted m k) q (omega (arith, A.cells_in))

  pub numbers_of : below m a + 1 ≤ e → e < below m a + 1 + counted m a → is_of m a e ≡ true
  unfolding is_of
  numbers_of low high =
      and_intro (is_up_to (elements m) e) (eqb (dimension m e) a)
      (up_to_intro (elements m) e (omega arith) (omega (arith, below_grows m (suc a) 4 (omega (arith, A.sizes.d_high)), below_more m a)))
      (eq-eqb (dimension m e) a (omega (arith, least (eqb a 0) refl, most (ltb a (dimension m e)) refl)))
    where
      least : (b : Bool) → eqb a 0 ≡ b → a ≤ dimension m e
      least true z = omega (arith, eqb-true a 0 z)
      least false z =
          let q : a ≡ 0 → ⊥ = eqb-false a 0 z in
          after_below m e a (omega arith) h (omega arith)

      most : (b : Bool) → ltb a (dimension m e) ≡ b → dimension m e ≤ a
      most true z =
          let q : a < dimension m e = ltb-true a _ z in
          let x : ⊥ = omega (arith, below_after m e (suc a) (omega arith) (omega (arith, dimension_le m e)) (omega arith), below_more m a) in absurd x
      most false z = ltb-false a _ z

-- ---- walks

module _ (m st : Bytes) (A : Accepted m) (good : bad10 (top m) st ≡ false) where
  stencil_le : (t : ℕ) → t ≤ steps st → byte_at st t ≤ top m
  stencil_le t h = go (eqb (t % 2) 1) refl
    where
      go : (b : Bool) → eqb (t % 2) 1 ≡ b → byte_at st t ≤ top m
      go true e = omega (arith, stencil_odd (top m) st good t (within (top m) st good t h) (eqb-true _ 1 e))
      go false e = omega (arith, stencil_even (top m) st good t (within (top m) st good t h) (eqb-false _ 1 e))

  module _ (c : ℕ) (cell : is_cell m c ≡ true) where
    -- a walk of no steps
    stay : Walk m st 0 c c
    stay = record {
      path = c ∷ [];
      path_length = refl;
      begins = refl;
      ends = refl;
      from_cell = cell;
      dimensions = λ t h k. let z : ⊥ = omega arith in absurd z;
      incidence = λ t h. let z : ⊥ = omega arith in absurd z;
    }

    -- a walk of k steps, and one step more
    onward : (k e x : ℕ) → Walk m st k c e → is_of m (byte_at st (suc k)) x ≡ true → incident m e x ≡ true → Walk m st (suc k) c x
    onward k e x w d i = record {
      path = w.path ++ (x ∷ []);
      path_length = length-append w.path (x ∷ []) ∙ (let q : length w.path + 1 ≡ suc (suc k) = omega (arith, w.path_length) in q);
      begins = before 0 (omega arith) ∙ w.begins;
      ends = last;
      from_cell = cell;
      dimensions = λ t h q.
          ⊎_elim
          (λ (l : t < suc k). subst (λ y. is_of m (byte_at st t) y ≡ true) (sym (before t (omega arith))) (w.dimensions t h (omega arith)))
          (λ (z : t ≡ suc k). subst (λ n. is_of m (byte_at st n) (get_or (w.path ++ (x ∷ [])) n 0) ≡ true) (sym z) (subst (λ y. is_of m (byte_at st (suc k)) y ≡ true) (sym last) d))
          (last_or t (suc k) (omega arith));
      incidence = λ t h.
          ⊎_elim
          (λ (l : t < k). subst₂ (λ y z. incident m y z ≡ true) (sym (before t (omega arith))) (sym (before (suc t) (omega arith))) (w.incidence t l))
          (λ (z : t ≡ k).
          subst (λ n. incident m (get_or (w.path ++ (x ∷ [])) n 0) (get_or (w.path ++ (x ∷ [])) (suc n) 0) ≡ true) (sym z)
          (subst₂ (λ y z. incident m y z ≡ true) (sym (before k (omega arith) ∙ w.ends)) (sym last) i))
          (last_or t k (omega arith));
    }
      where
        before : (t : ℕ) → t ≤ k → get_or (w.path ++ (x ∷ [])) t 0 ≡ get_or w.path t 0
        before t h = get_or-append w.path (x ∷ []) 0 t (omega (arith, w.path_length))

        last : get_or (w.path ++ (x ∷ [])) (suc k) 0 ≡ x
        last =
            let q : suc k ≡ length w.path + 0 = omega (arith, w.path_length) in
            ap (λ n. get_or (w.path ++ (x ∷ [])) n 0) q ∙ get_or-append-add w.path (x ∷ []) 0 0

    pub walked_walk : (k x : ℕ) → k ≤ steps st → is_in x (walked m st c k) ≡ true → Walk m st k c x
    unfolding walked step_to is_in
    walked_walk zero x h e = subst (Walk m st 0 c) (sym (eqb-true x c (sym (or_nothing (eqb x c)) ∙ e))) stay
    walked_walk (suc k) x h e =
        let a : ℕ = byte_at st (suc k) in
        let p = picked_passes (below m a + 1) (λ x. some_of (walked m st c k) (λ e. incident m e x)) (counted m a) x (is_in_at x _ e) in
        let w = some_of_witness (λ e. incident m e x) (walked m st c k) 0 p.2 in
        onward k (get_or (walked m st c k) w.0 0) x
        (walked_walk k (get_or (walked m st c k) w.0 0) (omega arith) (at_is_in _ (walked m st c k) (record { place = w.0; place_lt = w.1; place_is = refl })))
        (numbers_of m A (byte_at st (suc k)) x (stencil_le (suc k) h) p.0 p.1) w.2

    -- every element of a walk is walked to
    met : (k x : ℕ) (w : Walk m st k c x) → k ≤ steps st → (t : ℕ) → t ≤ k → is_in (get_or w.path t 0) (walked m st c t) ≡ true
    unfolding walked step_to is_in
    met k x w h zero q = or_left (eqb (get_or w.path 0 0) c) false (eq-eqb _ c w.begins)
    met k x w h (suc t) q =
        let a : ℕ = byte_at st (suc t) in
        let y : ℕ = get_or w.path (suc t) 0 in
        let n = of_numbers m A (byte_at st (suc t)) y (stencil_le (suc t) (omega arith)) (w.dimensions (suc t) (omega arith) q) in
        let r = is_in_at (get_or w.path t 0) (walked m st c t) (met k x w h t (omega arith)) in
        at_is_in y _
        (picked_in (below m a + 1) (λ x. some_of (walked m st c t) (λ e. incident m e x)) (counted m a) y n.0 n.1
        (some_of_has (λ e. incident m e y) (walked m st c t) 0 r.place r.place_lt
        (subst (λ z. incident m z y ≡ true) (sym r.place_is) (w.incidence t q))))

    pub walk_walked : (k x : ℕ) → k ≤ steps st → Walk m st k c x → is_in x (walked m st c k) ≡ true
    walk_walked k x h w = subst (λ y. is_in y (walked m st c k) ≡ true) w.ends (met k x w h k (omega arith))
