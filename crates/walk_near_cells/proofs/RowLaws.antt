-- The rows of near cells, as the code lists them. Assumes nothing.
use mathlib.Core.Path.{◌≡◌, refl, sym, ap, ◌∙◌, subst}
use mathlib.Core.Bool.{Bool, true, false, not, ◌||◌}
use mathlib.Core.Logic.{⊎_elim}
use mathlib.Core.List.{List, [], ◌∷◌}
use Prim.Native.Nat.{ℕ, zero, suc, ◌+◌, ◌-◌, ◌*◌, ◌/◌, ◌≤◌, ◌<◌}
use native.Mathlib.Nat.{le_trans, mul-le-mul_left, mul-le-mul_right, mul-div-le}
use native.Mathlib.Omega.{arith}
use lib.Dec.{eqb, ltb}
use lib.ListN.{length, get_or, take, length-take}
use lib.Seq.{get_or-take}
use Rattle.std.proofs.Common.{None, Some}
use Rattle.std.proofs.lemmas.Option.{none-some, same_Some}
use borrow.Author.Tests.{eqb-true, eqb-false, eq-eqb, ne_eqb, ltb-true, ltb-false}
use Rattle.vocabulary.specs.Bytes.{Bytes, byte_at}
use Rattle.vocabulary.specs.Intervals.{some}
use Rattle.vocabulary.proofs.IntervalLaws.{some_in, some_has, some_witness}
use Rattle.vocabulary.specs.Lists.{is_in, All, Zeros}
use Rattle.vocabulary.proofs.ListLaws.{At, and_true, and_intro, not_both, or_true, or_right, or_nothing, same_test, is_in_at, at_is_in, at_all, All_intro}
use Rattle.layout.specs.Limits.{element_places, most_elements}
use Rattle.mesh.specs.Meet.{Under}
use Rattle.mesh.specs.Mesh.{top, first_cell, cell_count}
use Rattle.mesh.specs.Walks.{step_to}
use Rattle.mesh.proofs.WalkLaws.{below_grows, stencil_odd}
use Rattle.mesh.specs.Accepted.{Accepted, Cell}
use Rattle.mesh.proofs.DimensionLaws.{below_next}
use Rattle.walk_frontier.specs.Visits.{Frontier, Toward, with, Added}
use Rattle.walk_incidence.specs.declared.inner.Incidence.{Incidence}
use Rattle.walk_steps.specs.declared.steps.Space.{Space}
use Rattle.walk_steps.specs.declared.steps.Walker.{Walker}
use Rattle.walk_steps.specs.Walking.{Ground, Grounded, Lower, stepped, or_among}
use Rattle.walk_steps.proofs.StepLaws.{step_from}
use Rattle.walk_steps.proofs.WalkLaws.{step_like}
use Rattle.walk_steps.proofs.NoteLaws.{begin}
use Rattle.walk_near_cells.specs.NearCells.{near_to, names, in_row, NearRow, NearRows, Filled, NearGround, RowPut, WalksReady}

-- ---- the row of one cell

-- what was marked with v before lies under the next mark
pub next_mark : (v n : ℕ) (marks found : List ℕ) → Frontier v marks found n → Under (v + 1) marks
next_mark v n marks found G = record { size = G.size; each = λ y. omega (arith, G.top y) }

pub begin_next : (v n : ℕ) (marks found list : List ℕ) → Frontier v marks found n → length list ≡ element_places → Frontier (v + 1) marks list 0
begin_next v n marks found list G r = begin (v + 1) marks list (next_mark v n marks found G) r

module _ (m : Bytes) (a c n : ℕ) (found₀ found : List ℕ) (D : Toward found n [] (or_among found₀ 0 (stepped m a (c ∷ [])))) where
  went_down : (z : ℕ) → is_in z (take n found) ≡ is_in z (step_to m a (c ∷ []))
  unfolding is_in or_among stepped
  went_down z = sym (or_nothing (is_in z (take n found))) ∙ D.each z

  pub lowers : a < top m → All (Lower m) (take n found)
  lowers h = All_intro _ (take n found) 0 (λ l g.
      let z : ℕ = get_or (take n found) l 0 in
      let w = step_from m a z (c ∷ []) (sym (went_down z) ∙ at_is_in z (take n found) (record { place = l; place_lt = g; place_is = refl })) in
      (omega (arith, w.3), omega (arith, w.4, below_next m a, below_grows m (a + 1) (top m) (omega arith))))

  module _ (own s v : ℕ) (marks from from₁ from₂ : List ℕ) (C : Cell m c) (O : Toward from₁ own [] (with from 0 (c ∷ [])))
      (U : Added v marks from₁ own from₂ s (or_among from₁ own (stepped m (top m) (take n found)))) where
    -- c itself stands first
    is_own : (z : ℕ) → is_in z (take own from₁) ≡ is_in z (c ∷ [])
    unfolding is_in with
    is_own z = sym (or_nothing (is_in z (take own from₁))) ∙ O.each z

    own_only : (z : ℕ) → is_in z (take own from₁) ≡ true → z ≡ c
    own_only z e = at_all (λ y. y ≡ c) z (c ∷ []) (refl, tt) (is_in_at z (c ∷ []) (sym (is_own z) ∙ e))

    own_at : At c (take own from₁)
    unfolding is_in
    own_at = is_in_at c (take own from₁) (is_own c ∙ ap (λ b. b || false) (eq-eqb c c refl))

    some_own : 1 ≤ own
    some_own = omega (arith, own_at.place_lt, length-take own from₁)

    first_own : get_or from₂ 0 0 ≡ c
    first_own =
        sym (get_or-take own from₂ 0 0 some_own) ∙ ap (λ (l : List ℕ). get_or l 0 0) U.grown.front
        ∙ own_only (get_or (take own from₁) 0 0) (at_is_in _ (take own from₁) (record { place = 0; place_lt = omega (arith, own_at.place_lt); place_is = refl }))

    went_up : (z : ℕ) → is_in z (take s from₂) ≡ is_in z (take own from₁) || is_in z (near_to m a c)
    unfolding is_in or_among stepped near_to
    went_up z =
        sym (or_nothing (is_in z (take s from₂))) ∙ U.all.each z
        ∙ ap (λ (l : List ℕ). is_in z (take own from₁) || is_in z l) (step_like m (top m) (take n found) (step_to m a (c ∷ [])) went_down)

    near_cell : (z : ℕ) → is_in z (near_to m a c) ≡ true → Cell m z
    unfolding near_to
    near_cell z e = let w = step_from m (top m) z (step_to m a (c ∷ [])) e in record { low = w.3; high = w.4 }

    pub near_row : NearRow m a c from₂ 1 s
    unfolding in_row names
    near_row = record {
      rising = omega (arith, some_own, U.grown.more);
      each = λ t l h _. ⊎_elim (λ e. subst (Cell m) (sym (own_only _ e)) C) (λ e. near_cell _ e) (or_true _ _ (sym (went_up (get_or from₂ t 0)) ∙ stands t h));
      told = λ z ne. same_test _ _ (there z ne) (back z ne);
      closed = λ t u l g h e. let o : ⊥ = omega (arith, positive t (omega arith)) in absurd o;
    }
      where
        stands : (t : ℕ) → t < s → is_in (get_or from₂ t 0) (take s from₂) ≡ true
        stands t h = at_is_in (get_or from₂ t 0) (take s from₂) (record { place = t; place_lt = omega (arith, U.gathered.count); place_is = get_or-take s from₂ t 0 h })

        positive : (t : ℕ) → t < s → 1 ≤ get_or from₂ t 0
        positive t h = (at_all (λ y. (1 ≤ y) × (y ≤ most_elements)) (get_or from₂ t 0) (take s from₂) U.gathered.in_range (is_in_at _ (take s from₂) (stands t h))).0

        there : (z : ℕ) → (z ≡ c → ⊥) → some 1 (s - 1) (λ t. names (get_or from₂ t 0) z) ≡ true → is_in z (near_to m a c) ≡ true
        there z ne e =
            let w = some_witness 1 (λ t. names (get_or from₂ t 0) z) (s - 1) e in
            let y : ℕ = get_or from₂ (1 + w.0) 0 in
            let q : y ≡ z = eqb-true y z (and_true (not (eqb y 0)) (eqb y z) w.2).1 in
            ⊎_elim (λ x. absurd (ne (own_only z x))) (λ x. x)
            (or_true (is_in z (take own from₁)) (is_in z (near_to m a c)) (sym (went_up z) ∙ ap (λ y. is_in y (take s from₂)) (sym q) ∙ stands (1 + w.0) (omega (arith, w.1))))

        back : (z : ℕ) → (z ≡ c → ⊥) → is_in z (near_to m a c) ≡ true → some 1 (s - 1) (λ t. names (get_or from₂ t 0) z) ≡ true
        back z ne e =
            let t = is_in_at z (take s from₂) (went_up z ∙ or_right (is_in z (take own from₁)) (is_in z (near_to m a c)) e) in
            let h : t.place < s = omega (arith, t.place_lt, U.gathered.count) in
            go t.place h (sym (get_or-take s from₂ t.place 0 h) ∙ t.place_is)
          where
            go : (t : ℕ) → t < s → get_or from₂ t 0 ≡ z → some 1 (s - 1) (λ t. names (get_or from₂ t 0) z) ≡ true
            go zero h q = absurd (ne (sym q ∙ first_own))
            go (suc t) h q =
                some_in 1 (λ t. names (get_or from₂ t 0) z) (s - 1) (suc t) (omega arith) (omega arith)
                (and_intro (not (eqb (get_or from₂ (suc t) 0) 0)) (eqb (get_or from₂ (suc t) 0) z) (ap not (ne_eqb (get_or from₂ (suc t) 0) 0 (omega (arith, positive (suc t) h))))
                (eq-eqb (get_or from₂ (suc t) 0) z q))

-- ---- the rows one after another

-- a row that stands elsewhere, with zeros after it
module _ (m : Bytes) (a c lo hi lo' hi' : ℕ) (xs ys : List ℕ) (R : NearRow m a c xs lo hi) (wide : lo' + (hi - lo) ≤ hi')
    (same : (j : ℕ) → j < hi - lo → get_or ys (lo' + j) 0 ≡ get_or xs (lo + j) 0) (bare : (t : ℕ) → lo' + (hi - lo) ≤ t → t < hi' → get_or ys t 0 ≡ 0) where
  -- where a place of it was before
  place_of : (t : ℕ) → lo' ≤ t → t < hi' → (get_or ys t 0 ≡ 0 → ⊥) → (j : ℕ) × (j < hi - lo) × (t ≡ lo' + j)
  place_of t l h ne = go (ltb t (lo' + (hi - lo))) refl
    where
      go : (b : Bool) → ltb t (lo' + (hi - lo)) ≡ b → (j : ℕ) × (j < hi - lo) × (t ≡ lo' + j)
      go true q = let g : t < lo' + (hi - lo) = ltb-true t (lo' + (hi - lo)) q in (t - lo', omega arith, omega arith)
      go false q = absurd (ne (bare t (ltb-false t (lo' + (hi - lo)) q) h))

  not_zero : (y z : ℕ) → names y z ≡ true → y ≡ 0 → ⊥
  unfolding names
  not_zero y z e q = not_both (not (eqb y 0)) (and_true (not (eqb y 0)) (eqb y z) e).0 (ap not (eq-eqb y 0 q))

  pub row_moved : NearRow m a c ys lo' hi'
  unfolding in_row
  row_moved = record {
    rising = omega arith;
    each = λ t l h ne.
        let d = place_of t l h ne in
        let e : get_or ys t 0 ≡ get_or xs (lo + d.0) 0 = ap (λ i. get_or ys i 0) d.2 ∙ same d.0 d.1 in
        subst (Cell m) (sym e) (R.each (lo + d.0) (omega arith) (omega (arith, d.1)) (λ q. ne (e ∙ q)));
    told = λ z ne. same_test _ _ (there z) (back z) ∙ R.told z ne;
    closed = λ t u l g h e. zero t u l g h e (ltb u (lo' + (hi - lo))) refl;
  }
    where
      there : (z : ℕ) → some lo' (hi' - lo') (λ t. names (get_or ys t 0) z) ≡ true → some lo (hi - lo) (λ t. names (get_or xs t 0) z) ≡ true
      there z e =
          let w = some_witness lo' (λ t. names (get_or ys t 0) z) (hi' - lo') e in
          let d = place_of (lo' + w.0) (omega arith) (omega (arith, w.1)) (not_zero (get_or ys (lo' + w.0) 0) z w.2) in
          some_has lo (λ t. names (get_or xs t 0) z) (hi - lo) d.0 d.1 (ap (λ y. names y z) (sym (same d.0 d.1) ∙ ap (λ i. get_or ys i 0) (sym d.2)) ∙ w.2)

      back : (z : ℕ) → some lo (hi - lo) (λ t. names (get_or xs t 0) z) ≡ true → some lo' (hi' - lo') (λ t. names (get_or ys t 0) z) ≡ true
      back z e =
          let w = some_witness lo (λ t. names (get_or xs t 0) z) (hi - lo) e in
          some_has lo' (λ t. names (get_or ys t 0) z) (hi' - lo') w.0 (omega (arith, w.1)) (ap (λ y. names y z) (same w.0 w.1) ∙ w.2)

      zero : (t u : ℕ) → lo' ≤ t → t ≤ u → u < hi' → get_or ys t 0 ≡ 0 → (b : Bool) → ltb u (lo' + (hi - lo)) ≡ b → get_or ys u 0 ≡ 0
      zero t u l g h e true q =
          let r : u < lo' + (hi - lo) = ltb-true u (lo' + (hi - lo)) q in
          let te : lo' + (t - lo') ≡ t = omega arith in
          let ue : lo' + (u - lo') ≡ u = omega arith in
          ap (λ i. get_or ys i 0) (sym ue) ∙ same (u - lo') (omega arith)
          ∙ R.closed (lo + (t - lo')) (lo + (u - lo')) (omega arith) (omega arith) (omega (arith, R.rising)) (sym (same (t - lo') (omega arith)) ∙ ap (λ i. get_or ys i 0) te ∙ e)
      zero t u l g h e false q = bare u (ltb-false u (lo' + (hi - lo)) q) h

pub rows_start : (m : Bytes) (a w : ℕ) (near : List ℕ) → Zeros element_places near → Filled m a near w 0
rows_start m a w near K = record { rows = record { each = λ q h. let o : ⊥ = omega arith in absurd o }; bare = λ i h. K.each i }

module _ (m : Bytes) (a q w s c : ℕ) (from near near' : List ℕ) (F : Filled m a near w q) (R : NearRow m a c from 1 s) (ce : c ≡ first_cell m + q) (few : s - 1 ≤ w)
    (fits : s ≤ length from) (M : RowPut near (q * w) (take s from) near') where
  len : length (take s from) ≡ s
  len = omega (arith, length-take s from)

  put : (j : ℕ) → j < s - 1 → get_or near' (q * w + j) 0 ≡ get_or from (1 + j) 0
  put j l = M.here j (omega (arith, len)) ∙ get_or-take s from (1 + j) 0 (omega arith)

  kept : (j : ℕ) → j < q * w → get_or near' j 0 ≡ get_or near j 0
  kept j l = M.before j l

  bare_after : (i : ℕ) → q * w + (s - 1) ≤ i → get_or near' i 0 ≡ 0
  bare_after i l = M.after i (omega (arith, len)) ∙ F.bare i (omega arith)

  row_new : NearRow m a (first_cell m + q) near' (q * w) (q * w + w)
  row_new =
      subst (λ x. NearRow m a x near' (q * w) (q * w + w)) ce
      (row_moved m a c 1 s (q * w) (q * w + w) from near' R (omega arith) put (λ t l h. bare_after t l))

  row_old : (p : ℕ) → p < q → NearRow m a (first_cell m + p) near' (p * w) (p * w + w)
  row_old p l =
      let b : p * w + w ≤ q * w = omega (arith, mul-le-mul_right {m = p + 1} {n = q} w (omega arith)) in
      row_moved m a (first_cell m + p) (p * w) (p * w + w) (p * w) (p * w + w) near near' (F.rows.each p l) (omega arith) (λ j g. kept (p * w + j) (omega arith))
      (λ t g h. let o : ⊥ = omega arith in absurd o)

  pub rows_turn : Filled m a near' w (q + 1)
  rows_turn = record {
    rows = record { each = λ p l. go p l (eqb p q) refl };
    bare = λ i l. bare_after i (omega arith);
  }
    where
      go : (p : ℕ) → p < q + 1 → (b : Bool) → eqb p q ≡ b → NearRow m a (first_cell m + p) near' (p * w) (p * w + w)
      go p l true e = subst (λ i. NearRow m a (first_cell m + i) near' (i * w) (i * w + w)) (sym (eqb-true p q e)) row_new
      go p l false e = let n : p ≡ q → ⊥ = eqb-false p q e in row_old p (omega arith)

pub rows_end : (m : Bytes) (a q n w : ℕ) (near : List ℕ) → q ≤ n → n ≤ q → n ≡ cell_count m → Filled m a near w q → NearRows m a near w (cell_count m)
rows_end m a q n w near g h e F = let z : q ≡ cell_count m = omega arith in subst (NearRows m a near w) z F.rows

-- ---- what the calls suppose

pub under_more : (v w : ℕ) (marks : List ℕ) → v ≤ w → Under v marks → Under w marks
under_more v w marks h U = record { size = U.size; each = λ y. omega (arith, U.each y) }

pub row_room : (q n k w : ℕ) → q < n → n ≡ k → k * w ≤ element_places → q * w + w ≤ element_places
row_room q n k w h e b = omega (arith, mul-le-mul_right {m = q + 1} {n = k} w (omega arith))

module _ (m : Bytes) (A : Accepted m) (first cells q : ℕ) (fe : first ≡ first_cell m) (ce : cells ≡ cell_count m) (h : q < cells) where
  pub cell_at : Cell m (first + q)
  cell_at = record { low = omega arith; high = omega arith }

  pub cell_high : first + q ≤ most_elements
  cell_high = omega (arith, A.cells_in, A.sizes.n_high)

  pub place_high : q < most_elements
  place_high = omega (arith, A.cells_in, A.sizes.n_high)

-- ---- the width

pub some_cells : (m : Bytes) (cells : ℕ) → Accepted m → cells ≡ cell_count m → 1 ≤ cells
some_cells m cells A e = omega (arith, A.some_counted (top m) (omega arith))

module _ (m : Bytes) (cells w : ℕ) (A : Accepted m) (e : cells ≡ cell_count m) where
  pub rows_fit : w ≤ element_places / cells → cell_count m * w ≤ element_places
  rows_fit h = subst (λ k. k * w ≤ element_places) e (le_trans (mul-le-mul_left cells h) (mul-div-le element_places cells))

pub through : (m st : Bytes) (w : Incidence) (a : ℕ) → Ground m st w → 2 ≤ length st → a ≡ byte_at st 1 → a < top m
through m st w a G h e = omega (arith, stencil_odd (top m) st G.stencil 1 (omega arith) refl)

-- ---- what is ready

pub ready_steps : (m st : Bytes) (v : ℕ) (s : Space) → Under v s.marks → v ≤ 4001 → Zeros element_places s.layers → WalksReady m st None 4001 s
ready_steps m st v s U h K = record {
  marks_low = under_more v 4001 s.marks h U;
  rows = λ w e. absurd (none-some w e);
  steps = λ _. K;
}

pub ready_rows : (k : Walker) (a w : ℕ) (s : Space) → Grounded k → k.single ≡ true → a ≡ byte_at k.stencil.now 1 → cell_count k.mesh.now * w ≤ element_places
    → NearRows k.mesh.now a s.layers w (cell_count k.mesh.now) → Under 4001 s.marks → Zeros element_places s.from → WalksReady k.mesh.now k.stencil.now (Some w) 4001 s
ready_rows k a w s G t e fit R U K = record {
  marks_low = U;
  rows = λ v i. subst (λ w. NearGround k.mesh.now k.stencil.now s.layers w × Zeros element_places s.from) (same_Some w v i) (
    record {
      mesh = G.ground.turned.mesh;
      stencil = G.ground.stencil;
      one = sym G.single_is ∙ t;
      rows = subst (λ x. NearRows k.mesh.now x s.layers w (cell_count k.mesh.now)) e R;
      room = fit;
    },
    K,
  );
  steps = λ i. absurd (none-some w (sym i));
}
