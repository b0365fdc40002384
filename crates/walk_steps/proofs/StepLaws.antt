-- What the steps of the code gather is what a step of a walk reaches. Assumes nothing.
use mathlib.Core.Path.{◌≡◌, refl, sym, ap, ap₂, ◌∙◌}
use mathlib.Core.Bool.{Bool, true, false, ◌||◌, ◌&&◌, cond}
use mathlib.Core.List.{List, [], ◌∷◌}
use Prim.Native.Nat.{ℕ, ◌+◌, ◌≤◌, ◌<◌}
use native.Mathlib.Omega.{arith}
use lib.Dec.{eqb, ltb, leb}
use lib.ListN.{length, get_or}
use borrow.Author.Tests.{eqb-true, lt-ltb, le-leb, ltb-true, leb-true}
use Rattle.vocabulary.specs.Bytes.{Bytes}
use Rattle.vocabulary.specs.Intervals.{picked, some, blocks}
use Rattle.vocabulary.proofs.IntervalLaws.{some_none, some_has, some_witness, some_cong, picked_in, picked_passes, is_in_blocks}
use Rattle.vocabulary.specs.Lists.{is_in, some_of, All}
use Rattle.vocabulary.proofs.ListLaws.{or_nothing, All_intro, is_in_at, at_is_in, not_is_in, and_true, and_intro, same_test, some_of_cong, some_of_has, some_of_witness, All_map, All_get_or}
use Rattle.layout.specs.Limits.{most_elements, record_places}
use Rattle.mesh.specs.Mesh.{top, counted, below, first_cell, cell_count, dimension, chain}
use Rattle.mesh.specs.Walks.{incident, step_to}
use Rattle.mesh.specs.Accepted.{Accepted, Cell}
use Rattle.mesh.proofs.DimensionLaws.{below_next, dimension_le}
use Rattle.mesh.proofs.WalkLaws.{below_grows}
use Rattle.walk_incidence.specs.declared.inner.Incidence.{Incidence}
use Rattle.walk_frontier.specs.Visits.{between, down, up, Upward}
use Rattle.walk_incidence.specs.Links.{trail, is_cell_number, Inverted}
use Rattle.walk_steps.specs.Walking.{Lower, stepped}

-- ---- lists by what stands in them

-- a test of some element goes by what stands in the list
pub some_of_like : (xs ys : List ℕ) (p : ℕ → Bool) → ((z : ℕ) → is_in z xs ≡ is_in z ys) → some_of xs p ≡ some_of ys p
some_of_like xs ys p like = same_test (some_of xs p) (some_of ys p) (over' xs ys like) (over' ys xs (λ z. sym (like z)))
  where
    over' : (xs ys : List ℕ) → ((z : ℕ) → is_in z xs ≡ is_in z ys) → some_of xs p ≡ true → some_of ys p ≡ true
    over' xs ys like e =
        let w = some_of_witness p xs 0 e in
        let a = is_in_at (get_or xs w.0 0) ys (sym (like (get_or xs w.0 0)) ∙ at_is_in _ xs (record { place = w.0; place_lt = w.1; place_is = refl })) in
        some_of_has p ys 0 a.place a.place_lt (ap p a.place_is ∙ w.2)

is_in_between : (lo hi z : ℕ) (xs : List ℕ) → is_in z (between lo hi xs) ≡ (ltb lo z && leb z hi) && is_in z xs
unfolding between is_in
is_in_between lo hi z [] = sym (and_none (ltb lo z && leb z hi))
  where
    and_none : (b : Bool) → b && false ≡ false
    and_none true = refl
    and_none false = refl
is_in_between lo hi z (x ∷ xs) = go (eqb z x) refl (ltb lo x && leb x hi) refl (is_in_between lo hi z xs)
  where
    or_same : (b c : Bool) → b || (b && c) ≡ b
    or_same true c = refl
    or_same false c = refl

    go : (e : Bool) → eqb z x ≡ e → (b : Bool) → ltb lo x && leb x hi ≡ b → is_in z (between lo hi xs) ≡ (ltb lo z && leb z hi) && is_in z xs
        → is_in z (cond b (x ∷ between lo hi xs) (between lo hi xs)) ≡ (ltb lo z && leb z hi) && (e || is_in z xs)
    go true e true f ih =
        let s : z ≡ x = eqb-true z x e in
        let t : ltb lo z && leb z hi ≡ true = ap (λ k. ltb lo k && leb k hi) s ∙ f in
        ap (λ k. k || is_in z (between lo hi xs)) e ∙ sym (ap (λ k. k && true) t)
    go true e false f ih =
        let s : z ≡ x = eqb-true z x e in
        let t : ltb lo z && leb z hi ≡ false = ap (λ k. ltb lo k && leb k hi) s ∙ f in
        ih ∙ ap (λ k. k && is_in z xs) t ∙ sym (ap (λ k. k && true) t)
    go false e true f ih = ap (λ k. k || is_in z (between lo hi xs)) e ∙ ih
    go false e false f ih = ih

-- the elements of some of the numbers in a list, those being read by their places
some_of_list : (xs : List ℕ) (p : ℕ → Bool) → some 0 (length xs) (λ j. p (get_or xs j 0)) ≡ some_of xs p
some_of_list xs p = same_test (some 0 (length xs) (λ j. p (get_or xs j 0))) (some_of xs p) left right
  where
    left : some 0 (length xs) (λ j. p (get_or xs j 0)) ≡ true → some_of xs p ≡ true
    left e =
        let w = some_witness 0 (λ j. p (get_or xs j 0)) (length xs) e in
        let q : 0 + w.0 ≡ w.0 = omega arith in
        some_of_has p xs 0 w.0 w.1 (ap (λ k. p (get_or xs k 0)) (sym q) ∙ w.2)

    right : some_of xs p ≡ true → some 0 (length xs) (λ j. p (get_or xs j 0)) ≡ true
    right e =
        let w = some_of_witness p xs 0 e in
        let q : 0 + w.0 ≡ w.0 = omega arith in
        some_has 0 (λ j. p (get_or xs j 0)) (length xs) w.0 w.1 (ap (λ k. p (get_or xs k 0)) q ∙ w.2)

is_in_picked : (a n z : ℕ) (p : ℕ → Bool) → is_in z (picked a n p) ≡ (leb a z && ltb z (a + n)) && p z
is_in_picked a n z p = same_test _ _ left right
  where
    left : is_in z (picked a n p) ≡ true → (leb a z && ltb z (a + n)) && p z ≡ true
    left e = let w = picked_passes a p n z (is_in_at z (picked a n p) e) in and_intro _ _ (and_intro _ _ (le-leb a z w.0) (lt-ltb z (a + n) w.1)) w.2

    right : (leb a z && ltb z (a + n)) && p z ≡ true → is_in z (picked a n p) ≡ true
    right e =
        let w = and_true (leb a z && ltb z (a + n)) (p z) e in
        let u = and_true (leb a z) (ltb z (a + n)) w.0 in
        at_is_in z (picked a n p) (picked_in a p n z (leb-true a z u.0) (ltb-true z (a + n) u.1) w.1)

some_and : (b : Bool) (n : ℕ) (q : ℕ → Bool) → some 0 n (λ j. b && q j) ≡ b && some 0 n q
some_and true n q = refl
some_and false n q = some_none 0 (λ j. false) n (λ i h. refl)

-- ---- a step leads from an element to an incident one, of its dimension

module _ (m : Bytes) (a z : ℕ) (es : List ℕ) where
  pub step_from : is_in z (step_to m a es) ≡ true → (x : ℕ) × (is_in x es ≡ true) × (incident m x z ≡ true) × (below m a + 1 ≤ z) × (z < below m a + 1 + counted m a)
  unfolding step_to
  step_from e =
      let w = picked_passes (below m a + 1) (λ x. some_of es (λ e. incident m e x)) (counted m a) z (is_in_at z _ e) in
      let u = some_of_witness (λ e. incident m e z) es 0 w.2 in
      (get_or es u.0 0, at_is_in _ es (record { place = u.0; place_lt = u.1; place_is = refl }), u.2, w.0, w.1)

  pub step_to_lem : (x : ℕ) → is_in x es ≡ true → incident m x z ≡ true → below m a + 1 ≤ z → z < below m a + 1 + counted m a → is_in z (step_to m a es) ≡ true
  unfolding step_to
  step_to_lem x i e l h =
      let t = is_in_at x es i in
      at_is_in z _ (picked_in (below m a + 1) (λ x. some_of es (λ e. incident m e x)) (counted m a) z l h
      (some_of_has (λ e. incident m e z) es 0 t.place t.place_lt (ap (λ y. incident m y z) t.place_is ∙ e)))

-- ---- a cell and a lower element

module _ (m : Bytes) (A : Accepted m) where
  -- no cell stands in the chain of a lower element
  no_cell : (x y : ℕ) → 1 ≤ x → x ≤ below m (top m) → Cell m y → is_in y (chain m x) ≡ false
  no_cell x y l h c =
      not_is_in y (chain m x) (λ a.
      let w = All_get_or (λ g. (1 ≤ g) × (g ≤ below m (dimension m x))) (chain m x) a.place 0
      (A.chain_lower x (record { low = l; high = omega (arith, below_grows m (top m) 4 (omega (arith, A.sizes.d_high))) })) a.place_lt in
      let z : ⊥ = omega (arith, w.1, a.place_is, below_grows m (dimension m x) (top m) (dimension_le m x), c.low) in z)

  from_cell : (x y : ℕ) → 1 ≤ x → x ≤ below m (top m) → Cell m y → incident m y x ≡ is_in x (chain m y)
  unfolding incident
  from_cell x y l h c = ap (λ b. b || is_in x (chain m y)) (no_cell x y l h c)

  to_cell : (x y : ℕ) → 1 ≤ x → x ≤ below m (top m) → Cell m y → incident m x y ≡ is_in x (chain m y)
  unfolding incident
  to_cell x y l h c = ap (λ b. is_in x (chain m y) || b) (no_cell x y l h c) ∙ or_nothing (is_in x (chain m y))

  -- ---- down

  pub down_told : (a lo hi : ℕ) (from : List ℕ) → a < top m → lo ≡ below m a → hi ≡ below m (a + 1) → All (Cell m) from → (z : ℕ)
      → is_in z (blocks 0 (length from) (down m lo hi from)) ≡ stepped m a from z
  unfolding stepped step_to down
  down_told a lo hi from small le he C z =
      is_in_blocks z 0 (length from) (down m lo hi from)
      ∙ some_cong 0 _ _ (length from) (λ i h. is_in_between lo hi z (chain m (get_or from (0 + i) 0)))
      ∙ some_and (ltb lo z && leb z hi) (length from) (λ j. is_in z (chain m (get_or from j 0)))
      ∙ ap (λ b. (ltb lo z && leb z hi) && b) (some_of_list from (λ e. is_in z (chain m e)))
      ∙ go (ltb lo z && leb z hi) refl
      ∙ sym (is_in_picked (below m a + 1) (counted m a) z (λ x. some_of from (λ e. incident m e x)))
    where
      next : hi ≡ below m a + counted m a
      next = he ∙ below_next m a

      range : leb (below m a + 1) z && ltb z (below m a + 1 + counted m a) ≡ ltb lo z && leb z hi
      range = same_test _ _
          (λ e. let w = and_true (leb (below m a + 1) z) (ltb z (below m a + 1 + counted m a)) e in
          and_intro _ _ (lt-ltb lo z (omega (arith, leb-true (below m a + 1) z w.0))) (le-leb z hi (omega (arith, ltb-true z (below m a + 1 + counted m a) w.1, next))))
          (λ e. let w = and_true (ltb lo z) (leb z hi) e in
          and_intro _ _ (le-leb (below m a + 1) z (omega (arith, ltb-true lo z w.0))) (lt-ltb z (below m a + 1 + counted m a) (omega (arith, leb-true z hi w.1, next))))

      go : (b : Bool) → ltb lo z && leb z hi ≡ b
          → (ltb lo z && leb z hi) && some_of from (λ e. is_in z (chain m e))
          ≡ (leb (below m a + 1) z && ltb z (below m a + 1 + counted m a)) && some_of from (λ e. incident m e z)
      go true e =
          let w = and_true (ltb lo z) (leb z hi) e in
          let l : 1 ≤ z = omega (arith, ltb-true lo z w.0) in
          let h : z ≤ below m (top m) = omega (arith, leb-true z hi w.1, he, below_grows m (a + 1) (top m) (omega arith)) in
          ap₂ ◌&&◌ (sym range) (some_of_cong _ _ from (All_map from (λ y c. sym (from_cell z y l h c)) C))
      go false e =
          ap (λ b. b && some_of from (λ e. is_in z (chain m e))) e
          ∙ sym (ap (λ b. b && some_of from (λ e. incident m e z)) (range ∙ e))

  -- ---- up

  module _ (w : Incidence) (from : List ℕ) (T : Inverted m w) (L : All (Lower m) from) where
    lower_at : (j : ℕ) → j < length from → Lower m (get_or from j 0)
    lower_at j h = All_get_or (Lower m) from j 0 L h

    lower_small : (j : ℕ) → j < length from → get_or from j 0 ≤ most_elements
    lower_small j h = omega (arith, (lower_at j h).1, below_grows m (top m) 4 (omega (arith, A.sizes.d_high)), A.sizes.n_high)

    pub up_told : (z : ℕ) → is_in z (blocks 0 (length from) (up w from)) ≡ stepped m (top m) from z
    unfolding stepped step_to up is_cell_number
    up_told z =
        is_in_blocks z 0 (length from) (up w from)
        ∙ some_cong 0 _ (λ j. is_cell_number m z && is_in (get_or from j 0) (chain m z)) (length from) (λ i h. told i h)
        ∙ some_and (is_cell_number m z) (length from) (λ j. is_in (get_or from j 0) (chain m z))
        ∙ ap (λ b. is_cell_number m z && b) (some_of_list from (λ x. is_in x (chain m z)))
        ∙ go (is_cell_number m z) refl
        ∙ sym (is_in_picked (first_cell m) (cell_count m) z (λ y. some_of from (λ x. incident m x y)))
      where
        told : (i : ℕ) → i < length from
            → is_in z (trail w.cell w.prev record_places (get_or w.last (get_or from (0 + i) 0) 0)) ≡ is_cell_number m z && is_in (get_or from (0 + i) 0) (chain m z)
        told i h = let q : 0 + i ≡ i = omega arith in rw q (T.told (get_or from i 0) z (lower_small i h))

        go : (b : Bool) → is_cell_number m z ≡ b → is_cell_number m z && some_of from (λ x. is_in x (chain m z)) ≡ is_cell_number m z && some_of from (λ x. incident m x z)
        go true e =
            let w = and_true (leb (first_cell m) z) (ltb z (first_cell m + cell_count m)) e in
            let c : Cell m z = record { low = leb-true _ _ w.0; high = ltb-true _ _ w.1 } in
            ap (λ b. is_cell_number m z && b) (some_of_cong _ _ from (All_map from (λ x l. sym (to_cell x z l.0 l.1 c)) L))
        go false e = ap (λ b. b && some_of from (λ x. is_in x (chain m z))) e ∙ sym (ap (λ b. b && some_of from (λ x. incident m x z)) e)

    -- what a step up gathers are cells, and so elements
    pub upward : Upward w from (length from)
    unfolding up is_cell_number
    upward = record { each = λ j h. All_intro _ (cells (get_or from j 0)) 0 (λ l k. fits (get_or from j 0) (lower_small j h) l k) }
      where
        cells : ℕ → List ℕ
        cells x = trail w.cell w.prev record_places (get_or w.last x 0)

        fits : (x : ℕ) → x ≤ most_elements → (l : ℕ) → l < length (cells x) → (1 ≤ get_or (cells x) l 0) × (get_or (cells x) l 0 ≤ most_elements)
        fits x h l k =
            let y = get_or (cells x) l 0 in
            let t = sym (T.told x y h) ∙ at_is_in y (cells x) (record { place = l; place_lt = k; place_is = refl }) in
            let w = and_true (leb (first_cell m) y && ltb y (first_cell m + cell_count m)) (is_in x (chain m y)) t in
            let u = and_true (leb (first_cell m) y) (ltb y (first_cell m + cell_count m)) w.0 in
            (omega (arith, leb-true (first_cell m) y u.0), omega (arith, ltb-true y (first_cell m + cell_count m) u.1, A.cells_in, A.sizes.n_high))
