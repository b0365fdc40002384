-- A walk that goes two steps at a time, by the rows of near cells, gives the cells the layers of the walk that goes step by step. Assumes nothing.
use mathlib.Core.Path.{◌≡◌, refl, sym, ap, ap₂, ◌∙◌, subst}
use mathlib.Core.Bool.{Bool, true, false, not, ◌||◌, ◌&&◌, cond}
use mathlib.Core.List.{List, [], ◌∷◌}
use Prim.Native.Nat.{ℕ, suc, ◌+◌, ◌-◌, ◌*◌, ◌/◌, ◌%◌, ◌≤◌, ◌<◌}
use native.Mathlib.Nat.{zero-add, mul-le-mul_right}
use native.Mathlib.Omega.{arith}
use lib.Dec.{eqb, ltb}
use lib.ListN.{length, get_or, take, length-take}
use lib.Seq.{get_or-take}
use borrow.Author.Tests.{eqb-true, eqb-false, eq-eqb, ne_eqb, ltb-true, ltb-false}
use Rattle.vocabulary.specs.Bytes.{Bytes, byte_at}
use Rattle.vocabulary.specs.Intervals.{picked, some}
use Rattle.vocabulary.proofs.IntervalLaws.{picked_some, some_in, some_witness}
use Rattle.vocabulary.specs.Lists.{is_in, repeats, All, Zeros}
use Rattle.vocabulary.proofs.ListLaws.{and_true, and_intro, not_both, same_test, eqb_swap, is_in_at, at_is_in, at_all, All_intro}
use Rattle.layout.specs.Limits.{element_places, most_elements}
use Rattle.mesh.specs.Mesh.{top, first_cell, cell_count}
use Rattle.mesh.specs.Walks.{step_to}
use Rattle.mesh.proofs.WalkLaws.{stencil_parts, stencil_even}
use Rattle.mesh.specs.Accepted.{Accepted, Cell}
use Rattle.walk_steps.specs.Walking.{walked_from, first_mark, layer_mark, noted, Within, Widened}
use Rattle.walk_steps.proofs.StepLaws.{step_from, step_to_lem}
use Rattle.walk_steps.proofs.WalkLaws.{walked_even, alike_places, layer_more, marked_by}
use Rattle.walk_near_cells.specs.NearCells.{near_to, NearRow, NearGround, LayerList, Spread, RowFits, from_cell, from_level, LevelFits, Level, Layered}

-- ---- what has a layer was walked to

module _ (m st : Bytes) (cs : List ℕ) (k z : ℕ) where
  -- a walk of i steps ends at z, a cell
  abbrev ends_at : ℕ → Bool
  ends_at i = eqb (i % 2) 0 && is_in z (walked_from m st cs i)

  by_steps : not (eqb (layer_mark m st cs k z) 0) ≡ some 0 (k + 1) ends_at
  unfolding layer_mark
  by_steps = marked_by (picked 0 (k + 1) ends_at) ∙ picked_some 0 ends_at (k + 1)

  layer_from : not (eqb (layer_mark m st cs k z) 0) ≡ true → (i : ℕ) × (i ≤ k) × (i % 2 ≡ 0) × (is_in z (walked_from m st cs i) ≡ true)
  layer_from e =
      let w = some_witness 0 ends_at (k + 1) (sym by_steps ∙ e) in
      let u = and_true (eqb (w.0 % 2) 0) (is_in z (walked_from m st cs w.0)) (ap ends_at (sym (zero-add w.0)) ∙ w.2) in
      (w.0, omega (arith, w.1), eqb-true (w.0 % 2) 0 u.0, u.1)

  layer_by : (i : ℕ) → i ≤ k → i % 2 ≡ 0 → is_in z (walked_from m st cs i) ≡ true → not (eqb (layer_mark m st cs k z) 0) ≡ true
  layer_by i h o e = by_steps ∙ some_in 0 ends_at (k + 1) i (omega arith) (omega arith) (and_intro (eqb (i % 2) 0) (is_in z (walked_from m st cs i)) (eq-eqb (i % 2) 0 o) e)

-- ---- two steps, down and up, from some of the cells es

module _ (m : Bytes) (a z : ℕ) (es : List ℕ) where
  two_from : is_in z (step_to m (top m) (step_to m a es)) ≡ true → (x : ℕ) × (is_in x es ≡ true) × (is_in z (near_to m a x) ≡ true)
  unfolding near_to is_in
  two_from e =
      let w = step_from m (top m) z (step_to m a es) e in
      let u = step_from m a w.0 es w.1 in (
        u.0,
        u.1,
        step_to_lem m (top m) z (step_to m a (u.0 ∷ [])) w.0
            (step_to_lem m a w.0 (u.0 ∷ []) u.0 (ap (λ b. b || false) (eq-eqb u.0 u.0 refl)) u.2 u.3 u.4) w.2 w.3 w.4,
      )

  two_to : (x : ℕ) → is_in x es ≡ true → is_in z (near_to m a x) ≡ true → is_in z (step_to m (top m) (step_to m a es)) ≡ true
  unfolding near_to
  two_to x i e =
      let w = step_from m (top m) z (step_to m a (x ∷ [])) e in
      let u = step_from m a w.0 (x ∷ []) w.1 in
      let q : u.0 ≡ x = at_all (λ y. y ≡ x) u.0 (x ∷ []) (refl, tt) (is_in_at u.0 (x ∷ []) u.1) in
      step_to_lem m (top m) z (step_to m a es) w.0 (step_to_lem m a w.0 es u.0 (ap (λ y. is_in y es) q ∙ i) u.2 u.3 u.4) w.2 w.3 w.4

module _ (m st : Bytes) (near : List ℕ) (w : ℕ) (G : NearGround m st near w) (c : ℕ) (C : Cell m c) where
  abbrev walks : ℕ → List ℕ
  walks k = walked_from m st (c ∷ []) k

  abbrev mark : ℕ → ℕ → ℕ
  mark k z = layer_mark m st (c ∷ []) k z

  two_more : (k : ℕ) → k % 2 ≡ 0 → suc (suc k) < length st → walks (suc (suc k)) ≡ step_to m (top m) (step_to m (byte_at st 1) (walks k))
  unfolding walked_from
  two_more k o h =
      ap₂ (λ d a. step_to m d (step_to m a (walks k))) (stencil_even (top m) st G.stencil (suc (suc k)) h (omega arith))
      (alike_places m st G.mesh G.stencil (c ∷ []) (C, tt) G.one (suc k) 1 (omega arith) (omega arith) (omega arith))

  -- what a walk goes on to by two steps
  near_walked : (k x z : ℕ) → k % 2 ≡ 0 → suc (suc k) < length st → is_in x (walks k) ≡ true → is_in z (near_to m (byte_at st 1) x) ≡ true → is_in z (walks (suc (suc k))) ≡ true
  near_walked k x z o h i e = ap (is_in z) (two_more k o h) ∙ two_to m (byte_at st 1) z (walks k) x i e

  module _ (first : ℕ) (fe : first ≡ first_cell m) where
    row_at : (x : ℕ) → Cell m x → NearRow m (byte_at st 1) x near ((x - first) * w) ((x - first) * w + w)
    row_at x K =
        let e : first_cell m + (x - first) ≡ x = omega (arith, K.low) in
        subst (λ y. NearRow m (byte_at st 1) y near ((x - first) * w) ((x - first) * w + w)) e (G.rows.each (x - first) (omega (arith, K.low, K.high)))

    row_told : (x z : ℕ) → Cell m x → (z ≡ x → ⊥) → from_cell near w first x z ≡ is_in z (near_to m (byte_at st 1) x)
    unfolding from_cell
    row_told x z K n = (row_at x K).told z n

    row_room : (x : ℕ) → Cell m x → (x - first) * w + w ≤ element_places
    row_room x K = omega (arith, G.room, mul-le-mul_right {m = x - first + 1} {n = cell_count m} w (omega (arith, K.low, K.high)))

    -- ---- one level

    module _ (k old met : ℕ) (layers found : List ℕ) (o : k % 2 ≡ 0) (L : Level m st c k layers found old met) where
      has_layer : (x : ℕ) → is_in x (take met found) ≡ not (eqb (mark k x) 0)
      has_layer x = sym (L.listed.marked x) ∙ ap (λ y. not (eqb y 0)) (L.layered x)

      cell_of : (x : ℕ) → k < length st → is_in x (take met found) ≡ true → Cell m x
      cell_of x h e =
          let w = layer_from m st (c ∷ []) k x (sym (has_layer x) ∙ e) in
          walked_even m st G.mesh G.stencil (c ∷ []) (C, tt) w.0 x (omega (arith, w.1)) w.2 w.3

      found_at : (i : ℕ) → i < met → is_in (get_or found i 0) (take met found) ≡ true
      found_at i h = at_is_in (get_or found i 0) (take met found) (record { place = i; place_lt = omega (arith, L.listed.count); place_is = get_or-take met found i 0 h })

      pub level_fits : k < length st → LevelFits near w first found old met
      level_fits h = record {
        rising = L.rising;
        cells = λ i a b. omega (arith, (cell_of (get_or found i 0) h (found_at i b)).low);
        room = λ i a b. row_room (get_or found i 0) (cell_of (get_or found i 0) h (found_at i b));
        rows = λ i a b. row_fits (row_at (get_or found i 0) (cell_of (get_or found i 0) h (found_at i b)));
      }
        where
          row_fits : {a x lo hi : ℕ} → NearRow m a x near lo hi → RowFits near lo hi
          row_fits {a} {x} {lo} {hi} R = record { rising = R.rising; each = λ t l g. small t l g (eqb (get_or near t 0) 0) refl; closed = R.closed }
            where
              small : (t : ℕ) → lo ≤ t → t < hi → (b : Bool) → eqb (get_or near t 0) 0 ≡ b → get_or near t 0 ≤ most_elements
              small t l g true q = omega (arith, eqb-true (get_or near t 0) 0 q)
              small t l g false q = omega (arith, (R.each t l g (eqb-false (get_or near t 0) 0 q)).high, G.mesh.cells_in, G.mesh.sizes.n_high)

      module _ (h : suc (suc k) < length st) (z : ℕ) (none : eqb (mark k z) 0 ≡ true) where
        -- z has no layer, so no walk of at most k steps ends there
        no_walk : {A : Type 0} (i : ℕ) → i ≤ k → i % 2 ≡ 0 → is_in z (walks i) ≡ true → A
        no_walk i l p e = absurd (not_both (not (eqb (mark k z) 0)) (layer_by m st (c ∷ []) k z i l p e) (ap not none))

        other : (x : ℕ) → is_in x (take met found) ≡ true → z ≡ x → ⊥
        other x e q = not_both (not (eqb (mark k z) 0)) (ap (λ y. not (eqb (mark k y) 0)) q ∙ sym (has_layer x) ∙ e) (ap not none)

        there : from_level near w first found old met z ≡ true → is_in z (walks (suc (suc k))) ≡ true
        unfolding from_level
        there e =
            let w = some_witness old (λ i. from_cell near w first (get_or found i 0) z) (met - old) e in
            let x : ℕ = get_or found (old + w.0) 0 in
            let i : is_in x (take met found) ≡ true = found_at (old + w.0) (omega (arith, w.1)) in
            let u = layer_from m st (c ∷ []) k x (sym (has_layer x) ∙ i) in
            let n : is_in z (near_to m (byte_at st 1) x) ≡ true = sym (row_told x z (cell_of x (omega arith) i) (other x i)) ∙ w.2 in
            go u.0 u.1 u.2 (near_walked u.0 x z u.2 (omega (arith, u.1)) u.3 n) (eqb u.0 k) refl
          where
            go : (i : ℕ) → i ≤ k → i % 2 ≡ 0 → is_in z (walks (suc (suc i))) ≡ true → (b : Bool) → eqb i k ≡ b → is_in z (walks (suc (suc k))) ≡ true
            go i l p t true q = subst (λ j. is_in z (walks (suc (suc j))) ≡ true) (eqb-true i k q) t
            go i l p t false q = let n : i ≡ k → ⊥ = eqb-false i k q in no_walk (suc (suc i)) (omega arith) (omega arith) t

        back : is_in z (walks (suc (suc k))) ≡ true → from_level near w first found old met z ≡ true
        unfolding from_level
        back e =
            let w = two_from m (byte_at st 1) z (walks k) (ap (is_in z) (sym (two_more k o h)) ∙ e) in
            let i : is_in w.0 (take met found) ≡ true = has_layer w.0 ∙ layer_by m st (c ∷ []) k w.0 k (omega arith) o w.1 in
            let t = is_in_at w.0 (take met found) i in
            let l : t.place < met = omega (arith, t.place_lt, L.listed.count) in
            go t.place l (sym (get_or-take met found t.place 0 l) ∙ t.place_is) i w.2 (ltb t.place old) refl
          where
            go : {x : ℕ} (t : ℕ) → t < met → get_or found t 0 ≡ x → is_in x (take met found) ≡ true → is_in z (near_to m (byte_at st 1) x) ≡ true → (b : Bool) → ltb t old ≡ b
                → some old (met - old) (λ i. from_cell near w first (get_or found i 0) z) ≡ true
            go {x} t l q i n true p =
                let g : t < old = ltb-true t old p in
                let f : t < length (take old found) = omega (arith, length-take old found, L.rising, L.listed.few, L.listed.room) in
                let P = L.past x (at_is_in x (take old found) (record { place = t; place_lt = f; place_is = get_or-take old found t 0 g ∙ q })) in
                no_walk (suc (suc P.steps)) (omega (arith, P.few)) (omega (arith, P.even)) (near_walked P.steps x z P.even (omega (arith, P.few)) P.ends n)
            go {x} t l q i n false p =
                let g : old ≤ t = ltb-false t old p in
                some_in old (λ i. from_cell near w first (get_or found i 0) z) (met - old) t g (omega arith)
                (ap (λ y. from_cell near w first y z) q ∙ row_told x z (cell_of x (omega arith) i) (other x i) ∙ n)

      module _ (h : suc (suc k) < length st) (s : ℕ) (layers' found' : List ℕ) (S : Spread (k + 2) layers found met layers' found' s (from_level near w first found old met)) where
        two : k + 2 ≡ suc (suc k)
        two = omega arith

        -- the odd step between gives no cell a layer
        skipped : (z : ℕ) → mark (suc k) z ≡ mark k z
        unfolding noted
        skipped z = layer_more m st (c ∷ []) k z ∙ ap (λ b. noted (suc k) (b && is_in z (walks (suc k))) (mark k z)) (ne_eqb (suc k % 2) 0 (omega arith))

        noted_more : (z : ℕ) → mark (k + 2) z ≡ noted (k + 2) (is_in z (walks (suc (suc k)))) (mark k z)
        noted_more z =
            ap (λ i. mark i z) two
            ∙ layer_more m st (c ∷ []) (suc k) z
            ∙ ap₂ (λ b x. noted (suc (suc k)) (b && is_in z (walks (suc (suc k)))) x) (eq-eqb (suc (suc k) % 2) 0 (omega arith)) (skipped z)
            ∙ ap (λ i. noted i (is_in z (walks (suc (suc k)))) (mark k z)) (sym two)

        same : (z : ℕ) (b : Bool) → eqb (mark k z) 0 ≡ b → noted (k + 2) (from_level near w first found old met z) (mark k z) ≡ noted (k + 2) (is_in z (walks (suc (suc k)))) (mark k z)
        same z true q = ap (λ b. noted (k + 2) b (mark k z)) (same_test _ _ (there h z q) (back h z q))
        same z false q = kept (from_level near w first found old met z) ∙ sym (kept (is_in z (walks (suc (suc k)))))
          where
            kept : (b : Bool) → noted (k + 2) b (mark k z) ≡ mark k z
            kept true = unfold noted in ap (λ b. cond b (k + 2 + 1) (mark k z)) q
            kept false = unfold noted in refl

        pub level_more : Level m st c (k + 2) layers' found' met s
        level_more = record {
          listed = S.listed;
          layered = λ z. S.notes.each z ∙ ap (noted (k + 2) (from_level near w first found old met z)) (L.layered z) ∙ same z (eqb (mark k z) 0) refl ∙ sym (noted_more z);
          rising = S.grown.more;
          past = λ x e.
              let w = layer_from m st (c ∷ []) k x (sym (has_layer x) ∙ ap (is_in x) (sym S.grown.front) ∙ e) in
              record { steps = w.0; few = omega (arith, w.1); even = w.2; ends = w.3 };
        }

-- ---- before the first level

pub none_listed : (layers found : List ℕ) → Zeros element_places layers → length found ≡ element_places → LayerList layers found 0
unfolding is_in repeats
none_listed layers found K r = record {
  size = K.size;
  room = r;
  marked = λ y. ap (λ x. not (eqb x 0)) (K.each y);
  once = refl;
  in_range = tt;
  count = refl;
  few = omega arith;
}

pub level_none : (m st : Bytes) (c s : ℕ) (layers found layers' found' : List ℕ) → Zeros element_places layers → Spread 0 layers found 0 layers' found' s (eqb c)
    → Level m st c (2 * 0) layers' found' 0 s
unfolding is_in
level_none m st c s layers found layers' found' K S = record {
  listed = S.listed;
  layered = λ z. S.notes.each z ∙ ap (noted 0 (eqb c z)) (K.each z) ∙ first z (eqb c z) refl;
  rising = omega arith;
  past = λ x e. absurd (not_both false e refl);
}
  where
    first : (z : ℕ) (b : Bool) → eqb c z ≡ b → noted 0 b 0 ≡ layer_mark m st (c ∷ []) 0 z
    first z true q = unfold noted layer_mark first_mark picked walked_from is_in in sym (ap (λ b. first_mark (cond (b || false) (0 ∷ []) [])) (eqb_swap z c ∙ q))
    first z false q = unfold noted layer_mark first_mark picked walked_from is_in in sym (ap (λ b. first_mark (cond (b || false) (0 ∷ []) [])) (eqb_swap z c ∙ q))

-- ---- the loop over the levels, and its end

module _ (m st : Bytes) (near : List ℕ) (w : ℕ) (G : NearGround m st near w) (c : ℕ) (C : Cell m c) (first : ℕ) (fe : first ≡ first_cell m)
    (j old met : ℕ) (layers found : List ℕ) (L : Level m st c (2 * j) layers found old met) where
  pub fits_at : j < length st / 2 → LevelFits near w first found old met
  fits_at h = level_fits m st near w G c C first fe (2 * j) old met layers found (omega arith) L (omega arith)

  pub level_next : (s : ℕ) (layers' found' : List ℕ) → j < length st / 2 → Spread (2 * j + 2) layers found met layers' found' s (from_level near w first found old met)
      → Level m st c (2 * (j + 1)) layers' found' met s
  level_next s layers' found' h S =
      let e : 2 * (j + 1) ≡ 2 * j + 2 = omega arith in
      rw e (level_more m st near w G c C first fe (2 * j) old met layers found (omega arith) L (omega (arith, (stencil_parts (top m) st G.stencil).0)) s layers' found' S)

  module _ (a : j ≤ length st / 2) (b : length st / 2 ≤ j) where
    all_steps : 2 * j ≡ length st - 1
    all_steps = omega (arith, (stencil_parts (top m) st G.stencil).0)

    pub layered_all : Layered m st (c ∷ []) (length st - 1) layers
    layered_all = record { size = L.listed.size; each = λ z. L.layered z ∙ ap (λ k. layer_mark m st (c ∷ []) k z) all_steps }

    pub within_all : (low high : ℕ) → Widened c (c + 1) low high (take met found) → Within m layers low high
    within_all low high U = record {
      starts = bounds.0;
      ends = omega (arith, U.down, C.high);
      stops = bounds.1;
      before = λ z l. bare z (λ q. let o : ⊥ = omega (arith, q.0) in o);
      after = λ z l. bare z (λ q. let o : ⊥ = omega (arith, q.1) in o);
    }
      where
        cells : All (λ y. (first_cell m ≤ y) × (y < first_cell m + cell_count m)) (take met found)
        cells = All_intro _ (take met found) 0 (λ i h.
            let K = cell_of m st near w G c C first fe (2 * j) old met layers found (omega arith) L (get_or (take met found) i 0) (omega (arith, (stencil_parts (top m) st G.stencil).0))
            (at_is_in _ (take met found) (record { place = i; place_lt = h; place_is = refl })) in
            (K.low, K.high))

        bounds : (first_cell m ≤ low) × (high ≤ first_cell m + cell_count m)
        bounds = U.least (first_cell m) (first_cell m + cell_count m) C.low (omega (arith, C.high)) cells

        bare : (z : ℕ) → ((low ≤ z) × (z < high) → ⊥) → get_or layers z 0 ≡ 0
        bare z out = go (eqb (get_or layers z 0) 0) refl
          where
            go : (b : Bool) → eqb (get_or layers z 0) 0 ≡ b → get_or layers z 0 ≡ 0
            go true q = eqb-true (get_or layers z 0) 0 q
            go false q = absurd (out (at_all (λ y. (low ≤ y) × (y < high)) z (take met found) U.each (is_in_at z (take met found) (sym (L.listed.marked z) ∙ ap not q))))

pub cell_small : (m : Bytes) (c : ℕ) → Accepted m → Cell m c → (1 ≤ c) × (c ≤ most_elements)
cell_small m c A C = (omega (arith, C.low), omega (arith, C.high, A.cells_in, A.sizes.n_high))
