-- Marked chains against the definitions: tests 6 and 7. Assumes nothing.
use mathlib.Core.Path.{◌≡◌, refl, ap, ap₂, ◌∙◌}
use mathlib.Core.Bool.{Bool, true, false, not, ◌||◌}
use mathlib.Core.List.{List, [], ◌∷◌}
use Prim.Native.Nat.{ℕ, ◌+◌, ◌*◌, ◌-◌, ◌≤◌, ◌<◌}
use native.Mathlib.Omega.{arith}
use lib.Dec.{eqb, ltb}
use lib.ListN.{length, get_or, set, length-set}
use lib.Seq.{get_or-set_same, get_or-set_other}
use borrow.Author.Tests.{eqb-true, eqb-false, eq-eqb, ne_eqb, ltb-true, ltb-false}
use Rattle.vocabulary.specs.Intervals.{some, blocks}
use Rattle.vocabulary.proofs.IntervalLaws.{some_none, some_cong, blocks_all, is_in_blocks}
use Rattle.vocabulary.proofs.ScanLaws.{some_stop_from, some_turn_from, some_end_from}
use Rattle.vocabulary.specs.Lists.{is_in, some_of, All}
use Rattle.vocabulary.proofs.ListLaws.{or_nothing, some_of_cong, some_of_none, All_map, All_intro, All_get_or}
use Rattle.layout.specs.Limits.{most_elements}
use Rattle.mesh.specs.Mesh.{top, counted, elements, below, first_cell, cell_count, dimension, chain, leaves, unclosed, bare, bad5, bad6, bad7}
use Rattle.mesh.specs.Meet.{stamp, unlike}
use Rattle.mesh.proofs.WalkLaws.{below_grows}
use Rattle.mesh.proofs.DimensionLaws.{below_next, below_after, dimension_le}
use Rattle.mesh.proofs.AcceptedLaws.{bare_point, lower_chain}
use Rattle.mesh_chains.specs.Written.{MarksBelow, Written}
use Rattle.mesh_chains.proofs.ElementLaws.{marks_higher, set_marks}
use Rattle.mesh_closure.specs.Rows.{leaves_by, Names}
use Rattle.mesh_closure.proofs.RowLaws.{stamp_length}

-- ---- all marks of a list

regroup : (a b c : Bool) → a || (b || c) ≡ (b || a) || c
regroup true true c = refl
regroup true false c = refl
regroup false true c = refl
regroup false false c = refl

set_told : (s : List ℕ) (x v g : ℕ) → x < length s → eqb (get_or (set s x v) g 0) v ≡ eqb g x || eqb (get_or s g 0) v
set_told s x v g h = go (eqb g x) refl
  where
    go : (b : Bool) → eqb g x ≡ b → eqb (get_or (set s x v) g 0) v ≡ b || eqb (get_or s g 0) v
    go true e = eq-eqb _ v (ap (λ y. get_or (set s x v) y 0) (eqb-true g x e) ∙ get_or-set_same s x v 0 h)
    go false e = ap (λ y. eqb y v) (get_or-set_other s x g v 0 (eqb-false g x e))

stamp_told : (v g : ℕ) (s xs : List ℕ) → All (λ x. x < length s) xs → eqb (get_or (stamp v s xs) g 0) v ≡ is_in g xs || eqb (get_or s g 0) v
unfolding stamp is_in
stamp_told v g s [] a = refl
stamp_told v g s (x ∷ xs) a =
    stamp_told v g (set s x v) xs (All_map xs (λ y h. simp length-set h) a.1)
    ∙ ap (λ b. is_in g xs || b) (set_told s x v g a.0)
    ∙ regroup (is_in g xs) (eqb g x) (eqb (get_or s g 0) v)

stamp_marks : (n v : ℕ) (s xs : List ℕ) → MarksBelow n (v + 1) s → MarksBelow n (v + 1) (stamp v s xs)
unfolding stamp
stamp_marks n v s [] u = u
stamp_marks n v s (x ∷ xs) u = stamp_marks n v (set s x v) xs (set_marks n v x s u)

-- from marks below v
fresh_stamp : (n v g : ℕ) (s xs : List ℕ) → MarksBelow n v s → All (λ x. (1 ≤ x) × (x ≤ n)) xs → unlike v (stamp v s xs) g ≡ not (is_in g xs)
unfolding unlike
fresh_stamp n v g s xs u a =
    ap not (stamp_told v g s xs (All_map xs (λ x h. omega (arith, h.1, u.long)) a)
    ∙ ap (λ b. is_in g xs || b) (ne_eqb (get_or s g 0) v (λ q. let z : ⊥ = omega (arith, u.each g) in z)) ∙ or_nothing (is_in g xs))

-- ---- the chains of a mesh that the tests 4 and 5 accept

module _ (m items ends : List ℕ) (W : Written m items ends) (five : bad5 m ≡ false) where
  -- a chain names lower elements
  lower : (e : ℕ) → 1 ≤ e → e ≤ elements m → All (λ g. (1 ≤ g) × (g ≤ below m (dimension m e))) (chain m e)
  lower e l h = lower_chain m W.sizes.d_high five e (record { low = l; high = h })

  fine : (e : ℕ) → 1 ≤ e → e ≤ elements m → All (λ g. (1 ≤ g) × (g ≤ elements m)) (chain m e)
  fine e l h =
      All_map (chain m e) (λ g w. (w.0, omega (arith, w.1, below_grows m (dimension m e) 4 (omega (arith, dimension_le m e, W.sizes.d_high))))) (lower e l h)

  pub names_row : (e : ℕ) → 1 ≤ e → e ≤ elements m → Names (elements m) (chain m e)
  names_row e l h = record {
    low = λ t k. (All_get_or (λ g. (1 ≤ g) × (g ≤ elements m)) (chain m e) t 0 (fine e l h) k).0;
    high = λ t k. (All_get_or (λ g. (1 ≤ g) × (g ≤ elements m)) (chain m e) t 0 (fine e l h) k).1;
  }

  pub elements_few : (n : ℕ) → n ≡ elements m → n ≤ most_elements
  elements_few n ne = omega (arith, W.sizes.n_high)

  -- ---- test 6

  -- a chain of points alone is closed
  closed : (e : ℕ) → 1 ≤ e → e ≤ below m 2 → unclosed m e ≡ false
  unfolding unclosed leaves some_of
  closed e l h =
      some_of_none (leaves m e) (chain m e)
      (All_map (chain m e)
      (λ f w. ap (λ xs. some_of xs (λ g. not (is_in g (chain m e)))) (bare_point m W.four f w.0 (omega (arith, w.1, flat (ltb 1 (dimension m e)) refl, points))))
      (lower e l (omega (arith, below_grows m 2 4 (omega arith)))))
    where
      points : below m 1 ≡ counted m 0
      points = unfold below in omega arith

      flat : (b : Bool) → ltb 1 (dimension m e) ≡ b → below m (dimension m e) ≤ below m 1
      flat true t =
          let q : 1 < dimension m e = ltb-true 1 (dimension m e) t in
          let z : ⊥ = omega (arith, below_after m e 2 (omega arith) (omega (arith, dimension_le m e)) (omega arith)) in absurd z
      flat false t = below_grows m (dimension m e) 1 (ltb-false 1 (dimension m e) t)

  pub closed_fresh : (n low : ℕ) (s : List ℕ) → MarksBelow n (n + 1) s → MarksBelow n (n + (low + 1)) s
  closed_fresh n low s u = marks_higher n (n + 1) _ s (omega arith) u

  module _ (low : ℕ) (le : low ≡ below m 2) where
    pub closed_start : some 1 (low + 1 - 1) (unclosed m) ≡ false
    closed_start = some_none 1 (unclosed m) (low + 1 - 1) (λ i h. closed (1 + i) (omega arith) (omega arith))

    pub closed_in : (n : ℕ) → n ≡ elements m → low + 1 ≤ 1 + n
    closed_in n ne = omega (arith, below_grows m 2 4 (omega arith))

  module _ (n : ℕ) (ne : n ≡ elements m) (e : ℕ) (l : 1 ≤ e) where
    pub closed_marks : (s : List ℕ) → MarksBelow n (n + e) s → e ≤ 1 + n → MarksBelow n (2 * n + 1) s
    closed_marks s u g = marks_higher n (n + e) _ s (omega arith) u

    pub closed_end : some 1 (e - 1) (unclosed m) ≡ false → e ≤ 1 + n → 1 + n ≤ e → false ≡ bad6 m
    unfolding bad6
    closed_end i g h = rw ne at (some_end_from 1 (unclosed m) n e i g h)

    module _ (h : e < 1 + n) (s t : List ℕ) (u : MarksBelow n (n + e) s) (f : t ≡ stamp (n + e) s (chain m e)) (b : Bool)
        (q : b ≡ some_of (chain m e) (leaves_by m (n + e) t)) where
      marked : (x : ℕ) → unlike (n + e) t x ≡ not (is_in x (chain m e))
      marked x =
          ap (λ (y : List ℕ). unlike (n + e) y x) f
          ∙ fresh_stamp n (n + e) x s (chain m e) u (All_map (chain m e) (λ g w. (w.0, omega (arith, w.1))) (fine e l (omega arith)))

      unclosed_told : b ≡ unclosed m e
      unfolding unclosed leaves_by leaves
      unclosed_told =
          q ∙ some_of_cong (leaves_by m (n + e) t) (leaves m e) (chain m e) (All_map (chain m e)
          (λ x w. some_of_cong _ _ (chain m x) (All_intro _ (chain m x) 0 (λ j p. marked (get_or (chain m x) j 0))))
          (fine e l (omega arith)))

      pub unclosed_found : b ≡ true → true ≡ bad6 m
      unfolding bad6
      unclosed_found y = rw ne at (some_stop_from 1 (unclosed m) n e b unclosed_told y l h)

      pub unclosed_turn : some 1 (e - 1) (unclosed m) ≡ false → b ≡ false → MarksBelow n (n + (e + 1)) t × (some 1 (e + 1 - 1) (unclosed m) ≡ false)
      unclosed_turn i y = (
        rw f (marks_higher n (n + e + 1) _ _ (omega arith) (stamp_marks n (n + e) s (chain m e) (marks_higher n (n + e) _ s (omega arith) u))),
        some_turn_from 1 (unclosed m) e b l i unclosed_told y,
      )

  -- ---- test 7

  module _ (d n low : ℕ) (de : d ≡ top m) (ne : n ≡ elements m) (le : low ≡ below m d) where
    low_in : low ≤ n
    low_in = omega (arith, below_grows m d 4 (omega (arith, W.sizes.d_high)))

    pub low_room : low ≤ n
    low_room = low_in

    -- the cells are the last elements
    last : low + cell_count m ≡ n
    last = omega (arith, ap (below m) de, below_next m (top m), W.sizes.n_last)

    rows : blocks (1 + low) (n - low) (chain m) ≡ blocks (first_cell m) (cell_count m) (chain m)
    rows =
        let q : 1 + low ≡ first_cell m = omega (arith, ap (below m) de) in
        let r : n - low ≡ cell_count m = omega (arith, last) in
        ap₂ (λ x y. blocks x y (chain m)) q r

    cells_fine : All (λ x. (1 ≤ x) × (x ≤ elements m)) (blocks (first_cell m) (cell_count m) (chain m))
    cells_fine =
        blocks_all (first_cell m) (chain m) (λ x. (1 ≤ x) × (x ≤ elements m)) (cell_count m)
        (λ j h. fine (first_cell m + j) (omega arith) (omega (arith, last, ap (below m) de)))

    module _ (row : List ℕ) (re : row ≡ blocks (1 + low) (n - low) (chain m)) where
      pub names_cells : (v : ℕ) (s : List ℕ) → MarksBelow n v s → Names (length s - 1) row
      names_cells v s u =
          rw (re ∙ rows) (record {
            low = λ t k. (All_get_or (λ g. (1 ≤ g) × (g ≤ elements m)) (blocks (first_cell m) (cell_count m) (chain m)) t 0 cells_fine k).0;
            high = λ t k. omega (arith, (All_get_or (λ g. (1 ≤ g) × (g ≤ elements m)) (blocks (first_cell m) (cell_count m) (chain m)) t 0 cells_fine k).1, u.long);
          })

      module _ (v : ℕ) (t s : List ℕ) (u : MarksBelow n v t) (f : s ≡ stamp v t row) where
        pub low_marked : low < length s
        low_marked = omega (arith, low_in, stamp_length v t s row f, u.long)

        bare_told : (g : ℕ) → unlike v s g ≡ bare m g
        unfolding bare
        bare_told g =
            ap (λ (x : List ℕ). unlike v x g) (f ∙ ap (stamp v t) (re ∙ rows))
            ∙ fresh_stamp n v g t (blocks (first_cell m) (cell_count m) (chain m)) u (rw ne cells_fine)
            ∙ ap not (is_in_blocks g (first_cell m) (cell_count m) (chain m))

        pub bare_all : (b : Bool) → b ≡ some 1 low (unlike v s) → b ≡ bad7 m
        unfolding bad7
        bare_all b q = q ∙ some_cong 1 (unlike v s) (bare m) low (λ i h. bare_told (1 + i)) ∙ ap (λ x. some 1 x (bare m)) (le ∙ ap (below m) de)
