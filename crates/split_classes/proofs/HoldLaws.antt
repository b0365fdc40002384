-- What the tables tell of the cells is what the definitions say: the classes, the parts that hold a cell, and how many cells are held in all.
-- Assumes nothing.
use mathlib.Core.Path.{◌≡◌, refl, sym, ap, ap₂, ◌∙◌, subst}
use mathlib.Core.Bool.{Bool, true, false, not, ◌&&◌, cond}
use mathlib.Core.List.{List, [], map}
use Prim.Native.Nat.{ℕ, zero, suc, ◌+◌, ◌-◌, ◌*◌, ◌≤◌, ◌<◌}
use native.Mathlib.Nat.{zero-add}
use native.Mathlib.Omega.{arith}
use lib.Dec.{eqb, ltb}
use lib.ListN.{length, get_or, length-map}
use borrow.Author.Tests.{eqb-true, eq-eqb, ne_eqb, lt-ltb}
use Rattle.vocabulary.specs.Bytes.{Bytes, byte_at}
use Rattle.vocabulary.specs.Intervals.{picked, some, total}
use Rattle.vocabulary.proofs.IntervalLaws.{some_cong, some_has, some_in, some_witness, total_cong, picked_all, picked_in, picked_passes}
use Rattle.vocabulary.proofs.CountLaws.{total_add, total_zero, total_single, total_swap, picked_count}
use Rattle.vocabulary.specs.Lists.{All, some_of}
use Rattle.vocabulary.proofs.ListLaws.{and_left, and_right, and_true, and_intro, not_both, same_test, All_get_or, All_of_map, some_of_has, some_of_witness, get_or_map_any}
use Rattle.layout.specs.Words.{word_at}
use Rattle.layout.specs.Limits.{most_held}
use Rattle.mesh.specs.Mesh.{first_cell, cell_count}
use Rattle.mesh.specs.Walks.{Near, layer, steps_to, reach}
use Rattle.mesh.proofs.WalkLaws.{reach_in}
use Rattle.walk_reach_table.specs.Tables.{entry_count, EndTable}
use Rattle.walk_reach_table.proofs.EntryLaws.{count_more}
use Rattle.walk_part_reach.specs.Rows.{walked_to, row_cells, row_reach_count}
use Rattle.split.specs.Split.{Split, split_of, owner_at, owns, owned, reaches, holds, held, imports, exports, inside}
use Rattle.split.proofs.SplitLaws.{SplitCell, map_facts, own_held, split_own}
use Rattle.split.specs.Lists.{bad8, bad12}
use Rattle.split.specs.Owners.{owns_at}
use Rattle.split_classes.specs.Classes.{inside_at, class_in, holder_count, has_entry, reach_has, reached_at, class_at, held_by, part_held, Holders}

-- some of the numbers whose places pass, and some of a list
some_list : {A : Type 0} (a : ℕ) (p : ℕ → Bool) (xs : List A) (d : A) (r : A → Bool) → ((t : ℕ) → t < length xs → p (a + t) ≡ r (get_or xs t d)) → some a (length xs) p ≡ some_of xs r
some_list a p xs d r f =
    same_test _ _
    (λ e. let w = some_witness a p (length xs) e in some_of_has r xs d w.0 w.1 (sym (f w.0 w.1) ∙ w.2))
    (λ e. let w = some_of_witness r xs d e in some_has a p (length xs) w.0 w.1 (f w.0 w.1 ∙ w.2))

some_picked : (a n : ℕ) (p r : ℕ → Bool) → some 0 n (λ q. p (a + q) && r (a + q)) ≡ some_of (picked a n p) r
some_picked a n p r = same_test _ _ there back
  where
    there : some 0 n (λ q. p (a + q) && r (a + q)) ≡ true → some_of (picked a n p) r ≡ true
    there e =
        let w = some_witness 0 (λ q. p (a + q) && r (a + q)) n e in
        let u = and_true (p (a + (0 + w.0))) (r (a + (0 + w.0))) w.2 in
        let t = picked_in a p n (a + (0 + w.0)) (omega arith) (omega (arith, w.1)) u.0 in
        some_of_has r (picked a n p) 0 t.place t.place_lt (ap r t.place_is ∙ u.1)

    back : some_of (picked a n p) r ≡ true → some 0 n (λ q. p (a + q) && r (a + q)) ≡ true
    back e =
        let w = some_of_witness r (picked a n p) 0 e in
        let t = picked_passes a p n (get_or (picked a n p) w.0 0) (record { place = w.0; place_lt = w.1; place_is = refl }) in
        let x : ℕ = get_or (picked a n p) w.0 0 in
        let q : a + (x - a) ≡ x = omega (arith, t.0) in
        some_in 0 (λ q. p (a + q) && r (a + q)) n (x - a) (omega arith) (omega (arith, t.0, t.1)) (and_intro _ _ (ap p q ∙ t.2) (ap r q ∙ w.2))

-- how many pass, as a sum counted from 0
total_from : (a n : ℕ) (f : ℕ → ℕ) → total a n f ≡ total 0 n (λ k. f (a + k))
unfolding total
total_from a zero f = refl
total_from a (suc n) f = ap₂ ◌+◌ (total_from a n f) (ap (λ k. f (a + k)) (sym (zero-add n)))

picked_from : (a n : ℕ) (p : ℕ → Bool) → length (picked a n p) ≡ total 0 n (λ k. cond (p (a + k)) 1 0)
picked_from a n p = picked_count a n p ∙ total_from a n (λ x. cond (p x) 1 0)

-- ---- the split

module _ (m : Bytes) (parts : ℕ) (owners st : Bytes) where
  abbrev S : Split
  S = split_of m parts owners st

  back : (q : ℕ) → first_cell m + q - first_cell m ≡ q
  back q = omega arith

  owner_at_lem : (q : ℕ) → S.owner (first_cell m + q) ≡ owner_at owners q
  unfolding split_of
  owner_at_lem q = ap (λ k. owner_at owners k) (back q)

  held_count : (i : ℕ) → length (held S i) ≡ total 0 (cell_count m) (λ q. cond (holds S i (first_cell m + q)) 1 0)
  unfolding held split_of
  held_count i = picked_from (first_cell m) (cell_count m) (holds S i)

  -- ---- by the walks from whole parts

  reach_walked : (c : ℕ) → All (λ e. walked_to m st c e.cell ≡ true) (reach m st c)
  unfolding reach walked_to
  reach_walked c =
      All_of_map (λ e. ltb 0 (length (steps_to m st c e.cell)) ≡ true) (λ x. record { cell = x; layer = layer m st c x })
      (picked (first_cell m) (cell_count m) (λ x. ltb 0 (length (steps_to m st c x))))
      (picked_all (first_cell m) (λ x. ltb 0 (length (steps_to m st c x))) (λ x. ltb 0 (length (steps_to m st c x)) ≡ true) (cell_count m) (λ i h e. e))

  reach_has_lem : (c x : ℕ) → first_cell m ≤ x → x < first_cell m + cell_count m → walked_to m st c x ≡ true → reaches S c x ≡ true
  unfolding reaches split_of reach walked_to
  reach_has_lem c x l h e =
      let near : ℕ → Near = λ y. record { cell = y; layer = layer m st c y } in
      let a = picked_in (first_cell m) (λ y. ltb 0 (length (steps_to m st c y))) (cell_count m) x l h e in
      some_of_has (λ y. eqb y.cell x) (map near (picked (first_cell m) (cell_count m) (λ y. ltb 0 (length (steps_to m st c y))))) (near 0) a.place
      (omega (arith, a.place_lt, length-map (picked (first_cell m) (cell_count m) (λ y. ltb 0 (length (steps_to m st c y)))) near))
      (eq-eqb _ x
      (ap (λ (y : Near). y.cell) (get_or_map_any near (picked (first_cell m) (cell_count m) (λ y. ltb 0 (length (steps_to m st c y)))) a.place 0 (near 0) a.place_lt)
      ∙ a.place_is))

  reach_only : (c x : ℕ) → reaches S c x ≡ true → walked_to m st c x ≡ true
  unfolding reaches split_of
  reach_only c x e =
      let d : Near = record { cell = 0; layer = 0 } in
      let w = some_of_witness (λ (y : Near). eqb y.cell x) (reach m st c) d e in
      subst (λ y. walked_to m st c y ≡ true) (eqb-true _ x w.2) (All_get_or (λ (y : Near). walked_to m st c y.cell ≡ true) (reach m st c) w.0 d (reach_walked c) w.1)

  walked_is : (c q : ℕ) → q < cell_count m → walked_to m st c (first_cell m + q) ≡ reaches S c (first_cell m + q)
  walked_is c q h = same_test _ _ (reach_has_lem c (first_cell m + q) (omega arith) (omega arith)) (reach_only c (first_cell m + q))

  walked_count : (i : ℕ) → row_reach_count m st owners i ≡ length (held S i)
  unfolding row_reach_count row_cells holds owned owns split_of
  walked_count i =
      total_cong 0 (λ q. cond (some_of (picked (first_cell m) (cell_count m) (λ x. eqb (owner_at owners (x - first_cell m)) i)) (λ c. walked_to m st c (first_cell m + q))) 1 0)
      (λ q. cond (holds S i (first_cell m + q)) 1 0) (cell_count m)
      (λ q h.
      let l : 0 + q < cell_count m = omega arith in
      let own : List ℕ = picked (first_cell m) (cell_count m) (λ x. eqb (owner_at owners (x - first_cell m)) i) in
      ap (λ b. cond b 1 0)
      (same_test (some_of (picked (first_cell m) (cell_count m) (λ x. eqb (owner_at owners (x - first_cell m)) i)) (λ c. walked_to m st c (first_cell m + (0 + q))))
      (holds S i (first_cell m + (0 + q)))
      (λ e. let w = some_of_witness (λ c. walked_to m st c (first_cell m + (0 + q)))
      (picked (first_cell m) (cell_count m) (λ x. eqb (owner_at owners (x - first_cell m)) i)) 0 e in some_of_has (λ c. reaches S c (first_cell m + (0 + q)))
      (picked (first_cell m) (cell_count m) (λ x. eqb (owner_at owners (x - first_cell m)) i)) 0 w.0 w.1 (sym (walked_is _ (0 + q) l) ∙ w.2))
      (λ e. let w = some_of_witness (λ c. reaches S c (first_cell m + (0 + q))) (picked (first_cell m) (cell_count m) (λ x. eqb (owner_at owners (x - first_cell m)) i)) 0
      e in some_of_has (λ c. walked_to m st c (first_cell m + (0 + q))) (picked (first_cell m) (cell_count m) (λ x. eqb (owner_at owners (x - first_cell m)) i)) 0
      w.0 w.1 (walked_is _ (0 + q) l ∙ w.2))))
      ∙ sym (held_count i)

  pub walked_told : (s : ℕ) → s ≡ total 1 parts (row_reach_count m st owners) → ltb most_held s ≡ bad12 S
  unfolding bad12 split_of
  walked_told s e = ap (ltb most_held) (e ∙ total_cong 1 (row_reach_count m st owners) (λ i. length (held S i)) parts (λ k h. walked_count (1 + k)))

  -- a class is 0 exactly where the part does not hold the cell
  module _ (right : bad8 m parts owners [] ≡ false) where
    class_held : (i q : ℕ) → q < cell_count m → eqb (class_in S i (first_cell m + q)) 0 ≡ not (holds S i (first_cell m + q))
    unfolding class_in
    class_held i q h = go (owns S i (first_cell m + q)) refl (holds S i (first_cell m + q)) refl
      where
        owner_some : 1 ≤ S.owner (first_cell m + q)
        owner_some = omega (arith, owner_at_lem q, ((map_facts m parts owners [] right).owner_in q h).0)

        mine : (b : Bool) → eqb (cond b 17 18) 0 ≡ false
        mine true = refl
        mine false = refl

        go : (a : Bool) → owns S i (first_cell m + q) ≡ a → (b : Bool) → holds S i (first_cell m + q) ≡ b → eqb (class_in S i (first_cell m + q)) 0 ≡ not b
        go true e true f = (ap (λ x. eqb (cond x (cond (inside S i (first_cell m + q)) 17 18) (cond (holds S i (first_cell m + q)) (S.owner (first_cell m + q)) 0)) 0) e)
            ∙ mine (inside S i (first_cell m + q))
        go true e false f = absurd (not_both (holds S i (first_cell m + q)) (own_held S (split_own m parts owners st) i (first_cell m + q) cell e) f)
          where
            cell : SplitCell S (first_cell m + q)
            cell = unfold split_of in (omega arith, omega arith)
        go false e true f = (ap₂ (λ x y. eqb (cond x (cond (inside S i (first_cell m + q)) 17 18) (cond y (S.owner (first_cell m + q)) 0)) 0) e f)
            ∙ ne_eqb (S.owner (first_cell m + q)) 0 (omega (arith, owner_some))
        go false e false f = (ap₂ (λ x y. eqb (cond x (cond (inside S i (first_cell m + q)) 17 18) (cond y (S.owner (first_cell m + q)) 0)) 0) e f)

    pub class_zero : (i q : ℕ) → q < cell_count m → (x : ℕ) → x ≡ class_in S i (first_cell m + q) → eqb x 0 ≡ not (holds S i (first_cell m + q))
    class_zero i q h x e = ap (λ y. eqb y 0) e ∙ class_held i q h

  -- what part i exports to all parts, counted at its cells: each goes to every other part that holds it
  module _ (i : ℕ) (low : 1 ≤ i) (high : i ≤ parts) where
    own_at : (q : ℕ) → owns_at owners i q ≡ owns S i (first_cell m + q)
    unfolding owns_at owns
    own_at q = ap (λ o. eqb o i) (sym (owner_at_lem q))

    sent_at : (q : ℕ) → q < cell_count m
        → total 1 parts (λ j. cond (not (eqb j i) && owns S i (first_cell m + q) && holds S j (first_cell m + q)) 1 0) ≡ cond (owns_at owners i q) (holder_count S (first_cell m + q) - 1) 0
    unfolding holder_count split_of
    sent_at q h = go (owns S i c) refl
      where
        c : ℕ
        c = first_cell m + q

        -- another part that holds it, or part i
        one : (d a h : Bool) → a ≡ true → (d ≡ true → h ≡ true) → ◌≡◌ {A = ℕ} (cond h 1 0) (cond (not d && a && h) 1 0 + cond d 1 0)
        one true a h ae k = let e : ◌≡◌ {A = ℕ} (cond h 1 0) 1 = ap (λ x. cond x 1 0) (k refl) in omega arith
        one false a h ae k = let e : ◌≡◌ {A = ℕ} (cond (a && h) 1 0) (cond h 1 0) = ap (λ x. cond (x && h) 1 0) ae in omega arith

        alone : total 1 parts (λ j. cond (eqb j i) 1 0) ≡ 1
        alone =
            let z : 1 + (i - 1) ≡ i = omega arith in
            total_single 1 parts (i - 1) (λ j. cond (eqb j i) 1 0) (omega arith) (λ j l ne. ap (λ b. cond b 1 0) (ne_eqb (1 + j) i (λ e. let no : ⊥ = omega arith in no)))
            ∙ ap (λ j. cond (eqb j i) 1 0) z
            ∙ ap (λ b. cond b 1 0) (eq-eqb i i refl)

        go : (a : Bool) → owns S i c ≡ a → total 1 parts (λ j. cond (not (eqb j i) && owns S i c && holds S j c) 1 0) ≡ cond (owns_at owners i q) (total 1 parts (λ j. cond (holds S j c) 1 0) - 1) 0
        go true e =
            let held = own_held S (split_own m parts owners st) i c (unfold split_of in (omega arith, omega arith)) e in
            let f : ℕ → ℕ = λ j. cond (not (eqb j i) && owns S i c && holds S j c) 1 0 in
            let both : total 1 parts (λ j. cond (holds S j c) 1 0) ≡ total 1 parts f + total 1 parts (λ j. cond (eqb j i) 1 0) =
            total_cong 1 (λ j. cond (holds S j c) 1 0) (λ j. f j + cond (eqb j i) 1 0) parts
            (λ j l. one (eqb (1 + j) i) (owns S i c) (holds S (1 + j) c) e (λ w. ap (λ x. holds S x c) (eqb-true (1 + j) i w) ∙ held))
            ∙ total_add 1 parts f (λ j. cond (eqb j i) 1 0) in
            (let z : total 1 parts f ≡ total 1 parts (λ j. cond (holds S j c) 1 0) - 1 = omega (arith, both, alone) in z)
            ∙ sym (ap (λ b. cond b (total 1 parts (λ j. cond (holds S j c) 1 0) - 1) 0) (own_at q ∙ e))
        go false e =
            total_zero 1 parts (λ j. cond (not (eqb j i) && owns S i c && holds S j c) 1 0)
            (λ j l. ap (λ b. cond b 1 0) (and_left (not (eqb (1 + j) i) && owns S i c) (holds S (1 + j) c) (and_right (not (eqb (1 + j) i)) (owns S i c) e)))
            ∙ sym (ap (λ b. cond b (total 1 parts (λ j. cond (holds S j c) 1 0) - 1) 0) (own_at q ∙ e))

    pub exports_told : total 1 parts (λ j. length (exports S i j)) ≡ total 0 (cell_count m) (λ q. cond (owns_at owners i q) (holder_count S (first_cell m + q) - 1) 0)
    unfolding exports imports split_of
    exports_told =
        let p : ℕ → ℕ → Bool = λ j c. not (eqb j i) && owns S i c && holds S j c in
        total_cong 1 (λ j. length (picked (first_cell m) (cell_count m) (p j))) (λ j. total 0 (cell_count m) (λ q. cond (p j (first_cell m + q)) 1 0)) parts
        (λ j h. picked_from (first_cell m) (cell_count m) (p (1 + j)))
        ∙ total_swap 1 parts 0 (cell_count m) (λ j q. cond (p j (first_cell m + q)) 1 0)
        ∙ total_cong 0 (λ q. total 1 parts (λ j. cond (p j (first_cell m + q)) 1 0)) (λ q. cond (owns_at owners i q) (holder_count S (first_cell m + q) - 1) 0) (cell_count m)
        (λ q h. sent_at (0 + q) (omega arith))

  -- ---- by the table of the reaches

  module _ (table : Bytes) (ends : List ℕ) (E : EndTable m st ends (cell_count m))
      (T : (q t : ℕ) (d : Near) → q < cell_count m → t < length (reach m st (first_cell m + q))
      → (word_at table (2 * (entry_count m st q + t)) ≡ (get_or (reach m st (first_cell m + q)) t d).cell - first_cell m)
      × (word_at table (2 * (entry_count m st q + t) + 1) ≡ (get_or (reach m st (first_cell m + q)) t d).layer)) where
    shifted : (c f x : ℕ) → f ≤ c → eqb (c - f) x ≡ eqb c (f + x)
    shifted c f x h = same_test _ _ (λ e. let q : c - f ≡ x = eqb-true (c - f) x e in eq-eqb c (f + x) (omega arith)) (λ e. let q : c ≡ f + x = eqb-true c (f + x) e in eq-eqb (c - f) x (omega arith))

    pub reach_told : (q x : ℕ) → q < cell_count m → reach_has table ends q x ≡ reaches S (first_cell m + q) (first_cell m + x)
    unfolding reach_has has_entry reaches split_of
    reach_told q x h =
        let d : Near = record { cell = 0; layer = 0 } in
        let a : get_or ends q 0 ≡ entry_count m st q = E.each q (omega arith) in
        let b : get_or ends (q + 1) 0 ≡ entry_count m st (q + 1) = E.each (q + 1) (omega arith) in
        let n : get_or ends (q + 1) 0 - get_or ends q 0 ≡ length (reach m st (first_cell m + q)) = omega (arith, count_more m st q) in
        ap₂ (λ u v. some u v (λ t. eqb (word_at table (2 * t)) x)) a n
        ∙ some_list (entry_count m st q) (λ t. eqb (word_at table (2 * t)) x) (reach m st (first_cell m + q)) d (λ e. eqb e.cell (first_cell m + x))
        (λ t k.
        ap (λ y. eqb y x) (T q t d h k).0
        ∙ shifted _ (first_cell m) x (All_get_or (λ e. (first_cell m ≤ e.cell) × (e.cell < first_cell m + cell_count m)) (reach m st (first_cell m + q)) t d (reach_in m st (first_cell m + q)) k).0)

    module _ (N : (i q : ℕ) → q < cell_count m → inside_at owners table ends i q ≡ inside S i (first_cell m + q)) where
      holds_told : (i x : ℕ) → reached_at owners table ends i (cell_count m) x ≡ holds S i (first_cell m + x)
      unfolding reached_at holds owned owns_at owns split_of
      holds_told i x =
          some_same (λ q. eqb (owner_at owners q) i && reach_has table ends q x) (λ q. eqb (S.owner (first_cell m + q)) i && reaches S (first_cell m + q) (first_cell m + x))
          (λ q h. ap₂ (λ o r. eqb o i && r) (sym (owner_at_lem q)) (reach_told q x h))
          ∙ some_picked (first_cell m) (cell_count m) (λ c. eqb (S.owner c) i) (λ c. reaches S c (first_cell m + x))
        where
          some_same : (p r : ℕ → Bool) → ((q : ℕ) → q < cell_count m → p q ≡ r q) → some 0 (cell_count m) p ≡ some 0 (cell_count m) r
          some_same p r f = some_cong 0 p r (cell_count m) (λ q h. f (0 + q) (omega arith))

      pub class_told : (i q : ℕ) → q < cell_count m → class_at owners table ends i (cell_count m) q ≡ class_in S i (first_cell m + q)
      unfolding class_at class_in owns_at owns
      class_told i q h =
          ap₂ (λ o b. cond (eqb o i) (cond b (cond (inside_at owners table ends i q) 17 18) 0) (cond (reached_at owners table ends i (cell_count m) q) o 0))
          (sym (owner_at_lem q)) (lt-ltb q (cell_count m) h)
          ∙ ap₂ (λ a b. cond (eqb (S.owner (first_cell m + q)) i) (cond a 17 18) (cond b (S.owner (first_cell m + q)) 0)) (N i q h) (holds_told i q)

      held_by_lem : (i q : ℕ) → held_by owners table ends (cell_count m) q i ≡ cond (holds S i (first_cell m + q)) 1 0
      unfolding held_by
      held_by_lem i q = ap (λ b. cond b 1 0) (holds_told i q)

      part_held_lem : (i : ℕ) → part_held owners table ends (cell_count m) i ≡ length (held S i)
      unfolding part_held
      part_held_lem i =
          total_cong 0 (λ q. held_by owners table ends (cell_count m) q i) (λ q. cond (holds S i (first_cell m + q)) 1 0) (cell_count m) (λ q h. held_by_lem i (0 + q))
          ∙ sym (held_count i)

      module _ (cells : ℕ) (ce : cells ≡ cell_count m) (holders : Bytes) (s : ℕ) (H : Holders owners table ends cells parts holders s) where
        pub held_told : (q : ℕ) → q < cell_count m → byte_at holders q ≡ holder_count S (first_cell m + q)
        unfolding holder_count split_of
        held_told q h =
            H.counted.each q (omega arith)
            ∙ ap (λ c. total 1 parts (held_by owners table ends c q)) ce
            ∙ total_cong 1 (held_by owners table ends (cell_count m) q) (λ j. cond (holds S j (first_cell m + q)) 1 0) parts (λ j l. held_by_lem (1 + j) q)

        pub sum_told : ltb most_held s ≡ bad12 S
        unfolding bad12 split_of
        sum_told =
            ap (ltb most_held)
            (H.sum ∙ ap (λ c. total 1 parts (part_held owners table ends c)) ce
            ∙ total_cong 1 (part_held owners table ends (cell_count m)) (λ i. length (held S i)) parts (λ k h. part_held_lem (1 + k)))
