-- The numbers of a class in a part's row are the lists of the definitions. Assumes nothing.
use mathlib.Core.Path.{◌≡◌, refl, sym, ap, ap₂, ◌∙◌, subst}
use mathlib.Core.Bool.{Bool, true, false, not, ◌&&◌, cond}
use mathlib.Core.List.{List, [], ◌∷◌, ◌++◌}
use Prim.Native.Nat.{ℕ, ◌+◌, ◌-◌, ◌≤◌, ◌<◌}
use native.Mathlib.Omega.{arith}
use lib.Dec.{eqb}
use lib.ListN.{length}
use borrow.Author.Tests.{eqb-true, eqb-false, eq-eqb, ne_eqb}
use Rattle.vocabulary.specs.Bytes.{Bytes, byte_at}
use Rattle.vocabulary.specs.Intervals.{picked, blocks}
use Rattle.vocabulary.proofs.IntervalLaws.{picked_length_le, blocks_cong, blocks_picked}
use Rattle.layout.specs.Limits.{most_elements, most_parts}
use Rattle.mesh.specs.Mesh.{first_cell, cell_count}
use Rattle.split.specs.Split.{Split, split_of, owner_at, owns, holds, held, inside, imports, interior, halo, locals}
use Rattle.split.proofs.SplitLaws.{map_facts, local_held, split_reach, split_own, split_owner}
use Rattle.split_classes.specs.Classes.{class_in, class_at, Classed, Prepared, of_class, class_cells, part_cells, class_order}
use Rattle.mesh.proofs.AcceptedLaws.{cells_few}

-- ---- an owner's number is never 17 or 18

-- an owned cell's class is 17 where it is inside and 18 where it is not, and no other cell has either
is_own : (y a b h : Bool) (o : ℕ) → o ≤ most_parts → eqb (cond a (cond b 17 18) (cond h o 0)) (cond y 17 18) ≡ a && cond y b (not b)
is_own true true true h o l = refl
is_own true true false h o l = refl
is_own false true true h o l = refl
is_own false true false h o l = refl
is_own true false b true o l = ne_eqb o 17 (omega arith)
is_own false false b true o l = ne_eqb o 18 (omega arith)
is_own true false b false o l = refl
is_own false false b false o l = refl

is_import : (b h : Bool) (o i j : ℕ) → 1 ≤ j → j ≤ most_parts → eqb (cond (eqb o i) (cond b 17 18) (cond h o 0)) j ≡ not (eqb i j) && eqb o j && h
is_import b h o i j low high = go (eqb o i) refl (eqb o j) refl
  where
    own : (b : Bool) → eqb (cond b 17 18) j ≡ false
    own true = ne_eqb 17 j (omega arith)
    own false = ne_eqb 18 j (omega arith)

    theirs : (h d : Bool) → eqb o j ≡ d → eqb (cond h o 0) j ≡ d && h
    theirs true true e = e
    theirs true false e = e
    theirs false true e = ne_eqb 0 j (omega arith)
    theirs false false e = ne_eqb 0 j (omega arith)

    go : (a : Bool) → eqb o i ≡ a → (d : Bool) → eqb o j ≡ d → eqb (cond a (cond b 17 18) (cond h o 0)) j ≡ not (eqb i j) && d && h
    go true e true f = own b ∙ sym (ap (λ c. not c && true && h) (eq-eqb i j (sym (eqb-true o i e) ∙ eqb-true o j f)))
    go true e false f = own b ∙ sym (none (not (eqb i j)))
      where
        none : (c : Bool) → c && false && h ≡ false
        none true = refl
        none false = refl
    go false e true f = theirs h true f ∙ sym (ap (λ c. not c && true && h) (ne_eqb i j (λ z. eqb-false o i e (eqb-true o j f ∙ sym z))))
    go false e false f = theirs h false f ∙ sym (none (not (eqb i j)))
      where
        none : (c : Bool) → c && false && h ≡ false
        none true = refl
        none false = refl

-- a row has what the tables tell
pub row_cells : (owners table : Bytes) (ends : List ℕ) (j first cells k : ℕ) (class : Bytes) → cells ≤ most_elements → Classed owners table ends j cells class
    → class_cells class first cells k ≡ part_cells owners table ends j first cells k
unfolding class_cells of_class part_cells
row_cells owners table ends j first cells k class few C =
    blocks_cong 0 (λ q. cond (eqb (byte_at class q) k) ((first + q) ∷ []) []) (λ q. cond (eqb (class_at owners table ends j cells q) k) ((first + q) ∷ []) []) cells
    (λ q h. ap (λ x. cond (eqb x k) ((first + (0 + q)) ∷ []) []) (C.each (0 + q) (omega arith)))

module _ (m : Bytes) (parts : ℕ) (owners st table : Bytes) (ends : List ℕ) (holders : Bytes) (R : Prepared m parts owners st table ends holders) where
  abbrev S : Split
  S = split_of m parts owners st

  module _ (i first cells : ℕ) (fe : first ≡ first_cell m) (ce : cells ≡ cell_count m) (class : Bytes) (C : Classed owners table ends i cells class) where
    -- the row has the class of each cell
    pub class_at_lem : (q : ℕ) → q < cell_count m → byte_at class q ≡ class_in S i (first_cell m + q)
    class_at_lem q h =
        let f = cells_few m (cell_count m) R.mesh refl in
        (subst (λ n. Classed owners table ends i n class) ce C).each q (omega arith) ∙ R.classes i q h

    -- the cells of a class, by a test of the definitions that tells that class
    class_is : (k : ℕ) (p : ℕ → Bool) → ((q : ℕ) → q < cell_count m → eqb (class_in S i (first_cell m + q)) k ≡ p (first_cell m + q))
        → class_cells class first cells k ≡ picked (first_cell m) (cell_count m) p
    unfolding class_cells of_class
    class_is k p f =
        ap₂ (λ a n. blocks 0 n (λ q. cond (eqb (byte_at class q) k) ((a + q) ∷ []) [])) fe ce
        ∙ blocks_cong 0 (λ q. cond (eqb (byte_at class q) k) ((first_cell m + q) ∷ []) []) (λ q. cond (p (first_cell m + q)) ((first_cell m + q) ∷ []) []) (cell_count m)
        (λ q h. let l : 0 + q < cell_count m = omega arith in ap (λ b. cond b ((first_cell m + (0 + q)) ∷ []) []) (ap (λ x. eqb x k) (class_at_lem (0 + q) l) ∙ f (0 + q) l))
        ∙ blocks_picked (first_cell m) (cell_count m) p

    owner_few : (q : ℕ) → q < cell_count m → S.owner (first_cell m + q) ≤ most_parts
    unfolding split_of
    owner_few q h =
        let f = map_facts m parts owners [] R.map in
        let e : first_cell m + q - first_cell m ≡ q = omega arith in
        subst (λ k. owner_at owners k ≤ most_parts) (sym e) (omega (arith, (f.owner_in q h).1, f.few))

    own_cells : (y : Bool) → class_cells class first cells (cond y 17 18) ≡ picked (first_cell m) (cell_count m) (λ c. eqb (S.owner c) i && cond y (inside S i c) (not (inside S i c)))
    unfolding class_in owns
    own_cells y =
        class_is (cond y 17 18) (λ c. eqb (S.owner c) i && cond y (inside S i c) (not (inside S i c)))
        (λ q h. is_own y (eqb (S.owner (first_cell m + q)) i) (inside S i (first_cell m + q)) (holds S i (first_cell m + q)) (S.owner (first_cell m + q)) (owner_few q h))

    pub interior_is : class_cells class first cells 17 ≡ interior S i
    unfolding interior owns split_of
    interior_is = own_cells true

    pub halo_is : class_cells class first cells 18 ≡ halo S i
    unfolding halo owns split_of
    halo_is = own_cells false

    pub imports_are : (j : ℕ) → 1 ≤ j → j ≤ most_parts → class_cells class first cells j ≡ imports S i j
    unfolding imports owns split_of class_in
    imports_are j low top =
        class_is j (λ c. not (eqb i j) && eqb (S.owner c) j && holds S i c)
        (λ q h. is_import (inside S i (first_cell m + q)) (holds S i (first_cell m + q)) (S.owner (first_cell m + q)) i j low top)

    pub order_is : class_order class first cells parts ≡ locals S i
    unfolding class_order locals split_of
    order_is =
        ap₂ ◌++◌ interior_is
        (ap₂ ◌++◌ halo_is (blocks_cong 1 (class_cells class first cells) (imports S i) parts (λ j h. imports_are (1 + j) (omega arith) (omega (arith, (map_facts m parts owners [] R.map).few)))))

  -- what part j imports from part i, by the tables
  pub part_imports : (i j first cells : ℕ) → first ≡ first_cell m → cells ≡ cell_count m → 1 ≤ i → i ≤ most_parts → part_cells owners table ends j first cells i ≡ imports S j i
  unfolding part_cells imports owns split_of class_in
  part_imports i j first cells fe ce low high =
      ap₂ (λ a n. blocks 0 n (λ q. cond (eqb (class_at owners table ends j n q) i) ((a + q) ∷ []) [])) fe ce
      ∙ blocks_cong 0 (λ q. cond (eqb (class_at owners table ends j (cell_count m) q) i) ((first_cell m + q) ∷ []) [])
      (λ q. cond (not (eqb j i) && eqb (S.owner (first_cell m + q)) i && holds S j (first_cell m + q)) ((first_cell m + q) ∷ []) []) (cell_count m)
      (λ q h.
      ap (λ b. cond b ((first_cell m + (0 + q)) ∷ []) [])
      (ap (λ x. eqb x i) (R.classes j (0 + q) (omega arith)) ∙ is_import (inside S j (first_cell m + (0 + q))) (holds S j (first_cell m + (0 + q))) (S.owner (first_cell m + (0 + q))) j i low high))
      ∙ blocks_picked (first_cell m) (cell_count m) (λ c. not (eqb j i) && eqb (S.owner c) i && holds S j c)

  pub picked_few : (p : ℕ → Bool) → length (picked S.first S.cells p) ≤ most_elements
  unfolding split_of
  picked_few p = omega (arith, picked_length_le (first_cell m) p (cell_count m), cells_few m (cell_count m) R.mesh refl)

  pub locals_few : (i : ℕ) → length (locals S i) ≤ most_elements
  locals_few i =
      subst (λ n. n ≤ most_elements)
      (sym (local_held S (split_reach m parts owners st) (split_owner m parts owners st (map_facts m parts owners [] R.map).owner_in) (split_own m parts owners st) i))
      (unfold held in picked_few (holds S i))
