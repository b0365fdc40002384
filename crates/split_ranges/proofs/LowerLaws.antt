-- The ranges as the code finds them, by the cells on an element's trail, are those of the definitions. Assumes nothing.
use mathlib.Core.Path.{◌≡◌, refl, sym, ap, ap₂, ◌∙◌, subst}
use mathlib.Core.Bool.{Bool, false, not, cond, true, ◌&&◌}
use mathlib.Core.List.{List, [], ◌∷◌}
use Prim.Native.Nat.{ℕ, ◌+◌, ◌-◌, ◌≤◌, ◌<◌}
use native.Mathlib.Omega.{arith}
use lib.Dec.{eqb, leb, ltb}
use lib.ListN.{get_or, length, set, length-set}
use lib.Seq.{get_or-set_same, get_or-set_other}
use mathlib.Core.Logic.{⊎_elim}
use Rattle.vocabulary.proofs.CountLaws.{total_add, total_single, picked_count}
use borrow.Author.Tests.{eq-eqb, lt-leb, lt-ltb, le-ltb, eqb-true, eqb-false, ne_eqb, not-true, ltb-true}
use Rattle.vocabulary.specs.Bytes.{Bytes, byte_at}
use Rattle.vocabulary.specs.Intervals.{picked, blocks, some, total}
use Rattle.vocabulary.proofs.IntervalLaws.{at_last, picked_cong, some_cong, some_swap, picked_some, last_or, total_cong, blocks_cong, picked_all}
use Rattle.vocabulary.proofs.IntervalLaws.{picked_length_le, some_in, some_witness, blocks_picked}
use Rattle.vocabulary.specs.Lists.{is_in, some_of, All}
use Rattle.vocabulary.proofs.ListLaws.{or_nothing, and_true, and_intro, same_test, All_map, All_get_or, some_of_has, some_of_witness, some_of_cong, some_of_and, cond_has}
use Rattle.layout.specs.Limits.{most_elements, most_parts, record_places}
use Rattle.mesh.specs.Mesh.{top, counted, below, first_cell, cell_count}
use Rattle.mesh.specs.Walks.{incident, step_to, cells_at}
use Rattle.mesh.specs.Accepted.{Accepted}
use Rattle.mesh.proofs.WalkLaws.{below_grows}
use Rattle.walk_incidence.specs.declared.inner.Incidence.{Incidence}
use Rattle.walk_incidence.specs.Links.{trail, Inverted}
use Rattle.walk_frontier.specs.Visits.{up}
use Rattle.walk_steps.specs.Walking.{stepped}
use Rattle.walk_steps.proofs.StepLaws.{some_of_like, up_told}
use Rattle.mesh.proofs.DimensionLaws.{below_next}
use Rattle.split.specs.Split.{range, Split, split_of, owner_at, owns, holds, inside, holds_lower, touches, another}
use Rattle.split.proofs.SplitLaws.{map_facts}
use Rattle.split_classes.specs.Classes.{class_in, holder_count, held_one, Classed, Prepared, of_class, class_cells, Appended}
use Rattle.split_classes.proofs.HoldLaws.{class_zero}
use Rattle.split_cells.proofs.AddLaws.{add_none}
use Rattle.split_cells.proofs.ClassLists.{class_at_lem}
use Rattle.split_ranges.specs.declared.inner.Side.{Side}
use Rattle.split_ranges.specs.declared.inner.Side.TheVariants.{Mine, Anothers, Held, HeldByAnother}
use Rattle.split_ranges.specs.Lowers.{side_at, some_side, lower_class, trail_class, element_class, Lowered, range_of, row_range}

-- ---- a row of classes

-- the first n elements after lo have their classes in a row
pub record Trailed (w : Incidence) (first : ℕ) (class holders : Bytes) (lo n : ℕ) (lower : Bytes) : Type 0 where
  pub room : length lower ≡ most_elements
  pub each : (q : ℕ) → q < n → byte_at lower q ≡ trail_class w first class holders (lo + 1 + q)

pub trailed_start : (w : Incidence) (first : ℕ) (class holders : Bytes) (lo : ℕ) (lower : Bytes) → length lower ≡ most_elements → Trailed w first class holders lo 0 lower
trailed_start w first class holders lo lower l = record { room = l; each = λ q h. let n : ⊥ = omega arith in absurd n }

pub trailed_turn : (w : Incidence) (first : ℕ) (class holders : Bytes) (lo q n : ℕ) (a b : Bytes) (x : ℕ) → q < n → n ≤ most_elements → Trailed w first class holders lo q a
    → x ≡ trail_class w first class holders (lo + 1 + q) → b ≡ set a q x → Trailed w first class holders lo (q + 1) b
trailed_turn w first class holders lo q n a b x h nl T xe e = record {
  room = ap length e ∙ length-set a q x ∙ T.room;
  each = λ y l. ap (λ (c : Bytes). byte_at c y) e ∙ go y l (eqb y q) refl;
}
  where
    go : (y : ℕ) → y < q + 1 → (t : Bool) → eqb y q ≡ t → byte_at (set a q x) y ≡ trail_class w first class holders (lo + 1 + y)
    go y l true t =
        let z : y ≡ q = eqb-true y q t in
        ap (byte_at (set a q x)) z ∙ get_or-set_same a q x 0 (omega (arith, T.room)) ∙ xe ∙ ap (λ k. trail_class w first class holders (lo + 1 + k)) (sym z)
    go y l false t =
        let ne : y ≡ q → ⊥ = eqb-false y q t in
        get_or-set_other a q y x 0 ne ∙ T.each y (⊎_elim (λ g. g) (λ g. absurd (ne g)) (last_or y q (omega arith)))

pub trailed_end : (w : Incidence) (first : ℕ) (class holders : Bytes) (lo q n : ℕ) (lower : Bytes) → q ≤ n → n ≤ q → Trailed w first class holders lo q lower
    → Trailed w first class holders lo n lower
trailed_end w first class holders lo q n lower g h T = at_last (λ k. Trailed w first class holders lo k lower) q n g h T

module _ (m : Bytes) (w : Incidence) (T : Inverted m w) where
  -- the cells on a lower element's trail are those incident to it
  trail_told : (e z : ℕ) → 1 ≤ e → e ≤ below m (top m) → is_in z (trail w.cell w.prev record_places (get_or w.last e 0)) ≡ is_in z (picked (first_cell m) (cell_count m) (incident m e))
  trail_told e z low high =
      turned
      ∙ stepping
      ∙ ap (is_in z) (picked_cong (first_cell m) (λ x. some_of (e ∷ []) (λ y. incident m y x)) (incident m e) (cell_count m) (λ k h. unfold some_of in or_nothing (incident m e (first_cell m + k))))
    where
      turned : is_in z (trail w.cell w.prev record_places (get_or w.last e 0)) ≡ is_in z (blocks 0 1 (up w (e ∷ [])))
      turned = unfold blocks up in refl

      stepping : is_in z (blocks 0 1 (up w (e ∷ []))) ≡ is_in z (picked (first_cell m) (cell_count m) (λ x. some_of (e ∷ []) (λ y. incident m y x)))
      stepping =
          up_told m T.mesh w (e ∷ []) T ((low, high), tt) z
          ∙ (unfold stepped step_to in refl)

  module _ (first : ℕ) (fe : first ≡ first_cell m) (class holders : Bytes) where
    class_like : (e : ℕ) → 1 ≤ e → e ≤ below m (top m) → trail_class w first class holders e ≡ element_class m class holders e
    unfolding trail_class element_class lower_class cells_at
    class_like e low high = λ x. cond (side Mine x) (cond (side Anothers x) 3 (cond (side HeldByAnother x) 2 1)) (cond (side Held x) 4 0)
      where
        side : (k : Side) → some_side (trail w.cell w.prev record_places (get_or w.last e 0)) first k class holders
            ≡ some_side (picked (first_cell m) (cell_count m) (incident m e)) (first_cell m) k class holders
        side k =
            unfold some_side in some_of_like (trail w.cell w.prev record_places (get_or w.last e 0)) (picked (first_cell m) (cell_count m) (incident m e))
            (λ y. side_at k class holders (y - first)) (λ z. trail_told e z low high)
            ∙ ap (λ f. some_of (picked (first_cell m) (cell_count m) (incident m e)) (λ y. side_at k class holders (y - f))) fe

    pub lowered : (k d lo n : ℕ) (lower : Bytes) → d ≡ top m → k < d → lo ≡ below m k → n ≡ counted m k → Trailed w first class holders lo n lower → Lowered m class holders k lower
    lowered k d lo n lower de h loe ne R = record {
      room = R.room;
      each = λ q a b.
          R.each q (omega arith)
          ∙ ap (λ l. trail_class w first class holders (l + 1 + q)) loe
          ∙ class_like (below m k + 1 + q) (omega arith) (omega (arith, below_grows m (k + 1) (top m) (omega arith), below_next m k));
    }

pub lowered_none : (m class holders : Bytes) (k d : ℕ) (lower : Bytes) → d ≡ top m → d ≤ k → length lower ≡ most_elements → Lowered m class holders k lower
lowered_none m class holders k d lower e h l = record { room = l; each = λ q a b. let n : ⊥ = omega arith in absurd n }

pub range_fits : (m : Bytes) (d k lo n : ℕ) → Accepted m → d ≡ top m → k < d → lo ≡ below m k → n ≡ counted m k → (lo + n < 65535) × (n ≤ most_elements)
range_fits m d k lo n A e h loe ne =
    let grows = below_grows m (k + 1) 4 (omega (arith, A.sizes.d_high)) in
    (omega (arith, below_next m k, grows, A.sizes.n_high), omega (arith, below_next m k, grows, A.sizes.n_high))

-- ---- a range by its row

pub range_none : (m : Bytes) (k : ℕ) (lower : Bytes) (wanted d : ℕ) (b : List ℕ) → d ≡ top m → d ≤ k → Appended b b 0 0 (row_range m k lower wanted)
unfolding row_range
range_none m k lower wanted d b e h = subst (Appended b b 0 0) (sym (ap (λ c. cond c (class_cells lower (below m k + 1) (counted m k) wanted) []) (le-ltb k (top m) (omega arith)))) (add_none b 0)

pub range_added : (m : Bytes) (k : ℕ) (lower : Bytes) (wanted d lo n : ℕ) (a b : List ℕ) (t : ℕ) → d ≡ top m → k < d → lo ≡ below m k → n ≡ counted m k
    → Appended a b 0 t (class_cells lower (lo + 1) n wanted) → Appended a b 0 t (row_range m k lower wanted)
unfolding row_range
range_added m k lower wanted d lo n a b t e h loe ne X =
    subst (Appended a b 0 t)
    (ap₂ (λ l c. class_cells lower (l + 1) c wanted) loe ne ∙ sym (ap (λ c. cond c (class_cells lower (below m k + 1) (counted m k) wanted) []) (lt-ltb k (top m) (omega arith)))) X

pub row_range_lem : (m class holders : Bytes) (k wanted : ℕ) (lower : Bytes) → Lowered m class holders k lower → row_range m k lower wanted ≡ range_of m class holders k wanted
unfolding row_range range_of range class_cells of_class
row_range_lem m class holders k wanted lower L = go (ltb k (top m)) refl
  where
    go : (b : Bool) → ltb k (top m) ≡ b
        → cond b (blocks 0 (counted m k) (λ q. cond (eqb (byte_at lower q) wanted) ((below m k + 1 + q) ∷ []) [])) []
        ≡ cond b (picked (below m k + 1) (counted m k) (λ e. eqb (element_class m class holders e) wanted)) []
    go true e =
        blocks_cong 0 (λ q. cond (eqb (byte_at lower q) wanted) ((below m k + 1 + q) ∷ []) [])
        (λ q. cond (eqb (element_class m class holders (below m k + 1 + q)) wanted) ((below m k + 1 + q) ∷ []) []) (counted m k)
        (λ q h. ap (λ x. cond (eqb x wanted) ((below m k + 1 + (0 + q)) ∷ []) []) (L.each (0 + q) (ltb-true k (top m) e) (omega arith)))
        ∙ blocks_picked (below m k + 1) (counted m k) (λ e. eqb (element_class m class holders e) wanted)
    go false e = refl

pub range_told : (m class holders : Bytes) (k wanted : ℕ) (lower : Bytes) (a b : List ℕ) (t : ℕ) → Lowered m class holders k lower → Appended a b 0 t (row_range m k lower wanted)
    → Appended a b 0 t (range_of m class holders k wanted)
range_told m class holders k wanted lower a b t L X = subst (Appended a b 0 t) (row_range_lem m class holders k wanted lower L) X

-- ---- how many parts pass, and whether another than part i does

another_counts : (p : ℕ → Bool) (i n : ℕ) → 1 ≤ i → i ≤ n → ltb (cond (p i) 1 0) (total 1 n (λ j. cond (p j) 1 0)) ≡ some 1 n (λ j. not (eqb i j) && p j)
another_counts p i n low high = ap (ltb (cond (p i) 1 0)) whole ∙ above ∙ ap (ltb 0) (sym (picked_count 1 n (λ j. not (eqb i j) && p j))) ∙ picked_some 1 (λ j. not (eqb i j) && p j) n
  where
    f : ℕ → ℕ
    f j = cond (eqb i j && p j) 1 0

    g : ℕ → ℕ
    g j = cond (not (eqb i j) && p j) 1 0

    halves : (e b : Bool) → ◌≡◌ {A = ℕ} (cond b 1 0) (cond (e && b) 1 0 + cond (not e && b) 1 0)
    halves true true = refl
    halves true false = refl
    halves false true = refl
    halves false false = refl

    back : 1 + (i - 1) ≡ i
    back = omega arith

    one : total 1 n f ≡ cond (p i) 1 0
    one =
        total_single 1 n (i - 1) f (omega arith) (λ k h ne. ap (λ e. cond (e && p (1 + k)) 1 0) (ne_eqb i (1 + k) (λ z. ne (let w : k ≡ i - 1 = omega arith in w))))
        ∙ ap f back
        ∙ ap (λ e. cond (e && p i) 1 0) (eq-eqb i i refl)

    whole : total 1 n (λ j. cond (p j) 1 0) ≡ cond (p i) 1 0 + total 1 n g
    whole = total_cong 1 (λ j. cond (p j) 1 0) (λ j. f j + g j) n (λ k h. halves (eqb i (1 + k)) (p (1 + k))) ∙ total_add 1 n f g ∙ ap (λ x. x + total 1 n g) one

    above : ltb (cond (p i) 1 0) (cond (p i) 1 0 + total 1 n g) ≡ ltb 0 (total 1 n g)
    above =
        same_test _ _ (λ e. let h = ltb-true (cond (p i) 1 0) (cond (p i) 1 0 + total 1 n g) e in lt-ltb 0 (total 1 n g) (omega arith))
        (λ e. let h = ltb-true 0 (total 1 n g) e in lt-ltb (cond (p i) 1 0) (cond (p i) 1 0 + total 1 n g) (omega arith))

-- ---- a range is that of the definitions

-- the class of an element, by its four tests
abbrev pub class_by : Bool → Bool → Bool → Bool → ℕ
class_by t a e h = cond t (cond a 3 (cond e 2 1)) (cond h 4 0)

-- private, exposed, shared and copied
abbrev pub RangeClasses : Bool → Bool → Bool → Bool → Type 0
RangeClasses t a e h = (eqb (class_by t a e h) 1 ≡ t && not a && not e) × (eqb (class_by t a e h) 2 ≡ t && not a && e) × (eqb (class_by t a e h) 3 ≡ t && a) × (eqb (class_by t a e h) 4 ≡ h && not t)

pub range_classes : (t a e h : Bool) → RangeClasses t a e h
range_classes true true e true = (refl, refl, refl, refl)
range_classes true true e false = (refl, refl, refl, refl)
range_classes true false true true = (refl, refl, refl, refl)
range_classes true false true false = (refl, refl, refl, refl)
range_classes true false false true = (refl, refl, refl, refl)
range_classes true false false false = (refl, refl, refl, refl)
range_classes false a e true = (refl, refl, refl, refl)
range_classes false a e false = (refl, refl, refl, refl)

module _ (m : Bytes) (parts : ℕ) (owners st table : Bytes) (ends : List ℕ) (holders : Bytes) (R : Prepared m parts owners st table ends holders) where
  abbrev S : Split
  S = split_of m parts owners st

  own_is : (y : ℕ) → S.owner y ≡ owner_at owners (y - first_cell m)
  unfolding split_of
  own_is y = refl

  -- the cells at an element are cells
  at_cells : (e : ℕ) → All (λ y. (first_cell m ≤ y) × (y < first_cell m + cell_count m)) (S.around e)
  unfolding cells_at split_of
  at_cells e = picked_all (first_cell m) (incident m e) (λ y. (first_cell m ≤ y) × (y < first_cell m + cell_count m)) (cell_count m) (λ k h t. (omega arith, omega arith))

  module _ (i : ℕ) (low : 1 ≤ i) (high : i ≤ parts) (cells : ℕ) (ce : cells ≡ cell_count m) (class : Bytes) (C : Classed owners table ends i cells class) where
    module _ (y : ℕ) (l : first_cell m ≤ y) (h : y < first_cell m + cell_count m) where
      place : first_cell m + (y - first_cell m) ≡ y
      place = omega arith

      class_of : byte_at class (y - first_cell m) ≡ class_in S i y
      class_of = class_at_lem m parts owners st table ends holders R i (first_cell m) cells refl ce class C (y - first_cell m) (omega arith) ∙ ap (class_in S i) place

      owner_few : S.owner y ≤ most_parts
      owner_few = let f = map_facts m parts owners [] R.map in omega (arith, own_is y, (f.owner_in (y - first_cell m) (omega arith)).1, f.few)

      mine_told : leb 17 (byte_at class (y - first_cell m)) ≡ owns S i y
      unfolding class_in
      mine_told = ap (leb 17) class_of ∙ go (owns S i y) (inside S i y) (holds S i y)
        where
          go : (a b h : Bool) → leb 17 (cond a (cond b 17 18) (cond h (S.owner y) 0)) ≡ a
          go true true h = refl
          go true false h = refl
          go false b true = lt-leb 17 (S.owner y) (omega (arith, owner_few))
          go false b false = refl

      other_told : ltb (byte_at class (y - first_cell m)) 17 ≡ not (owns S i y)
      unfolding class_in
      other_told = ap (λ x. ltb x 17) class_of ∙ go (owns S i y) (inside S i y) (holds S i y)
        where
          go : (a b h : Bool) → ltb (cond a (cond b 17 18) (cond h (S.owner y) 0)) 17 ≡ not a
          go true true h = refl
          go true false h = refl
          go false b true = lt-ltb (S.owner y) 17 (omega (arith, owner_few))
          go false b false = refl

      zero_told : eqb (byte_at class (y - first_cell m)) 0 ≡ not (holds S i y)
      zero_told =
          class_zero m parts owners st R.map i (y - first_cell m) (omega arith) (byte_at class (y - first_cell m)) (class_of ∙ ap (class_in S i) (sym place)) ∙ ap (λ z. not (holds S i z)) place

      held_told : not (eqb (byte_at class (y - first_cell m)) 0) ≡ holds S i y
      held_told = ap not zero_told ∙ twice (holds S i y)
        where
          twice : (b : Bool) → not (not b) ≡ b
          twice true = refl
          twice false = refl

      elsewhere_told : ltb (held_one class (y - first_cell m)) (byte_at holders (y - first_cell m)) ≡ some 1 parts (λ j. not (eqb i j) && holds S j y)
      unfolding held_one holder_count split_of
      elsewhere_told =
          ap₂ (λ b n. ltb (cond b 0 1) n) zero_told (R.held (y - first_cell m) (omega arith) ∙ ap (λ z. total 1 parts (λ j. cond (holds S j z) 1 0)) place)
          ∙ ap (λ x. ltb x (total 1 parts (λ j. cond (holds S j y) 1 0))) (swap (holds S i y))
          ∙ another_counts (λ j. holds S j y) i parts low high
        where
          swap : (b : Bool) → ◌≡◌ {A = ℕ} (cond (not b) 0 1) (cond b 1 0)
          swap true = refl
          swap false = refl

    -- the same for the cells at an element
    module _ (e : ℕ) where
      -- by a test of the definitions
      by : (p q : ℕ → Bool) → ((y : ℕ) → first_cell m ≤ y → y < first_cell m + cell_count m → p (y - first_cell m) ≡ q y) → some_of (S.around e) (λ y. p (y - first_cell m)) ≡ some_of (S.around e) q
      by p q f = some_of_cong (λ y. p (y - first_cell m)) q (S.around e) (All_map (S.around e) (λ y w. f y w.0 w.1) (at_cells e))

      mine : some_side (S.around e) (first_cell m) Mine class holders ≡ touches S e i
      unfolding some_side side_at touches
      mine = by (λ q. leb 17 (byte_at class q)) (owns S i) mine_told

      held_here : some_side (S.around e) (first_cell m) Held class holders ≡ holds_lower S i e
      unfolding some_side side_at holds_lower
      held_here = by (λ q. not (eqb (byte_at class q) 0)) (holds S i) held_told

      anothers : some_side (S.around e) (first_cell m) Anothers class holders ≡ another S i (touches S e)
      unfolding some_side side_at another touches owns split_of
      anothers = by (λ q. ltb (byte_at class q) 17) (λ y. not (eqb (S.owner y) i)) other_told ∙ same_test _ _ left right
        where
          left : some_of (S.around e) (λ y. not (eqb (S.owner y) i)) ≡ true → some 1 parts (λ j. not (eqb i j) && some_of (S.around e) (λ y. eqb (S.owner y) j)) ≡ true
          left t =
              let w = some_of_witness (λ y. not (eqb (S.owner y) i)) (S.around e) 0 t in
              let x = get_or (S.around e) w.0 0 in
              let c = All_get_or (λ y. (first_cell m ≤ y) × (y < first_cell m + cell_count m)) (S.around e) w.0 0 (at_cells e) w.1 in
              let o = (map_facts m parts owners [] R.map).owner_in (x - first_cell m) (omega (arith, c.0, c.1)) in
              let n = eqb-false (S.owner x) i (not-true (eqb (S.owner x) i) w.2) in
              some_in 1 (λ j. not (eqb i j) && some_of (S.around e) (λ y. eqb (S.owner y) j)) parts (S.owner x)
              (omega (arith, o.0, own_is x)) (omega (arith, o.1, own_is x))
              (and_intro (not (eqb i (S.owner x))) (some_of (S.around e) (λ y. eqb (S.owner y) (S.owner x))) (ap not (ne_eqb i (S.owner x) (λ z. n (sym z))))
              (some_of_has (λ y. eqb (S.owner y) (S.owner x)) (S.around e) 0 w.0 w.1 (eq-eqb (S.owner x) (S.owner x) refl)))

          right : some 1 parts (λ j. not (eqb i j) && some_of (S.around e) (λ y. eqb (S.owner y) j)) ≡ true → some_of (S.around e) (λ y. not (eqb (S.owner y) i)) ≡ true
          right t =
              let w = some_witness 1 (λ j. not (eqb i j) && some_of (S.around e) (λ y. eqb (S.owner y) j)) parts t in
              let u = and_true (not (eqb i (1 + w.0))) (some_of (S.around e) (λ y. eqb (S.owner y) (1 + w.0))) w.2 in
              let v = some_of_witness (λ y. eqb (S.owner y) (1 + w.0)) (S.around e) 0 u.1 in
              let x = get_or (S.around e) v.0 0 in
              some_of_has (λ y. not (eqb (S.owner y) i)) (S.around e) 0 v.0 v.1
              (ap not (ne_eqb (S.owner x) i (λ z. eqb-false i (1 + w.0) (not-true (eqb i (1 + w.0)) u.0) (sym z ∙ eqb-true (S.owner x) (1 + w.0) v.2))))

      held_others : some_side (S.around e) (first_cell m) HeldByAnother class holders ≡ another S i (λ j. holds_lower S j e)
      unfolding some_side side_at another holds_lower split_of
      held_others =
          by (λ q. ltb (held_one class q) (byte_at holders q)) (λ y. some 1 parts (λ j. not (eqb i j) && holds S j y)) elsewhere_told
          ∙ sym (some_swap 1 parts (S.around e) (λ j y. not (eqb i j) && holds S j y))
          ∙ some_cong 1 (λ j. some_of (S.around e) (λ y. not (eqb i j) && holds S j y)) (λ j. not (eqb i j) && some_of (S.around e) (holds S j)) parts
          (λ k h. some_of_and (not (eqb i (1 + k))) (holds S (1 + k)) (S.around e))

      -- the class, by the definitions
      element_is : element_class m class holders e
          ≡ cond (touches S e i) (cond (another S i (touches S e)) 3 (cond (another S i (λ j. holds_lower S j e)) 2 1)) (cond (holds_lower S i e) 4 0)
      element_is = start ∙ (unfold lower_class in λ x. cond (mine x) (cond (anothers x) 3 (cond (held_others x) 2 1)) (cond (held_here x) 4 0))
        where
          start : element_class m class holders e ≡ lower_class (S.around e) (first_cell m) class holders
          start = unfold element_class cells_at split_of in refl

    -- a range, by a test of the definitions that tells its class
    pub range_is : (k wanted : ℕ) (p : ℕ → Bool)
        → ((e : ℕ) → eqb (cond (touches S e i) (cond (another S i (touches S e)) 3 (cond (another S i (λ j. holds_lower S j e)) 2 1)) (cond (holds_lower S i e) 4 0)) wanted ≡ p e)
        → range_of m class holders k wanted ≡ range m k p
    unfolding range_of range
    range_is k wanted p f =
        ap (λ xs. cond (ltb k (top m)) xs [])
        (picked_cong (below m k + 1) (λ e. eqb (element_class m class holders e) wanted) p (counted m k) (λ q h. ap (λ x. eqb x wanted) (element_is (below m k + 1 + q)) ∙ f (below m k + 1 + q)))

  pub range_few : (k : ℕ) (p : ℕ → Bool) → length (range m k p) ≤ most_elements
  unfolding range
  range_few k p = cond_has (λ (xs : List ℕ). length xs ≤ most_elements) (ltb k (top m)) (picked (below m k + 1) (counted m k) p) [] some_of_lem (λ e. omega arith)
    where
      some_of_lem : ltb k (top m) ≡ true → length (picked (below m k + 1) (counted m k) p) ≤ most_elements
      some_of_lem e =
          omega (arith, picked_length_le (below m k + 1) p (counted m k), below_next m k, below_grows m (k + 1) 4 (omega (arith, ltb-true k (top m) e, R.mesh.sizes.d_high)), R.mesh.sizes.n_high)
