-- Stamps along the chains of owned cells. Assumes nothing.
use mathlib.Core.Path.{◌≡◌, refl, sym, ap, ap₂, ◌∙◌}
use mathlib.Core.Bool.{Bool, true, false, not, ◌&&◌, ◌||◌, cond}
use mathlib.Core.List.{List, [], map}
use Prim.Native.Nat.{ℕ, ◌+◌, ◌-◌, ◌≤◌, ◌<◌}
use native.Mathlib.Omega.{arith}
use lib.Dec.{eqb, leb, ltb}
use lib.ListN.{get_or}
use borrow.Author.Tests.{eq-eqb, ne_eqb, le-leb, lt-leb, ltb-true, ltb-false}
use Rattle.vocabulary.specs.Bytes.{Bytes, byte_at}
use Rattle.vocabulary.proofs.ByteLaws.{byte_past}
use Rattle.vocabulary.specs.Lists.{some_of}
use Rattle.vocabulary.proofs.ListLaws.{All_intro, some_of_cong}
use Rattle.vocabulary.specs.Intervals.{some}
use Rattle.vocabulary.proofs.ScanLaws.{some_start_from, some_turn_from, some_stop_from, some_end_from}
use Rattle.layout.specs.Limits.{most_elements, record_places}
use Rattle.mesh.specs.Mesh.{record_count, head_of, element_in, next_of, follow, records, chain}
use Rattle.mesh.proofs.FollowLaws.{chain_ended, chain_spent, chain_more}
use Rattle.walk_incidence.specs.declared.inner.Incidence.{Incidence}
use Rattle.walk_incidence.specs.Links.{trail}
use Rattle.split.specs.Split.{owner_at}
use Rattle.split.specs.Owners.{owns_at}
use Rattle.split_classes.specs.Classes.{reach_has, RowCleared}
use Rattle.part_start_lists.specs.Starting.{Stamped}
use Rattle.part_start_points.specs.Points.{some_at, cells_on}
use Rattle.part_start_points.specs.Outside.{unstamped_at, chain_unstamped, stamped_at, outside_at, cell_outside, some_outside}

-- ---- one element

module _ (inc : Incidence) (stamps : Bytes) (first n g : ℕ) where
  pub unstamped_lower : n < g → false ≡ unstamped_at inc stamps first n g
  unfolding unstamped_at
  unstamped_lower h = sym (ap (λ b. b && some_at stamps first 0 (cells_on inc g)) (lt-leb g n h))

  pub unstamped_point : (t : ℕ) (b : Bool) → g ≤ n → t ≡ get_or inc.last g 0 → b ≡ some_at stamps first 0 (trail inc.cell inc.prev record_places t) → b ≡ unstamped_at inc stamps first n g
  unfolding unstamped_at cells_on
  unstamped_point t b h te be =
      be
      ∙ ap (λ x. some_at stamps first 0 (trail inc.cell inc.prev record_places x)) te
      ∙ sym (ap (λ b. b && some_at stamps first 0 (trail inc.cell inc.prev record_places (get_or inc.last g 0))) (le-leb g n h))

-- ---- a chain

module _ (m : Bytes) (inc : Incidence) (stamps : Bytes) (first n : ℕ) where
  -- after k turns, at record i, what is left of the chain tells what the whole does
  pub record ChainLeft (r h k i : ℕ) : Type 0 where
    pub same : chain_unstamped m inc stamps first n (r + 1 - k) i ≡ chain_unstamped m inc stamps first n (r + 1) h

  pub chain_begin : (r h : ℕ) → ChainLeft r h 0 h
  chain_begin r h = let z : r + 1 - 0 ≡ r + 1 = omega arith in record { same = ap (λ k. chain_unstamped m inc stamps first n k h) z }

  none : (k i : ℕ) → follow m k i ≡ [] → false ≡ chain_unstamped m inc stamps first n k i
  unfolding chain_unstamped some_of
  none k i e = sym (ap (λ xs. some_of (map (element_in m) xs) (unstamped_at inc stamps first n)) e)

  module _ (r h k i : ℕ) (C : ChainLeft r h k i) where
    pub chain_over : i < 1 → false ≡ chain_unstamped m inc stamps first n (r + 1) h
    chain_over l = none (r + 1 - k) i (chain_ended m (r + 1) k i l) ∙ C.same

    pub chain_run : (e : ℕ) → e ≡ r + 1 → e ≤ k → false ≡ chain_unstamped m inc stamps first n (r + 1) h
    chain_run e ee l = none (r + 1 - k) i (chain_spent m (r + 1) k i (omega arith)) ∙ C.same

    module _ (e : ℕ) (ee : e ≡ r + 1) (l : k < e) (low : 1 ≤ i) (g : ℕ) (ge : g ≡ element_in m i) (b : Bool) (be : b ≡ unstamped_at inc stamps first n g) where
      next : chain_unstamped m inc stamps first n (r + 1 - k) i ≡ b || chain_unstamped m inc stamps first n (r + 1 - (k + 1)) (next_of m i)
      unfolding chain_unstamped some_of
      next =
          ap (λ xs. some_of (map (element_in m) xs) (unstamped_at inc stamps first n)) (chain_more m (r + 1) k i (omega arith) low)
          ∙ ap (λ c. c || some_of (map (element_in m) (follow m (r + 1 - (k + 1)) (next_of m i))) (unstamped_at inc stamps first n))
          (ap (unstamped_at inc stamps first n) (sym ge) ∙ sym be)

      pub chain_here : b ≡ true → true ≡ chain_unstamped m inc stamps first n (r + 1) h
      chain_here t = sym (ap (λ c. c || chain_unstamped m inc stamps first n (r + 1 - (k + 1)) (next_of m i)) t) ∙ sym next ∙ C.same

      pub chain_turn : (j : ℕ) → b ≡ false → j ≡ next_of m i → ChainLeft r h (k + 1) j
      chain_turn j f je = record {
        same =
            ap (chain_unstamped m inc stamps first n (r + 1 - (k + 1))) je
            ∙ sym (ap (λ c. c || chain_unstamped m inc stamps first n (r + 1 - (k + 1)) (next_of m i)) f)
            ∙ sym next
            ∙ C.same;
      }

-- ---- one cell

module _ (table : Bytes) (ends : List ℕ) (q : ℕ) (a b : Bytes) (R : RowCleared most_elements a) (P : Stamped 1 a b (reach_has table ends q)) where
  -- the cells outside its reach bear no stamp
  stamp_told : (x : ℕ) → eqb (byte_at b x) 0 ≡ not (stamped_at table ends q x)
  unfolding stamped_at
  stamp_told x = go (ltb x most_elements) refl
    where
      one : (c : Bool) → eqb (cond c 1 0) 0 ≡ not c
      one true = refl
      one false = refl

      go : (l : Bool) → ltb x most_elements ≡ l → eqb (byte_at b x) 0 ≡ not (l && reach_has table ends q x)
      go true e =
          let h : x < most_elements = ltb-true x most_elements e in
          ap (λ z. eqb z 0) (P.each x h ∙ ap (λ z. cond (reach_has table ends q x) 1 z) (R.each x h)) ∙ one (reach_has table ends q x)
      go false e = let h : most_elements ≤ x = ltb-false x most_elements e in ap (λ z. eqb z 0) (byte_past b x (omega (arith, P.room)))

  -- afterwards the row is as it was
  pub stamps_cleared : (c : Bytes) → Stamped 0 b c (reach_has table ends q) → RowCleared most_elements c
  stamps_cleared c Q = record {
    room = Q.room;
    each = λ x h. Q.each x h ∙ ap (λ z. cond (reach_has table ends q x) 0 z) (P.each x h) ∙ go (reach_has table ends q x) (byte_at a x) (R.each x h);
  }
    where
      go : (t : Bool) (z : ℕ) → z ≡ 0 → cond t 0 (cond t 1 z) ≡ 0
      go true z e = refl
      go false z e = e

  module _ (m : Bytes) (inc : Incidence) (owners : Bytes) (first n i c o : ℕ) (qe : q ≡ c - first) (oe : o ≡ owner_at owners q) where
    pub cell_outside_lem : (r h : ℕ) (t : Bool) → o ≡ i → r ≡ record_count m → h ≡ head_of m c → t ≡ chain_unstamped m inc b first n (r + 1) h
        → t ≡ cell_outside m inc owners table ends first n i c
    unfolding cell_outside owns_at chain_unstamped chain records unstamped_at outside_at some_at
    cell_outside_lem r h t own re he te =
        te
        ∙ ap₂ (λ k x. some_of (map (element_in m) (follow m (k + 1) x)) (unstamped_at inc b first n)) re he
        ∙ some_of_cong (unstamped_at inc b first n) (outside_at inc table ends first n q) (chain m c) (All_intro _ (chain m c) 0 (λ l k. same (get_or (chain m c) l 0)))
        ∙ ap (λ x. some_of (chain m c) (outside_at inc table ends first n x)) qe
        ∙ sym (ap (λ z. z && some_of (chain m c) (outside_at inc table ends first n (c - first))) mine)
      where
        mine : eqb (owner_at owners (c - first)) i ≡ true
        mine = eq-eqb (owner_at owners (c - first)) i (ap (owner_at owners) (sym qe) ∙ sym oe ∙ own)

        same : (g : ℕ) → unstamped_at inc b first n g ≡ outside_at inc table ends first n q g
        same g =
            ap (λ z. leb g n && z)
            (some_of_cong (λ y. eqb (byte_at b (y - first)) 0) (λ y. not (stamped_at table ends q (y - first))) (cells_on inc g)
            (All_intro _ (cells_on inc g) 0 (λ l k. stamp_told (get_or (cells_on inc g) l 0 - first))))

pub cell_anothers : (m : Bytes) (inc : Incidence) (owners table : Bytes) (ends : List ℕ) (first n i c q o : ℕ) → q ≡ c - first → o ≡ owner_at owners q → (o ≡ i → ⊥)
    → false ≡ cell_outside m inc owners table ends first n i c
unfolding cell_outside owns_at
cell_anothers m inc owners table ends first n i c q o qe oe ne =
    sym (ap (λ z. z && some_of (chain m c) (outside_at inc table ends first n (c - first)))
    (ne_eqb (owner_at owners (c - first)) i (λ z. ne (oe ∙ ap (owner_at owners) qe ∙ z))))

-- ---- the cells, one after another

module _ (m : Bytes) (inc : Incidence) (owners table : Bytes) (ends : List ℕ) (first n i : ℕ) where
  pub outside_begin : some first (first - first) (cell_outside m inc owners table ends first n i) ≡ false
  outside_begin = some_start_from first (cell_outside m inc owners table ends first n i)

  pub outside_turn : (c : ℕ) (t : Bool) → first ≤ c → some first (c - first) (cell_outside m inc owners table ends first n i) ≡ false
      → t ≡ cell_outside m inc owners table ends first n i c → t ≡ false → some first (c + 1 - first) (cell_outside m inc owners table ends first n i) ≡ false
  outside_turn c t low none e f = some_turn_from first (cell_outside m inc owners table ends first n i) c t low none e f

  module _ (cells c end : ℕ) (ee : end ≡ first + cells) where
    pub outside_found : (t : Bool) → first ≤ c → c < end → t ≡ cell_outside m inc owners table ends first n i c → t ≡ true
        → true ≡ some_outside m inc owners table ends first n i cells
    unfolding some_outside
    outside_found t low high e f = some_stop_from first (cell_outside m inc owners table ends first n i) cells c t e f low (omega arith)

    pub outside_none : c ≤ end → end ≤ c → some first (c - first) (cell_outside m inc owners table ends first n i) ≡ false
        → false ≡ some_outside m inc owners table ends first n i cells
    unfolding some_outside
    outside_none low high none = some_end_from first (cell_outside m inc owners table ends first n i) cells c none (omega arith) (omega arith)
