-- How many cells the cells of a row reach, as the code counts them. Assumes nothing.
use mathlib.Core.Path.{◌≡◌, refl, sym, ap, ap₂, ◌∙◌}
use mathlib.Core.Bool.{Bool, true, false, not, cond}
use mathlib.Core.List.{List, [], ◌∷◌, ◌++◌}
use Prim.Native.Nat.{ℕ, zero, suc, ◌+◌, ◌-◌, ◌≤◌, ◌<◌}
use native.Mathlib.Nat.{zero-add}
use native.Mathlib.Numerals.{add-one}
use native.Mathlib.Omega.{arith}
use lib.Dec.{eqb, ltb}
use lib.ListN.{length, get_or, set, take, length-set, length-take}
use lib.Seq.{take-suc-set}
use borrow.Author.Tests.{eq-eqb, ne_eqb}
use Rattle.vocabulary.specs.Bytes.{Bytes, byte_at}
use Rattle.vocabulary.specs.Intervals.{picked, total}
use Rattle.vocabulary.proofs.IntervalLaws.{some_cong, picked_all, picked_yes, picked_no, picked_some, some_swap, at_last, total_start, total_turn, total_cong}
use Rattle.vocabulary.specs.Lists.{is_in, some_of, All, Zeros}
use Rattle.vocabulary.proofs.ListLaws.{same_test, All_intro, some_of_has, some_of_witness, some_of_cong, is_in_some}
use Rattle.layout.specs.Limits.{element_places, most_elements}
use Rattle.mesh.specs.Mesh.{first_cell, cell_count}
use Rattle.mesh.specs.Walks.{step_to, steps_to, walked}
use Rattle.mesh.specs.Accepted.{Accepted, Cell}
use Rattle.mesh.specs.Meet.{Under}
use Rattle.walk_incidence.specs.declared.inner.Incidence.{Incidence}
use Rattle.walk_incidence.specs.declared.inner.MeshSizes.{MeshSizes}
use Rattle.walk_incidence.specs.Sizes.{Sized}
use Rattle.walk_steps.specs.declared.steps.Space.{Space}
use Rattle.walk_steps.specs.Walking.{Ground, layer_mark, walked_from, AllCells, WalkDone}
use Rattle.walk_steps.proofs.WalkLaws.{marked_by, cell_layer, steps_is}
use Rattle.walk_steps.proofs.StepLaws.{step_from, step_to_lem}
use Rattle.walk_part_reach.specs.Rows.{walked_to, row_cells, Rowed, layer_one, layer_count, row_reach_count, ReachCounted}

-- ---- the cells of a row

module _ (first : ℕ) (rows : Bytes) (i : ℕ) where
  pub rowed_start : (list : List ℕ) → length list ≡ element_places → Rowed first rows i 0 0 list
  unfolding row_cells picked
  rowed_start list r = record { room = r; few = omega arith; cells = refl }

  module _ (q k x : ℕ) (list : List ℕ) (R : Rowed first rows i q k list) (e : x ≡ byte_at rows q) where
    here : byte_at rows (first + q - first) ≡ x
    here = let p : first + q - first ≡ q = omega arith in ap (byte_at rows) p ∙ sym e

    pub rowed_skip : (x ≡ i → ⊥) → Rowed first rows i (q + 1) k list
    unfolding row_cells
    rowed_skip n = record {
      room = R.room;
      few = omega (arith, R.few);
      cells = R.cells ∙ sym (picked_no first (λ x. eqb (byte_at rows (x - first)) i) q (ne_eqb _ i (λ w. n (sym here ∙ w))));
    }

    pub rowed_put : (after : List ℕ) → x ≡ i → first + q ≤ most_elements → after ≡ set list k (first + q) → Rowed first rows i (q + 1) (k + 1) after
    unfolding row_cells
    rowed_put after y h f = record {
      room = ap length f ∙ length-set list k (first + q) ∙ R.room;
      few = omega (arith, R.few);
      cells =
          rw (add-one k) (ap (take (suc k)) f ∙ take-suc-set list k (first + q) (omega (arith, R.room, R.few)) ∙ ap (λ l. l ++ ((first + q) ∷ [])) R.cells
          ∙ sym (picked_yes first (λ x. eqb (byte_at rows (x - first)) i) q (eq-eqb _ i (here ∙ y))));
    }

  pub rowed_end : (q cells n : ℕ) (list : List ℕ) → q ≤ cells → cells ≤ q → Rowed first rows i q n list → Rowed first rows i cells n list
  rowed_end q cells n list g h R = at_last (λ k. Rowed first rows i k n list) q cells g h R

-- ---- what walks from several cells reach: what the walks from one of them do

module _ (m st : Bytes) (cs : List ℕ) where
  -- one step more
  step_some : (a : ℕ) (es : List ℕ) (f : ℕ → List ℕ) → ((y : ℕ) → is_in y es ≡ some_of cs (λ c. is_in y (f c))) → (z : ℕ) → is_in z (step_to m a es) ≡ some_of cs (λ c. is_in z (step_to m a (f c)))
  step_some a es f like z = same_test (is_in z (step_to m a es)) (some_of cs (λ c. is_in z (step_to m a (f c)))) there back
    where
      there : is_in z (step_to m a es) ≡ true → some_of cs (λ c. is_in z (step_to m a (f c))) ≡ true
      there e =
          let w = step_from m a z es e in
          let g = some_of_witness (λ c. is_in w.0 (f c)) cs 0 (sym (like w.0) ∙ w.1) in
          some_of_has (λ c. is_in z (step_to m a (f c))) cs 0 g.0 g.1 (step_to_lem m a z (f (get_or cs g.0 0)) w.0 g.2 w.2 w.3 w.4)

      back : some_of cs (λ c. is_in z (step_to m a (f c))) ≡ true → is_in z (step_to m a es) ≡ true
      back e =
          let g = some_of_witness (λ c. is_in z (step_to m a (f c))) cs 0 e in
          let w = step_from m a z (f (get_or cs g.0 0)) g.2 in
          step_to_lem m a z es w.0 (like w.0 ∙ some_of_has (λ c. is_in w.0 (f c)) cs 0 g.0 g.1 w.1) w.2 w.3 w.4

  walked_some : (k z : ℕ) → is_in z (walked_from m st cs k) ≡ some_of cs (λ c. is_in z (walked m st c k))
  unfolding walked_from walked
  walked_some zero z = is_in_some z cs
  walked_some (suc k) z = step_some (byte_at st (suc k)) (walked_from m st cs k) (λ c. walked m st c k) (walked_some k) z

  -- a cell is reached by some number of steps
  reach_some : (w : Incidence) (n z : ℕ) → Ground m st w → All (Cell m) cs → Cell m z → n + 1 ≡ length st
      → not (eqb (layer_mark m st cs n z) 0) ≡ some_of cs (λ c. walked_to m st c z)
  unfolding walked_to steps_to
  reach_some w n z G C c ne =
      ap (λ x. not (eqb x 0)) (cell_layer m st w cs n z G C (omega (arith, ne)) c)
      ∙ marked_by (picked 0 (n + 1) (λ j. is_in z (walked_from m st cs j)))
      ∙ picked_some 0 (λ j. is_in z (walked_from m st cs j)) (n + 1)
      ∙ some_cong 0 (λ j. is_in z (walked_from m st cs j)) (λ j. some_of cs (λ c. is_in z (walked m st c j))) (n + 1) (λ i h. walked_some (0 + i) z)
      ∙ some_swap 0 (n + 1) cs (λ j c. is_in z (walked m st c j))
      ∙ some_of_cong _ _ cs (All_intro _ cs 0 (λ l h. sym (picked_some 0 (λ j. is_in z (walked m st (get_or cs l 0) j)) (n + 1))
      ∙ ap (λ x. ltb 0 (length (picked 0 (x + 1) (λ j. is_in z (walked m st (get_or cs l 0) j))))) (steps_is st n ne)))

-- ---- a row's reach

module _ (m : Bytes) (sizes : MeshSizes) (A : Accepted m) (S : Sized m sizes) where
  pub first_small : sizes.first < 65536
  first_small = omega (arith, S.first_is, A.cells_in, A.sizes.n_high)

  pub cells_small : sizes.cells ≤ most_elements
  cells_small = omega (arith, S.cells_is, A.cells_in, A.sizes.n_high)

  pub last_small : sizes.first + sizes.cells ≤ element_places
  last_small = omega (arith, S.first_is, S.cells_is, A.cells_in, A.sizes.n_high)

  pub row_starts : (rows : Bytes) (i s : ℕ) (from : List ℕ) → Rowed sizes.first rows i sizes.cells s from → AllCells m from s
  row_starts rows i s from R = record {
    each =
        rw R.cells (unfold row_cells in picked_all sizes.first (λ x. eqb (byte_at rows (x - sizes.first)) i) (Cell m) sizes.cells
        (λ j h e. record { low = omega (arith, S.first_is); high = omega (arith, S.first_is, S.cells_is) }));
    count = omega (arith, length-take s from, R.room, R.few, cells_small);
  }

pub zeros_under : (marks : List ℕ) → Zeros element_places marks → Under 1 marks
zeros_under marks Z = record { size = Z.size; each = λ i. omega (arith, Z.each i) }

-- ---- counts

module _ (layers : List ℕ) (first q x : ℕ) (e : x ≡ get_or layers (first + q) 0) where
  pub one_bare : x ≡ 0 → 0 ≡ layer_one layers first q
  unfolding layer_one
  one_bare h = sym (ap (λ b. cond b 0 1) (eq-eqb (get_or layers (first + q) 0) 0 (sym e ∙ h)))

  pub one_layer : (x ≡ 0 → ⊥) → 1 ≡ layer_one layers first q
  unfolding layer_one
  one_layer h = sym (ap (λ b. cond b 0 1) (ne_eqb (get_or layers (first + q) 0) 0 (λ z. h (e ∙ z))))

module _ (layers : List ℕ) (first : ℕ) where
  pub count_start : 0 ≡ layer_count layers first 0
  unfolding layer_count
  count_start = sym (total_start 0 (layer_one layers first))

  pub count_turn : (q s k : ℕ) → s ≡ layer_count layers first q → k ≡ layer_one layers first q → s + k ≡ layer_count layers first (q + 1)
  unfolding layer_count
  count_turn q s k e f = ap₂ ◌+◌ e (f ∙ ap (layer_one layers first) (sym (zero-add q))) ∙ sym (total_turn 0 (layer_one layers first) q)

  pub count_end : (q cells s : ℕ) → q ≤ cells → cells ≤ q → s ≡ layer_count layers first q → s ≡ layer_count layers first cells
  count_end q cells s g h e = at_last (λ k. s ≡ layer_count layers first k) q cells g h e

module _ (m st : Bytes) (w : Incidence) (sizes : MeshSizes) (n : ℕ) (G : Ground m st w) (S : Sized m sizes) (ne : n + 1 ≡ length st) (rows : Bytes) where
  pub reach_counted : (single : Bool) (i v k s met t : ℕ) (from : List ℕ) (space : Space) → Rowed sizes.first rows i sizes.cells s from
      → WalkDone m st single (take s from) n v space k met → t ≡ layer_count space.layers sizes.first sizes.cells → t ≡ row_reach_count m st rows i
  unfolding layer_count row_reach_count layer_one
  reach_counted single i v k s met t from space R W te =
      te
      ∙ ap (λ c. total 0 c (λ q. cond (eqb (get_or space.layers (sizes.first + q) 0) 0) 0 1)) S.cells_is
      ∙ total_cong 0 (λ q. cond (eqb (get_or space.layers (sizes.first + q) 0) 0) 0 1)
      (λ q. cond (some_of (row_cells (first_cell m) rows i (cell_count m)) (λ c. walked_to m st c (first_cell m + q))) 1 0) (cell_count m) (λ q h. each (0 + q) (omega arith))
    where
      row : take s from ≡ row_cells (first_cell m) rows i (cell_count m)
      row = R.cells ∙ ap₂ (λ x y. row_cells x rows i y) S.first_is S.cells_is

      swap : (b : Bool) → ◌≡◌ {A = ℕ} (cond b 0 1) (cond (not b) 1 0)
      swap true = refl
      swap false = refl

      each : (q : ℕ) → q < cell_count m
          → ◌≡◌ {A = ℕ} (cond (eqb (get_or space.layers (sizes.first + q) 0) 0) 0 1)
          (cond (some_of (row_cells (first_cell m) rows i (cell_count m)) (λ c. walked_to m st c (first_cell m + q))) 1 0)
      each q h =
          swap (eqb (get_or space.layers (sizes.first + q) 0) 0)
          ∙ ap (λ b. cond b 1 0)
          (ap (λ x. not (eqb (get_or space.layers (x + q) 0) 0)) S.first_is ∙ ap (λ x. not (eqb x 0)) (W.layered (first_cell m + q))
          ∙ reach_some m st (take s from) w n (first_cell m + q) G (row_starts m sizes G.turned.mesh S rows i s from R).each (record { low = omega arith; high = omega arith }) ne
          ∙ ap (λ cs. some_of cs (λ c. walked_to m st c (first_cell m + q))) row)

pub counted_turn : (m st rows : Bytes) (i v n : ℕ) (marks marks' : List ℕ) (s k : ℕ) → n ≤ 9 → ReachCounted m st rows i v marks s
    → k ≡ row_reach_count m st rows (i + 1) → k ≤ most_elements → Under (v + n) marks' → ReachCounted m st rows (i + 1) (v + n) marks' (s + k)
counted_turn m st rows i v n marks marks' s k few C ke kl U = record {
  turns = omega (arith, C.turns);
  fresh = U;
  told = let z : i + 1 ≡ 1 + i = omega arith in ap₂ ◌+◌ C.told (ke ∙ ap (row_reach_count m st rows) z) ∙ sym (total_turn 1 (row_reach_count m st rows) i);
  few = omega (arith, C.few);
}

pub counted_start : (m st rows : Bytes) (marks : List ℕ) → Under 1 marks → ReachCounted m st rows 0 1 marks 0
counted_start m st rows marks U = record { turns = omega arith; fresh = U; told = sym (total_start 1 (row_reach_count m st rows)); few = omega arith }

pub counted_end : (m st rows : Bytes) (i v count : ℕ) (marks : List ℕ) (s : ℕ) → i ≤ count → count ≤ i → ReachCounted m st rows i v marks s → s ≡ total 1 count (row_reach_count m st rows)
counted_end m st rows i v count marks s g h C = at_last (λ k. s ≡ total 1 k (row_reach_count m st rows)) i count g h C.told
