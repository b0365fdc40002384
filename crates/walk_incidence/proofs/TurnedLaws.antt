-- The chains of an accepted mesh turned round. Assumes nothing.
use mathlib.Core.Path.{◌≡◌, refl, sym, ap, ap₂, ◌∙◌, subst}
use mathlib.Core.Bool.{true, ◌&&◌}
use mathlib.Core.List.{reverse}
use Prim.Native.Nat.{ℕ, ◌+◌, ◌≤◌, ◌<◌}
use native.Mathlib.Omega.{arith}
use lib.Dec.{eqb, leb, ltb}
use lib.ListN.{length, get_or, replicate}
use borrow.Author.Tests.{eqb-true, eq-eqb, le-leb, lt-ltb, leb-true, ltb-true}
use Rattle.vocabulary.specs.Bytes.{Bytes}
use Rattle.vocabulary.specs.Intervals.{some, blocks, total}
use Rattle.vocabulary.proofs.IntervalLaws.{some_witness, some_in, picked_cong, blocks_length}
use Rattle.vocabulary.specs.Lists.{is_in, All}
use Rattle.vocabulary.proofs.ListLaws.{and_true, and_intro, same_test, All_map}
use Rattle.layout.specs.Limits.{element_places, most_elements, most_records, record_places}
use Rattle.mesh.specs.Mesh.{counted, below, first_cell, cell_count, dimension, chain}
use Rattle.mesh.specs.Walks.{incident, cells_at}
use Rattle.mesh.specs.Accepted.{Accepted, Element}
use Rattle.mesh.proofs.DimensionLaws.{dimension_le}
use Rattle.mesh.proofs.WalkLaws.{below_grows, chains_few, point_incident}
use Rattle.walk_incidence.specs.declared.inner.Incidence.{Incidence}
use Rattle.walk_incidence.specs.Links.{links, link_cells, trail, cells_with, is_cell_number, Inverted, Roomed, Turned}
use Rattle.walk_incidence.proofs.TrailLaws.{Linked, LinkedAs, empty, linked_cells, cells_with_lem, trail_same, count_cells, picked_down_lem}
use Rattle.walk_incidence.proofs.LinkLaws.{entries}

cells_told : (m : Bytes) (first n x y : ℕ) → is_in y (cells_with m first n x) ≡ (leb first y && ltb y (first + n)) && is_in x (chain m y)
cells_told m first n x y = cells_with_lem m first n x y ∙ same_test _ _ left right
  where
    left : some first n (λ c. is_in x (chain m c) && eqb y c) ≡ true → (leb first y && ltb y (first + n)) && is_in x (chain m y) ≡ true
    left e =
        let w = some_witness first (λ c. is_in x (chain m c) && eqb y c) n e in
        let u = and_true (is_in x (chain m (first + w.0))) (eqb y (first + w.0)) w.2 in
        let q : y ≡ first + w.0 = eqb-true y (first + w.0) u.1 in
        and_intro _ _ (and_intro _ _ (le-leb first y (omega arith)) (lt-ltb y (first + n) (omega (arith, w.1)))) (ap (λ c. is_in x (chain m c)) q ∙ u.0)

    right : (leb first y && ltb y (first + n)) && is_in x (chain m y) ≡ true → some first n (λ c. is_in x (chain m c) && eqb y c) ≡ true
    right e =
        let w = and_true (leb first y && ltb y (first + n)) (is_in x (chain m y)) e in
        let u = and_true (leb first y) (ltb y (first + n)) w.0 in
        some_in first (λ c. is_in x (chain m c) && eqb y c) n y (leb-true first y u.0) (ltb-true y (first + n) u.1) (and_intro _ _ w.1 (eq-eqb y y refl))

module _ (m : Bytes) (A : Accepted m) (first cells : ℕ) (fe : first ≡ first_cell m) (ce : cells ≡ cell_count m) where
  room : length (blocks first cells (chain m)) ≤ most_records
  room =
      let e : length (blocks first cells (chain m)) ≡ total (first_cell m) (cell_count m) (λ c. length (chain m c)) =
      blocks_length first (chain m) cells ∙ ap₂ (λ a n. total a n (λ c. length (chain m c))) fe ce in
      omega (arith, chains_few m A)

  element : (j : ℕ) → j < cells → Element m (first + j)
  element j h = record { low = omega (arith, fe); high = omega (arith, fe, ce, A.cells_in) }

  small : (j : ℕ) → j < cells → All (λ g. g ≤ most_elements) (chain m (first + j))
  small j h =
      All_map (chain m (first + j)) (λ g w. omega (arith, w.1, below_grows m (dimension m (first + j)) 4 (omega (arith, dimension_le m (first + j), A.sizes.d_high)), A.sizes.n_high))
      (A.chain_lower (first + j) (element j h))

  module _ (w₀ w : Incidence) (cl : length w₀.cell ≡ record_places) (pl : length w₀.prev ≡ record_places) (le : w₀.last ≡ replicate element_places 0) (s : ℕ)
      (e : links s w.cell w.prev w.last ≡ link_cells m first cells (links 0 w₀.cell w₀.prev w₀.last)) where
    e' : links s w.cell w.prev w.last ≡ link_cells m first cells (empty w₀.cell w₀.prev)
    e' = e ∙ ap (λ l. link_cells m first cells (links 0 w₀.cell w₀.prev l)) le

    -- the entries of all cells' chains
    entered : LinkedAs (link_cells m first cells (empty w₀.cell w₀.prev)) (cells_with m first cells)
    entered = linked_cells w₀.cell w₀.prev cl pl m first cells room (λ j h. (small j h, A.chain_once (first + j) (element j h)))

    few : entries (link_cells m first cells (empty w₀.cell w₀.prev)) ≤ most_records
    few = omega (arith, count_cells w₀.cell w₀.prev m first cells, room)

    K : Linked s w.cell w.prev w.last (cells_with m first cells)
    K = subst (λ L. LinkedAs L (cells_with m first cells)) (sym e') entered

    short : s ≤ most_records
    short = subst (λ L. entries L ≤ most_records) (sym e') few

    -- the trail of an element, whatever the bound on its length
    whole : (x : ℕ) → x ≤ most_elements → trail w.cell w.prev record_places (get_or w.last x 0) ≡ cells_with m first cells x
    whole x h =
        trail_same w.cell w.prev w.cell w.prev s K.falls (λ i a b. (refl, refl)) s record_places (get_or w.last x 0) (K.within x) (omega (arith, K.within x, short)) (K.within x) ∙ K.told x h

    pub inverted : Inverted m w
    unfolding is_cell_number
    inverted = record {
      mesh = A;
      told = λ x y h. ap (is_in y) (whole x h) ∙ cells_told m first cells x y ∙ ap₂ (λ a b. (leb a y && ltb y (a + b)) && is_in x (chain m y)) fe ce;
      trail_is = λ x h. whole x h ∙ ap₂ (λ a b. cells_with m a b x) fe ce;
    }

    pub roomed : Roomed w
    roomed = record { cell_room = K.cells_long; prev_room = K.prev_long; last_room = K.last_long }

    pub turned : Turned m w
    turned = record { roomed = roomed; inverted = inverted }

-- ---- points

-- a point's chain is empty: the cells at it are those whose chains have it
pub point_cells : (m : Bytes) → Accepted m → (p : ℕ) → 1 ≤ p → p ≤ counted m 0 → cells_with m (first_cell m) (cell_count m) p ≡ reverse (cells_at m p)
unfolding cells_with cells_at
point_cells m A p low high =
    picked_down_lem (first_cell m) (cell_count m) (λ c. is_in p (chain m c))
    ∙ ap (λ xs. reverse xs)
    (picked_cong (first_cell m) (λ c. is_in p (chain m c)) (incident m p) (cell_count m) (λ k h. sym (point_incident m A p (first_cell m + k) low high)))

pub point_small : (m : Bytes) → Accepted m → (p : ℕ) → p ≤ counted m 0 → p ≤ most_elements
unfolding below
point_small m A p high = omega (arith, below_grows m 1 4 (omega arith), A.sizes.n_high)

-- so the trail of a point has the cells at it, falling
pub point_trail : (m : Bytes) (w : Incidence) → Inverted m w → (p : ℕ) → 1 ≤ p → p ≤ counted m 0
    → trail w.cell w.prev record_places (get_or w.last p 0) ≡ reverse (cells_at m p)
point_trail m w G p low high = G.trail_is p (point_small m G.mesh p high) ∙ point_cells m G.mesh p low high
