-- The chains of the cells turned round: what the loops make. Assumes nothing.
use mathlib.Core.Path.{◌≡◌, refl, sym, ap, ap₂, ◌∙◌}
use mathlib.Core.List.{List, [], ◌∷◌, map}
use Prim.Native.Nat.{ℕ, suc, ◌+◌, ◌-◌, ◌≤◌, ◌<◌}
use native.Mathlib.Omega.{arith}
use lib.ListN.{length, get_or, set, length-append, length-map}
use Rattle.vocabulary.specs.Bytes.{Bytes}
use Rattle.vocabulary.specs.Intervals.{blocks}
use Rattle.vocabulary.proofs.IntervalLaws.{blocks_turn, blocks_length, blocks_inner, total_cong, at_last}
use Rattle.layout.specs.Limits.{most_records}
use Rattle.mesh.specs.Mesh.{elements, record_count, first_cell, cell_count, head_of, element_in, next_of, follow, records, chain, all_records}
use Rattle.mesh.specs.Accepted.{Accepted}
use Rattle.mesh.proofs.FollowLaws.{chain_more}
use Rattle.walk_incidence.specs.Links.{Links, links, link, link_all, link_cells}

pub link_told : (c g t x : ℕ) (cell prev last cell' prev' last' : List ℕ) → cell' ≡ set cell (t + 1) c → x ≡ get_or last g 0 → prev' ≡ set prev (t + 1) x
    → last' ≡ set last g (t + 1) → links (t + 1) cell' prev' last' ≡ link c g (links t cell prev last)
unfolding link
link_told c g t x cell prev last cell' prev' last' e f g' h = rw (e, g', f, h) refl

-- ---- the loop over a chain

module _ (m : Bytes) (f : ℕ → ℕ) (c n k i : ℕ) (L W : Links) (inv : link_all c L (map f (follow m (n - k) i)) ≡ W) where
  pub link_done : follow m (n - k) i ≡ [] → L ≡ W
  unfolding link_all
  link_done z = rw z at inv

  pub link_turn : (M : Links) (g x : ℕ) → k < n → 1 ≤ i → g ≡ f i → M ≡ link c g L → x ≡ next_of m i → link_all c M (map f (follow m (n - (k + 1)) x)) ≡ W
  unfolding link_all
  link_turn M g x h z e q y = rw (q, e, y) (rw (chain_more m n k i h z) at inv)

-- the entries that are left have room
module _ (m : Bytes) (n k i t s : ℕ) (room : t + length (follow m (n - k) i) ≤ s) (h : k < n) (z : 1 ≤ i) where
  left : length (follow m (n - k) i) ≡ suc (length (follow m (n - (k + 1)) (next_of m i)))
  left = ap length (chain_more m n k i h z)

  pub room_one : t < s
  room_one = omega (arith, left)

  pub room_turn : (t' x : ℕ) → t' ≡ t + 1 → x ≡ next_of m i → t' + length (follow m (n - (k + 1)) x) ≤ s
  room_turn t' x e y = rw y (omega (arith, left))

-- ---- the loop over the cells

abbrev pub entries : Links → ℕ
entries (links t cell prev last) = t

pub link_all_count : (c : ℕ) (L : Links) (gs : List ℕ) → entries (link_all c L gs) ≡ entries L + length gs
unfolding link_all link
link_all_count c L [] = omega arith
link_all_count c (links t cell prev last) (g ∷ gs) = link_all_count c (link c g (links t cell prev last)) gs ∙ (let q : t + 1 + length gs ≡ t + suc (length gs) = omega arith in q)

pub cells_start : (m : Bytes) (first : ℕ) (cell prev last : List ℕ) → links 0 cell prev last ≡ link_cells m first (first - first) (links 0 cell prev last)
unfolding link_cells
cells_start m first cell prev last = let z : first - first ≡ 0 = omega arith in rw z

pub count_start : (m : Bytes) (first : ℕ) → 0 ≡ length (blocks first (first - first) (chain m))
unfolding blocks
count_start m first = let z : first - first ≡ 0 = omega arith in rw z

module _ (m : Bytes) (r : ℕ) (re : r ≡ record_count m) (first e h : ℕ) (he : h ≡ head_of m e) (l : first ≤ e) where
  here : map (element_in m) (follow m (r + 1) h) ≡ chain m (first + (e - first))
  unfolding chain records
  here = let q : first + (e - first) ≡ e = omega arith in rw (q, ← re, ← he)

  pub cells_turn : (L M : Links) (X : Links) → L ≡ link_cells m first (e - first) X → M ≡ link_all e L (map (element_in m) (follow m (r + 1) h))
      → M ≡ link_cells m first (e + 1 - first) X
  unfolding link_cells
  cells_turn L M X i f =
      let q : e + 1 - first ≡ suc (e - first) = omega arith in
      let p : e ≡ first + (e - first) = omega arith in
      rw q (f ∙ ap₂ (λ x y. link_all e x y) i here ∙ ap (λ c. link_all c (link_cells m first (e - first) X) (chain m (first + (e - first)))) p)

  pub count_turn : (s t c : ℕ) (cell prev last cell' prev' last' : List ℕ) → s ≡ length (blocks first (e - first) (chain m))
      → links t cell' prev' last' ≡ link_all c (links s cell prev last) (map (element_in m) (follow m (r + 1) h)) → t ≡ length (blocks first (e + 1 - first) (chain m))
  count_turn s t c cell prev last cell' prev' last' i f =
      let q : e + 1 - first ≡ e - first + 1 = omega arith in
      rw (q, blocks_turn first (chain m) (e - first), length-append)
      (ap entries f ∙ link_all_count c (links s cell prev last) _ ∙ ap₂ ◌+◌ i (ap length here))

  -- there is room for the entries of the next cell
  pub cells_room : (cells s : ℕ) → Accepted m → first ≡ first_cell m → cells ≡ cell_count m → e < first + cells → s ≡ length (blocks first (e - first) (chain m))
      → s + length (follow m (r + 1) h) ≤ most_records
  unfolding all_records chain
  cells_room cells s A fe ce g i =
      let w = e - first + 1 in
      let q : 1 + (first - 1) ≡ first = omega (arith, fe) in
      let a : length (blocks (1 + (first - 1)) w (records m)) ≤ length (all_records m) =
      blocks_inner 1 (records m) (first - 1) w (elements m) (omega (arith, fe, ce, A.cells_in)) in
      let b : length (blocks first w (chain m)) ≡ length (blocks first w (records m)) =
      blocks_length first (chain m) w ∙ total_cong first _ _ w (λ j k. length-map (records m (first + j)) (element_in m)) ∙ sym (blocks_length first (records m) w) in
      let c : length (blocks first w (chain m)) ≡ length (blocks first (e - first) (chain m)) + length (chain m (first + (e - first))) =
      ap length (blocks_turn first (chain m) (e - first)) ∙ length-append (blocks first (e - first) (chain m)) (chain m (first + (e - first))) in
      let d : length (chain m (first + (e - first))) ≡ length (follow m (r + 1) h) = ap length (sym here) ∙ length-map (follow m (r + 1) h) (element_in m) in
      let f : length (blocks (1 + (first - 1)) w (records m)) ≡ length (blocks first w (records m)) = ap (λ x. length (blocks x w (records m))) q in
      omega (arith, A.records_few, A.sizes.r_high)

pub cells_end : (m : Bytes) (first cells e : ℕ) (L X : Links) → L ≡ link_cells m first (e - first) X → e ≤ first + cells → first + cells ≤ e → L ≡ link_cells m first cells X
cells_end m first cells e L X i g h = at_last (λ k. L ≡ link_cells m first k X) (e - first) cells (omega arith) (omega arith) i
