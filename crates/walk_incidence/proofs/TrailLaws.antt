-- From an element the trail of its entries leads to exactly the cells whose chains have it, falling. Assumes nothing.
use mathlib.Core.Path.{◌≡◌, refl, sym, ap, ap₂, ◌∙◌}
use mathlib.Core.Bool.{Bool, true, false, ◌||◌, ◌&&◌, cond}
use mathlib.Core.List.{List, [], ◌∷◌, ◌++◌, reverse, reverse-append}
use Prim.Native.Nat.{ℕ, zero, suc, ◌+◌, ◌≤◌, ◌<◌}
use native.Mathlib.Omega.{arith}
use lib.Dec.{eqb}
use lib.ListN.{length, get_or, set, length-set, length-append, replicate, length-replicate}
use lib.Seq.{get_or-set_same, get_or-set_other}
use borrow.Author.Tests.{eqb-true, eqb-false, ne_eqb}
use Rattle.vocabulary.specs.Bytes.{Bytes}
use Rattle.vocabulary.specs.Intervals.{picked, some, blocks}
use Rattle.vocabulary.specs.Lists.{is_in, repeats, All}
use Rattle.vocabulary.proofs.ListLaws.{or_swap, or_nothing, or_false, not_both, zeros_at}
use Rattle.layout.specs.Limits.{element_places, most_elements, most_records, record_places}
use Rattle.mesh.specs.Mesh.{chain}
use Rattle.walk_incidence.specs.Links.{Links, links, link, link_all, link_cells, trail, picked_down, cells_with}
use Rattle.walk_incidence.proofs.LinkLaws.{entries, link_all_count}

-- ---- trails

pub trail_end : (cell prev : List ℕ) (n : ℕ) → trail cell prev n 0 ≡ []
unfolding trail
trail_end cell prev zero = refl
trail_end cell prev (suc n) = refl

pub trail_more : (cell prev : List ℕ) (n s : ℕ) → (s ≡ 0 → ⊥) → trail cell prev (suc n) s ≡ get_or cell s 0 ∷ trail cell prev n (get_or prev s 0)
unfolding trail
trail_more cell prev n s z = simp (ne_eqb s 0 z, trail)

-- two tables that agree up to entry t, in which each entry leads to an earlier one: the trails are the same, whatever the bound from s on
pub trail_same : (cell prev cell' prev' : List ℕ) (t : ℕ) → ((s : ℕ) → 1 ≤ s → s ≤ t → get_or prev s 0 < s)
    → ((s : ℕ) → 1 ≤ s → s ≤ t → (get_or cell' s 0 ≡ get_or cell s 0) × (get_or prev' s 0 ≡ get_or prev s 0))
    → (n n' s : ℕ) → s ≤ n → s ≤ n' → s ≤ t → trail cell' prev' n' s ≡ trail cell prev n s
trail_same cell prev cell' prev' t low same zero n' s a b c =
    let z : s ≡ 0 = omega arith in
    rw z (trail_end cell' prev' n' ∙ sym (trail_end cell prev 0))
trail_same cell prev cell' prev' t low same (suc n) zero s a b c =
    let z : s ≡ 0 = omega arith in
    rw z (trail_end cell' prev' 0 ∙ sym (trail_end cell prev (suc n)))
trail_same cell prev cell' prev' t low same (suc n) (suc n') s a b c =
    go (eqb s 0) refl
    (λ l. trail_same cell prev cell' prev' t low same n n' (get_or prev s 0) (omega (arith, low s l c)) (omega (arith, low s l c)) (omega (arith, low s l c)))
  where
    go : (x : Bool) → eqb s 0 ≡ x → (1 ≤ s → trail cell' prev' n' (get_or prev s 0) ≡ trail cell prev n (get_or prev s 0)) → trail cell' prev' (suc n') s ≡ trail cell prev (suc n) s
    go true e ih = let z : s ≡ 0 = eqb-true s 0 e in rw z (trail_end cell' prev' (suc n') ∙ sym (trail_end cell prev (suc n)))
    go false e ih =
        let z : s ≡ 0 → ⊥ = eqb-false s 0 e in
        let l : 1 ≤ s = omega arith in
        trail_more cell' prev' n' s z ∙ ap₂ (λ x y. x ∷ trail cell' prev' n' y) (same s l c).0 (same s l c).1 ∙ ap (λ r. get_or cell s 0 ∷ r) (ih l) ∙ sym (trail_more cell prev n s z)

-- ---- what the links tell: W x, the cells in whose chains element x stands

pub record Linked (t : ℕ) (cell prev last : List ℕ) (W : ℕ → List ℕ) : Type 0 where
  pub cells_long : length cell ≡ record_places
  pub prev_long : length prev ≡ record_places
  pub last_long : length last ≡ element_places
  pub falls : (s : ℕ) → 1 ≤ s → s ≤ t → get_or prev s 0 < s
  pub within : (x : ℕ) → get_or last x 0 ≤ t
  pub told : (x : ℕ) → x ≤ most_elements → trail cell prev t (get_or last x 0) ≡ W x

module _ (t : ℕ) (cell prev last : List ℕ) (W : ℕ → List ℕ) (K : Linked t cell prev last W) (room : t < most_records) (c g : ℕ) (small : g ≤ most_elements) where
  abbrev cell' : List ℕ
  cell' = set cell (t + 1) c

  abbrev prev' : List ℕ
  prev' = set prev (t + 1) (get_or last g 0)

  abbrev last' : List ℕ
  last' = set last g (t + 1)

  last_here : get_or last' g 0 ≡ t + 1
  last_here = get_or-set_same last g (t + 1) 0 (omega (arith, K.last_long))

  last_there : (x : ℕ) → (x ≡ g → ⊥) → get_or last' x 0 ≡ get_or last x 0
  last_there x n = get_or-set_other last g x (t + 1) 0 n

  old : (s : ℕ) → 1 ≤ s → s ≤ t → (get_or cell' s 0 ≡ get_or cell s 0) × (get_or prev' s 0 ≡ get_or prev s 0)
  old s l h = (get_or-set_other cell (t + 1) s c 0 (omega arith), get_or-set_other prev (t + 1) s (get_or last g 0) 0 (omega arith))

  new_cell : get_or cell' (t + 1) 0 ≡ c
  new_cell = get_or-set_same cell (t + 1) c 0 (omega (arith, K.cells_long))

  new_prev : get_or prev' (t + 1) 0 ≡ get_or last g 0
  new_prev = get_or-set_same prev (t + 1) (get_or last g 0) 0 (omega (arith, K.prev_long))

  -- a trail that begins before the new entry is as it was
  old_trail : (n s : ℕ) → s ≤ n → s ≤ t → trail cell' prev' n s ≡ trail cell prev t s
  old_trail n s a b = trail_same cell prev cell' prev' t K.falls old t n s b a b

  new_trail : trail cell' prev' (t + 1) (t + 1) ≡ c ∷ trail cell prev t (get_or last g 0)
  new_trail =
      let q : t + 1 ≡ suc t = omega arith in
      ap (λ n. trail cell' prev' n (t + 1)) q
      ∙ trail_more cell' prev' t (t + 1) (omega arith)
      ∙ ap₂ (λ x y. x ∷ trail cell' prev' t y) new_cell new_prev
      ∙ ap (λ r. c ∷ r) (old_trail t (get_or last g 0) (K.within g) (K.within g))

  linked_one : Linked (t + 1) cell' prev' last' (λ x. cond (eqb x g) (c ∷ W x) (W x))
  linked_one = record {
    cells_long = length-set cell (t + 1) c ∙ K.cells_long;
    prev_long = length-set prev (t + 1) (get_or last g 0) ∙ K.prev_long;
    last_long = length-set last g (t + 1) ∙ K.last_long;
    falls = λ s l h. fall s l h (eqb s (t + 1)) refl;
    within = λ x. bound x (eqb x g) refl;
    told = λ x h. tell x h (eqb x g) refl;
  }
    where
      fall : (s : ℕ) → 1 ≤ s → s ≤ t + 1 → (b : Bool) → eqb s (t + 1) ≡ b → get_or prev' s 0 < s
      fall s l h true e =
          let z : s ≡ t + 1 = eqb-true s (t + 1) e in
          let q : get_or prev' s 0 ≡ get_or last g 0 = ap (λ x. get_or prev' x 0) z ∙ new_prev in
          omega (arith, K.within g)
      fall s l h false e =
          let n : s ≡ t + 1 → ⊥ = eqb-false s (t + 1) e in
          let k : s ≤ t = omega arith in
          omega (arith, (old s l k).1, K.falls s l k)

      bound : (x : ℕ) (b : Bool) → eqb x g ≡ b → get_or last' x 0 ≤ t + 1
      bound x true e = omega (arith, ap (λ y. get_or last' y 0) (eqb-true x g e), last_here)
      bound x false e = omega (arith, last_there x (eqb-false x g e), K.within x)

      tell : (x : ℕ) → x ≤ most_elements → (b : Bool) → eqb x g ≡ b → trail cell' prev' (t + 1) (get_or last' x 0) ≡ cond b (c ∷ W x) (W x)
      tell x h true e =
          let z : x ≡ g = eqb-true x g e in
          ap (λ s. trail cell' prev' (t + 1) s) (ap (λ w. get_or last' w 0) z ∙ last_here) ∙ new_trail ∙ ap (λ r. c ∷ r) (K.told g small ∙ ap W (sym z))
      tell x h false e =
          ap (λ s. trail cell' prev' (t + 1) s) (last_there x (eqb-false x g e))
          ∙ old_trail (t + 1) (get_or last x 0) (omega (arith, K.within x)) (K.within x)
          ∙ K.told x h

abbrev pub LinkedAs : Links → (ℕ → List ℕ) → Type 0
LinkedAs (links t cell prev last) W = Linked t cell prev last W

-- where U and W agree
linked_as : (L : Links) (U W : ℕ → List ℕ) → ((x : ℕ) → U x ≡ W x) → LinkedAs L U → LinkedAs L W
linked_as (links t cell prev last) U W f K = record {
  cells_long = K.cells_long;
  prev_long = K.prev_long;
  last_long = K.last_long;
  falls = K.falls;
  within = K.within;
  told = λ x h. K.told x h ∙ f x;
}

-- ---- a chain, and the chains of all cells

-- a chain that names no element twice
linked_all : (c : ℕ) (L : Links) (W : ℕ → List ℕ) (gs : List ℕ) → LinkedAs L W → entries L + length gs ≤ most_records → All (λ g. g ≤ most_elements) gs → repeats gs ≡ false
    → LinkedAs (link_all c L gs) (λ x. cond (is_in x gs) (c ∷ W x) (W x))
unfolding link_all link is_in repeats
linked_all c (links t cell prev last) W [] K room a once = K
linked_all c (links t cell prev last) W (g ∷ gs) K room a once =
    let o = or_false (is_in g gs) (repeats gs) once in
    linked_as (link_all c (link c g (links t cell prev last)) gs) _ _ (λ x. join x o.0 (eqb x g) refl (is_in x gs) refl)
    (linked_all c (link c g (links t cell prev last)) _ gs (linked_one t cell prev last W K (omega arith) c g a.0) (omega arith) a.1 o.1)
  where
    join : (x : ℕ) → is_in g gs ≡ false → (p : Bool) → eqb x g ≡ p → (q : Bool) → is_in x gs ≡ q
        → cond q (c ∷ cond p (c ∷ W x) (W x)) (cond p (c ∷ W x) (W x)) ≡ cond (p || q) (c ∷ W x) (W x)
    join x out true e true f = absurd (not_both (is_in x gs) f (ap (λ y. is_in y gs) (eqb-true x g e) ∙ out))
    join x out true e false f = refl
    join x out false e q f = refl

-- no entries: whatever stands in the tables is not read
abbrev pub empty : List ℕ → List ℕ → Links
empty cell prev = links 0 cell prev (replicate element_places 0)

module _ (cell prev : List ℕ) where
  pub count_cells : (m : Bytes) (first n : ℕ) → entries (link_cells m first n (empty cell prev)) ≡ length (blocks first n (chain m))
  unfolding link_cells blocks
  count_cells m first zero = refl
  count_cells m first (suc n) =
      link_all_count (first + n) (link_cells m first n (empty cell prev)) (chain m (first + n))
      ∙ ap (λ x. x + length (chain m (first + n))) (count_cells m first n)
      ∙ sym (length-append (blocks first n (chain m)) (chain m (first + n)))

  module _ (cl : length cell ≡ record_places) (pl : length prev ≡ record_places) where
    linked_none : LinkedAs (empty cell prev) (λ x. [])
    unfolding trail
    linked_none = record {
      cells_long = cl;
      prev_long = pl;
      last_long = length-replicate {A = ℕ} element_places 0;
      falls = λ s l h. let z : ⊥ = omega arith in absurd z;
      within = λ x. omega (arith, zeros_at element_places x);
      told = λ x h. refl;
    }

    pub linked_cells : (m : Bytes) (first n : ℕ) → length (blocks first n (chain m)) ≤ most_records
        → ((j : ℕ) → j < n → All (λ g. g ≤ most_elements) (chain m (first + j)) × (repeats (chain m (first + j)) ≡ false))
        → LinkedAs (link_cells m first n (empty cell prev)) (cells_with m first n)
    unfolding link_cells cells_with picked_down
    linked_cells m first zero room a = linked_none
    linked_cells m first (suc n) room a =
        linked_all (first + n) (link_cells m first n (empty cell prev)) (cells_with m first n) (chain m (first + n))
        (linked_cells m first n (omega (arith, split)) (λ j h. a j (omega arith)))
        (omega (arith, count_cells m first n, split)) (a n (omega arith)).0 (a n (omega arith)).1
      where
        split : length (blocks first (suc n) (chain m)) ≡ length (blocks first n (chain m)) + length (chain m (first + n))
        split = unfold blocks in length-append (blocks first n (chain m)) (chain m (first + n))

-- and so the trail of x has y exactly if y is one of the cells and x stands in its chain
pub cells_with_lem : (m : Bytes) (first n x y : ℕ) → is_in y (cells_with m first n x) ≡ some first n (λ c. is_in x (chain m c) && eqb y c)
unfolding cells_with picked_down some is_in
cells_with_lem m first zero x y = refl
cells_with_lem m first (suc n) x y = go (is_in x (chain m (first + n))) (cells_with_lem m first n x y)
  where
    go : (b : Bool) → is_in y (cells_with m first n x) ≡ some first n (λ c. is_in x (chain m c) && eqb y c)
        → is_in y (cond b ((first + n) ∷ cells_with m first n x) (cells_with m first n x)) ≡ some first n (λ c. is_in x (chain m c) && eqb y c) || (b && eqb y (first + n))
    go true ih = ap (λ r. eqb y (first + n) || r) ih ∙ or_swap (eqb y (first + n)) (some first n (λ c. is_in x (chain m c) && eqb y c))
    go false ih = ih ∙ sym (or_nothing (some first n (λ c. is_in x (chain m c) && eqb y c)))

-- those that pass, falling, are those that pass, the last one first
pub picked_down_lem : (a n : ℕ) (p : ℕ → Bool) → picked_down a n p ≡ reverse (picked a n p)
unfolding picked_down picked
picked_down_lem a zero p = refl
picked_down_lem a (suc n) p = go (p (a + n)) (picked_down_lem a n p)
  where
    go : (b : Bool) → picked_down a n p ≡ reverse (picked a n p) → cond b ((a + n) ∷ picked_down a n p) (picked_down a n p) ≡ reverse (picked a n p ++ cond b ((a + n) ∷ []) [])
    go true e = ap (λ xs. (a + n) ∷ xs) e ∙ sym (reverse-append (picked a n p) ((a + n) ∷ []))
    go false e = e ∙ sym (reverse-append (picked a n p) [])
