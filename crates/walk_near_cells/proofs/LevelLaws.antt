-- Cells listed one after another. Assumes nothing.
use mathlib.Core.Path.{◌≡◌, refl, sym, ap, ◌∙◌}
use mathlib.Core.Bool.{Bool, true, false, not, ◌||◌, ◌&&◌}
use mathlib.Core.List.{List, [], ◌∷◌, ◌++◌}
use Prim.Native.Nat.{ℕ, ◌+◌, ◌-◌, ◌*◌, ◌≤◌, ◌<◌}
use native.Mathlib.Numerals.{add-one}
use native.Mathlib.Omega.{arith}
use lib.Dec.{eqb, ltb}
use lib.ListN.{length, get_or, set, take, length-set, length-append}
use lib.Seq.{get_or-set_same, get_or-set_other, get_or-take, take-suc-set}
use borrow.Author.Tests.{eqb-true, eqb-false, eq-eqb, ne_eqb, ltb-true, ltb-false}
use Rattle.vocabulary.specs.Intervals.{some}
use Rattle.vocabulary.proofs.IntervalLaws.{some_next, some_has, some_witness, at_last}
use Rattle.vocabulary.specs.Lists.{is_in, repeats, All}
use Rattle.vocabulary.proofs.ListLaws.{and_true, not_both, same_test, or_nothing, or_always, once_few, All_append, is_in_append, repeats_snoc}
use Rattle.layout.specs.Limits.{element_places, most_elements}
use Rattle.walk_frontier.specs.Visits.{Grown}
use Rattle.walk_frontier.proofs.VisitLaws.{grown_none, grown_new, grown_both}
use Rattle.walk_steps.specs.Walking.{noted}
use Rattle.walk_steps.proofs.NoteLaws.{note_old, note_new, twice}
use Rattle.walk_near_cells.specs.NearCells.{names, in_row, LayerList, Spread, RowFits, from_cell, from_level, LevelFits}

module _ (k y n x : ℕ) (layers found : List ℕ) (L : LayerList layers found n) (xe : x ≡ get_or layers y 0) where
  pub reach_old : (x ≡ 0 → ⊥) → Spread k layers found n layers found n (eqb y)
  reach_old ne = record { notes = note_old k y x layers xe ne; listed = L; grown = grown_none found n }

  module _ (low : 1 ≤ y) (high : y ≤ most_elements) (z : x ≡ 0) (layers' found' : List ℕ) (le : layers' ≡ set layers y (k + 1)) (fe : found' ≡ set found n y) where
    longer : take (n + 1) found' ≡ take n found ++ (y ∷ [])
    longer = rw (add-one n, fe) (take-suc-set found n y (omega (arith, L.few, L.room)))

    out : is_in y (take n found) ≡ false
    out = sym (L.marked y) ∙ ap not (eq-eqb (get_or layers y 0) 0 (sym xe ∙ z))

    once : repeats (take (n + 1) found') ≡ false
    once = rw longer (repeats_snoc (take n found) y L.once out)

    in_range : All (λ y. (1 ≤ y) × (y ≤ most_elements)) (take (n + 1) found')
    in_range = rw longer (All_append (λ y. (1 ≤ y) × (y ≤ most_elements)) (take n found) (y ∷ []) L.in_range ((low, high), tt))

    count : length (take (n + 1) found') ≡ n + 1
    count = rw longer (length-append (take n found) (y ∷ []) ∙ ap (λ k. k + 1) L.count)

    pub reach_new : Spread k layers found n layers' found' (n + 1) (eqb y)
    unfolding is_in
    reach_new = record {
      notes = note_new k y x layers layers' (omega (arith, L.size)) xe z le;
      listed = record {
        size = ap length le ∙ length-set layers y (k + 1) ∙ L.size;
        room = ap length fe ∙ length-set found n y ∙ L.room;
        marked = λ z. mark z (eqb z y) refl ∙ sym (ap (is_in z) longer ∙ is_in_append z (take n found) (y ∷ []));
        once = once;
        in_range = in_range;
        count = count;
        few = omega (arith, once_few most_elements (take (n + 1) found') in_range once, count);
      };
      grown = grown_new found found' n y fe;
    }
      where
        at : (z : ℕ) → get_or layers' z 0 ≡ get_or (set layers y (k + 1)) z 0
        at z = ap (λ (l : List ℕ). get_or l z 0) le

        mark : (z : ℕ) (b : Bool) → eqb z y ≡ b → not (eqb (get_or layers' z 0) 0) ≡ is_in z (take n found) || (b || false)
        mark z true q =
            let new : get_or layers' z 0 ≡ k + 1 =
            at z ∙ ap (λ i. get_or (set layers y (k + 1)) i 0) (eqb-true z y q) ∙ get_or-set_same layers y (k + 1) 0 (omega (arith, L.size)) in
            ap not (ne_eqb (get_or layers' z 0) 0 (omega arith))
            ∙ sym (or_always (is_in z (take n found)))
        mark z false q = ap (λ i. not (eqb i 0)) (at z ∙ get_or-set_other layers y z (k + 1) 0 (eqb-false z y q)) ∙ L.marked z ∙ sym (or_nothing (is_in z (take n found)))

-- ---- one after another

pub spread_none : (k n : ℕ) (layers found : List ℕ) (p : ℕ → Bool) → LayerList layers found n → ((z : ℕ) → p z ≡ false) → Spread k layers found n layers found n p
unfolding noted
spread_none k n layers found p L f = record {
  notes = record { size = refl; each = λ z. sym (ap (λ b. noted k b (get_or layers z 0)) (f z)) };
  listed = L;
  grown = grown_none found n;
}

spread_as : (k n s : ℕ) (l₀ l₁ f₀ f₁ : List ℕ) (p q : ℕ → Bool) → ((z : ℕ) → p z ≡ q z) → Spread k l₀ f₀ n l₁ f₁ s p → Spread k l₀ f₀ n l₁ f₁ s q
spread_as k n s l₀ l₁ f₀ f₁ p q e S = record {
  notes = record { size = S.notes.size; each = λ z. S.notes.each z ∙ ap (λ b. noted k b (get_or l₀ z 0)) (e z) };
  listed = S.listed;
  grown = S.grown;
}

pub spread_both : (k n s t : ℕ) (l₀ l₁ l₂ f₀ f₁ f₂ : List ℕ) (p q r : ℕ → Bool) → Spread k l₀ f₀ n l₁ f₁ s p → Spread k l₁ f₁ s l₂ f₂ t q
    → ((z : ℕ) → p z || q z ≡ r z) → Spread k l₀ f₀ n l₂ f₂ t r
spread_both k n s t l₀ l₁ l₂ f₀ f₁ f₂ p q r A B e = record {
  notes = record {
    size = B.notes.size ∙ A.notes.size;
    each = λ z. B.notes.each z ∙ ap (noted k (q z)) (A.notes.each z) ∙ twice k (p z) (q z) (get_or l₀ z 0) ∙ ap (λ b. noted k b (get_or l₀ z 0)) (e z);
  };
  listed = B.listed;
  grown = grown_both f₀ f₁ f₂ n s t A.grown B.grown;
}

-- one more number of a range that begins at a
some_longer : (a t : ℕ) (p : ℕ → Bool) → a ≤ t → some a (t + 1 - a) p ≡ some a (t - a) p || p t
some_longer a t p h =
    let e : t + 1 - a ≡ t - a + 1 = omega arith in
    let f : a + (t - a) ≡ t = omega arith in
    ap (λ n. some a n p) e ∙ some_next a (t - a) p ∙ ap (λ i. some a (t - a) p || p i) f

-- ---- the loop over a row

pub row_start : (k lo n : ℕ) (near layers found : List ℕ) → LayerList layers found n → Spread k layers found n layers found n (in_row near lo lo)
unfolding in_row some
row_start k lo n near layers found L = spread_none k n layers found (in_row near lo lo) L (λ z. let e : lo - lo ≡ 0 = omega arith in rw e)

pub row_turn : (k lo t y n s s' : ℕ) (near l₀ l₁ l₂ f₀ f₁ f₂ : List ℕ) → lo ≤ t → 1 ≤ y → y ≡ get_or near t 0 → Spread k l₀ f₀ n l₁ f₁ s (in_row near lo t)
    → Spread k l₁ f₁ s l₂ f₂ s' (eqb y) → Spread k l₀ f₀ n l₂ f₂ s' (in_row near lo (t + 1))
unfolding in_row names
row_turn k lo t y n s s' near l₀ l₁ l₂ f₀ f₁ f₂ h l e A B =
    spread_both k n s s' l₀ l₁ l₂ f₀ f₁ f₂ (in_row near lo t) (eqb y) (in_row near lo (t + 1)) A B
    (λ z. ap (λ b. in_row near lo t z || (not b && eqb y z)) (sym (ne_eqb y 0 (omega arith))) ∙ ap (λ x. in_row near lo t z || names x z) e
    ∙ sym (some_longer lo t (λ i. names (get_or near i 0) z) h))

-- only zeros are left
pub row_stop : (k lo hi t y n s : ℕ) (near l₀ l₁ f₀ f₁ : List ℕ) → RowFits near lo hi → lo ≤ t → t < hi → y ≡ get_or near t 0 → y < 1 → Spread k l₀ f₀ n l₁ f₁ s (in_row near lo t)
    → Spread k l₀ f₀ n l₁ f₁ s (in_row near lo hi)
unfolding in_row names
row_stop k lo hi t y n s near l₀ l₁ f₀ f₁ F l h e z A =
    spread_as k n s l₀ l₁ f₀ f₁ (in_row near lo t) (in_row near lo hi) (λ x. same_test _ _ (longer x) (shorter x)) A
  where
    longer : (x : ℕ) → in_row near lo t x ≡ true → in_row near lo hi x ≡ true
    longer x q =
        let w = some_witness lo (λ i. names (get_or near i 0) x) (t - lo) q in
        some_has lo (λ i. names (get_or near i 0) x) (hi - lo) w.0 (omega (arith, w.1)) w.2

    shorter : (x : ℕ) → in_row near lo hi x ≡ true → in_row near lo t x ≡ true
    shorter x q = let w = some_witness lo (λ i. names (get_or near i 0) x) (hi - lo) q in go w.0 w.1 w.2 (ltb (lo + w.0) t) refl
      where
        go : (i : ℕ) → i < hi - lo → names (get_or near (lo + i) 0) x ≡ true → (b : Bool) → ltb (lo + i) t ≡ b → in_row near lo t x ≡ true
        go i g p true r = some_has lo (λ i. names (get_or near i 0) x) (t - lo) i (omega (arith, ltb-true (lo + i) t r)) p
        go i g p false r =
            let zero : get_or near t 0 ≡ 0 = omega arith in
            let none : eqb (get_or near (lo + i) 0) 0 ≡ true = eq-eqb _ 0 (F.closed t (lo + i) l (ltb-false (lo + i) t r) (omega arith) zero) in
            absurd (not_both (not (eqb (get_or near (lo + i) 0) 0)) (and_true (not (eqb (get_or near (lo + i) 0) 0)) (eqb (get_or near (lo + i) 0) x) p).0 (ap not none))

pub row_end : (k lo hi t n s : ℕ) (near l₀ l₁ f₀ f₁ : List ℕ) → t ≤ hi → hi ≤ t → Spread k l₀ f₀ n l₁ f₁ s (in_row near lo t) → Spread k l₀ f₀ n l₁ f₁ s (in_row near lo hi)
row_end k lo hi t n s near l₀ l₁ f₀ f₁ a b S = at_last (λ i. Spread k l₀ f₀ n l₁ f₁ s (in_row near lo i)) t hi a b S

pub row_high : (near : List ℕ) (lo hi t y : ℕ) → RowFits near lo hi → lo ≤ t → t < hi → y ≡ get_or near t 0 → y ≤ most_elements
row_high near lo hi t y F l h e = omega (arith, F.each t l h)

-- ---- the loop over the cells of a level

kept_at : (n s i : ℕ) (f₀ f : List ℕ) → Grown f₀ n f s → i < n → get_or f i 0 ≡ get_or f₀ i 0
kept_at n s i f₀ f G h = sym (get_or-take n f i 0 h) ∙ ap (λ (l : List ℕ). get_or l i 0) G.front ∙ get_or-take n f₀ i 0 h

pub level_start : (k w first old n : ℕ) (near layers found : List ℕ) → LayerList layers found n → Spread k layers found n layers found n (from_level near w first found old old)
unfolding from_level some
level_start k w first old n near layers found L = spread_none k n layers found (from_level near w first found old old) L (λ z. let e : old - old ≡ 0 = omega arith in rw e)

module _ (k w first old n s i x : ℕ) (near l₀ l₁ f₀ f₁ : List ℕ) (F : LevelFits near w first f₀ old n) (a : old ≤ i) (h : i < n)
    (A : Spread k l₀ f₀ n l₁ f₁ s (from_level near w first f₀ old i)) (xe : x ≡ get_or f₁ i 0) where
  here : x ≡ get_or f₀ i 0
  here = xe ∙ kept_at n s i f₀ f₁ A.grown h

  pub level_low : first ≤ x
  level_low = omega (arith, here, F.cells i a h)

  pub level_high : (x - first) * w + w ≤ element_places
  level_high = rw here (F.room i a h)

  pub level_row : RowFits near ((x - first) * w) ((x - first) * w + w)
  level_row = rw here (F.rows i a h)

  pub level_turn : (l₂ f₂ : List ℕ) (s' : ℕ) → Spread k l₁ f₁ s l₂ f₂ s' (in_row near ((x - first) * w) ((x - first) * w + w))
      → Spread k l₀ f₀ n l₂ f₂ s' (from_level near w first f₀ old (i + 1))
  unfolding from_level from_cell
  level_turn l₂ f₂ s' B =
      spread_both k n s s' l₀ l₁ l₂ f₀ f₁ f₂ (from_level near w first f₀ old i) (from_cell near w first x) (from_level near w first f₀ old (i + 1)) A B
      (λ z. ap (λ y. from_level near w first f₀ old i z || from_cell near w first y z) here ∙ sym (some_longer old i (λ j. from_cell near w first (get_or f₀ j 0) z) a))

pub level_end : (k w first old i n s : ℕ) (near l₀ l₁ f₀ f₁ : List ℕ) → i ≤ n → n ≤ i → Spread k l₀ f₀ n l₁ f₁ s (from_level near w first f₀ old i)
    → Spread k l₀ f₀ n l₁ f₁ s (from_level near w first f₀ old n)
level_end k w first old i n s near l₀ l₁ f₀ f₁ a b S = at_last (λ j. Spread k l₀ f₀ n l₁ f₁ s (from_level near w first f₀ old j)) i n a b S
