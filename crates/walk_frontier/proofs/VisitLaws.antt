-- Elements gathered one after another. Assumes nothing.
use mathlib.Core.Path.{◌≡◌, refl, sym, ap, ap₂, ◌∙◌, subst}
use mathlib.Core.Bool.{Bool, true, false, ◌||◌, ◌&&◌, cond}
use mathlib.Core.List.{List, [], ◌∷◌, ◌++◌, map}
use Prim.Native.Nat.{ℕ, ◌+◌, ◌-◌, ◌≤◌, ◌<◌}
use native.Mathlib.Nat.{zero-add}
use native.Mathlib.Numerals.{add-one}
use native.Mathlib.Omega.{arith}
use lib.Dec.{eqb, ltb, leb}
use lib.ListN.{length, get_or, set, take, length-set, length-append}
use lib.Seq.{get_or-set_same, get_or-set_other, take-suc, take-suc-set, take-set-le, take-take}
use Rattle.std.proofs.lemmas.List.{take_all}
use borrow.Author.Tests.{eqb-true, eqb-false, eq-eqb, ne_eqb, lt-ltb, le-ltb, le-leb, lt-leb}
use Rattle.vocabulary.specs.Lists.{is_in, All}
use Rattle.vocabulary.proofs.ListLaws.{or_nothing, or_always, or_assoc, and_right, once_few, All_append, is_in_append, repeats_snoc}
use Rattle.vocabulary.specs.Bytes.{Bytes}
use Rattle.vocabulary.specs.Intervals.{blocks}
use Rattle.vocabulary.proofs.IntervalLaws.{blocks_turn}
use Rattle.layout.specs.Limits.{most_elements}
use Rattle.mesh.specs.Mesh.{record_count, head_of, element_in, next_of, follow, records, chain}
use Rattle.mesh.proofs.FollowLaws.{chain_ended, chain_spent, chain_more}
use Rattle.walk_frontier.specs.Visits.{Frontier, Toward, with, between, down, up, Grown, Upward}
use Rattle.walk_incidence.specs.declared.inner.Incidence.{Incidence}
use Rattle.walk_incidence.specs.Links.{cells_on}

-- ---- what was gathered before stays in front

pub grown_none : (found : List ℕ) (n : ℕ) → Grown found n found n
grown_none found n = record { more = omega arith; front = refl }

pub grown_new : (found found' : List ℕ) (n y : ℕ) → found' ≡ set found n y → Grown found n found' (n + 1)
grown_new found found' n y e = record { more = omega arith; front = ap (take n) e ∙ take-set-le n found n y (omega arith) }

pub grown_both : (a b c : List ℕ) (n s t : ℕ) → Grown a n b s → Grown b s c t → Grown a n c t
grown_both a b c n s t X Y = record {
  more = omega (arith, X.more, Y.more);
  front = sym (take-take n s c X.more) ∙ ap (take n) Y.front ∙ take-take n s b X.more ∙ X.front;
}

-- how many there can be
pub few : (v n : ℕ) (marks found : List ℕ) → Frontier v marks found n → n ≤ most_elements
few v n marks found G = omega (arith, once_few most_elements (take n found) G.in_range G.once, G.count)

module _ (v y n : ℕ) (marks found : List ℕ) (G : Frontier v marks found n) where
  -- y bears the mark already
  pub visit_old : (x : ℕ) → x ≡ get_or marks y 0 → x ≡ v → Toward found n [] (with found n (y ∷ []))
  unfolding with is_in
  visit_old x e f = record { each = λ z. go z (eqb z y) refl }
    where
      here : is_in y (take n found) ≡ true
      here = sym (G.marked y) ∙ eq-eqb (get_or marks y 0) v (sym e ∙ f)

      go : (z : ℕ) (b : Bool) → eqb z y ≡ b → is_in z (take n found) || false ≡ is_in z (take n found) || (b || false)
      go z true q = or_nothing (is_in z (take n found)) ∙ ap (λ k. is_in k (take n found)) (eqb-true z y q) ∙ here ∙ sym (or_always (is_in z (take n found)))
      go z false q = refl

  module _ (x : ℕ) (xe : x ≡ get_or marks y 0) (new : x ≡ v → ⊥) (low : 1 ≤ y) (high : y ≤ most_elements) (marks' found' : List ℕ)
      (me : marks' ≡ set marks y v) (fe : found' ≡ set found n y) where
    fits : n < length found
    fits = omega (arith, few v n marks found G, G.room)

    longer : take (n + 1) found' ≡ take n found ++ (y ∷ [])
    longer = rw (add-one n, fe) (take-suc-set found n y fits)

    out : is_in y (take n found) ≡ false
    out = sym (G.marked y) ∙ ne_eqb (get_or marks y 0) v (λ q. new (xe ∙ q))

    pub visit_new : Frontier v marks' found' (n + 1)
    unfolding is_in
    visit_new = record {
      size = ap length me ∙ length-set marks y v ∙ G.size;
      room = ap length fe ∙ length-set found n y ∙ G.room;
      top = λ z. under z (eqb z y) refl;
      marked = λ z. mark z (eqb z y) refl ∙ sym (ap (is_in z) longer ∙ is_in_append z (take n found) (y ∷ []));
      once = rw longer (repeats_snoc (take n found) y G.once out);
      in_range = rw longer (All_append (λ y. (1 ≤ y) × (y ≤ most_elements)) (take n found) (y ∷ []) G.in_range ((low, high), tt));
      count = rw longer (length-append (take n found) (y ∷ []) ∙ ap (λ k. k + 1) G.count);
    }
      where
        at : (z : ℕ) → get_or marks' z 0 ≡ get_or (set marks y v) z 0
        at z = ap (λ (l : List ℕ). get_or l z 0) me

        same : get_or (set marks y v) y 0 ≡ v
        same = get_or-set_same marks y v 0 (omega (arith, G.size))

        under : (z : ℕ) (b : Bool) → eqb z y ≡ b → get_or marks' z 0 ≤ v
        under z true q = omega (arith, at z, ap (λ k. get_or (set marks y v) k 0) (eqb-true z y q), same)
        under z false q = omega (arith, at z, get_or-set_other marks y z v 0 (eqb-false z y q), G.top z)

        mark : (z : ℕ) (b : Bool) → eqb z y ≡ b → eqb (get_or marks' z 0) v ≡ is_in z (take n found) || (b || false)
        mark z true q = eq-eqb (get_or marks' z 0) v (at z ∙ ap (λ k. get_or (set marks y v) k 0) (eqb-true z y q) ∙ same) ∙ sym (or_always (is_in z (take n found)))
        mark z false q = ap (λ k. eqb k v) (at z ∙ get_or-set_other marks y z v 0 (eqb-false z y q)) ∙ G.marked z ∙ sym (or_nothing (is_in z (take n found)))

    pub visit_adds : Toward found' (n + 1) [] (with found n (y ∷ []))
    unfolding with is_in
    visit_adds = record { each = λ z. or_nothing (is_in z (take (n + 1) found')) ∙ ap (is_in z) longer ∙ is_in_append z (take n found) (y ∷ []) }

    pub visit_few : n + 1 ≤ most_elements
    visit_few = few v (n + 1) marks' found' visit_new

-- ---- one more of a list of which only some are wanted

between_append : (lo hi : ℕ) (xs ys : List ℕ) → between lo hi (xs ++ ys) ≡ between lo hi xs ++ between lo hi ys
unfolding between
between_append lo hi [] ys = refl
between_append lo hi (x ∷ xs) ys = go (ltb lo x && leb x hi) (between_append lo hi xs ys)
  where
    go : (b : Bool) → between lo hi (xs ++ ys) ≡ between lo hi xs ++ between lo hi ys
        → cond b (x ∷ between lo hi (xs ++ ys)) (between lo hi (xs ++ ys)) ≡ cond b (x ∷ between lo hi xs) (between lo hi xs) ++ between lo hi ys
    go true ih = ap (λ r. x ∷ r) ih
    go false ih = ih

module _ (y lo hi n : ℕ) (found : List ℕ) where
  nothing : between lo hi (y ∷ []) ≡ [] → Toward found n [] (with found n (between lo hi (y ∷ [])))
  unfolding with is_in
  nothing e = record { each = λ z. ap (λ (l : List ℕ). is_in z (take n found) || is_in z l) (sym e) }

  pub between_low : y ≤ lo → Toward found n [] (with found n (between lo hi (y ∷ [])))
  unfolding between
  between_low h = nothing (ap (λ b. cond (b && leb y hi) (y ∷ []) []) (le-ltb lo y h))

  pub between_high : hi < y → Toward found n [] (with found n (between lo hi (y ∷ [])))
  unfolding between
  between_high h = nothing (ap (λ b. cond b (y ∷ []) []) (and_right (ltb lo y) (leb y hi) (lt-leb y hi h)))

  pub between_yes : (found' : List ℕ) (s : ℕ) → lo < y → y ≤ hi → Toward found' s [] (with found n (y ∷ [])) → Toward found' s [] (with found n (between lo hi (y ∷ [])))
  unfolding between
  between_yes found' s a b t =
      let e : between lo hi (y ∷ []) ≡ y ∷ [] = ap₂ (λ p q. cond (p && q) (y ∷ []) []) (lt-ltb lo y a) (le-leb y hi b) in
      subst (λ (l : List ℕ). Toward found' s [] (with found n l)) (sym e) t

-- ---- a loop that gathers: what is left of the list

pub toward_start : (found ys : List ℕ) (n : ℕ) → Toward found n ys (with found n ys)
unfolding with
toward_start found ys n = record { each = λ z. refl }

pub toward_done : (found : List ℕ) (n : ℕ) (rest : List ℕ) (p : ℕ → Bool) → rest ≡ [] → Toward found n rest p → Toward found n [] p
toward_done found n rest p e t = subst (λ (l : List ℕ). Toward found n l p) e t

-- one piece of it was gathered
pub toward_turn : (found found' : List ℕ) (n n' : ℕ) (rest xs ys : List ℕ) (p : ℕ → Bool) → rest ≡ xs ++ ys → Toward found n rest p → Toward found' n' [] (with found n xs)
    → Toward found' n' ys p
unfolding with is_in
toward_turn found found' n n' rest xs ys p e t u = record {
  each = λ z.
      ap (λ b. b || is_in z ys) (sym (or_nothing (is_in z (take n' found'))) ∙ u.each z)
      ∙ or_assoc (is_in z (take n found)) (is_in z xs) (is_in z ys)
      ∙ ap (λ b. is_in z (take n found) || b) (sym (is_in_append z xs ys))
      ∙ ap (λ (l : List ℕ). is_in z (take n found) || is_in z l) (sym e)
      ∙ t.each z;
}

-- ---- the loop over a chain

module _ (m : Bytes) (lo hi n k i : ℕ) (f : ℕ → ℕ) where
  pub between_ended : i < 1 → between lo hi (map f (follow m (n - k) i)) ≡ []
  unfolding between
  between_ended h = ap (λ (l : List ℕ). between lo hi (map f l)) (chain_ended m n k i h)

  pub between_spent : n ≤ k → between lo hi (map f (follow m (n - k) i)) ≡ []
  unfolding between
  between_spent h = ap (λ (l : List ℕ). between lo hi (map f l)) (chain_spent m n k i h)

  pub between_more : (g x : ℕ) → k < n → 1 ≤ i → g ≡ f i → x ≡ next_of m i
      → between lo hi (map f (follow m (n - k) i)) ≡ between lo hi (g ∷ []) ++ between lo hi (map f (follow m (n - (k + 1)) x))
  between_more g x h z e y = rw (e, y, chain_more m n k i h z) (between_append lo hi (f i ∷ []) (map f (follow m (n - (k + 1)) (next_of m i))))

-- ---- the loops over a list of elements

pub step_start : (found : List ℕ) (n : ℕ) (g : ℕ → List ℕ) → Toward found n [] (with found n (blocks 0 0 g))
unfolding with is_in blocks
step_start found n g = record { each = λ z. refl }

-- the next element's were gathered after those before it
pub step_turn : (found₀ found found' : List ℕ) (base n n' j : ℕ) (g : ℕ → List ℕ) (xs : List ℕ) → Toward found n [] (with found₀ base (blocks 0 j g)) → xs ≡ g j
    → Toward found' n' [] (with found n xs) → Toward found' n' [] (with found₀ base (blocks 0 (j + 1) g))
unfolding with is_in
step_turn found₀ found found' base n n' j g xs t e u = record {
  each = λ z.
      u.each z
      ∙ ap (λ b. b || is_in z xs) (sym (or_nothing (is_in z (take n found))) ∙ t.each z)
      ∙ or_assoc (is_in z (take base found₀)) (is_in z (blocks 0 j g)) (is_in z xs)
      ∙ ap (λ b. is_in z (take base found₀) || b) (sym (is_in_append z (blocks 0 j g) xs) ∙ ap (λ (l : List ℕ). is_in z (blocks 0 j g ++ l)) e
      ∙ ap (is_in z) (sym (rw zero-add at (blocks_turn 0 g j))));
}

pub down_is : (m : Bytes) (r lo hi h x j : ℕ) (from : List ℕ) → r ≡ record_count m → x ≡ get_or from j 0 → h ≡ head_of m x
    → between lo hi (map (element_in m) (follow m (r + 1) h)) ≡ down m lo hi from j
unfolding down chain records
down_is m r lo hi h x j from re xe he = rw (he, xe, re)

pub up_is : (w : Incidence) (from : List ℕ) (x j : ℕ) → x ≡ get_or from j 0 → cells_on w x ≡ up w from j
unfolding up
up_is w from x j e = rw e refl

pub up_fits : (w : Incidence) (from : List ℕ) (n x j : ℕ) → Upward w from n → j < n → x ≡ get_or from j 0 → All (λ y. (1 ≤ y) × (y ≤ most_elements)) (cells_on w x)
up_fits w from n x j U h e = rw (up_is w from x j e) (U.each j h)

-- ---- the loop over a list that is gathered itself

pub list_turn : (list found₀ found found' : List ℕ) (j s s' : ℕ) → j < length list → Toward found s [] (with found₀ 0 (take j list))
    → Toward found' s' [] (with found s (get_or list j 0 ∷ [])) → Toward found' s' [] (with found₀ 0 (take (j + 1) list))
unfolding with is_in
list_turn list found₀ found found' j s s' h t u = record {
  each = λ z.
      u.each z
      ∙ ap (λ b. b || is_in z (y ∷ [])) (sym (or_nothing (is_in z (take s found))) ∙ t.each z)
      ∙ sym (is_in_append z (take j list) (y ∷ []))
      ∙ ap (is_in z) (sym longer);
}
  where
    y : ℕ
    y = get_or list j 0

    longer : take (j + 1) list ≡ take j list ++ (y ∷ [])
    longer = rw (add-one j) (take-suc list j 0 h)

pub list_end : (list found₀ found : List ℕ) (j s : ℕ) → length list ≤ j → Toward found s [] (with found₀ 0 (take j list)) → Toward found s [] (with found₀ 0 list)
list_end list found₀ found j s a t = rw (take_all j list a) at t
