-- Steps and layers as the code makes them. Assumes nothing.
use mathlib.Core.Path.{subst, ◌≡◌, refl, sym, ap, ◌∙◌}
use mathlib.Core.Bool.{Bool, true, false, not, ◌||◌, ◌&&◌, cond}
use mathlib.Core.List.{List, [], ◌∷◌, ◌++◌}
use Prim.Native.Nat.{ℕ, ◌+◌, ◌≤◌, ◌<◌}
use native.Mathlib.Numerals.{add-one}
use native.Mathlib.Omega.{arith}
use lib.Dec.{eqb}
use lib.ListN.{length, replicate, get_or, set, take, length-set}
use lib.Seq.{get_or-set_same, get_or-set_other, take-suc}
use borrow.Author.Tests.{eqb-true, eqb-false, eq-eqb, ne_eqb, not-true, not-false}
use Rattle.mesh.specs.Meet.{Under}
use Rattle.vocabulary.specs.Bytes.{Bytes}
use Rattle.vocabulary.specs.Intervals.{blocks}
use Rattle.vocabulary.specs.Lists.{is_in, repeats, All, Zeros}
use Rattle.vocabulary.proofs.ListLaws.{or_nothing, eqb_swap, is_in_append, All_get_or, zeros}
use Rattle.mesh.specs.Mesh.{top, below}
use Rattle.mesh.specs.Accepted.{Accepted, Cell}
use Rattle.walk_frontier.specs.Visits.{Frontier, Toward, with, down, up, Upward}
use Rattle.walk_incidence.specs.declared.inner.Incidence.{Incidence}
use Rattle.walk_steps.specs.Walking.{Ground, Lower, stepped, starts_among, or_among, noted, Noted, among}
use Rattle.walk_steps.proofs.StepLaws.{down_told, up_told, upward}
use Rattle.mesh.proofs.WalkLaws.{below_grows}
use Rattle.layout.specs.Limits.{element_places, most_elements}

-- nothing gathered yet
pub begin : (v : ℕ) (marks found : List ℕ) → Under v marks → length found ≡ element_places → Frontier v marks found 0
unfolding is_in repeats
begin v marks found F r = record {
  size = F.size;
  room = r;
  top = λ y. omega (arith, F.each y);
  marked = λ y. ne_eqb (get_or marks y 0) v (λ q. let z : ⊥ = omega (arith, F.each y) in z);
  once = refl;
  in_range = tt;
  count = refl;
}

toward_as : (found : List ℕ) (s : ℕ) (p q : ℕ → Bool) → ((z : ℕ) → p z ≡ q z) → Toward found s [] p → Toward found s [] q
toward_as found s p q f t = record { each = λ z. t.each z ∙ f z }

pub gone_down : (m : Bytes) (a lo hi base s : ℕ) (from found found' : List ℕ) → Accepted m → a < top m → lo ≡ below m a → hi ≡ below m (a + 1) → All (Cell m) from
    → Toward found' s [] (with found base (blocks 0 (length from) (down m lo hi from))) → Toward found' s [] (or_among found base (stepped m a from))
unfolding with or_among
gone_down m a lo hi base s from found found' A h le he C t = toward_as found' s _ _ (λ z. ap (λ b. is_in z (take base found) || b) (down_told m A a lo hi from h le he C z)) t

pub gone_up : (m st : Bytes) (w : Incidence) (from found found' : List ℕ) (base s : ℕ) → Ground m st w → All (Lower m) from
    → Toward found' s [] (with found base (blocks 0 (length from) (up w from))) → Toward found' s [] (or_among found base (stepped m (top m) from))
unfolding with or_among
gone_up m st w from found found' base s G L t = toward_as found' s _ _ (λ z. ap (λ b. is_in z (take base found) || b) (up_told m G.turned.mesh w from G.turned L z)) t

-- ---- before the first step

pub starts_none : (single : Bool) (from found : List ℕ) → not single ≡ true → Toward found 0 [] (starts_among single from)
unfolding starts_among is_in
starts_none single from found e = record { each = λ z. sym (ap (λ b. b && is_in z from) (not-true single e)) }

pub starts_all : (single : Bool) (from found found' : List ℕ) (s : ℕ) → not single ≡ false → Toward found' s [] (with found 0 from) → Toward found' s [] (starts_among single from)
unfolding starts_among with is_in
starts_all single from found found' s e t = toward_as found' s _ _ (λ z. sym (ap (λ b. b && is_in z from) (not-false single e))) t

-- ---- layers

pub note_old : (k y x : ℕ) (layers : List ℕ) → x ≡ get_or layers y 0 → (x ≡ 0 → ⊥) → Noted k layers layers (eqb y)
unfolding noted
note_old k y x layers e n = record { size = refl; each = λ z. go z (eqb y z) refl }
  where
    go : (z : ℕ) (b : Bool) → eqb y z ≡ b → get_or layers z 0 ≡ cond (b && eqb (get_or layers z 0) 0) (k + 1) (get_or layers z 0)
    go z true q = sym (ap (λ b. cond b (k + 1) (get_or layers z 0)) (ne_eqb (get_or layers z 0) 0 (λ w. n (e ∙ ap (λ i. get_or layers i 0) (eqb-true y z q) ∙ w))))
    go z false q = refl

pub note_new : (k y x : ℕ) (layers after : List ℕ) → y < length layers → x ≡ get_or layers y 0 → x ≡ 0 → after ≡ set layers y (k + 1) → Noted k layers after (eqb y)
unfolding noted
note_new k y x layers after h e n f = record { size = ap length f ∙ length-set layers y (k + 1); each = λ z. ap (λ (l : List ℕ). get_or l z 0) f ∙ go z (eqb y z) refl }
  where
    go : (z : ℕ) (b : Bool) → eqb y z ≡ b → get_or (set layers y (k + 1)) z 0 ≡ cond (b && eqb (get_or layers z 0) 0) (k + 1) (get_or layers z 0)
    go z true q =
        ap (λ i. get_or (set layers y (k + 1)) i 0) (sym (eqb-true y z q)) ∙ get_or-set_same layers y (k + 1) 0 h
        ∙ sym (ap (λ b. cond b (k + 1) (get_or layers z 0)) (eq-eqb (get_or layers z 0) 0 (ap (λ i. get_or layers i 0) (sym (eqb-true y z q)) ∙ sym e ∙ n)))
    go z false q = get_or-set_other layers y z (k + 1) 0 (λ w. eqb-false y z q (sym w))

pub twice : (k : ℕ) (a b : Bool) (x : ℕ) → noted k b (noted k a x) ≡ noted k (a || b) x
unfolding noted
twice k true b x = go (eqb x 0) refl
  where
    go : (c : Bool) → eqb x 0 ≡ c → cond (b && eqb (cond c (k + 1) x) 0) (k + 1) (cond c (k + 1) x) ≡ cond c (k + 1) x
    go true e = mine b
      where
        mine : (b : Bool) → cond (b && eqb (k + 1) 0) (k + 1) (k + 1) ≡ k + 1
        mine true = ap (λ c. cond c (k + 1) (k + 1)) (ne_eqb (k + 1) 0 (omega arith))
        mine false = refl
    go false e = mine b
      where
        mine : (b : Bool) → cond (b && eqb x 0) (k + 1) x ≡ x
        mine true = ap (λ c. cond c (k + 1) x) e
        mine false = refl
twice k false b x = refl

pub notes_start : (k : ℕ) (list layers : List ℕ) → Noted k layers layers (among (take 0 list))
unfolding noted among is_in
notes_start k list layers = record { size = refl; each = λ z. refl }

pub notes_turn : (k j : ℕ) (list l₀ l₁ l₂ : List ℕ) → j < length list → Noted k l₀ l₁ (among (take j list)) → Noted k l₁ l₂ (eqb (get_or list j 0)) → Noted k l₀ l₂ (among (take (j + 1) list))
unfolding among is_in
notes_turn k j list l₀ l₁ l₂ h A B = record {
  size = B.size ∙ A.size;
  each = λ z.
      B.each z ∙ ap (noted k (eqb y z)) (A.each z) ∙ twice k (is_in z (take j list)) (eqb y z) (get_or l₀ z 0)
      ∙ ap (λ b. noted k b (get_or l₀ z 0)) (ap (λ b. is_in z (take j list) || b) (eqb_swap y z ∙ sym (or_nothing (eqb z y))) ∙ sym (ap (is_in z) longer ∙ is_in_append z (take j list) (y ∷ [])));
}
  where
    y : ℕ
    y = get_or list j 0

    longer : take (j + 1) list ≡ take j list ++ (y ∷ [])
    longer = rw (add-one j) (take-suc list j 0 h)

pub note_fits : (k j : ℕ) (list l₀ l₁ : List ℕ) (p : ℕ → Bool) → All (λ y. y < length l₀) list → j < length list → Noted k l₀ l₁ p → get_or list j 0 < length l₁
note_fits k j list l₀ l₁ p a h N = omega (arith, N.size, All_get_or (λ y. y < length l₀) list j 0 a h)

pub low_enough : (m : Bytes) (a hi : ℕ) → Accepted m → a < top m → hi ≡ below m (a + 1) → hi ≤ most_elements
low_enough m a hi A h e = omega (arith, below_grows m (a + 1) 4 (omega (arith, A.sizes.d_high)), A.sizes.n_high)

pub upwards : (m st : Bytes) (w : Incidence) (from : List ℕ) → Ground m st w → All (Lower m) from → Upward w from (length from)
upwards m st w from G L = upward m G.turned.mesh w from G.turned L

-- a list that was filled with zeros
pub filled : (n : ℕ) (list after : List ℕ) → length list ≡ n → after ≡ replicate (length list) 0 → Zeros n after
filled n list after e f = subst (Zeros n) (sym (f ∙ ap (λ k. replicate k 0) e)) (zeros n)
