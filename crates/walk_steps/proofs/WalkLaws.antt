-- A walk of k steps is a walk of k - 1 steps and one step more, as the code makes it. Assumes nothing.
use mathlib.Core.Path.{◌≡◌, refl, sym, ap, ap₂, ◌∙◌, subst, subst₂}
use mathlib.Core.Bool.{Bool, true, false, not, ◌&&◌, ◌||◌, cond}
use mathlib.Core.List.{List, [], ◌∷◌, ◌++◌}
use Prim.Native.Nat.{ℕ, zero, suc, ◌+◌, ◌-◌, ◌*◌, ◌/◌, ◌%◌, ◌≤◌, ◌<◌}
use native.Mathlib.Nat.{zero-add, add-zero}
use native.Mathlib.Numerals.{add-one}
use native.Mathlib.Omega.{arith}
use lib.Dec.{eqb, ltb}
use lib.ListN.{length, get_or, set, take, drop, length-append, get_or-append}
use lib.Seq.{take-suc, take-suc-set, take-take, get_or-append-add}
use Rattle.std.proofs.lemmas.List.{take-append-drop, take_at}
use borrow.Author.Tests.{eqb-true, eqb-false, eq-eqb, ne_eqb, lt-ltb, not-true}
use Rattle.mesh.specs.Meet.{Under}
use Rattle.vocabulary.specs.Bytes.{Bytes, byte_at}
use Rattle.vocabulary.specs.Intervals.{picked, some}
use Rattle.vocabulary.proofs.IntervalLaws.{picked_cong, picked_some, some_in, some_witness, every_at}
use Rattle.vocabulary.specs.Lists.{is_in, repeats, All, Zeros}
use Rattle.vocabulary.proofs.ListLaws.{or_nothing, and_true, and_intro, and_right, and_all, not_both, same_test, is_in_append, repeats_once, All_map}
use Rattle.vocabulary.proofs.ListLaws.{All_append, All_split, is_in_at, at_is_in, at_all, All_intro}
use Rattle.layout.specs.Limits.{element_places, most_elements}
use Rattle.mesh.specs.Mesh.{top, elements, counted, below, first_cell, cell_count}
use Rattle.mesh.specs.Walks.{bad10, incident, step_to, steps}
use Rattle.mesh.proofs.WalkLaws.{stencil_parts, stencil_odd, stencil_even, below_grows}
use Rattle.mesh.specs.Accepted.{Accepted, Cell}
use Rattle.mesh.proofs.DimensionLaws.{below_more}
use Rattle.walk_steps.proofs.StepLaws.{some_of_like, step_from, step_to_lem}
use Rattle.walk_steps.proofs.NoteLaws.{begin}
use Rattle.walk_frontier.specs.Visits.{Frontier, Toward, Added}
use Rattle.walk_incidence.specs.declared.inner.Incidence.{Incidence}
use Rattle.walk_steps.specs.declared.steps.Space.{Space}
use Rattle.walk_steps.specs.Walking.{Ground, AllCells, Lower, Sided, stepped, alike, through_one, met_before, newly, mark_at, starts_among, or_among}
use Rattle.walk_steps.specs.Walking.{first_mark, layer_mark, noted, Noted, among, cells_among, walked_from, WalkDone, Within, Widened, Departed, Arrived}

-- ---- the stencil

pub alike_told : (st : Bytes) (j a b : ℕ) → a ≡ byte_at st (2 * j + 1) → b ≡ byte_at st 1 → eqb a b ≡ alike st j
unfolding alike
alike_told st j a b e f = rw (e, f)

pub mark_whole : (single : Bool) (v k : ℕ) → single ≡ true → v ≡ mark_at single v k
unfolding mark_at
mark_whole single v k e = sym (ap (λ b. cond b v (v + k)) e)

pub mark_step : (single : Bool) (v k : ℕ) → single ≡ false → v + k ≡ mark_at single v k
unfolding mark_at
mark_step single v k e = sym (ap (λ b. cond b v (v + k)) e)

pub dimension_down : (m st : Bytes) (w : Incidence) (k a : ℕ) → Ground m st w → k < length st → k % 2 ≡ 1 → a ≡ byte_at st k → a < top m
dimension_down m st w k a G h o e = omega (arith, stencil_odd (top m) st G.stencil k h o)

pub stepped_up : (m st : Bytes) (w : Incidence) (from found found' : List ℕ) (base k s : ℕ) → Ground m st w → k < length st → (k % 2 ≡ 1 → ⊥)
    → Toward found' s [] (or_among found base (stepped m (top m) from)) → Toward found' s [] (or_among found base (stepped m (byte_at st k) from))
stepped_up m st w from found found' base k s G h o t = rw (stencil_even (top m) st G.stencil k h o) t

pub stepped_down : (m st : Bytes) (from found found' : List ℕ) (base k a s : ℕ) → a ≡ byte_at st k → Toward found' s [] (or_among found base (stepped m a from))
    → Toward found' s [] (or_among found base (stepped m (byte_at st k) from))
stepped_down m st from found found' base k a s e t = rw e at t

pub side_odd : (m : Bytes) (k : ℕ) (from : List ℕ) → Sided m k from → k % 2 ≡ 1 → All (Cell m) from
side_odd m k from S o = S.odd o

pub side_even : (m : Bytes) (k : ℕ) (from : List ℕ) → Sided m k from → (k % 2 ≡ 1 → ⊥) → All (Lower m) from
side_even m k from S o = S.even o

-- ---- what walks reach: cells after an even number of steps, lower elements after an odd one

module _ (m st : Bytes) (A : Accepted m) (bad : bad10 (top m) st ≡ false) (cs : List ℕ) (C : All (Cell m) cs) where
  pub walked_even : (k z : ℕ) → k < length st → k % 2 ≡ 0 → is_in z (walked_from m st cs k) ≡ true → Cell m z
  unfolding walked_from
  walked_even zero z h o e = at_all (Cell m) z cs C (is_in_at z cs e)
  walked_even (suc k) z h o e =
      let d : byte_at st (suc k) ≡ top m = stencil_even (top m) st bad (suc k) h (omega arith) in
      let w = step_from m (byte_at st (suc k)) z (walked_from m st cs k) e in
      record {
        low = subst (λ a. below m a + 1 ≤ z) d w.3;
        high = subst (λ a. z < below m a + 1 + counted m a) d w.4;
      }

  pub walked_odd : (k z : ℕ) → k < length st → k % 2 ≡ 1 → is_in z (walked_from m st cs k) ≡ true → (1 ≤ z) × (z ≤ below m (top m))
  unfolding walked_from
  walked_odd zero z h o e = let n : ⊥ = omega arith in absurd n
  walked_odd (suc k) z h o e =
      let d : byte_at st (suc k) < top m = stencil_odd (top m) st bad (suc k) h o in
      let w = step_from m (byte_at st (suc k)) z (walked_from m st cs k) e in
      (omega (arith, w.3), omega (arith, w.4, below_more m (byte_at st (suc k)), below_grows m (suc (byte_at st (suc k))) (top m) (omega arith)))

  -- walks that end at one element have even numbers of steps, or odd ones
  one_side : (j k z : ℕ) → j < length st → k < length st → is_in z (walked_from m st cs j) ≡ true → is_in z (walked_from m st cs k) ≡ true → j % 2 ≡ k % 2
  one_side j k z h l e f = go (eqb (j % 2) 1) refl (eqb (k % 2) 1) refl
    where
      go : (a : Bool) → eqb (j % 2) 1 ≡ a → (b : Bool) → eqb (k % 2) 1 ≡ b → j % 2 ≡ k % 2
      go true p true q = eqb-true (j % 2) 1 p ∙ sym (eqb-true (k % 2) 1 q)
      go true p false q =
          let o : k % 2 ≡ 1 → ⊥ = eqb-false (k % 2) 1 q in
          let n : ⊥ = omega (arith, (walked_odd j z h (eqb-true (j % 2) 1 p) e).1, (walked_even k z l (omega arith) f).low) in absurd n
      go false p true q =
          let o : j % 2 ≡ 1 → ⊥ = eqb-false (j % 2) 1 p in
          let n : ⊥ = omega (arith, (walked_odd k z l (eqb-true (k % 2) 1 q) f).1, (walked_even j z h (omega arith) e).low) in absurd n
      go false p false q =
          let o : j % 2 ≡ 1 → ⊥ = eqb-false (j % 2) 1 p in
          let u : k % 2 ≡ 1 → ⊥ = eqb-false (k % 2) 1 q in omega arith

  -- each of the first n numbers is where a walk ends
  each_of : (P : ℕ → Type 0) (single : Bool) (k n : ℕ) (from : List ℕ) → ((z : ℕ) → is_in z (take n from) ≡ newly single m st cs k z) → ((z : ℕ) → is_in z (walked_from m st cs k) ≡ true → P z)
      → All P (take n from)
  unfolding newly
  each_of P single k n from like f =
      All_intro P (take n from) 0 (λ l h.
      let z : ℕ = get_or (take n from) l 0 in
      f z (and_true (is_in z (walked_from m st cs k)) _ (sym (like z) ∙ at_is_in z (take n from) (record { place = l; place_lt = h; place_is = refl }))).0)

  sides : (single : Bool) (k v n met : ℕ) (s : Space) → 1 ≤ k → k < length st → WalkDone m st single cs (k - 1) v s n met → Sided m k (take n s.from)
  sides single k v n met s l h W = record {
    odd = λ o. each_of (Cell m) single (k - 1) n s.from W.ends (λ z e. walked_even (k - 1) z (omega arith) (omega arith) e);
    even = λ o. each_of _ single (k - 1) n s.from W.ends (λ z e. walked_odd (k - 1) z (omega arith) (omega arith) e);
  }

  -- ---- a stencil through one dimension

  module _ (one : through_one st ≡ true) where
    pub alike_places : (j k : ℕ) → j < length st → k < length st → j % 2 ≡ k % 2 → byte_at st j ≡ byte_at st k
    unfolding through_one alike
    alike_places j k h l e = go (eqb (j % 2) 1) refl
      where
        first : (i : ℕ) → i < length st → i % 2 ≡ 1 → byte_at st i ≡ byte_at st 1
        first i g o =
            let p : 2 * (0 + i / 2) + 1 ≡ i = omega arith in
            let q : alike st (0 + i / 2) ≡ true = every_at 0 (alike st) (length st / 2) (i / 2) one (omega (arith, (stencil_parts (top m) st bad).0)) in
            ap (byte_at st) (sym p) ∙ eqb-true (byte_at st (2 * (0 + i / 2) + 1)) (byte_at st 1) q

        go : (b : Bool) → eqb (j % 2) 1 ≡ b → byte_at st j ≡ byte_at st k
        go true p = let o : j % 2 ≡ 1 = eqb-true (j % 2) 1 p in first j h o ∙ sym (first k l (omega arith))
        go false p =
            let o : j % 2 ≡ 1 → ⊥ = eqb-false (j % 2) 1 p in
            stencil_even (top m) st bad j h o ∙ sym (stencil_even (top m) st bad k l (omega arith))

    -- what was met before leads to what was met before; so what a step finds that is new, it finds from what is new
    new_step : (j z : ℕ) (es : List ℕ) → suc j < length st → ((x : ℕ) → is_in x es ≡ newly true m st cs j x) → met_before m st cs (suc j) z ≡ false
        → is_in z (step_to m (byte_at st (suc j)) es) ≡ is_in z (step_to m (byte_at st (suc j)) (walked_from m st cs j))
    unfolding newly met_before walked_from
    new_step j z es h like none = same_test _ _ there back
      where
        a : ℕ
        a = byte_at st (suc j)

        there : is_in z (step_to m a es) ≡ true → is_in z (step_to m a (walked_from m st cs j)) ≡ true
        there e =
            let w = step_from m a z es e in
            step_to_lem m a z (walked_from m st cs j) w.0 (and_true (is_in w.0 (walked_from m st cs j)) _ (sym (like w.0) ∙ w.1)).0 w.2 w.3 w.4

        back : is_in z (step_to m a (walked_from m st cs j)) ≡ true → is_in z (step_to m a es) ≡ true
        back e = let w = step_from m a z (walked_from m st cs j) e in go w.0 w.1 w.2 w.3 w.4 (met_before m st cs j w.0) refl
          where
            go : (x : ℕ) → is_in x (walked_from m st cs j) ≡ true → incident m x z ≡ true → below m a + 1 ≤ z → z < below m a + 1 + counted m a → (b : Bool) → met_before m st cs j x ≡ b
                → is_in z (step_to m a es) ≡ true
            go x i c l g false q = step_to_lem m a z es x (like x ∙ and_intro (is_in x (walked_from m st cs j)) (not (met_before m st cs j x)) i (ap not q)) c l g
            go x i c l g true q =
                let p : ℕ → Bool = λ i. is_in x (walked_from m st cs i) in
                let w = some_witness 0 p j q in
                let o : is_in x (walked_from m st cs w.0) ≡ true = ap p (sym (zero-add w.0)) ∙ w.2 in
                let k : w.0 < j = w.1 in
                let d : byte_at st (suc w.0) ≡ a = alike_places (suc w.0) (suc j) (omega arith) h (omega (arith, one_side w.0 j x (omega arith) (omega arith) o i)) in
                let t : is_in z (walked_from m st cs (suc w.0)) ≡ true =
                subst (λ y. is_in z (step_to m y (walked_from m st cs w.0)) ≡ true) (sym d) (step_to_lem m a z (walked_from m st cs w.0) x o c l g) in
                let r : met_before m st cs (suc j) z ≡ true = some_in 0 (λ i. is_in z (walked_from m st cs i)) (suc j) (suc w.0) (omega arith) (omega arith) t in
                absurd (not_both (met_before m st cs (suc j) z) r none)

pub walk_sides : (m st : Bytes) (w : Incidence) (cs : List ℕ) (single : Bool) (k v n met : ℕ) (s : Space) → Ground m st w → All (Cell m) cs → (k ≡ 0 → ⊥)
    → k < length st → WalkDone m st single cs (k - 1) v s n met → Sided m k (take n s.from)
walk_sides m st w cs single k v n met s G C z h W = sides m st G.turned.mesh G.stencil cs C single k v n met s (omega arith) h W

-- ---- layers

mark_append : (xs ys : List ℕ) → first_mark (xs ++ ys) ≡ cond (eqb (first_mark xs) 0) (first_mark ys) (first_mark xs)
unfolding first_mark
mark_append [] ys = refl
mark_append (x ∷ xs) ys = sym (ap (λ b. cond b (first_mark ys) (x + 1)) (ne_eqb (x + 1) 0 (omega arith)))

pub layer_more : (m st : Bytes) (cs : List ℕ) (k z : ℕ)
    → layer_mark m st cs (suc k) z ≡ noted (suc k) (eqb (suc k % 2) 0 && is_in z (walked_from m st cs (suc k))) (layer_mark m st cs k z)
unfolding layer_mark noted
layer_more m st cs k z =
    let p : ℕ → Bool = λ j. eqb (j % 2) 0 && is_in z (walked_from m st cs j) in
    let q : suc k + 1 ≡ suc (k + 1) = omega arith in
    let r : 0 + (k + 1) ≡ suc k = omega arith in
    ap (λ n. first_mark (picked 0 n p)) q
    ∙ opened p
    ∙ mark_append (picked 0 (k + 1) p) (cond (p (0 + (k + 1))) ((0 + (k + 1)) ∷ []) [])
    ∙ ap (λ j. cond (eqb (first_mark (picked 0 (k + 1) p)) 0) (first_mark (cond (p j) (j ∷ []) [])) (first_mark (picked 0 (k + 1) p))) r
    ∙ go (p (suc k)) (first_mark (picked 0 (k + 1) p))
  where
    opened : (p : ℕ → Bool) → first_mark (picked 0 (suc (k + 1)) p) ≡ first_mark (picked 0 (k + 1) p ++ cond (p (0 + (k + 1))) ((0 + (k + 1)) ∷ []) [])
    opened p = unfold picked in refl

    go : (b : Bool) (x : ℕ) → cond (eqb x 0) (first_mark (cond b (suc k ∷ []) [])) x ≡ cond (b && eqb x 0) (suc k + 1) x
    go true x = unfold first_mark in refl
    go false x = zero_or (eqb x 0) refl
      where
        zero_or : (c : Bool) → eqb x 0 ≡ c → cond c (first_mark []) x ≡ x
        zero_or true e = unfold first_mark in sym (eqb-true x 0 e)
        zero_or false e = refl

-- a cell is walked to by even numbers of steps only, so its layer goes by all of them
pub cell_layer : (m st : Bytes) (w : Incidence) (cs : List ℕ) (n z : ℕ) → Ground m st w → All (Cell m) cs → n < length st → Cell m z
    → layer_mark m st cs n z ≡ first_mark (picked 0 (n + 1) (λ j. is_in z (walked_from m st cs j)))
unfolding layer_mark
cell_layer m st w cs n z G C h c = ap first_mark (picked_cong 0 _ _ (n + 1) (λ j l. go (0 + j) (omega arith) (is_in z (walked_from m st cs (0 + j))) refl))
  where
    go : (j : ℕ) → j < length st → (b : Bool) → is_in z (walked_from m st cs j) ≡ b → eqb (j % 2) 0 && b ≡ b
    go j l true q = ap (λ b. b && true) (eq-eqb (j % 2) 0 (even (eqb (j % 2) 1) refl))
      where
        even : (b : Bool) → eqb (j % 2) 1 ≡ b → j % 2 ≡ 0
        even true o = let w = walked_odd m st G.turned.mesh G.stencil cs C j z l (eqb-true (j % 2) 1 o) q in let n : ⊥ = omega (arith, w.1, c.low) in absurd n
        even false o = let n : j % 2 ≡ 1 → ⊥ = eqb-false (j % 2) 1 o in omega arith
    go j l false q = and_right (eqb (j % 2) 0) false refl

-- a mark says whether there is a number of steps
pub marked_by : (ks : List ℕ) → not (eqb (first_mark ks) 0) ≡ ltb 0 (length ks)
unfolding first_mark
marked_by [] = refl
marked_by (k ∷ ks) = ap not (ne_eqb (k + 1) 0 (omega arith)) ∙ sym (lt-ltb 0 (suc (length ks)) (omega arith))

-- a cell that a shorter walk met has its layer
met_layer : (m st : Bytes) (w : Incidence) (cs : List ℕ) (j z : ℕ) → Ground m st w → All (Cell m) cs → j < length st → Cell m z → met_before m st cs (suc j) z ≡ true
    → eqb (layer_mark m st cs j z) 0 ≡ false
met_layer m st w cs j z G C h c e = not-true _ (
    ap (λ x. not (eqb x 0)) (cell_layer m st w cs j z G C h c)
    ∙ marked_by (picked 0 (j + 1) p)
    ∙ picked_some 0 p (j + 1)
    ∙ ap (λ n. some 0 n p) (add-one j)
    ∙ (unfold met_before in e))
  where
    p : ℕ → Bool
    p i = is_in z (walked_from m st cs i)

-- ---- no step, and one step more

-- a number is among those of a list as it stands in it
among_is : (xs : List ℕ) (z : ℕ) → is_in z xs ≡ among xs z
unfolding among
among_is xs z = refl

walk_none : (m st : Bytes) (single : Bool) (k v met : ℕ) (cs layers : List ℕ) (s : Space) → length s.from ≡ element_places → k ≡ 0 → take (length cs) s.from ≡ cs → Zeros element_places layers
    → Frontier v s.marks s.found met × Toward s.found met [] (starts_among single cs) → Noted 0 layers s.layers (among cs)
    → WalkDone m st single cs k v s (length cs) met
unfolding is_in starts_among met_before some walked_from newly
walk_none m st single k v met cs layers s r z C K T N = subst (λ x. WalkDone m st single cs x v s (length cs) met) (sym z) (record {
  gathered = subst (λ x. Frontier x s.marks s.found met) (sym (mark single)) T.0;
  told = λ z. sym (or_nothing (is_in z (take met s.found))) ∙ T.1.each z;
  room = r;
  count = ap length C;
  ends = λ z. ap (is_in z) C ∙ sym (ap (λ b. is_in z cs && not b) (and_right single false refl) ∙ and_all (is_in z cs));
  size = N.size ∙ K.size;
  layered = λ z. N.each z ∙ ap (noted 0 (among cs z)) (K.each z) ∙ first z (among cs z) refl;
})
  where
    mark : (b : Bool) → mark_at b v 0 ≡ v
    mark true = unfold mark_at in refl
    mark false = unfold mark_at in add-zero v

    first : (z : ℕ) (b : Bool) → among cs z ≡ b → noted 0 b 0 ≡ layer_mark m st cs 0 z
    first z true q = unfold noted layer_mark first_mark picked walked_from in sym (ap (λ b. first_mark (cond b (0 ∷ []) [])) (among_is cs z ∙ q))
    first z false q = unfold noted layer_mark first_mark picked walked_from in sym (ap (λ b. first_mark (cond b (0 ∷ []) [])) (among_is cs z ∙ q))

pub step_like : (m : Bytes) (a : ℕ) (xs ys : List ℕ) → ((z : ℕ) → is_in z xs ≡ is_in z ys) → step_to m a xs ≡ step_to m a ys
unfolding step_to
step_like m a xs ys like = picked_cong (below m a + 1) _ _ (counted m a) (λ i h. some_of_like xs ys _ like)

-- what stands in the second of two lists that have nothing in common
apart : (z : ℕ) (xs ys : List ℕ) → repeats (xs ++ ys) ≡ false → is_in z ys ≡ is_in z (xs ++ ys) && not (is_in z xs)
apart z xs ys e = go (is_in z xs) refl (is_in z ys) refl ∙ ap (λ b. b && not (is_in z xs)) (sym (is_in_append z xs ys))
  where
    go : (a : Bool) → is_in z xs ≡ a → (b : Bool) → is_in z ys ≡ b → is_in z ys ≡ (is_in z xs || is_in z ys) && not (is_in z xs)
    go true p true q =
        let t = is_in_at z xs p in
        let u = is_in_at z ys q in
        let n : t.place ≡ length xs + u.place = repeats_once (xs ++ ys) t.place (length xs + u.place) e
        (omega (arith, length-append xs ys, t.place_lt)) (omega (arith, length-append xs ys, u.place_lt))
        (get_or-append xs ys 0 t.place t.place_lt ∙ t.place_is ∙ sym u.place_is ∙ sym (get_or-append-add xs ys u.place 0)) in
        let o : ⊥ = omega (arith, t.place_lt) in absurd o
    go true p false q = q ∙ sym (ap (λ b. (b || is_in z ys) && not b) p)
    go false p b q = sym (ap (λ b. (b || is_in z ys) && not b) p ∙ and_all (is_in z ys))

module _ (m st : Bytes) (w : Incidence) (cs : List ℕ) (single : Bool) (j v n base s n' low high low' high' met' : ℕ) (a b : Space)
    (G : Ground m st w) (C : All (Cell m) cs) (se : single ≡ through_one st) (h : suc j < length st) (W : WalkDone m st single cs j v a n base)
    (T : Added (mark_at single v j) b.marks a.found base b.found s (or_among a.found base (stepped m (byte_at st (suc j)) (take n a.from))))
    (r : length b.from ≡ element_places) (A : Arrived (suc j) single base (take s b.found) a.from b.from a.layers b.layers low high n' low' high' met') where
  abbrev level : List ℕ
  level = drop base (take s b.found)

  -- what was met before this step, and what the step reaches
  abbrev M : ℕ → Bool
  M z = met_before m st cs (suc j) z

  abbrev R : ℕ → Bool
  R z = is_in z (walked_from m st cs (suc j))

  whole : take s b.found ≡ take base a.found ++ level
  whole = sym (take-append-drop base (take s b.found)) ∙ ap (λ l. l ++ level) (take-take base s b.found T.grown.more ∙ T.grown.front)

  found_all : (z : ℕ) → is_in z (take s b.found) ≡ (single && M z) || is_in z (step_to m (byte_at st (suc j)) (take n a.from))
  unfolding is_in or_among stepped
  found_all z = sym (or_nothing (is_in z (take s b.found))) ∙ T.all.each z ∙ ap (λ b. b || is_in z (step_to m (byte_at st (suc j)) (take n a.from))) (W.told z)

  -- a step from what is new reaches what is new
  reaches : (z : ℕ) (b c : Bool) → single ≡ b → M z ≡ c → ((b && c) || is_in z (step_to m (byte_at st (suc j)) (take n a.from))) && not (b && c) ≡ R z && not (b && c)
  unfolding walked_from newly
  reaches z true true p q = sym (and_right (R z) false refl)
  reaches z true false p q = ap (λ b. b && true) (new_step m st G.turned.mesh G.stencil cs C (sym se ∙ p) j z (take n a.from) h (λ x. W.ends x ∙ ap (λ b. newly b m st cs j x) p) q)
  reaches z false c p q =
      ap (λ b. b && true) (ap (is_in z) (step_like m (byte_at st (suc j)) (take n a.from) (walked_from m st cs j)
      (λ x. W.ends x ∙ ap (λ b. is_in x (walked_from m st cs j) && not (b && met_before m st cs j x)) p ∙ and_all (is_in x (walked_from m st cs j)))))

  ends : (z : ℕ) → is_in z (take n' b.from) ≡ newly single m st cs (suc j) z
  ends z =
      ap (is_in z) A.moved
      ∙ apart z (take base a.found) level (ap repeats (sym whole) ∙ T.gathered.once)
      ∙ ap₂ (λ a b. a && not b) (ap (is_in z) (sym whole) ∙ found_all z) (W.told z)
      ∙ reaches z single (M z) refl refl
      ∙ (unfold newly in refl)

  gathered : (c : Bool) → single ≡ c → Frontier (mark_at c v (suc j)) b.marks b.found (cond c s 0)
  unfolding mark_at
  gathered true p = subst (λ c. Frontier (mark_at c v j) b.marks b.found s) p T.gathered
  gathered false p =
      let g : Frontier (v + j) b.marks b.found s = subst (λ c. Frontier (mark_at c v j) b.marks b.found s) p T.gathered in
      begin (v + suc j) b.marks b.found (record { size = g.size; each = λ y. omega (arith, g.top y) }) g.room

  told : (z : ℕ) (c : Bool) → single ≡ c → is_in z (take (cond c s 0) b.found) ≡ c && met_before m st cs (suc (suc j)) z
  told z true p =
      found_all z
      ∙ ap (λ c. (c && M z) || S) p
      ∙ both (M z) refl
      ∙ sym (unfold met_before some in ap (λ i. some 0 (suc j) q || q i) (zero-add (suc j)))
    where
      S : Bool
      S = is_in z (step_to m (byte_at st (suc j)) (take n a.from))

      q : ℕ → Bool
      q i = is_in z (walked_from m st cs i)

      both : (c : Bool) → M z ≡ c → c || S ≡ M z || R z
      both true e = sym (ap (λ b. b || R z) e)
      both false e = sym (and_all S) ∙ reaches z true false p e ∙ and_all (R z) ∙ sym (ap (λ b. b || R z) e)
  told z false p = unfold is_in in refl

  -- a layer that an earlier step gave stays
  layers_are : (z : ℕ) (a b c : Bool) → eqb (suc j % 2) 0 ≡ a → R z ≡ b → M z ≡ c
      → noted (suc j) (a && (b && not (single && c))) (layer_mark m st cs j z) ≡ noted (suc j) (a && b) (layer_mark m st cs j z)
  layers_are z true true true p q r =
      let c : Cell m z = walked_even m st G.turned.mesh G.stencil cs C (suc j) z h (eqb-true (suc j % 2) 0 p) q in
      let o = met_layer m st w cs j z G C (omega arith) c r in
      unfold noted in ap (λ b. cond (not (single && true) && b) (suc j + 1) (layer_mark m st cs j z)) o
      ∙ ap (λ b. cond b (suc j + 1) (layer_mark m st cs j z)) (and_right (not (single && true)) false refl ∙ sym o)
  layers_are z true true false p q r = ap (λ b. noted (suc j) (not b) (layer_mark m st cs j z)) (and_right single false refl)
  layers_are z true false c p q r = refl
  layers_are z false b c p q r = refl

  more : WalkDone m st single cs (suc j) v b n' met'
  unfolding cells_among newly
  more = record {
    gathered = subst (Frontier (mark_at single v (suc j)) b.marks b.found) (sym kept') (gathered single refl);
    told = λ z. ap (λ x. is_in z (take x b.found)) kept' ∙ told z single refl;
    room = r;
    count = ap length A.moved ∙ sym A.count;
    ends = ends;
    size = A.notes.size ∙ W.size;
    layered = λ z.
        A.notes.each z
        ∙ ap₂ (noted (suc j)) (ap (λ b. eqb (suc j % 2) 0 && b) (ap (is_in z) (sym A.moved) ∙ ends z)) (W.layered z)
        ∙ layers_are z (eqb (suc j % 2) 0) (R z) (M z) refl refl refl
        ∙ sym (layer_more m st cs j z);
  }
    where
      kept' : met' ≡ cond single s 0
      kept' = A.kept ∙ ap (λ x. cond single x 0) T.gathered.count

walk_more : (m st : Bytes) (w : Incidence) (cs : List ℕ) (single : Bool) (k v n base s n' low high low' high' met' : ℕ) (a b : Space)
    → Ground m st w → All (Cell m) cs → single ≡ through_one st → k < length st → (k ≡ 0 → ⊥) → WalkDone m st single cs (k - 1) v a n base
    → Added (mark_at single v (k - 1)) b.marks a.found base b.found s (or_among a.found base (stepped m (byte_at st k) (take n a.from))) → length b.from ≡ element_places
    → Arrived k single base (take s b.found) a.from b.from a.layers b.layers low high n' low' high' met' → WalkDone m st single cs k v b n' met'
walk_more m st w cs single zero v n base s n' low high low' high' met' a b G C se h z W T r A = absurd (z refl)
walk_more m st w cs single (suc j) v n base s n' low high low' high' met' a b G C se h z W T r A =
    let q : suc j - 1 ≡ j = omega arith in
    more m st w cs single j v n base s n' low high low' high' met' a b G C se h (rw q at W) (rw q at T) r A

-- what the calls of a walk require
pub gathered_as : (x y n : ℕ) (marks found : List ℕ) → x ≡ y → Frontier y marks found n → Frontier x marks found n
gathered_as x y n marks found e G = rw e G

pub added_as : (x y base s : ℕ) (marks before found : List ℕ) (p : ℕ → Bool) → x ≡ y → Added x marks before base found s p → Added y marks before base found s p
added_as x y base s marks before found p e A = rw (← e) A

pub notes_room : (v s : ℕ) (marks found layers : List ℕ) → length layers ≡ element_places → Frontier v marks found s → All (λ y. y < length layers) (take s found)
notes_room v s marks found layers e G = All_map (take s found) (λ y h. omega (arith, h.1)) G.in_range

module _ (m st : Bytes) (w : Incidence) (cs : List ℕ) (G : Ground m st w) (C : All (Cell m) cs) where
  pub cells_fit : (layers : List ℕ) → length layers ≡ element_places → All (λ y. y < length layers) cs
  cells_fit layers e = All_map cs (λ y h. omega (arith, h.high, G.turned.mesh.cells_in, G.turned.mesh.sizes.n_high)) C

  pub cells_small : All (λ y. (1 ≤ y) × (y ≤ most_elements)) cs
  cells_small = All_map cs (λ y h. (omega (arith, h.low), omega (arith, h.high, G.turned.mesh.cells_in, G.turned.mesh.sizes.n_high))) C

-- ---- the bounds of the cells met

pub widen_start : (low high : ℕ) → Widened low high low high []
widen_start low high = record { down = omega arith; up = omega arith; each = tt; least = λ a b p q r. (p, q) }

pub widen_turn : (low high low' high' low'' high'' j : ℕ) (list : List ℕ) → j < length list → Widened low high low' high' (take j list)
    → Widened low' high' low'' high'' (get_or list j 0 ∷ []) → Widened low high low'' high'' (take (j + 1) list)
widen_turn low high low' high' low'' high'' j list h X Y = record {
  down = omega (arith, X.down, Y.down);
  up = omega (arith, X.up, Y.up);
  each = rw longer (All_append _ (take j list) (get_or list j 0 ∷ []) (All_map (take j list) (λ z g. (omega (arith, g.0, Y.down), omega (arith, g.1, Y.up))) X.each) Y.each);
  least = λ a b p q r.
      let r' = All_split (λ z. (a ≤ z) × (z < b)) (take j list) (get_or list j 0 ∷ []) (subst (All (λ z. (a ≤ z) × (z < b))) longer r) in
      let u = X.least a b p q r'.0 in
      Y.least a b u.0 u.1 r'.1;
}
  where
    longer : take (j + 1) list ≡ take j list ++ (get_or list j 0 ∷ [])
    longer = rw (add-one j) (take-suc list j 0 h)

-- an element that is not noted keeps its layer
kept : (k z : ℕ) (p : ℕ → Bool) (layers layers' : List ℕ) → Noted k layers layers' p → (p z ≡ true → ⊥) → get_or layers' z 0 ≡ get_or layers z 0
kept k z p layers layers' N out = N.each z ∙ go (p z) refl
  where
    go : (b : Bool) → p z ≡ b → noted k b (get_or layers z 0) ≡ get_or layers z 0
    go true q = absurd (out q)
    go false q = unfold noted in refl

outside : (P : ℕ → Type 0) (z : ℕ) (xs : List ℕ) → All P xs → (P z → ⊥) → is_in z xs ≡ true → ⊥
outside P z xs a n e = n (at_all P z xs a (is_in_at z xs e))

-- cells are noted, and the bounds widened by them
within_cells : (m : Bytes) (k low high low' high' : ℕ) (p : ℕ → Bool) (new layers layers' : List ℕ) → Noted k layers layers' p
    → ((z : ℕ) → p z ≡ true → is_in z new ≡ true) → Within m layers low high → All (Cell m) new → Widened low high low' high' new → Within m layers' low' high'
within_cells m k low high low' high' p new layers layers' N of W C U = record {
  starts = bounds.0;
  ends = omega (arith, U.down, W.ends);
  stops = bounds.1;
  before = λ z l. same z (λ q. let o : ⊥ = omega (arith, q.0) in o) ∙ W.before z (omega (arith, U.down));
  after = λ z l. same z (λ q. let o : ⊥ = omega (arith, q.1) in o) ∙ W.after z (omega (arith, U.up));
}
  where
    bounds : (first_cell m ≤ low') × (high' ≤ first_cell m + cell_count m)
    bounds = U.least (first_cell m) (first_cell m + cell_count m) W.starts W.stops (All_map new (λ y h. (h.low, h.high)) C)

    same : (z : ℕ) → ((low' ≤ z) × (z < high') → ⊥) → get_or layers' z 0 ≡ get_or layers z 0
    same z not_in = kept k z p layers layers' N (λ q. outside (λ y. (low' ≤ y) × (y < high')) z new U.each not_in (of z q))

within_none : (m st : Bytes) (w : Incidence) (e low high : ℕ) (cs layers layers' : List ℕ) → Ground m st w → e ≡ elements m → All (Cell m) cs → Zeros element_places layers
    → Noted 0 layers layers' (among cs) → Widened (e + 1) 0 low high cs → Within m layers' low high
within_none m st w e low high cs layers layers' G ee C K N U =
    within_cells m 0 (e + 1) 0 low high (among cs) cs layers layers' N (λ z q. unfold among in q)
    (record { starts = omega (arith, G.turned.mesh.cells_in); ends = omega (arith, G.turned.mesh.cells_in); stops = omega arith; before = λ z l. K.each z; after = λ z l. K.each z })
    C U

-- ---- what a walk answers

pub ends_none : (m st : Bytes) (w : Incidence) (single : Bool) (e c k v n met low high met' : ℕ) (layers : List ℕ) (s : Space) → length s.from ≡ element_places → Ground m st w
    → e ≡ elements m → AllCells m s.from c → Zeros element_places layers → k ≡ 0 → Frontier v s.marks s.found met × Toward s.found met [] (starts_among single (take c s.from))
    → Departed e (take c s.from) met layers s.layers n low high met'
    → WalkDone m st single (take c s.from) k v s n met' × Within m s.layers low high
ends_none m st w single e c k v n met low high met' layers s r G ee C K z T D = (
  subst₂ (WalkDone m st single (take c s.from) k v s) (sym D.count) (sym D.kept) (walk_none m st single k v met (take c s.from) layers s r z (ap (λ i. take i s.from) C.count) K T D.notes),
  within_none m st w e low high (take c s.from) layers s.layers G ee C.each K D.notes D.bounds,
)

pub ends_more : (m st : Bytes) (w : Incidence) (cs : List ℕ) (single : Bool) (k v n base s n' low high low' high' met' : ℕ) (a b : Space)
    → Ground m st w → All (Cell m) cs → single ≡ through_one st → k < length st → (k ≡ 0 → ⊥)
    → WalkDone m st single cs (k - 1) v a n base × Within m a.layers low high
    → Added (mark_at single v (k - 1)) b.marks a.found base b.found s (or_among a.found base (stepped m (byte_at st k) (take n a.from))) → length b.from ≡ element_places
    → Arrived k single base (take s b.found) a.from b.from a.layers b.layers low high n' low' high' met'
    → WalkDone m st single cs k v b n' met' × Within m b.layers low' high'
ends_more m st w cs single k v n base s n' low high low' high' met' a b G C se h z W T r A = (here, inside (eqb (k % 2) 1) refl)
  where
    here : WalkDone m st single cs k v b n' met'
    here = walk_more m st w cs single k v n base s n' low high low' high' met' a b G C se h z W.0 T r A

    new : List ℕ
    new = drop base (take s b.found)

    inside : (c : Bool) → eqb (k % 2) 1 ≡ c → Within m b.layers low' high'
    inside true q =
        let e = A.odd (eqb-true (k % 2) 1 q) in
        rw (e.0, e.1, e.2) W.1
    inside false q =
        let o = eqb-false (k % 2) 1 q in
        within_cells m k low high low' high' (cells_among k new) new a.layers b.layers A.notes (λ z q. unfold cells_among in (and_true (eqb (k % 2) 0) (is_in z new) q).1) W.1
        (subst (All (Cell m)) A.moved
        (each_of m st G.turned.mesh G.stencil cs C _ single k n' b.from here.ends (λ z e. walked_even m st G.turned.mesh G.stencil cs C k z h (omega arith) e))) (A.even o)

-- a walk from one cell, put in front of `from`
pub front : (from after : List ℕ) (c : ℕ) → length from ≡ element_places → after ≡ set from 0 c → take 1 after ≡ c ∷ []
front from after c r f = ap (take 1) f ∙ take-suc-set from 0 c (omega arith)

pub one_cell : (m : Bytes) (from after : List ℕ) (c : ℕ) → Cell m c → length from ≡ element_places → after ≡ set from 0 c → AllCells m after 1
one_cell m from after c C r f = record { each = rw (front from after c r f) (C, tt); count = ap length (front from after c r f) }

-- what a walk leaves for the next
pub walk_fresh : (m st : Bytes) (cs : List ℕ) (single : Bool) (k v n met i : ℕ) (s : Space) → k < i → WalkDone m st single cs k v s n met → Under (v + i) s.marks
unfolding mark_at
walk_fresh m st cs single k v n met i s h W = record { size = W.gathered.size; each = λ y. go single (W.gathered.top y) }
  where
    go : {x : ℕ} (b : Bool) → x ≤ mark_at b v k → x < v + i
    go true l = omega arith
    go false l = omega arith

-- ---- what arrives in `from`

module _ (k : ℕ) (single : Bool) (base : ℕ) (found new from from' layers : List ℕ) (low high met : ℕ) (e : new ≡ drop base found) (K : met ≡ cond single (length found) 0)
    (M : take (length new) from' ≡ new) where
  pub arrived_odd : k % 2 ≡ 1 → Arrived k single base found from from' layers layers low high (length new) low high met
  unfolding noted cells_among
  arrived_odd o = record {
    count = ap length e;
    kept = K;
    moved = M ∙ e;
    notes = record { size = refl; each = λ z. sym (ap (λ b. noted k (b && is_in z (drop base found)) (get_or layers z 0)) (ne_eqb (k % 2) 0 (omega arith))) };
    odd = λ _. (refl, refl, refl);
    even = λ x. absurd (x o);
  }

  pub arrived_even : (k % 2 ≡ 1 → ⊥) → (layers' : List ℕ) (n' low' high' met' : ℕ) → Noted k layers layers' (among new)
      → (n' ≡ length new) × (met' ≡ met) × Widened low high low' high' new → Arrived k single base found from from' layers layers' low high n' low' high' met'
  unfolding among cells_among
  arrived_even o layers' n' low' high' met' N U = record {
    count = U.0 ∙ ap length e;
    kept = U.1 ∙ K;
    moved = ap (λ i. take i from') U.0 ∙ M ∙ e;
    notes = record { size = N.size; each = λ z. N.each z ∙ ap (λ b. noted k b (get_or layers z 0)) (ap (is_in z) e ∙ sym (ap (λ b. b && is_in z (drop base found)) (eq-eqb (k % 2) 0 (omega arith)))) };
    odd = λ x. absurd (o x);
    even = λ _. subst (Widened low high low' high') e U.2;
  }

-- what is copied to the front of a list stands there
pub copied : (xs ys from : List ℕ) (n : ℕ) → n ≡ length xs → ys ≡ xs → take n (ys ++ drop n from) ≡ xs
copied xs ys from n h e = take_at ys (drop n from) n (ap length e ∙ sym h) ∙ e

pub steps_is : (st : Bytes) (n : ℕ) → n + 1 ≡ length st → n ≡ steps st
unfolding steps
steps_is st n e = omega arith
