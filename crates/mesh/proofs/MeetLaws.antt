-- What the code has met, against the definitions: something is amiss exactly where a number is out of range or stands twice. Assumes nothing.
use mathlib.Core.Path.{◌≡◌, refl, sym, ap, ap₂, ◌∙◌}
use mathlib.Core.Bool.{Bool, true, false, not, ◌||◌}
use mathlib.Core.List.{List, [], ◌∷◌, ◌++◌}
use Prim.Native.Nat.{ℕ, ◌<◌}
use native.Mathlib.Omega.{arith}
use lib.Dec.{eqb, leb}
use lib.ListN.{length, get_or, set, length-set, replicate}
use lib.Seq.{get_or-set_same, get_or-set_other}
use borrow.Author.Tests.{leb-true, eqb-true, eqb-false, eq-eqb, ne_eqb}
use Rattle.vocabulary.specs.Intervals.{is_up_to}
use Rattle.vocabulary.specs.Lists.{is_in, repeats, some_of}
use Rattle.vocabulary.proofs.ListLaws.{eqb_swap, and_true, or_right, zeros}
use Rattle.layout.specs.Limits.{element_places}
use Rattle.mesh.specs.Meet.{Met, met, meet, Under}

-- no marks
pub under_none : Under 1 (replicate element_places 0)
under_none = record { size = (zeros element_places).size; each = λ i. omega (arith, (zeros element_places).each i) }

abbrev pub told : Met → Bool
told (met b s) = b

abbrev pub marks : Met → List ℕ
marks (met b s) = s

-- x is no number from 1 to r
unfoldable pub outside : ℕ → ℕ → Bool
outside r x = not (is_up_to r x)

-- x stands in the list
unfoldable pub among : List ℕ → ℕ → Bool
among xs x = is_in x xs

-- the marks v in s are those of the numbers that are done
pub record Marked (v r : ℕ) (s done : List ℕ) : Type 0 where
  pub each : (i : ℕ) → is_up_to r i ≡ true → eqb (get_or s i 0) v ≡ is_in i done
  pub long : r < length s

marked_more : (v r i : ℕ) (s done : List ℕ) → is_up_to r i ≡ true → Marked v r s done → Marked v r (set s i v) (i ∷ done)
unfolding is_in is_up_to
marked_more v r i s done u M = record {
  each = λ j w. go j w (eqb j i) refl;
  long = simp length-set M.long;
}
  where
    small : i < length s
    small = omega (arith, leb-true i r (and_true (leb 1 i) (leb i r) u).1, M.long)

    go : (j : ℕ) → is_up_to r j ≡ true → (b : Bool) → eqb j i ≡ b → eqb (get_or (set s i v) j 0) v ≡ b || is_in j done
    go j w true e = eq-eqb (get_or (set s i v) j 0) v (ap (λ x. get_or (set s i v) x 0) (eqb-true j i e) ∙ get_or-set_same s i v 0 small)
    go j w false e = ap (λ x. eqb x v) (get_or-set_other s i j v 0 (eqb-false j i e)) ∙ M.each j w

-- ---- Booleans

shuffle : (a b c : Bool) → (a || b) || c ≡ b || (a || c)
shuffle true true c = refl
shuffle true false c = refl
shuffle false b c = refl

exchange : (a b c d : Bool) → (a || b) || (c || d) ≡ (a || c) || (b || d)
exchange true b c d = refl
exchange false true true d = refl
exchange false true false d = refl
exchange false false c d = refl

-- one more among those done
among_more : (i : ℕ) (done xs : List ℕ) → some_of xs (among (i ∷ done)) ≡ is_in i xs || some_of xs (among done)
unfolding some_of is_in among
among_more i done [] = refl
among_more i done (x ∷ xs) =
    ap₂ ◌||◌ (ap (λ b. b || is_in x done) (eqb_swap x i)) (among_more i done xs)
    ∙ exchange (eqb i x) (is_in x done) (is_in i xs) (some_of xs (among done))

among_none : (xs : List ℕ) → some_of xs (among []) ≡ false
unfolding some_of among is_in
among_none [] = refl
among_none (x ∷ xs) = among_none xs

-- ---- what is told

meet_tells : (v r : ℕ) (s done xs : List ℕ) → Marked v r s done
    → told (meet v r s xs) ≡ some_of xs (outside r) || (some_of xs (among done) || repeats xs)
unfolding meet some_of repeats outside among
meet_tells v r s done [] M = refl
meet_tells v r s done (i ∷ is) M = go (is_up_to r i) refl (eqb (get_or s i 0) v) refl (λ u. meet_tells v r (set s i v) (i ∷ done) is (marked_more v r i s done u M))
  where
    go : (b : Bool) → is_up_to r i ≡ b → (c : Bool) → eqb (get_or s i 0) v ≡ c
        → (is_up_to r i ≡ true → told (meet v r (set s i v) is) ≡ some_of is (outside r) || (some_of is (among (i ∷ done)) || repeats is))
        → told (elim b as (λ _. Met) [ true ↦ elim c as (λ _. Met) [ true ↦ met true s | false ↦ meet v r (set s i v) is ] | false ↦ met true s ])
        ≡ (not b || some_of is (outside r)) || ((is_in i done || some_of is (among done)) || (is_in i is || repeats is))
    go false e c f ih = refl
    go true e true f ih =
        let q : is_in i done ≡ true = sym (M.each i e) ∙ f in
        sym (or_right (some_of is (outside r)) _ (ap (λ x. (x || some_of is (among done)) || (is_in i is || repeats is)) q))
    go true e false f ih =
        let q : is_in i done ≡ false = sym (M.each i e) ∙ f in
        ih e
        ∙ ap (λ x. some_of is (outside r) || (x || repeats is)) (among_more i done is)
        ∙ ap (λ x. some_of is (outside r) || x) (shuffle (is_in i is) (some_of is (among done)) (repeats is))
        ∙ ap (λ x. some_of is (outside r) || ((x || some_of is (among done)) || (is_in i is || repeats is))) (sym q)

-- from an array without marks
pub fresh_tells : (v r : ℕ) (s xs t : List ℕ) (b : Bool) → ((i : ℕ) → get_or s i 0 ≡ v → ⊥) → r < length s → met b t ≡ meet v r s xs
    → b ≡ some_of xs (outside r) || repeats xs
unfolding is_in
fresh_tells v r s xs t b f h e =
    ap told e
    ∙ meet_tells v r s [] xs (record { each = λ i u. ne_eqb (get_or s i 0) v (f i); long = h })
    ∙ ap (λ x. some_of xs (outside r) || (x || repeats xs)) (among_none xs)

-- ---- one list after another

then : ℕ → ℕ → List ℕ → Met → Met
then v r ys (met true t) = met true t
then v r ys (met false t) = meet v r t ys

meet_append : (v r : ℕ) (s xs ys : List ℕ) → meet v r s (xs ++ ys) ≡ then v r ys (meet v r s xs)
unfolding meet then
meet_append v r s [] ys = refl
meet_append v r s (i ∷ is) ys = go (is_up_to r i) (eqb (get_or s i 0) v) (meet_append v r (set s i v) is ys)
  where
    go : (b c : Bool) → meet v r (set s i v) (is ++ ys) ≡ then v r ys (meet v r (set s i v) is)
        → elim b as (λ _. Met) [ true ↦ elim c as (λ _. Met) [ true ↦ met true s | false ↦ meet v r (set s i v) (is ++ ys) ] | false ↦ met true s ]
        ≡ then v r ys (elim b as (λ _. Met) [ true ↦ elim c as (λ _. Met) [ true ↦ met true s | false ↦ meet v r (set s i v) is ] | false ↦ met true s ])
    go false c ih = refl
    go true true ih = refl
    go true false ih = ih

module _ (v r : ℕ) (s xs t ys : List ℕ) where
  pub meet_on : met false t ≡ meet v r s xs → meet v r s (xs ++ ys) ≡ meet v r t ys
  unfolding then
  meet_on e = meet_append v r s xs ys ∙ ap (then v r ys) (sym e)

  pub meet_stays : met true t ≡ meet v r s xs → meet v r s (xs ++ ys) ≡ met true t
  unfolding then
  meet_stays e = meet_append v r s xs ys ∙ ap (then v r ys) (sym e)

-- ---- marks are no greater than v

pub meet_length : (v r : ℕ) (s xs : List ℕ) → length (marks (meet v r s xs)) ≡ length s
unfolding meet
meet_length v r s [] = refl
meet_length v r s (i ∷ is) = go (is_up_to r i) (eqb (get_or s i 0) v) (meet_length v r (set s i v) is ∙ simp length-set)
  where
    go : (b c : Bool) → length (marks (meet v r (set s i v) is)) ≡ length s
        → length (marks (elim b as (λ _. Met) [ true ↦ elim c as (λ _. Met) [ true ↦ met true s | false ↦ meet v r (set s i v) is ] | false ↦ met true s ])) ≡ length s
    go false c ih = refl
    go true true ih = refl
    go true false ih = ih
