-- Laws of the words over lists: tests joined by "and" and "or", places, properties of every element, tests of the elements, those that pass, and maps.
-- Assumes nothing.
use Rattle.std.specs.Prelude.{◌≡◌, ◌⊎◌, Bool, ◌&&◌, ◌||◌, length, replicate, eqb}
use Rattle.std.proofs.Math.Path.{refl, ap}
use Rattle.std.proofs.Common.{sym, ap₂, ◌∙◌, subst, inl, inr, true≢false, not-suc-le-zero, le_of_suc-le-suc, length-append, get_or-append-add, eq-eqb, ne_eqb, eqb-true}
use Rattle.std.proofs.Math.Logic.{⊎_elim}
use Rattle.std.proofs.Math.Bool.{true, false, not, cond}
use Rattle.std.proofs.lemmas.Bool.{false≢true, eqb-false, not-true}
use mathlib.Core.List.Memᴰ
use mathlib.Core.List.{List, [], ◌∷◌, ◌++◌, map, reverse, reverse_aux, append-nil, append_assoc, Memᴰ}
use Prim.Native.Nat.{ℕ, zero, suc, ◌+◌, ◌*◌, ◌<◌, ◌≤◌, suc-le-suc}
use Rattle.std.proofs.Math.Nat.{zero-lt-suc}
use native.Mathlib.Omega.{arith}
use Rattle.std.proofs.Math.ListN.{get_or, get_or-append}
use Rattle.std.proofs.lemmas.List.{length-replicate}
use Rattle.vocabulary.specs.Lists.{is_in, place_of, repeats, some_of, every_of, filtered, joined, All, Zeros}

-- ---- tests

pub and_true : (a b : Bool) → a && b ≡ true → (a ≡ true) × (b ≡ true)
and_true true b e = (refl, e)
and_true false b e = absurd (false≢true e)

pub and_intro : (a b : Bool) → a ≡ true → b ≡ true → a && b ≡ true
and_intro a b e f = ap₂ ◌&&◌ e f

-- one of two fails: their "and" does
pub and_left : (a b : Bool) → a ≡ false → a && b ≡ false
and_left a b e = ap (λ x. x && b) e

pub and_right : (a b : Bool) → b ≡ false → a && b ≡ false
and_right true b e = e
and_right false b e = refl

pub and_false : (a b : Bool) → a && b ≡ false → (a ≡ false) ⊎ (b ≡ false)
and_false true b e = inr e
and_false false b e = inl refl

-- one of two passes: their "or" does
pub or_left : (a b : Bool) → a ≡ true → a || b ≡ true
or_left a b e = ap (λ x. x || b) e

pub or_right : (a b : Bool) → b ≡ true → a || b ≡ true
or_right true b e = refl
or_right false b e = e

pub or_true : (a b : Bool) → a || b ≡ true → (a ≡ true) ⊎ (b ≡ true)
or_true true b e = inl refl
or_true false b e = inr e

pub or_nothing : (a : Bool) → a || false ≡ a
or_nothing true = refl
or_nothing false = refl

pub or_always : (a : Bool) → a || true ≡ true
or_always true = refl
or_always false = refl

pub or_assoc : (a b c : Bool) → (a || b) || c ≡ a || (b || c)
or_assoc true b c = refl
or_assoc false b c = refl

pub or_swap : (a b : Bool) → a || b ≡ b || a
or_swap true b = sym (or_always b)
or_swap false b = sym (or_nothing b)

pub or_none : (a b : Bool) → a ≡ false → b ≡ false → a || b ≡ false
or_none a b e f = ap₂ ◌||◌ e f

pub or_false : (a b : Bool) → a || b ≡ false → (a ≡ false) × (b ≡ false)
or_false true b e = absurd (true≢false e)
or_false false b e = (refl, e)

-- neither of the two; and all but the second
pub neither : (a b : Bool) → not a && not b ≡ not (a || b)
neither true b = refl
neither false b = refl

pub not_or_not : (a b : Bool) → not a && b ≡ not (a || not b)
not_or_not true b = refl
not_or_not false true = refl
not_or_not false false = refl

pub not_both : (b : Bool) → b ≡ true → b ≡ false → ⊥
not_both b e f = true≢false (sym e ∙ f)

-- two tests that pass in the same cases are one
pub same_test : (a b : Bool) → (a ≡ true → b ≡ true) → (b ≡ true → a ≡ true) → a ≡ b
same_test true b f g = sym (f refl)
same_test false true f g = g refl
same_test false false f g = refl

-- a property of both branches holds of the choice
pub cond_has : {A : Type 0} (P : A → Type 0) (b : Bool) (x y : A) → (b ≡ true → P x) → (b ≡ false → P y) → P (cond b x y)
cond_has P true x y f g = f refl
cond_has P false x y f g = g refl

-- ---- every element has the property

module _ {A : Type 0} where
  pub All_map : {P Q : A → Type 0} (xs : List A) → ((x : A) → P x → Q x) → All P xs → All Q xs
  All_map [] f t = tt
  All_map (x ∷ xs) f t = (f x t.0, All_map xs f t.1)

  pub All_append : (P : A → Type 0) (xs ys : List A) → All P xs → All P ys → All P (xs ++ ys)
  All_append P [] ys a b = b
  All_append P (x ∷ xs) ys a b = (a.0, All_append P xs ys a.1 b)

  pub All_split : (P : A → Type 0) (xs ys : List A) → All P (xs ++ ys) → All P xs × All P ys
  All_split P [] ys a = (tt, a)
  All_split P (x ∷ xs) ys a = let r = All_split P xs ys a.1 in ((a.0, r.0), r.1)

  pub All_both : (P Q : A → Type 0) (xs : List A) → All P xs → All Q xs → All (λ x. P x × Q x) xs
  All_both P Q [] a b = tt
  All_both P Q (x ∷ xs) a b = ((a.0, b.0), All_both P Q xs a.1 b.1)

  pub All_get_or : (P : A → Type 0) (xs : List A) (l : ℕ) (d : A) → All P xs → l < length xs → P (get_or xs l d)
  All_get_or P [] l d a h = absurd (not-suc-le-zero h)
  All_get_or P (x ∷ xs) zero d a h = a.0
  All_get_or P (x ∷ xs) (suc l) d a h = All_get_or P xs l d a.1 (le_of_suc-le-suc h)

  pub All_intro : (P : A → Type 0) (xs : List A) (d : A) → ((l : ℕ) → l < length xs → P (get_or xs l d)) → All P xs
  All_intro P [] d f = tt
  All_intro P (x ∷ xs) d f = (f zero (zero-lt-suc (length xs)), All_intro P xs d (λ l h. f (suc l) (suc-le-suc h)))

-- what every element has, a member has
pub mem_all : {A : Type 0} (P : A → Type 0) {x : A} (xs : List A) → Memᴰ x xs → All P xs → P x
mem_all P [] m t = absurd (Memᴰ.not-nil m)
mem_all P (y ∷ ys) m t = ⊎_elim (λ e. subst P (sym e) t.0) (λ n. mem_all P ys n t.1) (Memᴰ.cases_cons m)

-- ---- maps

module _ {A B : Type 0} where
  pub map_cong : (f g : A → B) (xs : List A) → All (λ x. f x ≡ g x) xs → map f xs ≡ map g xs
  map_cong f g [] t = refl
  map_cong f g (x ∷ xs) t = ap₂ ◌∷◌ t.0 (map_cong f g xs t.1)

  pub map_map : {C : Type 0} (f : B → C) (g : A → B) (xs : List A) → map f (map g xs) ≡ map (λ x. f (g x)) xs
  map_map f g [] = refl
  map_map f g (x ∷ xs) = ap (λ r. f (g x) ∷ r) (map_map f g xs)

  pub map_append : (f : A → B) (xs ys : List A) → map f (xs ++ ys) ≡ map f xs ++ map f ys
  map_append f [] ys = refl
  map_append f (x ∷ xs) ys = ap (λ r. f x ∷ r) (map_append f xs ys)

  -- whatever is read past the end
  pub get_or_map_any : (f : A → B) (xs : List A) (n : ℕ) (d : A) (e : B) → n < length xs → get_or (map f xs) n e ≡ f (get_or xs n d)
  get_or_map_any f [] n d e h = absurd (not-suc-le-zero h)
  get_or_map_any f (x ∷ xs) zero d e h = refl
  get_or_map_any f (x ∷ xs) (suc n) d e h = get_or_map_any f xs n d e (le_of_suc-le-suc h)

-- what holds of every image holds of the images
pub All_of_map : {A B : Type 0} (P : B → Type 0) (f : A → B) (xs : List A) → All (λ x. P (f x)) xs → All P (map f xs)
All_of_map P f [] a = tt
All_of_map P f (x ∷ xs) a = (a.0, All_of_map P f xs a.1)

-- what every element of every list has
pub joined_all : {A : Type 0} (P : A → Type 0) (xs : List (List A)) → All (All P) xs → All P (joined xs)
unfolding joined
joined_all P [] a = tt
joined_all P (x ∷ xs) a = All_append P x (joined xs) a.0 (joined_all P xs a.1)

pub joined_last : {A : Type 0} (xs : List (List A)) (x : List A) → joined (xs ++ (x ∷ [])) ≡ joined xs ++ x
unfolding joined
joined_last [] x = append-nil x
joined_last (y ∷ ys) x = ap (λ r. y ++ r) (joined_last ys x) ∙ sym (append_assoc y (joined ys) x)

pub map_id : {A : Type 0} (xs : List A) → map (λ x. x) xs ≡ xs
map_id [] = refl
map_id (x ∷ xs) = ap (λ r. x ∷ r) (map_id xs)

-- ---- a list turned round: its images, and what every element has

map_turned : {A B : Type 0} (f : A → B) (xs ys : List A) → map f (reverse_aux xs ys) ≡ reverse_aux (map f xs) (map f ys)
map_turned f [] ys = refl
map_turned f (x ∷ xs) ys = map_turned f xs (x ∷ ys)

pub map_reversed : {A B : Type 0} (f : A → B) (xs : List A) → map f (reverse xs) ≡ reverse (map f xs)
map_reversed f xs = map_turned f xs []

All_turned : {A : Type 0} (P : A → Type 0) (xs ys : List A) → All P xs → All P ys → All P (reverse_aux xs ys)
All_turned P [] ys a c = c
All_turned P (x ∷ xs) ys a c = All_turned P xs (x ∷ ys) a.1 (a.0, c)

pub All_reversed : {A : Type 0} (P : A → Type 0) (xs : List A) → All P xs → All P (reverse xs)
All_reversed P xs a = All_turned P xs [] a tt

-- pairs, one after another
module _ {A : Type 0} (f g : A → ℕ) where
  pub pairs_length : (es : List A) → length (joined (map (λ e. f e ∷ g e ∷ []) es)) ≡ 2 * length es
  unfolding joined
  pairs_length [] = refl
  pairs_length (e ∷ es) = omega (arith, pairs_length es)

  pub pairs_at : (es : List A) (t : ℕ) (d : A) → t < length es
      → (get_or (joined (map (λ e. f e ∷ g e ∷ []) es)) (2 * t) 0 ≡ f (get_or es t d)) × (get_or (joined (map (λ e. f e ∷ g e ∷ []) es)) (2 * t + 1) 0 ≡ g (get_or es t d))
  unfolding joined
  pairs_at [] t d h = absurd (not-suc-le-zero h)
  pairs_at (e ∷ es) zero d h = (refl, refl)
  pairs_at (e ∷ es) (suc t) d h =
      let p : 2 * suc t ≡ suc (suc (2 * t)) = omega arith in
      let q : 2 * suc t + 1 ≡ suc (suc (2 * t + 1)) = omega arith in
      let r = pairs_at es t d (le_of_suc-le-suc h) in
      (ap (λ x. get_or (joined (map (λ e. f e ∷ g e ∷ []) (e ∷ es))) x 0) p ∙ r.0, ap (λ x. get_or (joined (map (λ e. f e ∷ g e ∷ []) (e ∷ es))) x 0) q ∙ r.1)

-- ---- a number stands in a list

pub record At (x : ℕ) (xs : List ℕ) : Type 0 where
  pub place : ℕ
  pub place_lt : place < length xs
  pub place_is : get_or xs place 0 ≡ x

pub at_head : (x : ℕ) (xs : List ℕ) → At x (x ∷ xs)
at_head x xs = record { place = zero; place_lt = zero-lt-suc (length xs); place_is = refl }

pub at_left : (x : ℕ) (xs ys : List ℕ) → At x xs → At x (xs ++ ys)
at_left x xs ys a = record {
  place = a.place;
  place_lt = simp length-append (omega (arith, a.place_lt));
  place_is = get_or-append xs ys 0 a.place a.place_lt ∙ a.place_is;
}

pub at_right : (x : ℕ) (xs ys : List ℕ) → At x ys → At x (xs ++ ys)
at_right x xs ys a = record {
  place = length xs + a.place;
  place_lt = simp length-append (omega (arith, a.place_lt));
  place_is = get_or-append-add xs ys a.place 0 ∙ a.place_is;
}

pub at_tail : (x y : ℕ) (ys : List ℕ) → (x ≡ y → ⊥) → At x (y ∷ ys) → At x ys
at_tail x y ys n a = go a.place a.place_lt a.place_is
  where
    go : (l : ℕ) → l < length (y ∷ ys) → get_or (y ∷ ys) l 0 ≡ x → At x ys
    go zero h e = absurd (n (sym e))
    go (suc l) h e = record { place = l; place_lt = le_of_suc-le-suc h; place_is = e }

pub at_cases : (x : ℕ) (xs ys : List ℕ) → At x (xs ++ ys) → At x xs ⊎ At x ys
at_cases x [] ys a = inr a
at_cases x (y ∷ xs) ys a = go (eqb x y) refl (λ r. at_cases x xs ys r)
  where
    go : (b : Bool) → eqb x y ≡ b → (At x (xs ++ ys) → At x xs ⊎ At x ys) → At x (y ∷ xs) ⊎ At x ys
    go true e ih = inl (subst (λ z. At x (z ∷ xs)) (eqb-true x y e) (at_head x xs))
    go false e ih = ⊎_elim (λ r. inl (at_right x (y ∷ []) xs r)) (λ r. inr r) (ih (at_tail x y (xs ++ ys) (eqb-false x y e) a))

-- what every element has, one that stands there has
pub at_all : (P : ℕ → Type 0) (x : ℕ) (xs : List ℕ) → All P xs → At x xs → P x
at_all P x xs a p = subst P p.place_is (All_get_or P xs p.place 0 a p.place_lt)

-- ---- is_in

pub is_in_at : (x : ℕ) (xs : List ℕ) → is_in x xs ≡ true → At x xs
unfolding is_in
is_in_at x [] e = absurd (false≢true e)
is_in_at x (y ∷ ys) e =
    ⊎_elim
    (λ q. subst (λ z. At x (z ∷ ys)) (eqb-true x y q) (at_head x ys))
    (λ q. at_right x (y ∷ []) ys (is_in_at x ys q))
    (or_true (eqb x y) (is_in x ys) e)

pub at_is_in : (x : ℕ) (xs : List ℕ) → At x xs → is_in x xs ≡ true
unfolding is_in
at_is_in x [] a = absurd (not-suc-le-zero a.place_lt)
at_is_in x (y ∷ ys) a = go (eqb x y) refl (λ n. at_is_in x ys (at_tail x y ys n a))
  where
    go : (b : Bool) → eqb x y ≡ b → ((x ≡ y → ⊥) → is_in x ys ≡ true) → b || is_in x ys ≡ true
    go true e ih = refl
    go false e ih = ih (eqb-false x y e)

pub is_in_not : (x : ℕ) (xs : List ℕ) → is_in x xs ≡ false → At x xs → ⊥
is_in_not x xs e a = not_both (is_in x xs) (at_is_in x xs a) e

pub not_is_in : (x : ℕ) (xs : List ℕ) → (At x xs → ⊥) → is_in x xs ≡ false
not_is_in x xs n = go (is_in x xs) refl
  where
    go : (b : Bool) → is_in x xs ≡ b → is_in x xs ≡ false
    go true e = absurd (n (is_in_at x xs e))
    go false e = e

-- ---- the first place

pub place_of_is : (x : ℕ) (xs : List ℕ) → At x xs → (place_of x xs < length xs) × (get_or xs (place_of x xs) 0 ≡ x)
unfolding place_of
place_of_is x [] a = absurd (not-suc-le-zero a.place_lt)
place_of_is x (y ∷ ys) a = go (eqb x y) refl (λ n. place_of_is x ys (at_tail x y ys n a))
  where
    go : (b : Bool) → eqb x y ≡ b → ((x ≡ y → ⊥) → (place_of x ys < length ys) × (get_or ys (place_of x ys) 0 ≡ x))
        → (cond b zero (suc (place_of x ys)) < length (y ∷ ys)) × (get_or (y ∷ ys) (cond b zero (suc (place_of x ys))) 0 ≡ x)
    go true e ih = (zero-lt-suc (length ys), sym (eqb-true x y e))
    go false e ih = let r = ih (eqb-false x y e) in (suc-le-suc r.0, r.1)

pub place_of_left : (x : ℕ) (xs ys : List ℕ) → At x xs → place_of x (xs ++ ys) ≡ place_of x xs
unfolding place_of
place_of_left x [] ys a = absurd (not-suc-le-zero a.place_lt)
place_of_left x (y ∷ xs) ys a = go (eqb x y) refl (λ n. place_of_left x xs ys (at_tail x y xs n a))
  where
    go : (b : Bool) → eqb x y ≡ b → ((x ≡ y → ⊥) → place_of x (xs ++ ys) ≡ place_of x xs)
        → cond b zero (suc (place_of x (xs ++ ys))) ≡ cond b zero (suc (place_of x xs))
    go true e ih = refl
    go false e ih = ap suc (ih (eqb-false x y e))

-- ---- tests of the elements

module _ {A : Type 0} (p : A → Bool) where
  pub every_of_true : (xs : List A) → every_of xs p ≡ true → All (λ x. p x ≡ true) xs
  unfolding every_of
  every_of_true [] e = tt
  every_of_true (x ∷ xs) e = let r = and_true (p x) (every_of xs p) e in (r.0, every_of_true xs r.1)

  pub every_of_intro : (xs : List A) → All (λ x. p x ≡ true) xs → every_of xs p ≡ true
  unfolding every_of
  every_of_intro [] a = refl
  every_of_intro (x ∷ xs) a = and_intro (p x) (every_of xs p) a.0 (every_of_intro xs a.1)

  pub every_of_at : (xs : List A) (d : A) (l : ℕ) → every_of xs p ≡ true → l < length xs → p (get_or xs l d) ≡ true
  every_of_at xs d l e h = All_get_or (λ x. p x ≡ true) xs l d (every_of_true xs e) h

  pub every_of_fails : (xs : List A) (d : A) (l : ℕ) → l < length xs → p (get_or xs l d) ≡ false → every_of xs p ≡ false
  every_of_fails xs d l h f = go (every_of xs p) refl
    where
      go : (b : Bool) → every_of xs p ≡ b → every_of xs p ≡ false
      go true e = absurd (not_both (p (get_or xs l d)) (every_of_at xs d l e h) f)
      go false e = e

module _ {A : Type 0} (p : A → Bool) where
  pub some_of_has : (xs : List A) (d : A) (l : ℕ) → l < length xs → p (get_or xs l d) ≡ true → some_of xs p ≡ true
  unfolding some_of
  some_of_has [] d l h e = absurd (not-suc-le-zero h)
  some_of_has (x ∷ xs) d zero h e = or_left (p x) (some_of xs p) e
  some_of_has (x ∷ xs) d (suc l) h e = or_right (p x) (some_of xs p) (some_of_has xs d l (le_of_suc-le-suc h) e)

  -- none passes: all pass the contrary test
  every_of_not : (xs : List A) → every_of xs (λ x. not (p x)) ≡ not (some_of xs p)
  unfolding every_of some_of
  every_of_not [] = refl
  every_of_not (x ∷ xs) = ap (λ b. not (p x) && b) (every_of_not xs) ∙ neither (p x) (some_of xs p)

  pub some_of_none : (xs : List A) → All (λ x. p x ≡ false) xs → some_of xs p ≡ false
  some_of_none xs a = not-true _ (sym (every_of_not xs) ∙ every_of_intro (λ x. not (p x)) xs (All_map xs (λ x e. ap not e) a))

  pub some_of_false : (xs : List A) → some_of xs p ≡ false → All (λ x. p x ≡ false) xs
  some_of_false xs e = All_map xs (λ x f. not-true (p x) f) (every_of_true (λ x. not (p x)) xs (every_of_not xs ∙ ap not e))

  pub some_of_witness : (xs : List A) (d : A) → some_of xs p ≡ true → (l : ℕ) × (l < length xs) × (p (get_or xs l d) ≡ true)
  unfolding some_of
  some_of_witness [] d e = absurd (false≢true e)
  some_of_witness (x ∷ xs) d e =
      ⊎_elim
      (λ q. (zero, zero-lt-suc (length xs), q))
      (λ q. let r = some_of_witness xs d q in (suc r.0, suc-le-suc r.1, r.2))
      (or_true (p x) (some_of xs p) e)

pub some_of_and : {A : Type 0} (c : Bool) (p : A → Bool) (xs : List A) → some_of xs (λ x. c && p x) ≡ c && some_of xs p
unfolding some_of
some_of_and true p xs = refl
some_of_and false p [] = refl
some_of_and false p (x ∷ xs) = some_of_and false p xs

pub some_of_cong : {A : Type 0} (p q : A → Bool) (xs : List A) → All (λ x. p x ≡ q x) xs → some_of xs p ≡ some_of xs q
unfolding some_of
some_of_cong p q [] a = refl
some_of_cong p q (x ∷ xs) a = ap₂ ◌||◌ a.0 (some_of_cong p q xs a.1)

-- ---- the elements that pass

module _ {A : Type 0} (p : A → Bool) where
  filtered_append : (xs ys : List A) → filtered p (xs ++ ys) ≡ filtered p xs ++ filtered p ys
  unfolding filtered
  filtered_append [] ys = refl
  filtered_append (x ∷ xs) ys = go (p x) (filtered_append xs ys)
    where
      go : (t : Bool) → filtered p (xs ++ ys) ≡ filtered p xs ++ filtered p ys
          → cond t (x ∷ filtered p (xs ++ ys)) (filtered p (xs ++ ys)) ≡ cond t (x ∷ filtered p xs) (filtered p xs) ++ filtered p ys
      go true e = ap (λ zs. x ∷ zs) e
      go false e = e

  -- one more that passes, or does not
  pub filtered_in : (xs : List A) (x : A) → p x ≡ true → filtered p (xs ++ (x ∷ [])) ≡ filtered p xs ++ (x ∷ [])
  unfolding filtered
  filtered_in xs x e = filtered_append xs (x ∷ []) ∙ ap (λ t. filtered p xs ++ cond t (x ∷ []) []) e

  pub filtered_out : (xs : List A) (x : A) → p x ≡ false → filtered p (xs ++ (x ∷ [])) ≡ filtered p xs
  unfolding filtered
  filtered_out xs x e = filtered_append xs (x ∷ []) ∙ ap (λ t. filtered p xs ++ cond t (x ∷ []) []) e ∙ append-nil (filtered p xs)

  -- what passed passes
  pub filtered_again : (xs : List A) → filtered p (filtered p xs) ≡ filtered p xs
  unfolding filtered
  filtered_again [] = refl
  filtered_again (x ∷ xs) = go (p x) refl (filtered_again xs)
    where
      go : (t : Bool) → p x ≡ t → filtered p (filtered p xs) ≡ filtered p xs → filtered p (cond t (x ∷ filtered p xs) (filtered p xs)) ≡ cond t (x ∷ filtered p xs) (filtered p xs)
      go true e r = ap (λ t. cond t (x ∷ filtered p (filtered p xs)) (filtered p (filtered p xs))) e ∙ ap (λ zs. x ∷ zs) r
      go false e r = r

  -- what holds of all holds of those that pass, and what follows from it and from passing
  pub filtered_has : (P Q : A → Type 0) → ((x : A) → p x ≡ true → P x → Q x) → (xs : List A) → All P xs → All Q (filtered p xs)
  unfolding filtered
  filtered_has P Q f [] a = tt
  filtered_has P Q f (x ∷ xs) a = cond_has (All Q) (p x) (x ∷ filtered p xs) (filtered p xs) (λ e. (f x e a.0, filtered_has P Q f xs a.1)) (λ e. filtered_has P Q f xs a.1)

-- ---- repeats

-- where nothing repeats, two places with equal elements are one place
pub repeats_once : (xs : List ℕ) (i j : ℕ) → repeats xs ≡ false → i < length xs → j < length xs → get_or xs i 0 ≡ get_or xs j 0 → i ≡ j
unfolding repeats
repeats_once [] i j e h k q = absurd (not-suc-le-zero h)
repeats_once (x ∷ xs) zero zero e h k q = refl
repeats_once (x ∷ xs) zero (suc j) e h k q =
    absurd (is_in_not x xs (or_false (is_in x xs) (repeats xs) e).0 (record { place = j; place_lt = le_of_suc-le-suc k; place_is = sym q }))
repeats_once (x ∷ xs) (suc i) zero e h k q =
    absurd (is_in_not x xs (or_false (is_in x xs) (repeats xs) e).0 (record { place = i; place_lt = le_of_suc-le-suc h; place_is = q }))
repeats_once (x ∷ xs) (suc i) (suc j) e h k q =
    ap suc (repeats_once xs i j (or_false (is_in x xs) (repeats xs) e).1 (le_of_suc-le-suc h) (le_of_suc-le-suc k) q)

-- where something repeats, two places have it
pub repeats_twice : (xs : List ℕ) → repeats xs ≡ true → (i : ℕ) × (j : ℕ) × (i < j) × (j < length xs) × (get_or xs i 0 ≡ get_or xs j 0)
unfolding repeats
repeats_twice [] e = absurd (false≢true e)
repeats_twice (x ∷ xs) e =
    ⊎_elim
    (λ q. let a = is_in_at x xs q in (zero, suc a.place, zero-lt-suc a.place, suc-le-suc a.place_lt, sym a.place_is))
    (λ q. let r = repeats_twice xs q in (suc r.0, suc r.1, suc-le-suc r.2, suc-le-suc r.3, r.4))
    (or_true (is_in x xs) (repeats xs) e)

-- all places different: nothing repeats
pub repeats_none : (xs : List ℕ) → ((i j : ℕ) → i < j → j < length xs → get_or xs i 0 ≡ get_or xs j 0 → ⊥) → repeats xs ≡ false
repeats_none xs f = go (repeats xs) refl
  where
    go : (b : Bool) → repeats xs ≡ b → repeats xs ≡ false
    go true e = let r = repeats_twice xs e in absurd (f r.0 r.1 r.2 r.3 r.4)
    go false e = e

-- ---- how many different numbers there can be

-- the list without x
without : ℕ → List ℕ → List ℕ
without x [] = []
without x (y ∷ ys) = cond (eqb x y) (without x ys) (y ∷ without x ys)

without_is_in : (x z : ℕ) (ys : List ℕ) → is_in z (without x ys) ≡ true → is_in z ys ≡ true
unfolding without is_in
without_is_in x z [] e = e
without_is_in x z (y ∷ ys) e = go (eqb x y) e (without_is_in x z ys)
  where
    go : (b : Bool) → is_in z (cond b (without x ys) (y ∷ without x ys)) ≡ true → (is_in z (without x ys) ≡ true → is_in z ys ≡ true) → eqb z y || is_in z ys ≡ true
    go true e ih = or_right (eqb z y) (is_in z ys) (ih e)
    go false e ih = ⊎_elim (λ q. or_left (eqb z y) (is_in z ys) q) (λ q. or_right (eqb z y) (is_in z ys) (ih q)) (or_true (eqb z y) (is_in z (without x ys)) e)

without_once : (x : ℕ) (ys : List ℕ) → repeats ys ≡ false → repeats (without x ys) ≡ false
unfolding without repeats
without_once x [] e = refl
without_once x (y ∷ ys) e = go (eqb x y) (or_false (is_in y ys) (repeats ys) e) (without_once x ys (or_false (is_in y ys) (repeats ys) e).1)
  where
    out : (b : Bool) → is_in y (without x ys) ≡ b → is_in y ys ≡ false → is_in y (without x ys) ≡ false
    out true q f = absurd (not_both (is_in y ys) (without_is_in x y ys q) f)
    out false q f = q

    go : (b : Bool) → (is_in y ys ≡ false) × (repeats ys ≡ false) → repeats (without x ys) ≡ false → repeats (cond b (without x ys) (y ∷ without x ys)) ≡ false
    go true f ih = ih
    go false f ih = or_none (is_in y (without x ys)) (repeats (without x ys)) (out (is_in y (without x ys)) refl f.0) ih

without_same : (x : ℕ) (ys : List ℕ) → is_in x ys ≡ false → without x ys ≡ ys
unfolding without is_in
without_same x [] e = refl
without_same x (y ∷ ys) e =
    let f = or_false (eqb x y) (is_in x ys) e in
    ap (λ b. cond b (without x ys) (y ∷ without x ys)) f.0 ∙ ap (λ r. y ∷ r) (without_same x ys f.1)

-- one less at most
without_length : (x : ℕ) (ys : List ℕ) → repeats ys ≡ false → length ys ≤ suc (length (without x ys))
unfolding without repeats
without_length x [] e = omega arith
without_length x (y ∷ ys) e = go (eqb x y) refl (or_false (is_in y ys) (repeats ys) e) (without_length x ys (or_false (is_in y ys) (repeats ys) e).1)
  where
    go : (b : Bool) → eqb x y ≡ b → (is_in y ys ≡ false) × (repeats ys ≡ false) → length ys ≤ suc (length (without x ys))
        → suc (length ys) ≤ suc (length (cond b (without x ys) (y ∷ without x ys)))
    go true q f ih =
        let s : without x ys ≡ ys = without_same x ys (ap (λ z. is_in z ys) (eqb-true x y q) ∙ f.0) in
        omega (arith, ap length s)
    go false q f ih = omega arith

without_all : (n : ℕ) (ys : List ℕ) → All (λ y. (1 ≤ y) × (y ≤ suc n)) ys → All (λ y. (1 ≤ y) × (y ≤ n)) (without (suc n) ys)
unfolding without
without_all n [] a = tt
without_all n (y ∷ ys) a = go (eqb (suc n) y) refl (without_all n ys a.1)
  where
    go : (b : Bool) → eqb (suc n) y ≡ b → All (λ y. (1 ≤ y) × (y ≤ n)) (without (suc n) ys) → All (λ y. (1 ≤ y) × (y ≤ n)) (cond b (without (suc n) ys) (y ∷ without (suc n) ys))
    go true q ih = ih
    go false q ih = let ne : suc n ≡ y → ⊥ = eqb-false (suc n) y q in ((a.0.0, omega (arith, a.0.1)), ih)

-- numbers from 1 to n, each once: n of them at most
pub once_few : (n : ℕ) (xs : List ℕ) → All (λ x. (1 ≤ x) × (x ≤ n)) xs → repeats xs ≡ false → length xs ≤ n
once_few zero [] a e = omega arith
once_few zero (x ∷ xs) a e = let z : ⊥ = omega (arith, a.0.0, a.0.1) in absurd z
once_few (suc n) xs a e = omega (arith, without_length (suc n) xs e, once_few n (without (suc n) xs) (without_all n xs a) (without_once (suc n) xs e))

-- ---- repeats in a part

repeats_right : (xs ys : List ℕ) → repeats (xs ++ ys) ≡ false → repeats ys ≡ false
unfolding repeats
repeats_right [] ys e = e
repeats_right (x ∷ xs) ys e = repeats_right xs ys (or_false (is_in x (xs ++ ys)) (repeats (xs ++ ys)) e).1

repeats_left : (xs ys : List ℕ) → repeats (xs ++ ys) ≡ false → repeats xs ≡ false
unfolding repeats
repeats_left [] ys e = refl
repeats_left (x ∷ xs) ys e =
    let f = or_false (is_in x (xs ++ ys)) (repeats (xs ++ ys)) e in
    or_none (is_in x xs) (repeats xs) (not_is_in x xs (λ a. is_in_not x (xs ++ ys) f.0 (at_left x xs ys a))) (repeats_left xs ys f.1)

pub repeats_parts : (xs ys : List ℕ) → repeats (xs ++ ys) ≡ false → (repeats xs ≡ false) × (repeats ys ≡ false)
repeats_parts xs ys e = (repeats_left xs ys e, repeats_right xs ys e)

-- ---- equality of numbers, either way round

pub eqb_swap : (x y : ℕ) → eqb x y ≡ eqb y x
eqb_swap x y = go (eqb y x) refl
  where
    go : (b : Bool) → eqb y x ≡ b → eqb x y ≡ b
    go true e = eq-eqb x y (sym (eqb-true y x e))
    go false e = ne_eqb x y (λ q. eqb-false y x e (sym q))

-- ---- one list after another

pub is_in_append : (x : ℕ) (ys zs : List ℕ) → is_in x (ys ++ zs) ≡ is_in x ys || is_in x zs
unfolding is_in
is_in_append x [] zs = refl
is_in_append x (y ∷ ys) zs = ap (λ b. eqb x y || b) (is_in_append x ys zs) ∙ go (eqb x y)
  where
    go : (b : Bool) → b || (is_in x ys || is_in x zs) ≡ (b || is_in x ys) || is_in x zs
    go true = refl
    go false = refl

pub repeats_snoc : (xs : List ℕ) (x : ℕ) → repeats xs ≡ false → is_in x xs ≡ false → repeats (xs ++ (x ∷ [])) ≡ false
unfolding repeats is_in
repeats_snoc [] x e f = refl
repeats_snoc (y ∷ ys) x e f =
    let g = or_false (is_in y ys) (repeats ys) e in
    let h = or_false (eqb x y) (is_in x ys) f in
    or_none (is_in y (ys ++ (x ∷ []))) (repeats (ys ++ (x ∷ [])))
    (is_in_append y ys (x ∷ []) ∙ or_none (is_in y ys) (eqb y x || false) g.0 (or_none (eqb y x) false (ne_eqb y x (λ q. eqb-false x y h.0 (sym q))) refl))
    (repeats_snoc ys x g.1 h.1)

pub some_of_append : {A : Type 0} (p : A → Bool) (xs ys : List A) → some_of (xs ++ ys) p ≡ some_of xs p || some_of ys p
unfolding some_of
some_of_append p [] ys = refl
some_of_append p (x ∷ xs) ys = ap (λ t. p x || t) (some_of_append p xs ys) ∙ sym (or_assoc (p x) (some_of xs p) (some_of ys p))

pub and_all : (a : Bool) → a && true ≡ a
and_all true = refl
and_all false = refl

pub and_assoc : (a b c : Bool) → (a && b) && c ≡ a && (b && c)
and_assoc true b c = refl
and_assoc false b c = refl

pub is_in_some : (z : ℕ) (ys : List ℕ) → is_in z ys ≡ some_of ys (λ c. is_in z (c ∷ []))
unfolding is_in some_of
is_in_some z [] = refl
is_in_some z (y ∷ ys) = ap₂ ◌||◌ (sym (or_nothing (eqb z y))) (is_in_some z ys)

pub zeros_at : (n i : ℕ) → ◌≡◌ {A = ℕ} (get_or (replicate n 0) i 0) 0
zeros_at zero i = refl
zeros_at (suc n) zero = refl
zeros_at (suc n) (suc i) = zeros_at n i

pub zeros : (n : ℕ) → Zeros n (replicate n 0)
zeros n = record { size = length-replicate {A = ℕ} n 0; each = zeros_at n }
