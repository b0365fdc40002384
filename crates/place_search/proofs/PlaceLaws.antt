-- Laws of the first number not below the one sought, of its place and of what is read, and the place theorem. Assumes nothing.
use mathlib.Core.Path.{◌≡◌, refl, sym, ap, ◌∙◌, subst}
use mathlib.Core.Logic.{◌≢◌}
use mathlib.Core.Bool.{Bool, true, false, cond}
use mathlib.Core.List.{List, [], ◌∷◌}
use Prim.Native.Nat.{ℕ, zero, suc, ◌+◌, ◌/◌, ◌<◌, ◌≤◌, suc-le-suc}
use native.Mathlib.Nat.{not-suc-le-zero, le_of_suc-le-suc}
use native.Mathlib.Omega.{arith}
use lib.Dec.{eqb, ltb}
use lib.ListN.{length, get_or, take}
use lib.Seq.{length-take-le, take_all, take-take, get_or-take}
use borrow.Author.Tests.{ltb-true, ltb-false, lt-ltb, le-ltb, eqb-true, eqb-false, eq-eqb, ne_eqb}
use Rattle.vocabulary.specs.Bytes.{Bytes}
use Rattle.vocabulary.specs.Lists.{is_in, Rises}
use Rattle.vocabulary.proofs.ListLaws.{At as Stands, is_in_not, not_is_in}
use Rattle.layout.proofs.WordLaws.{length_words}
use Rattle.std.specs.Prelude.{Some, None}
use Rattle.place_search.specs.Places.{lower_bound, place_in, read_for, words_in, place_number, found_at, saturated, PlaceTheorem}

-- ---- the first number not below x

module _ (x : ℕ) where
  lower_high : (ys : List ℕ) → lower_bound x ys ≤ length ys
  unfolding lower_bound
  lower_high [] = omega arith
  lower_high (y ∷ ys) = go (ltb y x) (lower_high ys)
    where
      go : (b : Bool) → lower_bound x ys ≤ length ys → cond b (suc (lower_bound x ys)) 0 ≤ suc (length ys)
      go true h = suc-le-suc h
      go false h = omega arith

  pub lower_before : (ys : List ℕ) (t : ℕ) → t < lower_bound x ys → get_or ys t 0 < x
  unfolding lower_bound
  lower_before [] t h = absurd (not-suc-le-zero h)
  lower_before (y ∷ ys) t h = go (ltb y x) refl t h (lower_before ys)
    where
      go : (b : Bool) → ltb y x ≡ b → (t : ℕ) → t < cond b (suc (lower_bound x ys)) 0 → ((s : ℕ) → s < lower_bound x ys → get_or ys s 0 < x) → get_or (y ∷ ys) t 0 < x
      go true e zero h f = ltb-true y x e
      go true e (suc t) h f = f t (le_of_suc-le-suc h)
      go false e t h f = absurd (not-suc-le-zero h)

  pub lower_stops : (ys : List ℕ) → lower_bound x ys < length ys → x ≤ get_or ys (lower_bound x ys) 0
  unfolding lower_bound
  lower_stops [] h = absurd (not-suc-le-zero h)
  lower_stops (y ∷ ys) h = go (ltb y x) refl h (lower_stops ys)
    where
      go : (b : Bool) → ltb y x ≡ b → cond b (suc (lower_bound x ys)) 0 < suc (length ys) → (lower_bound x ys < length ys → x ≤ get_or ys (lower_bound x ys) 0)
          → x ≤ get_or (y ∷ ys) (cond b (suc (lower_bound x ys)) 0) 0
      go true e h f = f (le_of_suc-le-suc h)
      go false e h f = ltb-false y x e

  -- no other number has these properties
  pub lower_is : (ys : List ℕ) (n : ℕ) → n ≤ length ys → ((t : ℕ) → t < n → get_or ys t 0 < x) → (n < length ys → x ≤ get_or ys n 0) → lower_bound x ys ≡ n
  lower_is ys n high before stops = go (ltb n (lower_bound x ys)) refl (ltb (lower_bound x ys) n) refl
    where
      go : (b : Bool) → ltb n (lower_bound x ys) ≡ b → (c : Bool) → ltb (lower_bound x ys) n ≡ c → lower_bound x ys ≡ n
      go true e c f =
          let h : n < lower_bound x ys = ltb-true _ _ e in
          let z : ⊥ = omega (arith, lower_before ys n h, stops (omega (arith, lower_high ys))) in absurd z
      go false e true f =
          let h : lower_bound x ys < n = ltb-true _ _ f in
          let z : ⊥ = omega (arith, before (lower_bound x ys) h, lower_stops ys (omega arith)) in absurd z
      go false e false f =
          let high : lower_bound x ys ≤ n = ltb-false n (lower_bound x ys) e in
          let low : n ≤ lower_bound x ys = ltb-false (lower_bound x ys) n f in
          omega arith

  -- a search that has come to t, all numbers before which are below x
  pub lower_more : (ys : List ℕ) (t : ℕ) → t ≤ lower_bound x ys → t < length ys → get_or ys t 0 < x → t + 1 ≤ lower_bound x ys
  lower_more ys t h k l = go (ltb t (lower_bound x ys)) refl
    where
      go : (b : Bool) → ltb t (lower_bound x ys) ≡ b → t + 1 ≤ lower_bound x ys
      go true e = let q : t < lower_bound x ys = ltb-true t _ e in omega arith
      go false e =
          let p : lower_bound x ys ≤ t = ltb-false t _ e in
          let q : lower_bound x ys ≡ t = omega arith in
          let s : x ≤ get_or ys t 0 = subst (λ n. x ≤ get_or ys n 0) q (lower_stops ys (omega arith)) in
          let z : ⊥ = omega arith in absurd z

  pub lower_here : (ys : List ℕ) (t : ℕ) → t ≤ lower_bound x ys → x ≤ get_or ys t 0 → lower_bound x ys ≡ t
  lower_here ys t h l = go (ltb t (lower_bound x ys)) refl
    where
      go : (b : Bool) → ltb t (lower_bound x ys) ≡ b → lower_bound x ys ≡ t
      go true e = let z : ⊥ = omega (arith, lower_before ys t (ltb-true t _ e)) in absurd z
      go false e = let q : lower_bound x ys ≤ t = ltb-false t _ e in omega arith

  pub lower_end : (ys : List ℕ) (t : ℕ) → t ≤ lower_bound x ys → length ys ≤ t → lower_bound x ys ≡ length ys
  lower_end ys t h l = omega (arith, lower_high ys)

-- ---- its place, and what is read

module _ (x : ℕ) (ys : List ℕ) (t : ℕ) (at : lower_bound x ys ≡ t) where
  pub read_here : t < length ys → read_for x ys ≡ t + 1
  unfolding read_for
  read_here h = simp (at, lt-ltb t (length ys) h)

  pub read_all : length ys ≤ t → read_for x ys ≡ length ys
  unfolding read_for
  read_all h = simp (at, le-ltb t (length ys) h)

  pub place_here : t < length ys → get_or ys t 0 ≡ x → place_in x ys ≡ t + 1
  unfolding place_in
  place_here h e = simp (at, lt-ltb t (length ys) h, eq-eqb (get_or ys t 0) x e)

  pub place_other : t < length ys → get_or ys t 0 ≢ x → place_in x ys ≡ 0
  unfolding place_in
  place_other h n = simp (at, lt-ltb t (length ys) h, ne_eqb (get_or ys t 0) x n)

  pub place_none : length ys ≤ t → place_in x ys ≡ 0
  unfolding place_in
  place_none h = simp (at, le-ltb t (length ys) h)

-- the three ends of a search
data End (x : ℕ) (ys : List ℕ) : Type 0 where
  found : lower_bound x ys < length ys → get_or ys (lower_bound x ys) 0 ≡ x → End x ys
  absent : lower_bound x ys < length ys → get_or ys (lower_bound x ys) 0 ≢ x → End x ys
  ended : length ys ≤ lower_bound x ys → End x ys

end_of : (x : ℕ) (ys : List ℕ) → End x ys
end_of x ys = go (ltb (lower_bound x ys) (length ys)) refl (eqb (get_or ys (lower_bound x ys) 0) x) refl
  where
    go : (b : Bool) → ltb (lower_bound x ys) (length ys) ≡ b → (c : Bool) → eqb (get_or ys (lower_bound x ys) 0) x ≡ c → End x ys
    go true e true f = found (ltb-true _ _ e) (eqb-true _ x f)
    go true e false f = absent (ltb-true _ _ e) (eqb-false _ x f)
    go false e c f = ended (ltb-false _ _ e)

-- ---- what holds of every list

module _ (x : ℕ) (ys : List ℕ) where
  read_few : read_for x ys ≤ length ys
  read_few = go (end_of x ys)
    where
      go : End x ys → read_for x ys ≤ length ys
      go (found h e) = omega (arith, read_here x ys _ refl h)
      go (absent h n) = omega (arith, read_here x ys _ refl h)
      go (ended h) = omega (arith, read_all x ys _ refl h)

  place_has : (p : ℕ) → place_in x ys ≡ suc p → (p < length ys) × (get_or ys p 0 ≡ x)
  place_has p q = go (end_of x ys)
    where
      go : End x ys → (p < length ys) × (get_or ys p 0 ≡ x)
      go (found h e) =
          let s : lower_bound x ys ≡ p = omega (arith, place_here x ys _ refl h e) in
          (omega arith, subst (λ n. get_or ys n 0 ≡ x) s e)
      go (absent h n) = let z : ⊥ = omega (arith, place_other x ys _ refl h n) in absurd z
      go (ended h) = let z : ⊥ = omega (arith, place_none x ys _ refl h) in absurd z

  -- in a rising list nothing after the first number not below x is x
  none_absent : Rises ys → place_in x ys ≡ 0 → is_in x ys ≡ false
  none_absent rise e = not_is_in x ys there
    where
      there : Stands x ys → ⊥
      there a =
          let at : lower_bound x ys ≡ a.place =
          lower_is x ys a.place (omega (arith, a.place_lt)) (λ t h. omega (arith, rise t a.place h a.place_lt, a.place_is)) (λ h. omega (arith, a.place_is)) in
          omega (arith, place_here x ys a.place at a.place_lt a.place_is)

  absent_none : is_in x ys ≡ false → place_in x ys ≡ 0
  absent_none e = go (place_in x ys) refl
    where
      go : (p : ℕ) → place_in x ys ≡ p → place_in x ys ≡ 0
      go zero q = q
      go (suc p) q = let h = place_has p q in absurd (is_in_not x ys e (record { place = p; place_lt = h.0; place_is = h.1 }))

  rest_unread : lower_bound x ys < length ys → (zs : List ℕ) → take (read_for x ys) zs ≡ take (read_for x ys) ys → (place_in x zs ≡ place_in x ys) × (read_for x zs ≡ read_for x ys)
  rest_unread h zs same = (place (end_of x ys), read_here x zs (lower_bound x ys) low long ∙ sym read)
    where
      read : read_for x ys ≡ lower_bound x ys + 1
      read = read_here x ys (lower_bound x ys) refl h

      same_front : take (lower_bound x ys + 1) zs ≡ take (lower_bound x ys + 1) ys
      same_front = subst (λ n. take n zs ≡ take n ys) read same

      at : (t : ℕ) → t < lower_bound x ys + 1 → get_or zs t 0 ≡ get_or ys t 0
      at t l = sym (get_or-take (lower_bound x ys + 1) zs t 0 l) ∙ ap (λ xs. get_or xs t 0) same_front ∙ get_or-take (lower_bound x ys + 1) ys t 0 l

      long : lower_bound x ys < length zs
      long = go (ltb (lower_bound x ys) (length zs)) refl
        where
          go : (b : Bool) → ltb (lower_bound x ys) (length zs) ≡ b → lower_bound x ys < length zs
          go true e = ltb-true _ _ e
          go false e =
              let short : length zs ≤ lower_bound x ys = ltb-false _ _ e in
              let whole : zs ≡ take (lower_bound x ys + 1) ys = sym (take_all (lower_bound x ys + 1) zs (omega arith)) ∙ same_front in
              let z : ⊥ = omega (arith, ap (λ xs. length xs) whole, length-take-le (lower_bound x ys + 1) ys (omega arith)) in absurd z

      low : lower_bound x zs ≡ lower_bound x ys
      low =
          lower_is x zs (lower_bound x ys) (omega (arith, long)) (λ t l. omega (arith, at t (omega arith), lower_before x ys t l))
          (λ l. omega (arith, at (lower_bound x ys) (omega arith), lower_stops x ys h))

      place : End x ys → place_in x zs ≡ place_in x ys
      place (found l e) = place_here x zs (lower_bound x ys) low long (at (lower_bound x ys) (omega arith) ∙ e) ∙ sym (place_here x ys _ refl l e)
      place (absent l n) = place_other x zs (lower_bound x ys) low long (λ e. n (sym (at (lower_bound x ys) (omega arith)) ∙ e)) ∙ sym (place_other x ys _ refl l n)
      place (ended l) = let z : ⊥ = omega arith in absurd z

  read_enough : place_in x (take (read_for x ys) ys) ≡ place_in x ys
  read_enough = go (ltb (lower_bound x ys) (length ys)) refl
    where
      go : (b : Bool) → ltb (lower_bound x ys) (length ys) ≡ b → place_in x (take (read_for x ys) ys) ≡ place_in x ys
      go true e = (rest_unread (ltb-true _ _ e) (take (read_for x ys) ys) (take-take (read_for x ys) (read_for x ys) ys (omega arith))).0
      go false e = ap (place_in x) (take_all (read_for x ys) ys (omega (arith, read_all x ys _ refl (ltb-false _ _ e))))

-- ---- the answer as numbers

pub number_back : (p : ℕ) → place_number (found_at p) ≡ p
unfolding found_at
number_back p = go (eqb p 0) refl
  where
    go : (b : Bool) → eqb p 0 ≡ b → place_number (cond b None (Some p)) ≡ p
    go true q = sym (eqb-true p 0 q)
    go false q = refl

count_exact : (b : Bytes) → length b < 8589934592 → (x : ℕ) → saturated (read_for x (words_in b)) ≡ read_for x (words_in b)
unfolding saturated words_in
count_exact b h x =
    let few : read_for x (words_in b) < 4294967296 = omega (arith, read_few x (words_in b), length_words b 0 (length b / 2)) in
    simp (lt-ltb (read_for x (words_in b)) 4294967296 few)

pub place_theorem : PlaceTheorem
place_theorem = record {
  each_list = λ x ys. record {
    before_below = λ t h. (omega (arith, lower_high x ys), lower_before x ys t h);
    not_below = lower_stops x ys;
    place_there = place_here x ys _ refl;
    place_has = place_has x ys;
    none_absent = λ rise. (none_absent x ys rise, absent_none x ys);
    read_up_to = read_here x ys _ refl;
    read_whole = read_all x ys _ refl;
    read_few = read_few x ys;
    read_enough = read_enough x ys;
    rest_unread = rest_unread x ys;
  };
  number_back = number_back;
  count_exact = count_exact;
}
