-- Laws of tests that are tried in their order: what is known where none holds, and how the tests that a call makes one after the other give its
-- number. Assumes nothing.
use Rattle.std.specs.Prelude.{◌≡◌, refl, Bool, true, false, not, ◌&&◌, cond, List, [], ◌∷◌, ◌++◌, ℕ, ◌<◌, T, eqb, ltb}
use Rattle.std.proofs.Common.{sym, ap, ◌∙◌, arith, ltb→lt, eqb-true, ltb-true}
use Rattle.std.proofs.lemmas.Bool.{eqb-false, not-true, not-false}
use Rattle.vocabulary.specs.Lists.{All}
use Rattle.vocabulary.proofs.ListLaws.{and_true, and_intro, and_all, cond_has}
use Rattle.vocabulary.specs.Tests.{Test, first_of, all_of}

-- tests made one after the other, where the answer r of a call stands in for the test t: the first that holds gives the number,
module _ (n k : ℕ) (t r : Bool) (e : r ≡ t) where
  pub told_here : r ≡ true → n ≡ cond t n k
  told_here z = simp (sym e, z)

  pub told_later : (x : ℕ) → r ≡ false → x ≡ k → x ≡ cond t n k
  told_later x z q = simp (sym e, z, q)

-- and the first that fails gives false
module _ (t r x : Bool) (e : r ≡ t) where
  pub fails_here : not r ≡ true → false ≡ t && x
  fails_here z = simp (sym e, not-true r z)

  pub passes_here : (y : Bool) → not r ≡ false → y ≡ x → y ≡ t && x
  passes_here y z q = simp (sym e, not-false r z, q)

  pub last_here : r ≡ t && true
  last_here = e ∙ sym (and_all t)

-- every test's number is above 0: by `tt` of a list written out
abbrev pub numbered : List Test → Bool
numbered [] = true
numbered (t ∷ ts) = ltb 0 t.number && numbered ts

both : (a c : Bool) → T (a && c) → T a × T c
both true c h = (tt, h)
both false c h = absurd h

-- accepted: no test holds
pub passed : (ts : List Test) → T (numbered ts) → first_of ts ≡ 0 → All (λ t. t.holds ≡ false) ts
passed [] p e = tt
passed (t ∷ ts) p e = go t.holds refl (λ q. passed ts q)
  where
    go : (b : Bool) → t.holds ≡ b → (T (numbered ts) → first_of ts ≡ 0 → All (λ t. t.holds ≡ false) ts) → (t.holds ≡ false) × All (λ t. t.holds ≡ false) ts
    go true h ih =
        let z : 0 < t.number = ltb→lt 0 t.number (both (ltb 0 t.number) (numbered ts) p).0 in
        let q : t.number ≡ 0 = sym (ap (λ b. cond b t.number (first_of ts)) h) ∙ e in
        let n : ⊥ = omega arith in absurd n
    go false h ih = (h, ih (both (ltb 0 t.number) (numbered ts) p).1 (sym (ap (λ b. cond b t.number (first_of ts)) h) ∙ e))

-- whether the test with number n holds; false where no test has that number
abbrev pub holds_of : ℕ → List Test → Bool
holds_of n [] = false
holds_of n (t ∷ ts) = cond (eqb t.number n) t.holds (holds_of n ts)

none_of : (n : ℕ) (ts : List Test) → All (λ t. t.holds ≡ false) ts → holds_of n ts ≡ false
none_of n [] a = refl
none_of n (t ∷ ts) a = cond_has (λ b. b ≡ false) (eqb t.number n) t.holds (holds_of n ts) (λ _. a.0) (λ _. none_of n ts a.1)

-- accepted: the test with number n does not hold, wherever it stands
pub passed_by : (n : ℕ) (ts : List Test) → T (numbered ts) → first_of ts ≡ 0 → holds_of n ts ≡ false
passed_by n ts p e = none_of n ts (passed ts p e)

-- no test holds: accepted
pub none_holds : (ts : List Test) → All (λ t. t.holds ≡ false) ts → first_of ts ≡ 0
none_holds [] a = refl
none_holds (t ∷ ts) a = ap (λ b. cond b t.number (first_of ts)) a.0 ∙ none_holds ts a.1

-- tests in two parts: where none of the first part holds, the second part answers
pub first_of_right : (ts us : List Test) → All (λ t. t.holds ≡ false) ts → first_of (ts ++ us) ≡ first_of us
first_of_right [] us a = refl
first_of_right (t ∷ ts) us a = ap (λ b. cond b t.number (first_of (ts ++ us))) a.0 ∙ first_of_right ts us a.1

pub first_of_after : (ts us : List Test) → T (numbered ts) → first_of ts ≡ 0 → first_of (ts ++ us) ≡ first_of us
first_of_after ts us p e = first_of_right ts us (passed ts p e)

-- and where the first part answers, that is the answer
pub first_of_left : (ts us : List Test) → (first_of ts ≡ 0 → ⊥) → first_of (ts ++ us) ≡ first_of ts
first_of_left [] us n = absurd (n refl)
first_of_left (t ∷ ts) us n = go t.holds n (λ q. first_of_left ts us q)
  where
    go : (b : Bool) → (cond b t.number (first_of ts) ≡ 0 → ⊥) → ((first_of ts ≡ 0 → ⊥) → first_of (ts ++ us) ≡ first_of ts)
        → cond b t.number (first_of (ts ++ us)) ≡ cond b t.number (first_of ts)
    go true m ih = refl
    go false m ih = ih m

pub first_of_append : (ts us : List Test) → T (numbered ts) → first_of (ts ++ us) ≡ cond (eqb (first_of ts) 0) (first_of us) (first_of ts)
first_of_append ts us p = go (eqb (first_of ts) 0) refl
  where
    go : (b : Bool) → eqb (first_of ts) 0 ≡ b → first_of (ts ++ us) ≡ cond b (first_of us) (first_of ts)
    go true e = first_of_right ts us (passed ts p (eqb-true _ _ e))
    go false e = first_of_left ts us (eqb-false _ _ e)

-- accepted by both parts, and so by the whole
pub passed_append : (ts us : List Test) → T (numbered ts) → first_of (ts ++ us) ≡ 0 → (first_of ts ≡ 0) × (first_of us ≡ 0)
passed_append ts us p e = go (eqb (first_of ts) 0) refl
  where
    go : (b : Bool) → eqb (first_of ts) 0 ≡ b → (first_of ts ≡ 0) × (first_of us ≡ 0)
    go true q = let z : first_of ts ≡ 0 = eqb-true _ _ q in (z, sym (first_of_right ts us (passed ts p z)) ∙ e)
    go false q = absurd (eqb-false _ _ q (sym (first_of_left ts us (eqb-false _ _ q)) ∙ e))

-- every number of tests in two parts is above 0
pub numbered_append : (ts us : List Test) → T (numbered ts) → T (numbered us) → T (numbered (ts ++ us))
numbered_append [] us p q = q
numbered_append (t ∷ ts) us p q = go (ltb 0 t.number) p (λ r. numbered_append ts us r q)
  where
    go : (b : Bool) → T (b && numbered ts) → (T (numbered ts) → T (numbered (ts ++ us))) → T (b && numbered (ts ++ us))
    go true h ih = ih h
    go false h ih = absurd h

-- every test's number has at most two digits: by `refl` of a list written out
abbrev pub small : List Test → Bool
small [] = true
small (t ∷ ts) = ltb t.number 100 && small ts

pub first_small : (ts : List Test) → small ts ≡ true → first_of ts < 100
first_small [] h = omega arith
first_small (t ∷ ts) h =
    let p = and_true (ltb t.number 100) (small ts) h in
    cond_has (λ n. n < 100) t.holds t.number (first_of ts) (λ e. ltb-true t.number 100 p.0) (λ e. first_small ts p.1)

pub small_append : (ts us : List Test) → small ts ≡ true → small us ≡ true → small (ts ++ us) ≡ true
small_append [] us p q = q
small_append (t ∷ ts) us p q = let r = and_true (ltb t.number 100) (small ts) p in and_intro (ltb t.number 100) (small (ts ++ us)) r.0 (small_append ts us r.1 q)

pub all_of_true : (ts : List Bool) → all_of ts ≡ true → All (λ t. t ≡ true) ts
all_of_true [] e = tt
all_of_true (t ∷ ts) e = let p = and_true t (all_of ts) e in (p.0, all_of_true ts p.1)

pub all_of_intro : (ts : List Bool) → All (λ t. t ≡ true) ts → all_of ts ≡ true
all_of_intro [] a = refl
all_of_intro (t ∷ ts) a = and_intro t (all_of ts) a.0 (all_of_intro ts a.1)
