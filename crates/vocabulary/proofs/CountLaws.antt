-- Laws of counting: sums with few summands, and how many numbers pass a test. Assumes nothing.
use Rattle.std.specs.Prelude.{◌≡◌, refl, ◌≢◌, Bool, true, false, not, ◌&&◌, ◌||◌, cond, List, [], ◌∷◌, ◌++◌, ℕ, zero, suc, ◌+◌, ◌-◌, ◌*◌, ◌<◌, ◌≤◌, eqb, length, get_or}
use Rattle.std.proofs.Common.{sym, ap, ap₂, ◌∙◌, subst, ⊎_elim, append-nil, not-suc-le-zero, add-zero, arith, length-append, eqb-true, ne_eqb}
use Rattle.std.proofs.Math.ListN.{get_or-append}
use Rattle.std.proofs.Math.Seq.{get_or-append_seam}
use Rattle.vocabulary.specs.Lists.{is_in}
use Rattle.vocabulary.proofs.ListLaws.{not_both}
use Rattle.vocabulary.specs.Intervals.{picked, total}
use Rattle.vocabulary.proofs.IntervalLaws.{last_or, total_cong, total_mono, total_turn}

-- those that pass are those that pass one more test and those that fail it
pub picked_halves : (a n : ℕ) (p q : ℕ → Bool)
    → length (picked a n p) ≡ length (picked a n (λ x. p x && q x)) + length (picked a n (λ x. p x && not (q x)))
unfolding picked
picked_halves a zero p q = refl
picked_halves a (suc n) p q =
    omega (
      arith,
      length-append (picked a n p) (cond (p (a + n)) ((a + n) ∷ []) []),
      length-append (picked a n (λ x. p x && q x)) (cond (p (a + n) && q (a + n)) ((a + n) ∷ []) []),
      length-append (picked a n (λ x. p x && not (q x))) (cond (p (a + n) && not (q (a + n))) ((a + n) ∷ []) []),
      picked_halves a n p q,
      go (p (a + n)) (q (a + n)),
    )
  where
    go : (b c : Bool) → length (cond b ((a + n) ∷ []) []) ≡ length (cond (b && c) ((a + n) ∷ []) []) + length (cond (b && not c) ((a + n) ∷ []) [])
    go true true = refl
    go true false = refl
    go false c = refl

-- a sum whose later summands are 0
pub total_short : (a n k : ℕ) (f : ℕ → ℕ) → ((i : ℕ) → n ≤ i → i < n + k → f (a + i) ≡ 0) → total a (n + k) f ≡ total a n f
unfolding total
total_short a n zero f h = ap (λ x. total a x f) (add-zero n)
total_short a n (suc k) f h =
    let e : n + suc k ≡ suc (n + k) = omega arith in
    ap (λ x. total a x f) e ∙ omega (arith, total_short a n k f (λ i l q. h i l (omega arith)), h (n + k) (omega arith) (omega arith))

-- two sums, and a sum with one summand
pub total_add : (a n : ℕ) (f g : ℕ → ℕ) → total a n (λ x. f x + g x) ≡ total a n f + total a n g
unfolding total
total_add a zero f g = refl
total_add a (suc n) f g = omega (arith, total_add a n f g)

pub total_zero : (a n : ℕ) (f : ℕ → ℕ) → ((i : ℕ) → i < n → f (a + i) ≡ 0) → total a n f ≡ 0
unfolding total
total_zero a zero f h = refl
total_zero a (suc n) f h = omega (arith, total_zero a n f (λ i k. h i (omega arith)), h n (omega arith))

pub total_single : (a n j : ℕ) (f : ℕ → ℕ) → j < n → ((i : ℕ) → i < n → i ≢ j → f (a + i) ≡ 0) → total a n f ≡ f (a + j)
unfolding total
total_single a zero j f h k = absurd (not-suc-le-zero h)
total_single a (suc n) j f h k =
    ⊎_elim
    (λ l. omega (arith, total_single a n j f l (λ i q ne. k i (omega arith) ne), k n (omega arith) (omega arith)))
    (λ e. let z : total a n f ≡ 0 = total_zero a n f (λ i q. k i (omega arith) (omega arith)) in rw e (omega arith))
    (last_or j n h)

-- numbers that pass p, each shared out to the one list q j of its owner: as many as all those lists have
pub picked_shared : (a n P : ℕ) (p : ℕ → Bool) (q : ℕ → ℕ → Bool) (o : ℕ → ℕ)
    → ((i : ℕ) → i < n → p (a + i) ≡ true → (1 ≤ o (a + i)) × (o (a + i) ≤ P) × (q (o (a + i)) (a + i) ≡ true))
    → ((i j : ℕ) → i < n → q j (a + i) ≡ true → (p (a + i) ≡ true) × (j ≡ o (a + i)))
    → length (picked a n p) ≡ total 1 P (λ j. length (picked a n (q j)))
unfolding picked
picked_shared a zero P p q o f g = sym (total_zero 1 P (λ j. 0) (λ i h. refl))
picked_shared a (suc n) P p q o f g =
    let ih = picked_shared a n P p q o (λ i h e. f i (omega arith) e) (λ i j h e. g i j (omega arith) e) in
    length-append (picked a n p) (cond (p (a + n)) ((a + n) ∷ []) [])
    ∙ ap₂ ◌+◌ ih (last (p (a + n)) refl)
    ∙ sym (total_add 1 P (λ j. length (picked a n (q j))) (λ j. length (cond (q j (a + n)) ((a + n) ∷ []) [])))
    ∙ total_cong 1 (λ j. length (picked a n (q j)) + length (cond (q j (a + n)) ((a + n) ∷ []) []))
    (λ j. length (picked a n (q j) ++ cond (q j (a + n)) ((a + n) ∷ []) [])) P
    (λ i h. sym (length-append (picked a n (q (1 + i))) (cond (q (1 + i) (a + n)) ((a + n) ∷ []) [])))
  where
    -- another list does not have it
    other : (j : ℕ) → (b : Bool) → q j (a + n) ≡ b → (p (a + n) ≡ true → j ≡ o (a + n) → ⊥) → length (cond b ((a + n) ∷ []) []) ≡ 0
    other j true e off = let r = g n j (omega arith) e in absurd (off r.0 r.1)
    other j false e off = refl

    last : (b : Bool) → p (a + n) ≡ b → length (cond b ((a + n) ∷ []) []) ≡ total 1 P (λ j. length (cond (q j (a + n)) ((a + n) ∷ []) []))
    last true e =
        let r = f n (omega arith) e in
        let z : 1 + (o (a + n) - 1) ≡ o (a + n) = omega (arith, r.0) in
        sym (total_single 1 P (o (a + n) - 1) (λ j. length (cond (q j (a + n)) ((a + n) ∷ []) [])) (omega (arith, r.0, r.1))
        (λ i h ne. other (1 + i) (q (1 + i) (a + n)) refl (λ t w. let no : ⊥ = omega (arith, r.0) in no))
        ∙ ap (λ j. length (cond (q j (a + n)) ((a + n) ∷ []) [])) z
        ∙ ap (λ b. length (cond b ((a + n) ∷ []) [])) r.2)
    last false e = sym (total_zero 1 P (λ j. length (cond (q j (a + n)) ((a + n) ∷ []) [])) (λ i h. other (1 + i) (q (1 + i) (a + n)) refl (λ t w. not_both (p (a + n)) t e)))

pub total_double : (a n : ℕ) (f g : ℕ → ℕ) → ((x : ℕ) → f x ≡ 2 * g x) → total a n f ≡ 2 * total a n g
unfolding total
total_double a zero f g h = refl
total_double a (suc n) f g h = omega (arith, total_double a n f g h, h (a + n))

-- a double sum either way round
pub total_swap : (a n b k : ℕ) (f : ℕ → ℕ → ℕ) → total a n (λ x. total b k (f x)) ≡ total b k (λ y. total a n (λ x. f x y))
unfolding total
total_swap a zero b k f = sym (total_zero b k (λ y. 0) (λ i h. refl))
total_swap a (suc n) b k f = ap (λ t. t + total b k (f (a + n))) (total_swap a n b k f) ∙ sym (total_add b k (λ y. total a n (λ x. f x y)) (f (a + n)))

-- ---- counting

-- how many pass
pub picked_count : (a n : ℕ) (p : ℕ → Bool) → length (picked a n p) ≡ total a n (λ x. cond (p x) 1 0)
unfolding picked total
picked_count a zero p = refl
picked_count a (suc n) p = length-append (picked a n p) (cond (p (a + n)) ((a + n) ∷ []) []) ∙ ap₂ ◌+◌ (picked_count a n p) (go (p (a + n)))
  where
    go : (b : Bool) → length (cond b ((a + n) ∷ []) []) ≡ cond b 1 0
    go true = refl
    go false = refl

-- one number is met once at most, so no more numbers stand in a list than it has places
one_at_most : (a n y : ℕ) → total a n (λ x. cond (eqb x y) 1 0) ≤ 1
unfolding total
one_at_most a zero y = omega arith
one_at_most a (suc n) y = go (eqb (a + n) y) refl (one_at_most a n y)
  where
    go : (b : Bool) → eqb (a + n) y ≡ b → total a n (λ x. cond (eqb x y) 1 0) ≤ 1 → total a n (λ x. cond (eqb x y) 1 0) + cond b 1 0 ≤ 1
    go true e h =
        let q : a + n ≡ y = eqb-true (a + n) y e in
        let z : total a n (λ x. cond (eqb x y) 1 0) ≡ 0 = total_zero a n (λ x. cond (eqb x y) 1 0) (λ i k. ap (λ t. cond t 1 0) (ne_eqb (a + i) y (omega arith))) in
        omega arith
    go false e h = omega arith

pub counted_once : (a n : ℕ) (xs : List ℕ) → total a n (λ x. cond (is_in x xs) 1 0) ≤ length xs
unfolding is_in
counted_once a n [] = omega (arith, total_zero a n (λ x. 0) (λ i h. refl))
counted_once a n (y ∷ ys) =
    omega (
      arith,
      total_mono a (λ x. cond (eqb x y || is_in x ys) 1 0) (λ x. cond (eqb x y) 1 0 + cond (is_in x ys) 1 0) n (λ i h. go (eqb (a + i) y) (is_in (a + i) ys)),
      total_add a n (λ x. cond (eqb x y) 1 0) (λ x. cond (is_in x ys) 1 0),
      one_at_most a n y,
      counted_once a n ys,
    )
  where
    go : (b c : Bool) → cond (b || c) 1 0 ≤ cond b 1 0 + cond c 1 0
    go true c = omega arith
    go false c = omega arith

-- a sum over a list, one number more
total_snoc : (f : ℕ → ℕ) (xs : List ℕ) (y : ℕ)
    → total 1 (length (xs ++ (y ∷ []))) (λ k. f (get_or (xs ++ (y ∷ [])) (k - 1) 0)) ≡ total 1 (length xs) (λ k. f (get_or xs (k - 1) 0)) + f y
total_snoc f xs y =
    let z : 1 + length xs - 1 ≡ length xs = omega arith in
    ap (λ n. total 1 n (λ k. f (get_or (xs ++ (y ∷ [])) (k - 1) 0))) (length-append xs (y ∷ []))
    ∙ total_turn 1 (λ k. f (get_or (xs ++ (y ∷ [])) (k - 1) 0)) (length xs)
    ∙ ap₂ ◌+◌
    (total_cong 1 (λ k. f (get_or (xs ++ (y ∷ [])) (k - 1) 0)) (λ k. f (get_or xs (k - 1) 0)) (length xs)
    (λ i h. ap f (get_or-append xs (y ∷ []) 0 (1 + i - 1) (omega arith))))
    (ap f (ap (λ n. get_or (xs ++ (y ∷ [])) n 0) z ∙ get_or-append_seam xs y [] 0))

-- the sum over those that pass is no more than that over all
pub picked_total : (a : ℕ) (p : ℕ → Bool) (f : ℕ → ℕ) (n : ℕ) → total 1 (length (picked a n p)) (λ k. f (get_or (picked a n p) (k - 1) 0)) ≤ total a n f
unfolding picked total
picked_total a p f zero = omega arith
picked_total a p f (suc n) = go (p (a + n)) (picked_total a p f n)
  where
    go : (b : Bool) → total 1 (length (picked a n p)) (λ k. f (get_or (picked a n p) (k - 1) 0)) ≤ total a n f
        → total 1 (length (picked a n p ++ cond b ((a + n) ∷ []) [])) (λ k. f (get_or (picked a n p ++ cond b ((a + n) ∷ []) []) (k - 1) 0)) ≤ total a n f + f (a + n)
    go true h = omega (arith, total_snoc f (picked a n p) (a + n))
    go false h = subst (λ xs. total 1 (length xs) (λ k. f (get_or xs (k - 1) 0)) ≤ total a n f + f (a + n)) (sym (append-nil (picked a n p))) (omega arith)
