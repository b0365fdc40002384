-- Laws of the words over the numbers a, a + 1, .., of which there are n. Assumes nothing.
use Rattle.std.specs.Prelude.{◌≡◌, ◌⊎◌, ◌≢◌, Bool, ◌&&◌, not, eqb, leb}
use Rattle.std.proofs.Math.Path.{refl, sym, ap, subst}
use Rattle.std.proofs.Common.{ap₂, ◌∙◌, inl, inr, not-suc-le-zero, zero-add, get_or-append-add, ext_get_or}
use Rattle.std.proofs.Math.Logic.{⊎_elim}
use Rattle.std.proofs.Math.Bool.{true, false, ◌||◌, cond}
use Rattle.std.proofs.lemmas.Bool.{false≢true}
use mathlib.Core.List.{List, [], ◌∷◌, ◌++◌, map, append-nil, append_assoc}
use Prim.Native.Nat.{ℕ, zero, suc, ◌+◌, ◌-◌, ◌*◌, ◌<◌, ◌≤◌}
use Rattle.std.proofs.Math.Numerals.{add-one}
use native.Mathlib.Omega.{arith}
use Rattle.std.proofs.Math.ListN.{length, get_or, length-append, get_or-append}
use Rattle.std.proofs.Math.Seq.{get_or-append_seam}
use Rattle.std.proofs.Math.Dec.{ltb}
use borrow.Author.Tests.{eqb-true, eqb-false, ltb-true, ltb-false, lt-ltb, leb-true, le-leb, not-true, not-false}
use Rattle.vocabulary.specs.Bytes.{Bytes, over}
use Rattle.vocabulary.proofs.ByteLaws.{over_none}
use Rattle.vocabulary.specs.Lists.{Rises, is_in, some_of, repeats, joined, All}
use Rattle.vocabulary.proofs.ListLaws.{is_in_append, some_of_append, some_of_witness, some_of_has, or_nothing, same_test, and_true, and_intro, or_left}
use Rattle.vocabulary.proofs.ListLaws.{or_right, or_true, or_none, not_both, not_or_not, All_append, All_get_or, At, at_left, at_right, repeats_none}
use Rattle.vocabulary.proofs.ListLaws.{map_append, joined_last}
use Rattle.vocabulary.specs.Intervals.{is_up_to, picked, every, some, listed, blocks, total}

-- a loop that has come to its end: what holds so far holds in all
pub at_last : (P : ℕ → Type 0) (k n : ℕ) → k ≤ n → n ≤ k → P k → P n
at_last P k n g h p = let q : k ≡ n = omega arith in subst P q p

-- a loop that writes a list for each number into a buffer: where it starts, and where it ends
pub stored_start : (b : Bytes) (o a : ℕ) (g : ℕ → Bytes) → b ≡ over b o (blocks a 0 g)
unfolding blocks
stored_start b o a g = sym (over_none b o)

pub stored_end : (b x : Bytes) (o a : ℕ) (g : ℕ → Bytes) (k n : ℕ) → k ≤ n → n ≤ k → x ≡ over b o (blocks a k g) → x ≡ over b o (blocks a n g)
stored_end b x o a g k n h l e = at_last (λ j. x ≡ over b o (blocks a j g)) k n h l e

-- the same for a loop that counts from 1
pub stored_up : (b x : Bytes) (o : ℕ) (g : ℕ → Bytes) (l n : ℕ) → l ≤ n + 1 → n + 1 ≤ l → x ≡ over b o (blocks 1 (l - 1) g) → x ≡ over b o (blocks 1 n g)
stored_up b x o g l n h k e = stored_end b x o 1 g (l - 1) n (omega arith) (omega arith) e

-- a number below suc n is the last or comes before it
pub last_or : (i n : ℕ) → i < suc n → (i < n) ⊎ (i ≡ n)
last_or i n h = go (eqb i n) refl
  where
    go : (b : Bool) → eqb i n ≡ b → (i < n) ⊎ (i ≡ n)
    go true e = inr (eqb-true i n e)
    go false e = let ne : i ≢ n = eqb-false i n e in inl (omega arith)

-- x is from 1 to n
pub up_to_true : (n x : ℕ) → is_up_to n x ≡ true → (1 ≤ x) × (x ≤ n)
unfolding is_up_to
up_to_true n x e = let r = and_true (leb 1 x) (leb x n) e in (leb-true 1 x r.0, leb-true x n r.1)

pub up_to_intro : (n x : ℕ) → 1 ≤ x → x ≤ n → is_up_to n x ≡ true
unfolding is_up_to
up_to_intro n x h k = and_intro (leb 1 x) (leb x n) (le-leb 1 x h) (le-leb x n k)

-- ---- some

module _ (a : ℕ) (p : ℕ → Bool) where
  pub some_has : (n i : ℕ) → i < n → p (a + i) ≡ true → some a n p ≡ true
  unfolding some
  some_has zero i h e = absurd (not-suc-le-zero h)
  some_has (suc n) i h e =
      ⊎_elim
      (λ k. or_left (some a n p) (p (a + n)) (some_has n i k e))
      (λ q. or_right (some a n p) (p (a + n)) (ap (λ x. p (a + x)) (sym q) ∙ e))
      (last_or i n h)

  pub some_in : (n x : ℕ) → a ≤ x → x < a + n → p x ≡ true → some a n p ≡ true
  some_in n x h k e = let q : x ≡ a + (x - a) = omega arith in some_has n (x - a) (omega arith) (subst (λ y. p y ≡ true) q e)

  pub some_none : (n : ℕ) → ((i : ℕ) → i < n → p (a + i) ≡ false) → some a n p ≡ false
  unfolding some
  some_none zero f = refl
  some_none (suc n) f = or_none (some a n p) (p (a + n)) (some_none n (λ i h. f i (omega arith))) (f n (omega arith))

  pub some_more : (n : ℕ) → some a n p ≡ false → p (a + n) ≡ false → some a (n + 1) p ≡ false
  unfolding some
  some_more n e f = rw add-one (or_none (some a n p) (p (a + n)) e f)

  pub some_witness : (n : ℕ) → some a n p ≡ true → (i : ℕ) × (i < n) × (p (a + i) ≡ true)
  unfolding some
  some_witness zero e = absurd (false≢true e)
  some_witness (suc n) e =
      ⊎_elim
      (λ q. let r = some_witness n q in (r.0, omega (arith, r.1), r.2))
      (λ q. (n, omega arith, q))
      (or_true (some a n p) (p (a + n)) e)

  -- none passes
  pub some_at : (n i : ℕ) → some a n p ≡ false → i < n → p (a + i) ≡ false
  some_at n i e h = go (p (a + i)) refl
    where
      go : (b : Bool) → p (a + i) ≡ b → p (a + i) ≡ false
      go true q = absurd (not_both (some a n p) (some_has n i h q) e)
      go false q = q

-- ---- every: none fails

module _ (a : ℕ) (p : ℕ → Bool) where
  abbrev fails : ℕ → Bool
  fails x = not (p x)

  every_not : (n : ℕ) → every a n p ≡ not (some a n fails)
  unfolding every some
  every_not zero = refl
  every_not (suc n) = ap (λ b. b && p (a + n)) (every_not n) ∙ not_or_not (some a n fails) (p (a + n))

  pub none_fails : (n : ℕ) → every a n p ≡ true → some a n fails ≡ false
  none_fails n e = not-true _ (sym (every_not n) ∙ e)

  pub every_by : (n : ℕ) (b : Bool) → some a n fails ≡ b → every a n p ≡ not b
  every_by n b e = every_not n ∙ ap not e

  pub every_none : every a 0 p ≡ true
  unfolding every
  every_none = refl

  pub every_more : (n : ℕ) → every a n p ≡ true → p (a + n) ≡ true → every a (n + 1) p ≡ true
  every_more n e f = every_by (n + 1) false (some_more a fails n (none_fails n e) (ap not f))

  pub every_at : (n i : ℕ) → every a n p ≡ true → i < n → p (a + i) ≡ true
  every_at n i e h = not-false _ (some_at a fails n i (none_fails n e) h)

  pub every_in : (n x : ℕ) → every a n p ≡ true → a ≤ x → x < a + n → p x ≡ true
  every_in n x e h k = let q : a + (x - a) ≡ x = omega arith in subst (λ y. p y ≡ true) q (every_at n (x - a) e (omega arith))

  pub every_intro : (n : ℕ) → ((i : ℕ) → i < n → p (a + i) ≡ true) → every a n p ≡ true
  every_intro n f = every_by n false (some_none a fails n (λ i h. ap not (f i h)))

  pub every_fails : (n i : ℕ) → i < n → p (a + i) ≡ false → every a n p ≡ false
  every_fails n i h e = every_by n true (some_has a fails n i h (ap not e))

  pub every_witness : (n : ℕ) → every a n p ≡ false → (i : ℕ) × (i < n) × (p (a + i) ≡ false)
  every_witness n e = let r = some_witness a fails n (not-false _ (sym (every_not n) ∙ e)) in (r.0, r.1, not-true _ r.2)

-- ---- what is built up turn by turn, from a start on, is decided by what each turn adds

range_same : {R X : Type 0} (add : R → X → R) (F G : ℕ → R) (f g : ℕ → X) → F 0 ≡ G 0 → ((k : ℕ) → F (suc k) ≡ add (F k) (f k)) → ((k : ℕ) → G (suc k) ≡ add (G k) (g k))
    → (n : ℕ) → ((i : ℕ) → i < n → f i ≡ g i) → F n ≡ G n
range_same add F G f g z s t zero h = z
range_same add F G f g z s t (suc n) h = s n ∙ ap₂ add (range_same add F G f g z s t n (λ i k. h i (omega arith))) (h n (omega arith)) ∙ sym (t n)

-- ---- picked

pub rises_snoc : (xs : List ℕ) (x : ℕ) → Rises xs → All (λ y. y < x) xs → Rises (xs ++ (x ∷ []))
rises_snoc xs x r a i j h k = ⊎_elim early last (last_or j (length xs) (omega (arith, length-append xs (x ∷ []))))
  where
    early : j < length xs → get_or (xs ++ (x ∷ [])) i 0 < get_or (xs ++ (x ∷ [])) j 0
    early l = omega (arith, get_or-append xs (x ∷ []) 0 i (omega arith), get_or-append xs (x ∷ []) 0 j l, r i j h l)

    last : j ≡ length xs → get_or (xs ++ (x ∷ [])) i 0 < get_or (xs ++ (x ∷ [])) j 0
    last q =
        let l : i < length xs = omega arith in
        let e : get_or (xs ++ (x ∷ [])) j 0 ≡ x = ap (λ n. get_or (xs ++ (x ∷ [])) n 0) q ∙ get_or-append_seam xs x [] 0 in
        omega (arith, get_or-append xs (x ∷ []) 0 i l, All_get_or (λ y. y < x) xs i 0 a l)

-- in a rising list nothing repeats
pub rises_once : (xs : List ℕ) → Rises xs → repeats xs ≡ false
rises_once xs r = repeats_none xs (λ i j h k e. let z : ⊥ = omega (arith, r i j h k) in z)

module _ (a : ℕ) (p : ℕ → Bool) where
  pub picked_all : (P : ℕ → Type 0) (n : ℕ) → ((i : ℕ) → i < n → p (a + i) ≡ true → P (a + i)) → All P (picked a n p)
  unfolding picked
  picked_all P zero f = tt
  picked_all P (suc n) f = All_append P (picked a n p) _ (picked_all P n (λ i h e. f i (omega arith) e)) (go (p (a + n)) refl)
    where
      go : (b : Bool) → p (a + n) ≡ b → All P (cond b ((a + n) ∷ []) [])
      go true e = (f n (omega arith) e, tt)
      go false e = tt

  -- a number of the range that passes stands there
  pub picked_at : (n i : ℕ) → i < n → p (a + i) ≡ true → At (a + i) (picked a n p)
  unfolding picked
  picked_at zero i h e = absurd (not-suc-le-zero h)
  picked_at (suc n) i h e = ⊎_elim (λ k. at_left (a + i) (picked a n p) _ (picked_at n i k e)) last (last_or i n h)
    where
      last : i ≡ n → At (a + i) (picked a n p ++ cond (p (a + n)) ((a + n) ∷ []) [])
      last q =
          at_right (a + i) (picked a n p) (cond (p (a + n)) ((a + n) ∷ []) [])
          (subst (λ b. At (a + i) (cond b ((a + n) ∷ []) [])) (sym (ap (λ x. p (a + x)) (sym q) ∙ e))
          (record { place = 0; place_lt = omega arith; place_is = ap (λ x. a + x) (sym q) }))

  pub picked_in : (n x : ℕ) → a ≤ x → x < a + n → p x ≡ true → At x (picked a n p)
  picked_in n x h k e =
      let q : a + (x - a) ≡ x = omega arith in
      subst (λ y. At y (picked a n p)) q (picked_at n (x - a) (omega arith) (subst (λ y. p y ≡ true) (sym q) e))

  -- what stands there is in the range and passes
  pub picked_passes : (n x : ℕ) → At x (picked a n p) → (a ≤ x) × (x < a + n) × (p x ≡ true)
  picked_passes n x t =
      subst (λ y. (a ≤ y) × (y < a + n) × (p y ≡ true)) t.place_is
      (All_get_or (λ y. (a ≤ y) × (y < a + n) × (p y ≡ true)) (picked a n p) t.place 0
      (picked_all (λ y. (a ≤ y) × (y < a + n) × (p y ≡ true)) n (λ i h e. (omega arith, omega arith, e))) t.place_lt)

  pub picked_none : (n : ℕ) → ((i : ℕ) → i < n → p (a + i) ≡ false) → picked a n p ≡ []
  unfolding picked
  picked_none n f =
      range_same ◌++◌ (λ k. picked a k p) (λ k. []) (λ i. cond (p (a + i)) ((a + i) ∷ []) []) (λ i. []) refl (λ k. refl) (λ k. refl) n (λ i h. ap (λ b. cond b ((a + i) ∷ []) []) (f i h))

  pub picked_length_le : (n : ℕ) → length (picked a n p) ≤ n
  unfolding picked
  picked_length_le zero = omega arith
  picked_length_le (suc n) =
      omega (arith, length-append (picked a n p) (cond (p (a + n)) ((a + n) ∷ []) []), picked_length_le n, go (p (a + n)))
    where
      go : (b : Bool) → length (cond b ((a + n) ∷ []) []) ≤ 1
      go true = omega arith
      go false = omega arith

  pub picked_rises : (n : ℕ) → Rises (picked a n p)
  unfolding picked
  picked_rises zero = λ i j h k. absurd (not-suc-le-zero k)
  picked_rises (suc n) = go (p (a + n)) (picked_rises n)
    where
      go : (b : Bool) → Rises (picked a n p) → Rises (picked a n p ++ cond b ((a + n) ∷ []) [])
      go true r = rises_snoc (picked a n p) (a + n) r (picked_all (λ y. y < a + n) n (λ i h e. omega arith))
      go false r = subst Rises (sym (append-nil (picked a n p))) r

-- ---- agreeing tests and functions

module _ (a : ℕ) (p q : ℕ → Bool) where
  pub some_cong : (n : ℕ) → ((i : ℕ) → i < n → p (a + i) ≡ q (a + i)) → some a n p ≡ some a n q
  unfolding some
  some_cong n f = range_same ◌||◌ (λ k. some a k p) (λ k. some a k q) (λ i. p (a + i)) (λ i. q (a + i)) refl (λ k. refl) (λ k. refl) n f

  pub picked_cong : (n : ℕ) → ((i : ℕ) → i < n → p (a + i) ≡ q (a + i)) → picked a n p ≡ picked a n q
  unfolding picked
  picked_cong n f =
      range_same ◌++◌ (λ k. picked a k p) (λ k. picked a k q) (λ i. cond (p (a + i)) ((a + i) ∷ []) []) (λ i. cond (q (a + i)) ((a + i) ∷ []) []) refl (λ k. refl) (λ k. refl) n
      (λ i h. ap (λ b. cond b ((a + i) ∷ []) []) (f i h))

pub every_cong : (a : ℕ) (p q : ℕ → Bool) (n : ℕ) → ((i : ℕ) → i < n → p (a + i) ≡ q (a + i)) → every a n p ≡ every a n q
every_cong a p q n f = every_not a p n ∙ ap not (some_cong a (λ x. not (p x)) (λ x. not (q x)) n (λ i h. ap not (f i h))) ∙ sym (every_not a q n)

-- the same lists, whatever the numbers they are made of
pub listed_moved : {A : Type 0} (a b : ℕ) (f g : ℕ → A) (n : ℕ) → ((i : ℕ) → i < n → f (a + i) ≡ g (b + i)) → listed a n f ≡ listed b n g
unfolding listed
listed_moved a b f g n h = range_same (λ xs x. xs ++ (x ∷ [])) (λ k. listed a k f) (λ k. listed b k g) (λ i. f (a + i)) (λ i. g (b + i)) refl (λ k. refl) (λ k. refl) n h

pub listed_cong : {A : Type 0} (a : ℕ) (f g : ℕ → A) (n : ℕ) → ((i : ℕ) → i < n → f (a + i) ≡ g (a + i)) → listed a n f ≡ listed a n g
listed_cong a f g n h = listed_moved a a f g n h

pub blocks_moved : {A : Type 0} (a b : ℕ) (f g : ℕ → List A) (n : ℕ) → ((i : ℕ) → i < n → f (a + i) ≡ g (b + i)) → blocks a n f ≡ blocks b n g
unfolding blocks
blocks_moved a b f g n h = range_same ◌++◌ (λ k. blocks a k f) (λ k. blocks b k g) (λ i. f (a + i)) (λ i. g (b + i)) refl (λ k. refl) (λ k. refl) n h

pub blocks_cong : {A : Type 0} (a : ℕ) (f g : ℕ → List A) (n : ℕ) → ((i : ℕ) → i < n → f (a + i) ≡ g (a + i)) → blocks a n f ≡ blocks a n g
blocks_cong a f g n h = blocks_moved a a f g n h

pub total_cong : (a : ℕ) (f g : ℕ → ℕ) (n : ℕ) → ((i : ℕ) → i < n → f (a + i) ≡ g (a + i)) → total a n f ≡ total a n g
unfolding total
total_cong a f g n h = range_same ◌+◌ (λ k. total a k f) (λ k. total a k g) (λ i. f (a + i)) (λ i. g (a + i)) refl (λ k. refl) (λ k. refl) n h

-- the same sums of numbers from 1 to n, where the summands up to m agree
pub total_agree : (f g : ℕ → ℕ) (m n : ℕ) → n ≤ m → ((j : ℕ) → 1 ≤ j → j ≤ m → f j ≡ g j) → total 1 n f ≡ total 1 n g
total_agree f g m n h k = total_cong 1 f g n (λ i l. k (1 + i) (omega arith) (omega arith))

-- ---- listed

module _ {A : Type 0} (a : ℕ) (g : ℕ → A) where
  pub listed_length : (n : ℕ) → length (listed a n g) ≡ n
  unfolding listed
  listed_length zero = refl
  listed_length (suc n) = omega (arith, length-append (listed a n g) (g (a + n) ∷ []), listed_length n)

  pub listed_at : (n i : ℕ) (d : A) → i < n → get_or (listed a n g) i d ≡ g (a + i)
  unfolding listed
  listed_at zero i d h = absurd (not-suc-le-zero h)
  listed_at (suc n) i d h =
      ⊎_elim
      (λ k. get_or-append (listed a n g) (g (a + n) ∷ []) d i (omega (arith, listed_length n)) ∙ listed_at n i d k)
      last
      (last_or i n h)
    where
      last : i ≡ n → get_or (listed a n g ++ (g (a + n) ∷ [])) i d ≡ g (a + i)
      last q =
          ap (λ x. get_or (listed a n g ++ (g (a + n) ∷ [])) x d) (q ∙ sym (listed_length n))
          ∙ get_or-append_seam (listed a n g) (g (a + n)) [] d
          ∙ ap (λ x. g (a + x)) (sym q)

  -- a function that gives a list's elements gives the list back
  pub listed_back : (xs : List A) (d : A) → ((i : ℕ) → i < length xs → g (a + i) ≡ get_or xs i d) → listed a (length xs) g ≡ xs
  listed_back xs d f =
      ext_get_or d (listed a (length xs) g) xs (listed_length (length xs))
      (λ i k. let h : i < length xs = omega (arith, listed_length (length xs)) in listed_at (length xs) i d h ∙ f i h)

pub listed_map : {A B : Type 0} (f : A → B) (a : ℕ) (g : ℕ → A) (n : ℕ) → map f (listed a n g) ≡ listed a n (λ x. f (g x))
unfolding listed
listed_map f a g zero = refl
listed_map f a g (suc n) = map_append f (listed a n g) (g (a + n) ∷ []) ∙ ap (λ xs. xs ++ (f (g (a + n)) ∷ [])) (listed_map f a g n)

-- what every element has, by its index
pub listed_all : {A : Type 0} (P : A → Type 0) (a n : ℕ) (g : ℕ → A) → ((i : ℕ) → i < n → P (g (a + i))) → All P (listed a n g)
unfolding listed
listed_all P a zero g f = tt
listed_all P a (suc n) g f = All_append P (listed a n g) (g (a + n) ∷ []) (listed_all P a n g (λ i h. f i (omega arith))) (f n (omega arith), tt)

-- ---- blocks

-- the lists of a range, joined
pub joined_listed : {A : Type 0} (a : ℕ) (g : ℕ → List A) (n : ℕ) → joined (listed a n g) ≡ blocks a n g
unfolding joined listed blocks
joined_listed a g zero = refl
joined_listed a g (suc n) = joined_last (listed a n g) (g (a + n)) ∙ ap (λ r. r ++ g (a + n)) (joined_listed a g n)

pub joined_mapped : {A B : Type 0} (f : A → List B) (a : ℕ) (g : ℕ → A) (n : ℕ) → joined (map f (listed a n g)) ≡ blocks a n (λ x. f (g x))
joined_mapped f a g n = ap (λ xs. joined xs) (listed_map f a g n) ∙ joined_listed a (λ x. f (g x)) n

-- the blocks of the first k numbers, then those of j more
pub blocks_split : {A : Type 0} (a : ℕ) (g : ℕ → List A) (k j : ℕ) → blocks a (k + j) g ≡ blocks a k g ++ blocks (a + k) j g
unfolding blocks
blocks_split a g k zero = let e : k + 0 ≡ k = omega arith in rw e (sym (append-nil (blocks a k g)))
blocks_split a g k (suc j) =
    let e : k + suc j ≡ suc (k + j) = omega arith in
    let f : a + (k + j) ≡ a + k + j = omega arith in
    rw e (ap₂ ◌++◌ (blocks_split a g k j) (ap g f) ∙ append_assoc (blocks a k g) (blocks (a + k) j g) (g (a + k + j)))

-- some of the blocks are not longer than all of them
pub blocks_inner : {A : Type 0} (a : ℕ) (g : ℕ → List A) (j k n : ℕ) → j + k ≤ n → length (blocks (a + j) k g) ≤ length (blocks a n g)
blocks_inner a g j k n h =
    let q : n ≡ j + k + (n - (j + k)) = omega arith in
    omega (
      arith,
      ap (λ x. length (blocks a x g)) q,
      ap length (blocks_split a g (j + k) (n - (j + k))),
      ap length (blocks_split a g j k),
      length-append (blocks a (j + k) g) (blocks (a + (j + k)) (n - (j + k)) g),
      length-append (blocks a j g) (blocks (a + j) k g),
    )

module _ {A : Type 0} (a : ℕ) (g : ℕ → List A) where
  -- a place in all the blocks is a place in one of them
  pub blocks_cases : (n r : ℕ) → r < length (blocks a n g) → (j : ℕ) × (j < n) × ((t : ℕ) × (t < length (g (a + j))) × (r ≡ length (blocks a j g) + t))
  unfolding blocks
  blocks_cases zero r h = absurd (not-suc-le-zero h)
  blocks_cases (suc n) r h = go (ltb r (length (blocks a n g))) refl (λ k. blocks_cases n r k)
    where
      go : (b : Bool) → ltb r (length (blocks a n g)) ≡ b
          → (r < length (blocks a n g) → (j : ℕ) × (j < n) × ((t : ℕ) × (t < length (g (a + j))) × (r ≡ length (blocks a j g) + t)))
          → (j : ℕ) × (j < suc n) × ((t : ℕ) × (t < length (g (a + j))) × (r ≡ length (blocks a j g) + t))
      go true e ih = let v = ih (ltb-true _ _ e) in (v.0, omega (arith, v.1), v.2)
      go false e ih =
          let k : length (blocks a n g) ≤ r = ltb-false _ _ e in
          (n, omega arith, (r - length (blocks a n g), omega (arith, h, length-append (blocks a n g) (g (a + n))), omega arith))

  pub blocks_fit : (n j : ℕ) → j < n → length (blocks a j g) + length (g (a + j)) ≤ length (blocks a n g)
  unfolding blocks
  blocks_fit zero j h = absurd (not-suc-le-zero h)
  blocks_fit (suc n) j h =
      ⊎_elim
      (λ k. omega (arith, length-append (blocks a n g) (g (a + n)), blocks_fit n j k))
      (λ q. subst (λ x. length (blocks a x g) + length (g (a + x)) ≤ length (blocks a n g ++ g (a + n))) (sym q) (omega (arith, length-append (blocks a n g) (g (a + n)))))
      (last_or j n h)

  pub blocks_at : (n j t : ℕ) (d : A) → j < n → t < length (g (a + j)) → get_or (blocks a n g) (length (blocks a j g) + t) d ≡ get_or (g (a + j)) t d
  unfolding blocks
  blocks_at zero j t d h k = absurd (not-suc-le-zero h)
  blocks_at (suc n) j t d h k =
      ⊎_elim
      (λ l. get_or-append (blocks a n g) (g (a + n)) d _ (omega (arith, blocks_fit n j l)) ∙ blocks_at n j t d l k)
      (λ q. subst (λ x. get_or (blocks a n g ++ g (a + n)) (length (blocks a x g) + t) d ≡ get_or (g (a + x)) t d) (sym q) (get_or-append-add (blocks a n g) (g (a + n)) t d))
      (last_or j n h)

  pub blocks_all : (P : A → Type 0) (n : ℕ) → ((j : ℕ) → j < n → All P (g (a + j))) → All P (blocks a n g)
  unfolding blocks
  blocks_all P zero f = tt
  blocks_all P (suc n) f = All_append P (blocks a n g) (g (a + n)) (blocks_all P n (λ j h. f j (omega arith))) (f n (omega arith))

  pub blocks_length : (n : ℕ) → length (blocks a n g) ≡ total a n (λ x. length (g x))
  unfolding blocks total
  blocks_length zero = refl
  blocks_length (suc n) = length-append (blocks a n g) (g (a + n)) ∙ ap (λ x. x + length (g (a + n))) (blocks_length n)

  -- the same, where the length of each is known
  pub blocks_sized : (f : ℕ → ℕ) (n : ℕ) → ((x : ℕ) → length (g x) ≡ f x) → length (blocks a n g) ≡ total a n f
  blocks_sized f n h = blocks_length n ∙ total_cong a (λ x. length (g x)) f n (λ i k. h (a + i))

  -- rows: blocks of w elements each
  pub rows_length : (w n : ℕ) → ((j : ℕ) → j < n → length (g (a + j)) ≡ w) → length (blocks a n g) ≡ w * n
  unfolding blocks
  rows_length w zero f = omega arith
  rows_length w (suc n) f = omega (arith, length-append (blocks a n g) (g (a + n)), rows_length w n (λ j h. f j (omega arith)), f n (omega arith))

  pub rows_at : (w n j t : ℕ) (d : A) → ((j : ℕ) → j < n → length (g (a + j)) ≡ w) → j < n → t < w → get_or (blocks a n g) (w * j + t) d ≡ get_or (g (a + j)) t d
  rows_at w n j t d f h k =
      subst (λ x. get_or (blocks a n g) (x + t) d ≡ get_or (g (a + j)) t d) (rows_length w j (λ i l. f i (omega arith)))
      (blocks_at n j t d h (omega (arith, f j h)))

-- what stands in a block stands in all of them, and the other way round
module _ (a : ℕ) (g : ℕ → List ℕ) where
  pub blocks_have : (n j x : ℕ) → j < n → At x (g (a + j)) → At x (blocks a n g)
  blocks_have n j x h t = record {
    place = length (blocks a j g) + t.place;
    place_lt = omega (arith, blocks_fit a g n j h, t.place_lt);
    place_is = blocks_at a g n j t.place 0 h t.place_lt ∙ t.place_is;
  }

  pub blocks_from : (n x : ℕ) → At x (blocks a n g) → (j : ℕ) × (j < n) × At x (g (a + j))
  blocks_from n x t =
      let v = blocks_cases a g n t.place t.place_lt in (
        v.0,
        v.1,
        record {
          place = v.2.0;
          place_lt = v.2.1;
          place_is = sym (blocks_at a g n v.0 v.2.0 0 v.1 v.2.1) ∙ ap (λ y. get_or (blocks a n g) y 0) (sym v.2.2) ∙ t.place_is;
        },
      )

-- what holds of all the blocks holds of each
pub blocks_each : {A : Type 0} (P : List A → Type 0) → ((xs ys : List A) → P (xs ++ ys) → P xs × P ys) → (a : ℕ) (g : ℕ → List A) (n j : ℕ) → j < n
    → P (blocks a n g) → P (g (a + j))
unfolding blocks
blocks_each P f a g zero j h q = absurd (not-suc-le-zero h)
blocks_each P f a g (suc n) j h q =
    let r = f (blocks a n g) (g (a + n)) q in
    ⊎_elim (λ k. blocks_each P f a g n j k r.0) (λ e. subst (λ x. P (g (a + x))) (sym e) r.1) (last_or j n h)

-- ---- total

module _ (a : ℕ) (g : ℕ → ℕ) where
  -- a part of the sum and the summand after it
  pub total_fit : (n j : ℕ) → j < n → total a j g + g (a + j) ≤ total a n g
  unfolding total
  total_fit zero j h = absurd (not-suc-le-zero h)
  total_fit (suc n) j h =
      ⊎_elim
      (λ k. omega (arith, total_fit n j k))
      (λ q. subst (λ x. total a x g + g (a + x) ≤ total a n g + g (a + n)) (sym q) (omega arith))
      (last_or j n h)

  pub total_has : (n j : ℕ) → j < n → g (a + j) ≤ total a n g
  total_has n j h = omega (arith, total_fit n j h)

  pub total_grows : (m n : ℕ) → m ≤ n → total a m g ≤ total a n g
  total_grows m n h = go (eqb m n) refl
    where
      go : (b : Bool) → eqb m n ≡ b → total a m g ≤ total a n g
      go true e = subst (λ x. total a m g ≤ total a x g) (eqb-true m n e) (omega arith)
      go false e = let ne : m ≢ n = eqb-false m n e in omega (arith, total_fit n m (omega arith))

  pub total_bound : (w n : ℕ) → ((i : ℕ) → i < n → g (a + i) ≤ w) → total a n g ≤ w * n
  unfolding total
  total_bound w zero f = omega arith
  total_bound w (suc n) f = omega (arith, total_bound w n (λ i h. f i (omega arith)), f n (omega arith))

pub total_mono : (a : ℕ) (f g : ℕ → ℕ) (n : ℕ) → ((i : ℕ) → i < n → f (a + i) ≤ g (a + i)) → total a n f ≤ total a n g
unfolding total
total_mono a f g zero h = omega arith
total_mono a f g (suc n) h = omega (arith, total_mono a f g n (λ i k. h i (omega arith)), h n (omega arith))

-- ---- a loop that goes up: where it starts, and what a turn adds

module _ (a : ℕ) (p : ℕ → Bool) where
  pub some_start : some a 0 p ≡ false
  unfolding some
  some_start = refl

  pub picked_start : picked a 0 p ≡ []
  unfolding picked
  picked_start = refl

  pub picked_yes : (n : ℕ) → p (a + n) ≡ true → picked a (n + 1) p ≡ picked a n p ++ ((a + n) ∷ [])
  unfolding picked
  picked_yes n e = rw add-one (ap (λ b. picked a n p ++ cond b ((a + n) ∷ []) []) e)

  pub picked_no : (n : ℕ) → p (a + n) ≡ false → picked a (n + 1) p ≡ picked a n p
  unfolding picked
  picked_no n e = rw add-one (ap (λ b. picked a n p ++ cond b ((a + n) ∷ []) []) e ∙ append-nil (picked a n p))

module _ {A : Type 0} (a : ℕ) where
  pub listed_start : (g : ℕ → A) → listed a 0 g ≡ []
  unfolding listed
  listed_start g = refl

  pub listed_turn : (g : ℕ → A) (n : ℕ) → listed a (n + 1) g ≡ listed a n g ++ (g (a + n) ∷ [])
  unfolding listed
  listed_turn g n = rw add-one refl

  pub blocks_start : (g : ℕ → List A) → blocks a 0 g ≡ []
  unfolding blocks
  blocks_start g = refl

  pub blocks_turn : (g : ℕ → List A) (n : ℕ) → blocks a (n + 1) g ≡ blocks a n g ++ g (a + n)
  unfolding blocks
  blocks_turn g n = rw add-one refl

module _ (a : ℕ) (g : ℕ → ℕ) where
  pub total_start : total a 0 g ≡ 0
  unfolding total
  total_start = refl

  pub total_turn : (n : ℕ) → total a (n + 1) g ≡ total a n g + g (a + n)
  unfolding total
  total_turn n = rw add-one refl

-- a sum from 1 on, and its last summand
pub total_last : (g : ℕ → ℕ) (l : ℕ) → 1 ≤ l → total 1 l g ≡ total 1 (l - 1) g + g l
total_last g l h =
    let p : l ≡ l - 1 + 1 = omega arith in
    let q : 1 + (l - 1) ≡ l = omega arith in
    ap (λ x. total 1 x g) p ∙ total_turn 1 g (l - 1) ∙ ap (λ x. total 1 (l - 1) g + g x) q

-- `for k in 0..n`, which asks a test t of each k and leaves at the first that fails, or at the first that passes
module _ (p : ℕ → Bool) (n k : ℕ) where
  at_zero : (t b : Bool) → t ≡ p k → t ≡ b → p (0 + k) ≡ b
  at_zero t b e f = rw zero-add (sym e ∙ f)

  pub every_stop : (t : Bool) → k < n → t ≡ p k → not t ≡ true → false ≡ every 0 n p
  every_stop t h e f = sym (every_fails 0 p n k h (at_zero t false e (not-true t f)))

  pub every_turn : (t : Bool) → every 0 k p ≡ true → t ≡ p k → not t ≡ false → every 0 (k + 1) p ≡ true
  every_turn t i e f = every_more 0 p k i (at_zero t true e (not-false t f))

  pub every_end : k ≤ n → n ≤ k → every 0 k p ≡ true → true ≡ every 0 n p
  every_end g h i = sym (at_last (λ j. every 0 j p ≡ true) k n g h i)

  pub some_stop : (t : Bool) → k < n → t ≡ p k → t ≡ true → true ≡ some 0 n p
  some_stop t h e f = sym (some_has 0 p n k h (at_zero t true e f))

  pub some_turn : (t : Bool) → some 0 k p ≡ false → t ≡ p k → t ≡ false → some 0 (k + 1) p ≡ false
  some_turn t i e f = some_more 0 p k i (at_zero t false e f)

  pub some_end : k ≤ n → n ≤ k → some 0 k p ≡ false → false ≡ some 0 n p
  some_end g h i = sym (at_last (λ j. some 0 j p ≡ false) k n g h i)

pub is_in_blocks : (g a n : ℕ) (f : ℕ → List ℕ) → is_in g (blocks a n f) ≡ some a n (λ c. is_in g (f c))
unfolding blocks some is_in
is_in_blocks g a zero f = refl
is_in_blocks g a (suc n) f = is_in_append g (blocks a n f) (f (a + n)) ∙ ap (λ b. b || is_in g (f (a + n))) (is_in_blocks g a n f)

pub some_of_listed : {A : Type 0} (p : A → Bool) (g : ℕ → A) (a n : ℕ) → some_of (listed a n g) p ≡ some a n (λ t. p (g t))
unfolding listed some some_of
some_of_listed p g a zero = refl
some_of_listed p g a (suc n) = some_of_append p (listed a n g) (g (a + n) ∷ []) ∙ ap₂ ◌||◌ (some_of_listed p g a n) (or_nothing (p (g (a + n))))

-- lists over a range that are empty but for a part of it
pub blocks_empty : {A : Type 0} (a : ℕ) (g : ℕ → List A) (n : ℕ) → ((i : ℕ) → i < n → g (a + i) ≡ []) → blocks a n g ≡ []
unfolding blocks
blocks_empty a g n f = range_same ◌++◌ (λ k. blocks a k g) (λ k. []) (λ i. g (a + i)) (λ i. []) refl (λ k. refl) (λ k. refl) n f

pub blocks_part : {A : Type 0} (g : ℕ → List A) (a k n : ℕ) → a + k ≤ n → ((i : ℕ) → i < a → g i ≡ []) → ((i : ℕ) → a + k ≤ i → i < n → g i ≡ []) → blocks 0 n g ≡ blocks a k g
blocks_part g a k n h before after =
    let p : n ≡ a + (k + (n - (a + k))) = omega arith in
    ap (λ x. blocks 0 x g) p
    ∙ blocks_split 0 g a (k + (n - (a + k)))
    ∙ ap₂ ◌++◌ (blocks_empty 0 g a (λ i l. rw zero-add (before i l))) (ap (λ x. blocks x (k + (n - (a + k))) g) (zero-add a) ∙ blocks_split a g k (n - (a + k)))
    ∙ ap (λ xs. blocks a k g ++ xs) (blocks_empty (a + k) g (n - (a + k)) (λ i l. after (a + k + i) (omega arith) (omega arith)))
    ∙ append-nil (blocks a k g)

pub some_next : (a n : ℕ) (p : ℕ → Bool) → some a (n + 1) p ≡ some a n p || p (a + n)
unfolding some
some_next a n p = rw add-one refl

pub picked_some : (a : ℕ) (p : ℕ → Bool) (n : ℕ) → ltb 0 (length (picked a n p)) ≡ some a n p
picked_some a p n = same_test (ltb 0 (length (picked a n p))) (some a n p) there back
  where
    there : ltb 0 (length (picked a n p)) ≡ true → some a n p ≡ true
    there e =
        let w = picked_passes a p n (get_or (picked a n p) 0 0) (record { place = 0; place_lt = ltb-true 0 (length (picked a n p)) e; place_is = refl }) in
        some_in a p n (get_or (picked a n p) 0 0) w.0 w.1 w.2

    back : some a n p ≡ true → ltb 0 (length (picked a n p)) ≡ true
    back e =
        let w = some_witness a p n e in
        let t = picked_at a p n w.0 w.1 w.2 in
        lt-ltb 0 (length (picked a n p)) (omega (arith, t.place_lt))

pub some_swap : (a n : ℕ) (cs : List ℕ) (f : ℕ → ℕ → Bool) → some a n (λ j. some_of cs (f j)) ≡ some_of cs (λ c. some a n (λ j. f j c))
some_swap a n cs f = same_test (some a n (λ j. some_of cs (f j))) (some_of cs (λ c. some a n (λ j. f j c))) there back
  where
    there : some a n (λ j. some_of cs (f j)) ≡ true → some_of cs (λ c. some a n (λ j. f j c)) ≡ true
    there e =
        let w = some_witness a (λ j. some_of cs (f j)) n e in
        let u = some_of_witness (f (a + w.0)) cs 0 w.2 in
        some_of_has (λ c. some a n (λ j. f j c)) cs 0 u.0 u.1 (some_has a (λ j. f j (get_or cs u.0 0)) n w.0 w.1 u.2)

    back : some_of cs (λ c. some a n (λ j. f j c)) ≡ true → some a n (λ j. some_of cs (f j)) ≡ true
    back e =
        let u = some_of_witness (λ c. some a n (λ j. f j c)) cs 0 e in
        let w = some_witness a (λ j. f j (get_or cs u.0 0)) n u.2 in
        some_has a (λ j. some_of cs (f j)) n w.0 w.1 (some_of_has (f (a + w.0)) cs 0 u.0 u.1 w.2)

-- numbers that pass, each as a list of one or none
pub blocks_picked : (a n : ℕ) (p : ℕ → Bool) → blocks 0 n (λ q. cond (p (a + q)) ((a + q) ∷ []) []) ≡ picked a n p
unfolding blocks picked
blocks_picked a zero p = refl
blocks_picked a (suc n) p = ap₂ ◌++◌ (blocks_picked a n p) (ap (λ q. cond (p (a + q)) ((a + q) ∷ []) []) (zero-add n))
