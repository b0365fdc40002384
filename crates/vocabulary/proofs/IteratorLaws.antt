-- What the library's `all`, `any`, `sum` and `map` over a range or a slice give, in the words of specs/: `every`, `some`, `total`, `listed`, and
-- `every_of`, `some_of`. The last four laws answer the goal of a function that returns such a call. Assumes nothing.
use Rattle.std.specs.Prelude.{◌≡◌, refl, Option, Bool, true, false, ◌&&◌, ◌||◌, List, [], ◌∷◌, ◌++◌, ℕ, zero, suc, ◌+◌, ◌-◌, map, MatchOption, sum_by}
use Rattle.std.proofs.Common.{sym, ap, ap₂, ◌∙◌, zero-add}
use native.Mathlib.Omega.{arith}
use denote.Param.Members.{Mut}
use denote.Ref.{Bor}
use Rattle.std.proofs.iter.Yields.{fronts, nat_range_steps}
use Rattle.std.specs.declared.ops.Range.{Range}
use Rattle.std.specs.Fn.{Called}
use Rattle.std.specs.Iterator.{YieldsThen}
use Rattle.std.specs.Slice.Iter.{iter_rest}
use Rattle.std.specs.declared.slice.Iter.{Iter}
use Rattle.std.specs.List.{range_with_len, FoldsTo, list_all, list_any}
use Rattle.std.proofs.lemmas.Iterator.{YieldsList-from_slice, YieldsList-from_range}
use Rattle.std.proofs.lemmas.Iterator.Search.{all_from_yields_List, any_from_yields_List}
use Rattle.std.proofs.lemmas.List.Folds.{list_all-append}
use Rattle.std.proofs.lemmas.List.Sums.{sum_by-append}
use Rattle.vocabulary.specs.Lists.{some_of, every_of}
use Rattle.vocabulary.specs.Intervals.{every, some, listed, total}
use Rattle.vocabulary.proofs.ListLaws.{and_all, or_nothing, some_of_append, map_append}

-- ---- the library's words in ours

pub every_of_all : {A : Type 0} (p : A → Bool) (xs : List A) → list_all p xs ≡ every_of xs p
unfolding every_of
every_of_all p [] = refl
every_of_all p (x ∷ xs) = ap (λ b. p x && b) (every_of_all p xs)

pub some_of_any : {A : Type 0} (p : A → Bool) (xs : List A) → list_any p xs ≡ some_of xs p
unfolding some_of
some_of_any p [] = refl
some_of_any p (x ∷ xs) = ap (λ b. p x || b) (some_of_any p xs)

pub range_last : (a n : ℕ) → range_with_len a (suc n) ≡ range_with_len a n ++ ((a + n) ∷ [])
range_last a zero = let e : a ≡ a + 0 = omega arith in ap (λ x. x ∷ []) e
range_last a (suc n) = let e : a + 1 + n ≡ a + suc n = omega arith in ap (λ xs. a ∷ xs) (range_last (a + 1) n ∙ ap (λ x. range_with_len (a + 1) n ++ (x ∷ [])) e)

pub every_all : (p : ℕ → Bool) (a n : ℕ) → list_all p (range_with_len a n) ≡ every a n p
unfolding every
every_all p a zero = refl
every_all p a (suc n) =
    ap (λ xs. list_all p xs) (range_last a n)
    ∙ list_all-append p (range_with_len a n) ((a + n) ∷ [])
    ∙ ap₂ ◌&&◌ (every_all p a n) (and_all (p (a + n)))

pub some_any : (p : ℕ → Bool) (a n : ℕ) → list_any p (range_with_len a n) ≡ some a n p
unfolding some some_of
some_any p a zero = refl
some_any p a (suc n) =
    ap (λ xs. list_any p xs) (range_last a n)
    ∙ some_of_any p (range_with_len a n ++ ((a + n) ∷ []))
    ∙ some_of_append p (range_with_len a n) ((a + n) ∷ [])
    ∙ ap₂ ◌||◌ (sym (some_of_any p (range_with_len a n)) ∙ some_any p a n) (or_nothing (p (a + n)))

pub listed_map_range : {A : Type 0} (f : ℕ → A) (a n : ℕ) → map f (range_with_len a n) ≡ listed a n f
unfolding listed
listed_map_range f a zero = refl
listed_map_range f a (suc n) =
    ap (λ xs. map f xs) (range_last a n)
    ∙ map_append f (range_with_len a n) ((a + n) ∷ [])
    ∙ ap (λ xs. xs ++ (f (a + n) ∷ [])) (listed_map_range f a n)

pub total_range : (f : ℕ → ℕ) (a n : ℕ) → sum_by f (range_with_len a n) ≡ total a n f
unfolding total
total_range f a zero = refl
total_range f a (suc n) =
    ap (λ xs. sum_by f xs) (range_last a n)
    ∙ sum_by-append f (range_with_len a n) ((a + n) ∷ [])
    ∙ ap₂ ◌+◌ (total_range f a n) (zero-add (f (a + n)))

-- ---- what a call answers, where `ran` is the call's clause, as c.all.ensures.ran

-- over the elements xs of a slice
module _ {A F : Type 0} {g : Mut F (Bor A × Unit {0}) Bool} {s u : Iter A} {xs : List A} (p : A → Bool) {f : F} {r : Bool} where
  pub every_of_ran :
      (zs : List (Bor A)) × (o : Option (Bor A)) × (j : F) × YieldsThen fronts s zs o u × FoldsTo (λ i x q. Called g i (x, tt) true q) f zs j
      × MatchOption o (r ≡ true) (λ x. (r ≡ false) × ((h : F) × Called g j (x, tt) false h))
      → iter_rest s ≡ xs → ((x : Bor A) (t : Bool) (q : F) → Called g f (x, tt) t q → (q ≡ f) × (t ≡ p x.now)) → r ≡ every_of xs p
  every_of_ran ran y k = all_from_yields_List p u f r ran (YieldsList-from_slice xs y) k ∙ every_of_all p xs

  pub some_of_ran :
      (zs : List (Bor A)) × (o : Option (Bor A)) × (j : F) × YieldsThen fronts s zs o u × FoldsTo (λ i x q. Called g i (x, tt) false q) f zs j
      × MatchOption o (r ≡ false) (λ x. (r ≡ true) × ((h : F) × Called g j (x, tt) true h))
      → iter_rest s ≡ xs → ((x : Bor A) (t : Bool) (q : F) → Called g f (x, tt) t q → (q ≡ f) × (t ≡ p x.now)) → r ≡ some_of xs p
  some_of_ran ran y k = any_from_yields_List p u f r ran (YieldsList-from_slice xs y) k ∙ some_of_any p xs

-- over a range `a..b` of n numbers
module _ {F : Type 0} {g : Mut F (ℕ × Unit {0}) Bool} {a b n : ℕ} {u : Range ℕ} {p : ℕ → Bool} {f : F} {r : Bool} where
  pub every_ran :
      (zs : List ℕ) × (o : Option ℕ) × (j : F) × YieldsThen nat_range_steps (record { start = a; end = b }) zs o u × FoldsTo (λ i x q. Called g i (x, tt) true q) f zs j
      × MatchOption o (r ≡ true) (λ x. (r ≡ false) × ((h : F) × Called g j (x, tt) false h))
      → b - a ≡ n → ((x : ℕ) (t : Bool) (q : F) → Called g f (x, tt) t q → (q ≡ f) × (t ≡ p x)) → r ≡ every a n p
  every_ran ran l k = all_from_yields_List p u f r ran (YieldsList-from_range a b n refl l) k ∙ every_all p a n

  pub some_ran :
      (zs : List ℕ) × (o : Option ℕ) × (j : F) × YieldsThen nat_range_steps (record { start = a; end = b }) zs o u × FoldsTo (λ i x q. Called g i (x, tt) false q) f zs j
      × MatchOption o (r ≡ false) (λ x. (r ≡ true) × ((h : F) × Called g j (x, tt) true h))
      → b - a ≡ n → ((x : ℕ) (t : Bool) (q : F) → Called g f (x, tt) t q → (q ≡ f) × (t ≡ p x)) → r ≡ some a n p
  some_ran ran l k = any_from_yields_List p u f r ran (YieldsList-from_range a b n refl l) k ∙ some_any p a n
