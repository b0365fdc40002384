-- Words over a list: membership, the first place of a number, a repeat, tests of the elements, and those that pass. Assumes nothing.
use Rattle.std.specs.Prelude.{◌≡◌, Bool, true, false, ◌&&◌, ◌||◌, cond, List, [], ◌∷◌, ◌++◌, ℕ, zero, suc, ◌<◌, eqb, length, get_or}

-- x stands in the list
unfoldable pub is_in : ℕ → List ℕ → Bool
is_in x [] = false
is_in x (y ∷ ys) = eqb x y || is_in x ys

-- the first place of x, counted from 0; the length where x does not stand there
unfoldable pub place_of : ℕ → List ℕ → ℕ
place_of x [] = zero
place_of x (y ∷ ys) = cond (eqb x y) zero (suc (place_of x ys))

-- the lists of a list, one after another
unfoldable pub joined : {A : Type 0} → List (List A) → List A
joined [] = []
joined (x ∷ xs) = x ++ joined xs

-- some number stands twice
unfoldable pub repeats : List ℕ → Bool
repeats [] = false
repeats (x ∷ xs) = is_in x xs || repeats xs

-- some element passes, all elements pass
unfoldable pub some_of : {A : Type 0} → List A → (A → Bool) → Bool
some_of [] p = false
some_of (x ∷ xs) p = p x || some_of xs p

unfoldable pub every_of : {A : Type 0} → List A → (A → Bool) → Bool
every_of [] p = true
every_of (x ∷ xs) p = p x && every_of xs p

-- the elements that pass (F-2)
unfoldable pub filtered : {A : Type 0} → (A → Bool) → List A → List A
filtered p [] = []
filtered p (x ∷ xs) = cond (p x) (x ∷ filtered p xs) (filtered p xs)

-- every element has the property
abbrev pub All : {A : Type 0} → (A → Type 0) → List A → Type 0
All P [] = Unit {0}
All P (x ∷ xs) = P x × All P xs

-- n zeros
pub record Zeros (n : ℕ) (xs : List ℕ) : Type 0 where
  pub size : length xs ≡ n
  pub each : (i : ℕ) → get_or xs i 0 ≡ 0

-- rising: each number is below every later one
abbrev pub Rises : List ℕ → Type 0
Rises xs = (i j : ℕ) → i < j → j < length xs → get_or xs i 0 < get_or xs j 0
