-- Words over the numbers a, a + 1, .., of which there are n: those that pass a test, whether all or some pass, lists and sums over
-- them. Each recurs on the count, the last number outermost, so a turn of a loop that goes up is one unfolding. Assumes nothing.
use Rattle.std.specs.Prelude.{Bool, true, false, ◌&&◌, ◌||◌, cond, List, [], ◌∷◌, ◌++◌, ℕ, zero, suc, ◌+◌, leb}

-- x is a number from 1 to n
unfoldable pub is_up_to : ℕ → ℕ → Bool
is_up_to n x = leb 1 x && leb x n

-- those that pass, rising
unfoldable pub picked : ℕ → ℕ → (ℕ → Bool) → List ℕ
picked a zero p = []
picked a (suc n) p = picked a n p ++ cond (p (a + n)) ((a + n) ∷ []) []

-- all of them pass
unfoldable pub every : ℕ → ℕ → (ℕ → Bool) → Bool
every a zero p = true
every a (suc n) p = every a n p && p (a + n)

-- some of them passes
unfoldable pub some : ℕ → ℕ → (ℕ → Bool) → Bool
some a zero p = false
some a (suc n) p = some a n p || p (a + n)

-- what g makes of each
unfoldable pub listed : {A : Type 0} → ℕ → ℕ → (ℕ → A) → List A
listed a zero g = []
listed a (suc n) g = listed a n g ++ (g (a + n) ∷ [])

-- the lists that g makes of them, one after another
unfoldable pub blocks : {A : Type 0} → ℕ → ℕ → (ℕ → List A) → List A
blocks a zero g = []
blocks a (suc n) g = blocks a n g ++ g (a + n)

-- the sum of what g makes of them
unfoldable pub total : ℕ → ℕ → (ℕ → ℕ) → ℕ
total a zero g = 0
total a (suc n) g = total a n g + g (a + n)
