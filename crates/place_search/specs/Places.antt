-- Where a number stands in a list, and how many numbers are read to find it (F-3): for any list, rising or not. Assumes nothing.
--
-- "finding a cell's place in an import list is to end at the first number not below the one sought, as lists rise."
use Rattle.std.specs.Prelude.{◌≡◌, ◌↔◌, Option, Some, None, false, ◌&&◌, cond, List, [], ◌∷◌, ℕ, suc, ◌+◌, ◌/◌, ◌<◌, ◌≤◌, eqb, ltb, length, get_or, take}
use Rattle.vocabulary.specs.Bytes.{Bytes}
use Rattle.vocabulary.specs.Lists.{is_in, Rises}
use Rattle.layout.specs.Words.{words}

-- how many numbers stand before "the first number not below the one sought", x; all of them where there is none. Its usual name is the lower bound.
unfoldable pub lower_bound : ℕ → List ℕ → ℕ
lower_bound x [] = 0
lower_bound x (y ∷ ys) = cond (ltb y x) (suc (lower_bound x ys)) 0

-- "That number's place, from 1, is the answer if it is the one sought, else none": 0, which is no place. Standard term: position in a sorted list, by its lower bound.
unfoldable pub place_in : ℕ → List ℕ → ℕ
place_in x ys = cond (ltb (lower_bound x ys) (length ys) && eqb (get_or ys (lower_bound x ys) 0) x) (lower_bound x ys + 1) 0

-- "how many numbers were read: all up to that one, or the whole list if there is none". Standard term: number of probes.
unfoldable pub read_for : ℕ → List ℕ → ℕ
read_for x ys = cond (ltb (lower_bound x ys) (length ys)) (lower_bound x ys + 1) (length ys)

-- ---- the calls

-- the numbers of a list in bytes: "a list given or taken is words". Half a word at the end is no number.
unfoldable pub words_in : Bytes → List ℕ
words_in b = words b 0 (length b / 2)

-- what the code answers as a number: a place, from 1, or 0 for none; and what the code answers for such a number
abbrev pub place_number : Option ℕ → ℕ
place_number (Some p) = p
place_number None = 0

unfoldable pub found_at : ℕ → Option ℕ
found_at p = cond (eqb p 0) None (Some p)

-- a count in 32 bits: the greatest number there stands for itself and for every greater one
unfoldable pub saturated : ℕ → ℕ
saturated n = cond (ltb n 4294967296) n 4294967295

-- ---- what holds of them, for every number sought and every list

pub record RightPlace (x : ℕ) (ys : List ℕ) : Type 0 where
  -- every number before the first one not below x is below x, and that first one is not
  pub before_below : (t : ℕ) → t < lower_bound x ys → (t < length ys) × (get_or ys t 0 < x)
  pub not_below : lower_bound x ys < length ys → x ≤ get_or ys (lower_bound x ys) 0
  -- "That number's place, from 1, is the answer if it is the one sought": a place has the number sought
  pub place_there : lower_bound x ys < length ys → get_or ys (lower_bound x ys) 0 ≡ x → place_in x ys ≡ lower_bound x ys + 1
  pub place_has : (p : ℕ) → place_in x ys ≡ suc p → (p < length ys) × (get_or ys p 0 ≡ x)
  -- "none, which in a rising list means that the cell isn't in it"
  pub none_absent : Rises ys → (place_in x ys ≡ 0) ↔ (is_in x ys ≡ false)
  -- "all up to that one, or the whole list if there is none"
  pub read_up_to : lower_bound x ys < length ys → read_for x ys ≡ lower_bound x ys + 1
  pub read_whole : length ys ≤ lower_bound x ys → read_for x ys ≡ length ys
  -- at most the whole list is read, and what was read gives the answer
  pub read_few : read_for x ys ≤ length ys
  pub read_enough : place_in x (take (read_for x ys) ys) ≡ place_in x ys
  -- nothing after the first number not below x is read: whatever stands there, place and count are the same
  pub rest_unread : lower_bound x ys < length ys → (zs : List ℕ) → take (read_for x ys) zs ≡ take (read_for x ys) ys
      → (place_in x zs ≡ place_in x ys) × (read_for x zs ≡ read_for x ys)

pub record PlaceTheorem : Type 0 where
  pub each_list : (x : ℕ) (ys : List ℕ) → RightPlace x ys
  -- the code's answer stands for the place
  pub number_back : (p : ℕ) → place_number (found_at p) ≡ p
  -- a list of less than 8 GiB is counted exactly
  pub count_exact : (b : Bytes) → length b < 8589934592 → (x : ℕ) → saturated (read_for x (words_in b)) ≡ read_for x (words_in b)
