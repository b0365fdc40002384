-- How start finds the points of a part and the cells at them: along the trails of the points, by the owners. No public contract rests on this page; the laws
-- in proofs/ tie it to the definitions of Split. Assumes nothing.
use Rattle.std.specs.Prelude.{◌≡◌, Bool, true, false, cond, List, ◌∷◌, ◌++◌, map, reverse, ℕ, zero, suc, ◌+◌, ◌-◌, ◌*◌, ◌≤◌, eqb, length, get_or, take, replicate}
use Rattle.vocabulary.specs.Bytes.{Bytes, byte_at}
use Rattle.vocabulary.specs.Lists.{some_of}
use Rattle.vocabulary.specs.Intervals.{picked, listed, blocks, total}
use Rattle.layout.specs.Limits.{record_places}
use Rattle.walk_incidence.specs.declared.inner.Incidence.{Incidence}
use Rattle.walk_incidence.specs.Links.{trail}
use Rattle.split.specs.Split.{Split, points_of, points_in, around_of, point_ends}
use Rattle.part_start_lists.specs.Starting.{local_in}

-- one of some cells has the byte k in a row, which has its places from `first` on
unfoldable pub some_at : Bytes → ℕ → ℕ → List ℕ → Bool
some_at row first k cells = some_of cells (λ y. eqb (byte_at row (y - first)) k)

-- how many entries there are from entry s on, at most n
unfoldable pub trail_count : List ℕ → ℕ → ℕ → ℕ
trail_count prev zero s = 0
trail_count prev (suc n) s = elim (eqb s 0) [ true ↦ 0 | false ↦ suc (trail_count prev n (get_or prev s 0)) ]

-- the cells on the trail of point p
unfoldable pub cells_on : Incidence → ℕ → List ℕ
cells_on inc p = trail inc.cell inc.prev record_places (get_or inc.last p 0)

-- the points up to n with one of their cells in part i, rising
unfoldable pub points_on : Incidence → Bytes → ℕ → ℕ → ℕ → List ℕ
points_on inc owners first i n = picked 1 n (λ p. some_at owners first i (cells_on inc p))

-- they stand at the front of a list
pub record Found (list : List ℕ) (n : ℕ) (points : List ℕ) : Type 0 where
  pub text : take n list ≡ points
  pub there : n ≤ length list

-- how many cells there are at the k-th of some points, from 1 on, and at all up to it
unfoldable pub size_at : Incidence → List ℕ → ℕ → ℕ
size_at inc points k = trail_count inc.prev record_places (get_or inc.last (get_or points (k - 1) 0) 0)

unfoldable pub size_ends : Incidence → List ℕ → ℕ → ℕ
size_ends inc points k = total 1 k (size_at inc points)

-- the cells at the k-th in local numbers, by an array of them
unfoldable pub around_on : Incidence → List ℕ → List ℕ → ℕ → List ℕ
around_on inc local points k = map (local_in local) (cells_on inc (get_or points (k - 1) 0))

-- the words of the first n of some points: how many there are, which, the ends of the cells at them, and these cells
unfoldable pub point_words : Incidence → List ℕ → List ℕ → ℕ → List ℕ
point_words inc local points n =
    (n ∷ take n points) ++ (listed 0 (n + 1) (size_ends inc points) ++ blocks 1 n (around_on inc local points))

-- how many words these are
unfoldable pub word_count : Incidence → List ℕ → ℕ → ℕ
word_count inc points n = 2 * n + 2 + size_ends inc points n

-- the cells at the k-th point of part i by the definitions, falling by global number: in local numbers by an array of them, or zeros
unfoldable pub cell_words : Split → ℕ → List ℕ → Bool → ℕ → List ℕ
cell_words S i local outside k = cond outside (replicate (length (around_of S i k)) 0) (map (local_in local) (reverse (around_of S i k)))

-- all words of the part's points by the definitions
unfoldable pub part_words : Split → ℕ → List ℕ → Bool → List ℕ
part_words S i local outside =
    (points_in S i ∷ points_of S i) ++ (listed 0 (points_in S i + 1) (point_ends S i) ++ blocks 1 (points_in S i) (cell_words S i local outside))
