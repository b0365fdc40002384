-- How the code finds a number that is met twice: it marks in an array what it has met. No public contract rests on this page; the laws in
-- proofs/ tie it to the definitions. Beyond the tests only `Sizes` is used, by `Accepted`, and `Under`, by walks. Assumes nothing.
use Rattle.std.specs.Prelude.{Bool, true, false, not, List, [], ◌∷◌, ◌≡◌, ℕ, ◌+◌, ◌≤◌, ◌<◌, eqb, length, get_or, set}
use Rattle.vocabulary.specs.Intervals.{is_up_to}
use Rattle.vocabulary.specs.Bytes.{Bytes}
use Rattle.layout.specs.Limits.{element_places, most_elements, most_records}
use Rattle.mesh.specs.Mesh.{top, below, elements, record_count}

-- what the tests 1 to 3 leave of a mesh's sizes: d, N and R
pub record Sizes (m : Bytes) (d n r : ℕ) : Type 0 where
  pub d_is : d ≡ top m
  pub d_high : d ≤ 3
  pub n_is : n ≡ elements m
  pub n_high : n ≤ most_elements
  -- no element is of a dimension above d
  pub n_last : below m (d + 1) ≡ n
  pub r_is : r ≡ record_count m
  pub r_high : r ≤ most_records

-- the marks of the elements, each below e
pub record Under (e : ℕ) (s : List ℕ) : Type 0 where
  pub size : length s ≡ element_places
  pub each : (i : ℕ) → get_or s i 0 < e

-- whether something was amiss, and the marks then
pub data Met : Type 0 where
  met : Bool → List ℕ → Met

-- meets each number of the list, up to the first that is not from 1 to r or bears the mark v, and marks it with v in s
unfoldable pub meet : ℕ → ℕ → List ℕ → List ℕ → Met
meet v r s [] = met false s
meet v r s (i ∷ is) =
    elim (is_up_to r i) [
      | true ↦ elim (eqb (get_or s i 0) v) [ true ↦ met true s | false ↦ meet v r (set s i v) is ]
      | false ↦ met true s
    ]

-- marks each number of the list with v
unfoldable pub stamp : ℕ → List ℕ → List ℕ → List ℕ
stamp v s [] = s
stamp v s (g ∷ gs) = stamp v (set s g v) gs

-- g does not bear the mark v
unfoldable pub unlike : ℕ → List ℕ → ℕ → Bool
unlike v s g = not (eqb (get_or s g 0) v)
