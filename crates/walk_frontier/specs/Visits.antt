-- How the code gathers the elements that a step of a walk reaches, each once. No public contract rests on this page. Assumes nothing.
use Rattle.std.specs.Prelude.{◌≡◌, Bool, ◌||◌, ◌&&◌, false, cond, List, [], ◌∷◌, ℕ, ◌≤◌, ◌<◌, eqb, ltb, leb, length, get_or, take}
use Rattle.vocabulary.specs.Bytes.{Bytes}
use Rattle.vocabulary.specs.Lists.{is_in, repeats, All}
use Rattle.layout.specs.Limits.{element_places, most_elements}
use Rattle.mesh.specs.Mesh.{chain}
use Rattle.walk_incidence.specs.declared.inner.Incidence.{Incidence}
use Rattle.walk_incidence.specs.Links.{cells_on}

-- those after lo and up to hi
unfoldable pub between : ℕ → ℕ → List ℕ → List ℕ
between lo hi [] = []
between lo hi (g ∷ gs) = cond (ltb lo g && leb g hi) (g ∷ between lo hi gs) (between lo hi gs)

-- the first n numbers of `found` are the elements that bear the mark v, each once
pub record Frontier (v : ℕ) (marks found : List ℕ) (n : ℕ) : Type 0 where
  pub size : length marks ≡ element_places
  pub room : length found ≡ element_places
  pub top : (y : ℕ) → get_or marks y 0 ≤ v
  pub marked : (y : ℕ) → eqb (get_or marks y 0) v ≡ is_in y (take n found)
  pub once : repeats (take n found) ≡ false
  pub in_range : All (λ y. (1 ≤ y) × (y ≤ most_elements)) (take n found)
  pub count : length (take n found) ≡ n

-- the first n numbers of `found` with those of `rest` are the ones that pass
pub record Toward (found : List ℕ) (n : ℕ) (rest : List ℕ) (p : ℕ → Bool) : Type 0 where
  pub each : (z : ℕ) → is_in z (take n found) || is_in z rest ≡ p z

-- the first n numbers of `found` and those of ys
unfoldable pub with : List ℕ → ℕ → List ℕ → ℕ → Bool
with found n ys z = is_in z (take n found) || is_in z ys

-- the first n numbers of a list still stand at its front, and there are s of them now
pub record Grown (before : List ℕ) (n : ℕ) (after : List ℕ) (s : ℕ) : Type 0 where
  pub more : n ≤ s
  pub front : take n after ≡ take n before

-- what is gathered after the first n numbers of `before`: there are s numbers then, and they are the ones that pass
pub record Added (v : ℕ) (marks before : List ℕ) (n : ℕ) (found : List ℕ) (s : ℕ) (p : ℕ → Bool) : Type 0 where
  pub gathered : Frontier v marks found s
  pub all : Toward found s [] p
  pub few : s ≤ most_elements
  pub grown : Grown before n found s

-- what a step down gathers from the j-th of the cells in `from`: the elements of its chain after lo and up to hi
unfoldable pub down : Bytes → ℕ → ℕ → List ℕ → ℕ → List ℕ
down m lo hi from j = between lo hi (chain m (get_or from j 0))

-- what a step up gathers from the j-th of the elements in `from`: its cells
unfoldable pub up : Incidence → List ℕ → ℕ → List ℕ
up x from j = cells_on x (get_or from j 0)

-- what a step up gathers are elements
pub record Upward (x : Incidence) (from : List ℕ) (n : ℕ) : Type 0 where
  pub each : (j : ℕ) → j < n → All (λ y. (1 ≤ y) × (y ≤ most_elements)) (up x from j)
