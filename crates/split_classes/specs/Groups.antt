-- How the code links the cells of a row that have the same byte. No public contract rests on this page; the laws in proofs/ tie it to the
-- definitions. Assumes nothing.
--
-- Places are counted from 1 in the links, and 0 is the end: `start` has at k the first place whose byte is k, and `next` at each place the next one
-- of the same byte.
use Rattle.std.specs.Prelude.{◌≡◌, Bool, true, false, List, [], ◌∷◌, ◌++◌, map, ℕ, zero, suc, ◌+◌, ◌-◌, ◌<◌, eqb, get_or}
use Rattle.vocabulary.specs.Bytes.{Bytes, byte_at}
use Rattle.vocabulary.specs.Intervals.{picked, blocks}
use Rattle.vocabulary.specs.Lists.{some_of, All}
use Rattle.split_classes.specs.Classes.{reach_has}

-- the places from link s on, counted from 0, at most n of them
unfoldable pub group : List ℕ → ℕ → ℕ → List ℕ
group next zero s = []
group next (suc n) s = elim (eqb s 0) [ true ↦ [] | false ↦ (s - 1) ∷ group next n (get_or next (s - 1) 0) ]

-- of n places from a on, those whose byte is k, rising
unfoldable pub byte_places : Bytes → ℕ → ℕ → ℕ → List ℕ
byte_places row k a n = picked a n (λ q. eqb (byte_at row q) k)

-- the cells of the row are linked by their byte; of bytes above 18 nothing is said
pub record Grouped (row : Bytes) (cells : ℕ) (start next : List ℕ) : Type 0 where
  pub each : (k : ℕ) → k < 19 → group next cells (get_or start k 0) ≡ byte_places row k 0 cells

-- the numbers of the cells of byte k, counted from `first`
unfoldable pub group_cells : List ℕ → List ℕ → ℕ → ℕ → ℕ → List ℕ
group_cells start next first cells k = map (λ q. first + q) (group next cells (get_or start k 0))

-- the local order by the links: interior, halo, and the imports by their owners
unfoldable pub group_order : List ℕ → List ℕ → ℕ → ℕ → ℕ → List ℕ
group_order start next first cells parts =
    group_cells start next first cells 17 ++ (group_cells start next first cells 18 ++ blocks 1 parts (group_cells start next first cells))

-- all links lead to cells
pub record Linked (cells : ℕ) (start next : List ℕ) : Type 0 where
  pub each : (k : ℕ) → k < 19 → All (λ q. q < cells) (group next cells (get_or start k 0))

-- one of the cells of byte k reaches the cell at place x
unfoldable pub group_reach : List ℕ → List ℕ → Bytes → List ℕ → ℕ → ℕ → ℕ → Bool
group_reach start next table ends cells k x = some_of (group next cells (get_or start k 0)) (λ q. reach_has table ends q x)
