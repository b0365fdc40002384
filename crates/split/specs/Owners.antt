-- How the code tells the owners of cells, by a place among the cells. No public contract rests on this page; the laws in proofs/ tie it to the
-- definitions. Assumes nothing.
use Rattle.std.specs.Prelude.{◌≡◌, Bool, cond, ℕ, eqb, length}
use Rattle.vocabulary.specs.Bytes.{Bytes, byte_at}
use Rattle.vocabulary.specs.Intervals.{is_up_to, some}
use Rattle.split.specs.Split.{owner_at}

-- the cell at place k has a part for its owner, or part i
unfoldable pub valid_owner : ℕ → Bytes → ℕ → Bool
valid_owner parts owners k = is_up_to parts (owner_at owners k)

unfoldable pub owns_at : Bytes → ℕ → ℕ → Bool
owns_at owners i k = eqb (owner_at owners k) i

-- exactly the bytes that own one of the first n cells are marked
pub record OwnersSeen (owners : Bytes) (n : ℕ) (seen : Bytes) : Type 0 where
  pub room : length seen ≡ 256
  pub each : (i : ℕ) → byte_at seen i ≡ cond (some 0 n (owns_at owners i)) 1 0
