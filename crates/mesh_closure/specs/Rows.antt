-- How the code tells by marks whether chains are closed. No public contract rests on this page; the laws in proofs/ tie it to the definitions.
-- Assumes nothing.
use Rattle.std.specs.Prelude.{Bool, List, ℕ, ◌≤◌, ◌<◌, length, get_or}
use Rattle.vocabulary.specs.Bytes.{Bytes}
use Rattle.vocabulary.specs.Lists.{some_of}
use Rattle.mesh.specs.Mesh.{chain}
use Rattle.mesh.specs.Meet.{unlike}

-- some element of the chain of f does not bear the mark v in s
unfoldable pub leaves_by : Bytes → ℕ → List ℕ → ℕ → Bool
leaves_by m v s f = some_of (chain m f) (unlike v s)

-- the numbers of a row are from 1 to n
pub record Names (n : ℕ) (row : List ℕ) : Type 0 where
  pub low : (t : ℕ) → t < length row → 1 ≤ get_or row t 0
  pub high : (t : ℕ) → t < length row → get_or row t 0 ≤ n
