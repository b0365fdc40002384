-- How start finds local numbers: in an array that has each cell's local number at the cell's own. No public contract rests on this page; the
-- laws in proofs/ tie it to `local_of`. Assumes nothing.
use Rattle.std.specs.Prelude.{List, [], ◌∷◌, ℕ, suc, set}

-- the array after the cells of a list have got the numbers after j; of a cell that stands in it twice the first place decides
unfoldable pub numbering : ℕ → List ℕ → List ℕ → List ℕ
numbering j [] local = local
numbering j (c ∷ cs) local = set (numbering (suc j) cs local) c (suc j)
