-- The inputs of document 01's worked examples, for the tables of examples. Assumes nothing.
use Rattle.std.specs.Prelude.{List, [], ◌∷◌, map, ℕ, pos}
use Rattle.vocabulary.specs.Bytes.{Bytes}
use Rattle.vocabulary.specs.Lists.{joined}
use Rattle.layout.specs.Words.{bytes_of}
use Rattle.depths.specs.Depths.{depth_bytes}
use Rattle.split.specs.Lists.{split_input}
use Rattle.part_start_plan.specs.Start.{Inputs}

-- "d = 1; counts 6, 5, 0, 0; R = 10. Heads: six zeros, then 1, 3, 5, 7, 9. Records: (1,2) (2,0) (2,4) (3,0) (3,6) (4,0) (4,8) (5,0) (5,10) (6,0)."
unfoldable pub five : Bytes
five =
    bytes_of (
    1 ∷ 6 ∷ 5 ∷ 0 ∷ 0 ∷ 10
    ∷ 0 ∷ 0 ∷ 0 ∷ 0 ∷ 0 ∷ 0 ∷ 1 ∷ 3 ∷ 5 ∷ 7 ∷ 9
    ∷ 1 ∷ 2 ∷ 2 ∷ 0 ∷ 2 ∷ 4 ∷ 3 ∷ 0 ∷ 3 ∷ 6 ∷ 4 ∷ 0 ∷ 4 ∷ 8 ∷ 5 ∷ 0 ∷ 5 ∷ 10 ∷ 6 ∷ 0
    ∷ []
    )

-- "Triangles 15 (points 1 2 3), 16 (2 3 4), 17 (1 5 6), edges 7 to 14"
unfoldable pub triangles : Bytes
triangles =
    bytes_of (
    2 ∷ 6 ∷ 8 ∷ 3 ∷ 0 ∷ 34
    ∷ 0 ∷ 0 ∷ 0 ∷ 0 ∷ 0 ∷ 0 ∷ 1 ∷ 3 ∷ 5 ∷ 7 ∷ 9 ∷ 11 ∷ 13 ∷ 15 ∷ 17 ∷ 23 ∷ 29
    ∷ 1 ∷ 2 ∷ 2 ∷ 0
    ∷ 2 ∷ 4 ∷ 3 ∷ 0
    ∷ 1 ∷ 6 ∷ 3 ∷ 0
    ∷ 2 ∷ 8 ∷ 4 ∷ 0
    ∷ 3 ∷ 10 ∷ 4 ∷ 0
    ∷ 1 ∷ 12 ∷ 5 ∷ 0
    ∷ 5 ∷ 14 ∷ 6 ∷ 0
    ∷ 1 ∷ 16 ∷ 6 ∷ 0
    ∷ 1 ∷ 18 ∷ 2 ∷ 19 ∷ 3 ∷ 20 ∷ 7 ∷ 21 ∷ 8 ∷ 22 ∷ 9 ∷ 0
    ∷ 2 ∷ 24 ∷ 3 ∷ 25 ∷ 4 ∷ 26 ∷ 8 ∷ 27 ∷ 10 ∷ 28 ∷ 11 ∷ 0
    ∷ 1 ∷ 30 ∷ 5 ∷ 31 ∷ 6 ∷ 32 ∷ 12 ∷ 33 ∷ 13 ∷ 34 ∷ 14 ∷ 0
    ∷ []
    )

-- the bytes of a field
unfoldable pub field : List ℕ → Bytes
field ds = joined (map (λ n. depth_bytes (pos n)) ds)

-- "Mean, weights 2 1, from 100 200 300 400 500"
unfoldable pub five_inputs : Inputs
five_inputs = record {
  split = split_input five 2 (1 ∷ 1 ∷ 1 ∷ 2 ∷ 2 ∷ []) (1 ∷ 0 ∷ 1 ∷ []);
  rule = record { kind = 1; weights = bytes_of (2 ∷ 1 ∷ []) };
  field = field (100 ∷ 200 ∷ 300 ∷ 400 ∷ 500 ∷ []);
}
