-- The tests 4 to 7, by the tests that the code makes one after the other. Assumes nothing.
use mathlib.Core.Path.{◌≡◌}
use mathlib.Core.Bool.{cond}
use mathlib.Core.List.{List}
use Prim.Native.Nat.{ℕ, ◌+◌, ◌≤◌}
use native.Mathlib.Omega.{arith}
use lib.ListN.{length}
use Rattle.vocabulary.specs.Lists.{Zeros}
use Rattle.layout.specs.Limits.{element_places, most_records}
use Rattle.mesh.specs.Mesh.{elements, bad4}
use Rattle.mesh.specs.Meet.{Sizes}
use Rattle.mesh_chains.specs.Written.{Places, MarksBelow, Written}

-- test 4 accepts chains that are written down
pub past_four : (m items ends : List ℕ) → Written m items ends → (x k : ℕ) → x ≡ k → x ≡ cond (bad4 m) 4 k
past_four m items ends W x k e = rw W.four e

-- the marks that test 5 leaves
pub marks_left : (m s : List ℕ) (n : ℕ) → n ≡ elements m → MarksBelow (elements m) (elements m + 1) s → MarksBelow n (n + 1) s
marks_left m s n e M = rw e M

-- arrays that are lent are as long as those of the largest mesh
pub lent_places : (m : List ℕ) (d n r : ℕ) (items ends : List ℕ) → Sizes m d n r → most_records ≤ length items → Zeros element_places ends → Places n r items ends
lent_places m d n r items ends z h e = record {
  items_long = omega (arith, z.r_high);
  ends_long = omega (arith, z.n_high, e.size);
  none = e.each 0;
}
