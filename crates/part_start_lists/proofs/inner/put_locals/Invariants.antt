-- `part_start_lists::inner::put_locals` meets its contract. The invariant: the cells before place k are written. Assumes nothing.
use mathlib.Core.Path.{◌≡◌}
use mathlib.Core.List.{map}
use Prim.Native.Nat.{◌+◌, ◌-◌, ◌≤◌}
use lib.ListN.{length, take}
use Rattle.word_lists.specs.Putting.{Put}
use Rattle.part_start_lists.specs.Starting.{local_in}
use Rattle.part_start_lists.proofs.inner.put_locals.Given as goal

abbrev pub invariant-loop-k : goal.invariant-loop-k
invariant-loop-k l = (l.k ≤ l.n) × (l.t ≡ l.s + l.k) × (length l.b ≡ length l.initial.b) × Put l.initial.b l.b l.s l.t (map (local_in l.local) (take l.k l.list))

abbrev pub decreases-loop-k : goal.decreases-loop-k
decreases-loop-k l = l.n - l.k
