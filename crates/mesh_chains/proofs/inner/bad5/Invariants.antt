-- `mesh_chains::inner::bad5` meets its contract. The invariant: no chain of a lower dimension is wrong, and every mark is at most low. Assumes nothing.
use mathlib.Core.Path.{◌≡◌}
use mathlib.Core.Bool.{false}
use Prim.Native.Nat.{◌+◌, ◌-◌, ◌≤◌}
use lib.ListN.{length}
use Rattle.vocabulary.specs.Intervals.{some}
use Rattle.layout.specs.Limits.{most_elements}
use Rattle.mesh.specs.Mesh.{elements, below, bad_chain}
use Rattle.mesh_chains.specs.Written.{MarksBelow}
use Rattle.mesh_chains.proofs.inner.bad5.Given as goal

abbrev pub invariant-loop-k : goal.invariant-loop-k
invariant-loop-k l = (1 ≤ l.k) × (l.k ≤ 1 + l.chains.mesh.top) × (l.k-end ≡ 1 + l.chains.mesh.top) × (l.low ≡ below l.chains.mesh.bytes.now l.k) × (l.low ≤ most_elements)
    × (length l.marks ≡ length l.initial.marks)
    × MarksBelow (elements l.chains.mesh.bytes.now) (l.low + 1) l.marks × (some 1 l.low (bad_chain l.chains.mesh.bytes.now) ≡ false)

abbrev pub decreases-loop-k : goal.decreases-loop-k
decreases-loop-k l = l.k-end - l.k
