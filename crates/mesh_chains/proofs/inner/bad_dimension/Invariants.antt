-- `mesh_chains::inner::bad_dimension` meets its contract. The invariant: no chain so far is wrong, and every mark is below e. Assumes nothing.
use mathlib.Core.Path.{◌≡◌}
use mathlib.Core.Bool.{false}
use Prim.Native.Nat.{◌+◌, ◌-◌, ◌≤◌}
use lib.ListN.{length}
use Rattle.vocabulary.specs.Intervals.{some}
use Rattle.layout.specs.Limits.{most_elements}
use Rattle.mesh.specs.Mesh.{elements, bad_chain}
use Rattle.mesh_chains.specs.Written.{MarksBelow}
use Rattle.mesh_chains.proofs.inner.bad_dimension.Given as goal

abbrev pub invariant-loop-e : goal.invariant-loop-e
invariant-loop-e l = (l.low + 1 ≤ l.e) × (l.e ≤ l.low + 1 + l.count) × (l.e-end ≡ l.low + 1 + l.count)
    × (l.low + l.count ≤ elements l.chains.mesh.bytes.now) × (elements l.chains.mesh.bytes.now ≤ most_elements) × (length l.marks ≡ length l.initial.marks)
    × MarksBelow (elements l.chains.mesh.bytes.now) l.e l.marks × (some (l.low + 1) (l.e - (l.low + 1)) (bad_chain l.chains.mesh.bytes.now) ≡ false)

abbrev pub decreases-loop-e : goal.decreases-loop-e
decreases-loop-e l = l.e-end - l.e
