-- `mesh_closure::inner::bad6` meets its contract. The invariant: every chain so far is closed, and every mark is below e. Assumes nothing.
use mathlib.Core.Path.{◌≡◌}
use mathlib.Core.Bool.{false}
use Prim.Native.Nat.{◌+◌, ◌-◌, ◌≤◌}
use lib.ListN.{length}
use Rattle.vocabulary.specs.Intervals.{some}
use Rattle.layout.specs.Limits.{most_elements}
use Rattle.mesh.specs.Mesh.{unclosed}
use Rattle.mesh_chains.specs.Written.{MarksBelow}
use Rattle.mesh_closure.proofs.inner.bad6.Given as goal

abbrev pub invariant-loop-e : goal.invariant-loop-e
invariant-loop-e l = (1 ≤ l.e) × (l.e ≤ 1 + l.n) × (l.e-end ≡ 1 + l.n) × (l.n ≤ most_elements)
    × (length l.marks ≡ length l.initial.marks) × MarksBelow l.n (l.n + l.e) l.marks × (some 1 (l.e - 1) (unclosed l.chains.mesh.bytes.now) ≡ false)

abbrev pub decreases-loop-e : goal.decreases-loop-e
decreases-loop-e l = l.e-end - l.e
