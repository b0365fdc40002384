-- `mesh_chains::inner::write_marked` meets its contract. The invariant: the chains so far are written down, with nothing amiss. Assumes nothing.
use mathlib.Core.Path.{◌≡◌}
use Prim.Native.Nat.{◌+◌, ◌-◌, ◌≤◌}
use lib.ListN.{length}
use Rattle.mesh_chains.proofs.NoteLaws.{Noting}
use Rattle.mesh_chains.proofs.inner.write_marked.Given as goal

abbrev pub invariant-loop-e : goal.invariant-loop-e
invariant-loop-e l = (1 ≤ l.e) × (l.e ≤ 1 + l.mesh.elements) × (l.e-end ≡ 1 + l.mesh.elements) × (length l.items ≡ length l.initial.items) × (length l.ends ≡ length l.initial.ends)
    × (length l.seen ≡ length l.initial.seen) × Noting l.mesh.bytes.now l.mesh.records l.initial.seen (l.e - 1) l.seen l.end l.items l.ends

abbrev pub decreases-loop-e : goal.decreases-loop-e
decreases-loop-e l = l.e-end - l.e
