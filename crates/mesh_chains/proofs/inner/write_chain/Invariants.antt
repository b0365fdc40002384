-- `mesh_chains::inner::write_chain` meets its contract. The invariant: noting what is left gives what noting the whole chain gives. Assumes nothing.
use mathlib.Core.Path.{◌≡◌}
use Prim.Native.Nat.{◌+◌, ◌-◌, ◌≤◌, ◌<◌}
use lib.ListN.{length}
use Rattle.mesh.specs.Mesh.{follow}
use Rattle.mesh_chains.specs.Written.{note}
use Rattle.mesh_chains.proofs.inner.write_chain.Given as goal

abbrev pub invariant-loop-t : goal.invariant-loop-t
invariant-loop-t l = (l.t-end ≡ l.from + l.r + 1) × (l.t ≤ l.t-end) × (l.i < 65536) × (length l.items ≡ length l.initial.items) × (length l.seen ≡ length l.initial.seen)
    × (note l.mesh.bytes.now l.r l.seen l.t l.items (follow l.mesh.bytes.now (l.t-end - l.t) l.i) ≡
    note l.mesh.bytes.now l.r l.initial.seen l.from l.initial.items (follow l.mesh.bytes.now (l.r + 1) l.h))

abbrev pub decreases-loop-t : goal.decreases-loop-t
decreases-loop-t l = l.t-end - l.t
