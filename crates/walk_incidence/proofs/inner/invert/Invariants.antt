-- `walk_incidence::inner::invert` meets its contract. The invariant: the chains of the cells before e are linked. Assumes nothing.
use mathlib.Core.Path.{◌≡◌}
use Prim.Native.Nat.{◌+◌, ◌-◌, ◌≤◌}
use lib.ListN.{length}
use Rattle.vocabulary.specs.Intervals.{blocks}
use Rattle.mesh.specs.Mesh.{chain}
use Rattle.walk_incidence.specs.Links.{links, link_cells}
use Rattle.walk_incidence.proofs.inner.invert.Given as goal

abbrev pub invariant-loop-e : goal.invariant-loop-e
invariant-loop-e l =
    (l.first ≤ l.e) × (l.e ≤ l.first + l.cells) × (l.e-end ≡ l.first + l.cells) × (length l.cell ≡ length l.initial.cell) × (length l.prev ≡ length l.initial.prev)
    × (length l.last ≡ length l.initial.last) ×
    (l.s ≡ length (blocks l.first (l.e - l.first) (chain l.m))) × (links l.s l.cell l.prev l.last ≡ link_cells l.m l.first (l.e - l.first) (links 0 l.initial.cell l.initial.prev l.initial.last))

abbrev pub decreases-loop-e : goal.decreases-loop-e
decreases-loop-e l = l.e-end - l.e
