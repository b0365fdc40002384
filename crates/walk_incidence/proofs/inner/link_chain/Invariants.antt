-- `walk_incidence::inner::link_chain` meets its contract. The invariant: linking what is left gives what linking the whole chain gives. Assumes nothing.
use mathlib.Core.Path.{◌≡◌}
use mathlib.Core.List.{map}
use Prim.Native.Nat.{◌+◌, ◌-◌, ◌<◌, ◌≤◌}
use lib.ListN.{length}
use Rattle.layout.specs.Limits.{most_records}
use Rattle.mesh.specs.Mesh.{element_in, follow}
use Rattle.walk_incidence.specs.Links.{links, link_all}
use Rattle.walk_incidence.proofs.inner.link_chain.Given as goal

abbrev pub invariant-loop-k : goal.invariant-loop-k
invariant-loop-k l =
    (l._k-end ≡ l.r + 1) × (l.i < 65536) × (length l.cell ≡ length l.initial.cell) × (length l.prev ≡ length l.initial.prev) × (length l.last ≡ length l.initial.last)
    × (l.s + length (follow l.m (l._k-end - l._k) l.i) ≤ most_records) ×
    (link_all l.c (links l.s l.cell l.prev l.last) (map (element_in l.m) (follow l.m (l._k-end - l._k) l.i))
    ≡ link_all l.c (links l.t l.initial.cell l.initial.prev l.initial.last) (map (element_in l.m) (follow l.m (l.r + 1) l.h)))

abbrev pub decreases-loop-k : goal.decreases-loop-k
decreases-loop-k l = l._k-end - l._k
