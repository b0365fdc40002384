-- `split_cells::inner::add_group` meets its contract. The invariant: the cells that were followed are added. Assumes nothing.
use mathlib.Core.Path.{◌≡◌}
use Prim.Native.Nat.{◌+◌, ◌-◌, ◌≤◌, ◌<◌}
use lib.ListN.{length}
use Rattle.split_cells.proofs.AddLaws.{Adding}
use Rattle.split_cells.proofs.inner.add_group.Given as goal

abbrev pub invariant-loop-n : goal.invariant-loop-n
invariant-loop-n l =
    (l._n ≤ l.cells) × (l.i < 65536) × (l.t ≤ l.s + l._n) × (length l.list ≡ length l.initial.list) × Adding l.start l.next l.k l.first l.cells l.initial.list l.list l.s l.t l._n l.i

abbrev pub decreases-loop-n : goal.decreases-loop-n
decreases-loop-n l = l.cells - l._n
