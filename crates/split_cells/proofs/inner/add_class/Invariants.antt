-- `split_cells::inner::add_class` meets its contract. The invariant: the cells before q are added. Assumes nothing.
use mathlib.Core.Path.{◌≡◌}
use Prim.Native.Nat.{◌+◌, ◌-◌, ◌≤◌}
use lib.ListN.{length}
use Rattle.vocabulary.specs.Intervals.{blocks}
use Rattle.split_classes.specs.Classes.{of_class, Appended}
use Rattle.split_cells.proofs.inner.add_class.Given as goal

abbrev pub invariant-loop-q : goal.invariant-loop-q
invariant-loop-q l = (l.q ≤ l.cells) × (l.t ≤ l.s + l.q) × (length l.list ≡ length l.initial.list) × Appended l.initial.list l.list l.s l.t (blocks 0 l.q (of_class l.class l.first l.k))

abbrev pub decreases-loop-q : goal.decreases-loop-q
decreases-loop-q l = l.cells - l.q
