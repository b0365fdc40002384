-- `split_classes::holders::count_part` meets its contract. The invariant: the cells that were followed are counted. Assumes nothing.
use Prim.Native.Nat.{◌-◌, ◌≤◌, ◌<◌}
use Rattle.split_classes.proofs.HolderLaws.{Following}
use Rattle.split_classes.proofs.holders.count_part.Given as goal

abbrev pub invariant-loop-t : goal.invariant-loop-t
invariant-loop-t l =
    (l.s < 65536) × (l._t ≤ l.cells) × Following l.start l.next l.table l.ends l.cells l.k l.initial.stamps l.initial.holders l.stamps l.holders l._t l.s

abbrev pub decreases-loop-t : goal.decreases-loop-t
decreases-loop-t l = l.cells - l._t
