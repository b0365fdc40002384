-- `split_classes::holders::count_holders` meets its contract. The invariant: the first k parts are counted. Assumes nothing.
use Prim.Native.Nat.{◌-◌, ◌≤◌}
use Rattle.split_classes.specs.Classes.{Few, Counted}
use Rattle.split_classes.specs.Groups.{Grouped}
use Rattle.split_classes.proofs.holders.count_holders.Given as goal

abbrev pub invariant-loop-k : goal.invariant-loop-k
invariant-loop-k l =
    (l.k ≤ l.parts) × Few l.k l.stamps × Counted l.owners l.table l.ends l.cells l.k l.holders × Grouped l.owners l.cells l.start l.next

abbrev pub decreases-loop-k : goal.decreases-loop-k
decreases-loop-k l = l.parts - l.k
