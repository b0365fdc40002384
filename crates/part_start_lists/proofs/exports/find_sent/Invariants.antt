-- `part_start_lists::exports::find_sent` meets its contract. The invariant: the exports to the first j parts are listed and counted. Assumes nothing.
use mathlib.Core.Path.{◌≡◌}
use Prim.Native.Nat.{◌-◌, ◌*◌, ◌≤◌}
use lib.ListN.{length}
use Rattle.layout.specs.Limits.{most_elements}
use Rattle.split_classes.specs.Classes.{Few, Appended}
use Rattle.part_start_lists.specs.Starting.{sent_list, Sent}
use Rattle.part_start_lists.proofs.exports.find_sent.Given as goal

abbrev pub invariant-loop-j : goal.invariant-loop-j
invariant-loop-j l =
    (l.j ≤ l.plan.asked.parts) × Few l.j l.stamps × (l.n ≤ most_elements * l.j) × (length l.list ≡ length l.initial.list) × (length l.sent ≡ length l.initial.sent)
    × Appended l.initial.list l.list 0 l.n (sent_list l.owners l.table l.ends l.plan.asked.part l.plan.asked.first l.plan.asked.cells l.j)
    × Sent l.owners l.table l.ends l.plan.asked.part l.plan.asked.cells l.j l.sent

abbrev pub decreases-loop-j : goal.decreases-loop-j
decreases-loop-j l = l.plan.asked.parts - l.j
