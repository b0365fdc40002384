-- `part_start_lists::exports::stamp_reach` meets its contract. The invariant: the entries before t are stamped. Assumes nothing.
use mathlib.Core.Path.{◌≡◌}
use mathlib.Core.Logic.{◌⊎◌}
use Prim.Native.Nat.{◌+◌, ◌-◌, ◌≤◌}
use lib.ListN.{get_or}
use Rattle.split_classes.specs.Classes.{has_entry}
use Rattle.part_start_lists.specs.Starting.{Stamped}
use Rattle.part_start_lists.proofs.exports.stamp_reach.Given as goal

abbrev pub invariant-loop-t : goal.invariant-loop-t
invariant-loop-t l =
    let from = get_or l.ends l.q 0 in
    (from ≤ l.t) × ((l.t ≤ get_or l.ends (l.q + 1) 0) ⊎ (l.t ≡ from)) × Stamped l.k l.initial.stamps l.stamps (has_entry l.table from (l.t - from))
