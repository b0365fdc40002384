-- `split_classes::holders::add_reach` meets its contract. The invariant: the entries before t are counted. Assumes nothing.
use mathlib.Core.Path.{◌≡◌}
use mathlib.Core.Logic.{◌⊎◌}
use Prim.Native.Nat.{◌-◌, ◌≤◌}
use Rattle.split_classes.specs.Classes.{has_entry, Raised}
use Rattle.split_classes.proofs.holders.add_reach.Given as goal

abbrev pub invariant-loop-t : goal.invariant-loop-t
invariant-loop-t l = (l.from ≤ l.t) × ((l.t ≤ l.to) ⊎ (l.t ≡ l.from)) × Raised l.k l.initial.stamps l.initial.holders l.stamps l.holders (has_entry l.table l.from (l.t - l.from))

abbrev pub decreases-loop-t : goal.decreases-loop-t
decreases-loop-t l = l.to - l.t
