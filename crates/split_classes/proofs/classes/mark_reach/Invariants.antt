-- `split_classes::classes::mark_reach` meets its contract. The invariant: the entries before t are marked. Assumes nothing.
use mathlib.Core.Path.{◌≡◌}
use mathlib.Core.Logic.{◌⊎◌}
use Prim.Native.Nat.{◌-◌, ◌≤◌}
use lib.ListN.{length}
use Rattle.split_classes.proofs.ClassLaws.{Passing}
use Rattle.split_classes.proofs.classes.mark_reach.Given as goal

abbrev pub invariant-loop-t : goal.invariant-loop-t
invariant-loop-t l = (l.from ≤ l.t) × ((l.t ≤ l.to) ⊎ (l.t ≡ l.from)) × (length l.class ≡ length l.initial.class) × Passing l.owners l.table l.i l.from l.t l.inside l.initial.class l.class

abbrev pub decreases-loop-t : goal.decreases-loop-t
decreases-loop-t l = l.to - l.t
