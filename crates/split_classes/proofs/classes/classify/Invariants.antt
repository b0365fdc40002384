-- `split_classes::classes::classify` meets its contract. The invariant: the cells before q have told what they tell. Assumes nothing.
use Prim.Native.Nat.{◌-◌, ◌≤◌}
use Rattle.split_classes.specs.Classes.{Classed}
use Rattle.split_classes.proofs.classes.classify.Given as goal

abbrev pub invariant-loop-q : goal.invariant-loop-q
invariant-loop-q l = (l.q ≤ l.cells) × Classed l.owners l.table l.ends l.i l.q l.class

abbrev pub decreases-loop-q : goal.decreases-loop-q
decreases-loop-q l = l.cells - l.q
