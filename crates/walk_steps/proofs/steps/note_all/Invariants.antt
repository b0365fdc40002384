-- `walk_steps::steps::note_all` meets its contract. The invariant: the numbers so far have the layer. Assumes nothing.
use lib.ListN.{take}
use Rattle.walk_steps.specs.Walking.{Noted, among}
use Rattle.walk_steps.proofs.steps.note_all.Given as goal

abbrev pub invariant-loop-y : goal.invariant-loop-y
invariant-loop-y l = Noted l.k l.initial.layers l.layers (among (take l.y-index l.list))
