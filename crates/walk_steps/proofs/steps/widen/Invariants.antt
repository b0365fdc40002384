-- `walk_steps::steps::widen` meets its contract. The invariant: the bounds hold the numbers so far. Assumes nothing.
use mathlib.Core.Path.{◌≡◌}
use lib.ListN.{take}
use Rattle.walk_steps.specs.Walking.{Widened}
use Rattle.walk_steps.proofs.steps.widen.Given as goal

abbrev pub invariant-loop-y : goal.invariant-loop-y
invariant-loop-y l = (l.r.count ≡ l.initial.r.count) × (l.r.met ≡ l.initial.r.met) × Widened l.initial.r.low l.initial.r.high l.r.low l.r.high (take l.y-index l.list)
