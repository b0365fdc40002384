-- `walk_steps::steps::through_one` meets its contract. The invariant: the odd places so far are alike. Assumes nothing.
use mathlib.Core.Path.{◌≡◌}
use mathlib.Core.Bool.{true}
use Prim.Native.Nat.{◌-◌, ◌/◌, ◌≤◌}
use lib.ListN.{length}
use Rattle.vocabulary.specs.Intervals.{every}
use Rattle.walk_steps.specs.Walking.{alike}
use Rattle.walk_steps.proofs.steps.through_one.Given as goal

abbrev pub invariant-loop-j : goal.invariant-loop-j
invariant-loop-j l = (l.j-end ≡ length l.stencil / 2) × (l.j ≤ length l.stencil / 2) × (every 0 l.j (alike l.stencil) ≡ true)

abbrev pub decreases-loop-j : goal.decreases-loop-j
decreases-loop-j l = l.j-end - l.j
