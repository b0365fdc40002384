-- `walk_steps::steps::widen` meets its contract. The invariant: the bounds hold the numbers so far. Assumes nothing.
use mathlib.Core.Path.{refl, ◌∙◌}
use Rattle.walk_steps.proofs.WalkLaws.{widen_start, widen_turn}
use borrow.Author.Rules.{rules}
use Rattle.walk_steps.proofs.steps.widen.Goals as goal

pub loop-y-init : goal.loop-y-init
loop-y-init c = (refl, refl, widen_start _ _)

pub loop-y-preserved : goal.loop-y-preserved
loop-y-preserved c = (
  c.widened-r.ensures.0 ∙ c.loop-y.invariant.0,
  c.widened-r.ensures.1 ∙ c.loop-y.invariant.1,
  widen_turn _ _ _ _ _ _ _ _ (search rules) c.loop-y.invariant.2 c.widened-r.ensures.2,
)
