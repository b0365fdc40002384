-- `walk_steps::steps::through_one` meets its contract. The invariant: the odd places so far are alike. Assumes nothing.
use mathlib.Core.Path.{refl}
use Rattle.vocabulary.proofs.IntervalLaws.{every_none, every_stop, every_turn, every_end}
use Rattle.walk_steps.specs.Walking.{through_one}
use borrow.Author.Rules.{rules}
use Rattle.walk_steps.proofs.steps.through_one.Goals as goal

-- the loop's own answer is the definition's
pub returns-then-not-is_alike : goal.returns-then-not-is_alike
unfolding through_one
returns-then-not-is_alike c = search every_stop

pub returns : goal.returns
unfolding through_one
returns c = search every_end

pub loop-j-init : goal.loop-j-init
loop-j-init c = (refl, search rules, search every_none)

pub loop-j-preserved : goal.loop-j-preserved
loop-j-preserved c = (search rules, search rules, search every_turn)
