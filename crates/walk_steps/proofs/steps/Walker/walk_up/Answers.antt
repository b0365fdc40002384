-- `walk_steps::steps::Walker::walk_up` meets its contract. Assumes nothing.
use Rattle.walk_steps.proofs.NoteLaws.{gone_up, upwards}
use borrow.Author.Rules.{rules}
use Rattle.walk_steps.proofs.steps.Walker.walk_up.Goals as goal

pub step_up-requires : goal.step_up-requires
step_up-requires c = (upwards _ _ _ _ c.requires.0.ground c.requires.1, search rules, search rules)

pub returns : goal.returns
returns c = record { gathered = search rules; all = gone_up _ _ _ _ _ _ _ _ c.requires.0.ground c.requires.1 c.step_up.ensures.all; few = search rules; grown = search rules }
