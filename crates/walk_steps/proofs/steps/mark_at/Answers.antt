-- `walk_steps::steps::mark_at` meets its contract. Assumes nothing.
use Rattle.walk_steps.proofs.WalkLaws.{mark_whole, mark_step}
use borrow.Author.Rules.{rules}
use Rattle.walk_steps.proofs.steps.mark_at.Goals as goal

pub returns-then-single : goal.returns-then-single
returns-then-single c = (search mark_whole, search rules)

pub returns-else-single : goal.returns-else-single
returns-else-single c = (search mark_step, search rules)
