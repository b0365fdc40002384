-- `walk_steps::steps::Walker::step` meets its contract. Assumes nothing.
use Rattle.walk_steps.proofs.WalkLaws.{dimension_down, stepped_up, stepped_down, side_odd, side_even}
use borrow.Author.Rules.{rules}
use Rattle.walk_steps.proofs.steps.Walker.step.Goals as goal

pub walk_down-requires : goal.walk_down-requires
walk_down-requires c = (
  c.requires.0.ground.turned.mesh,
  c.requires.0.sized,
  dimension_down _ _ _ _ _ c.requires.0.ground c.requires.1 c.if-k-eq1.true c.byte_at-a.ensures,
  search side_odd,
  search rules,
  search rules,
)

pub returns-then-k-eq1 : goal.returns-then-k-eq1
returns-then-k-eq1 c = record { gathered = search rules; all = search stepped_down; few = search rules; grown = search rules }

pub walk_up-requires : goal.walk_up-requires
walk_up-requires c = (search rules, search side_even, search rules, search rules)

pub returns : goal.returns
returns c = record { gathered = search rules; all = stepped_up _ _ _ _ _ _ _ _ _ c.requires.0.ground c.requires.1 c.if-k-eq1.false c.walk_up.ensures.all; few = search rules; grown = search rules }
