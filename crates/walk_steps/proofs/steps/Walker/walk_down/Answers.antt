-- `walk_steps::steps::Walker::walk_down` meets its contract. Assumes nothing.
use Rattle.walk_steps.proofs.NoteLaws.{gone_down, low_enough}
use borrow.Author.Rules.{rules}
use Rattle.walk_steps.proofs.steps.Walker.walk_down.Goals as goal

pub step_down-requires : goal.step_down-requires
step_down-requires c =
    (c.requires.1.elements_is, c.requires.1.records_is, search rules, search rules, low_enough _ _ _ c.requires.0 c.requires.2 c.below_of-hi.ensures.0, search rules, search rules)

pub returns : goal.returns
returns c = record {
  gathered = search rules;
  all = gone_down _ _ _ _ _ _ _ _ _ c.requires.0 c.requires.2 c.below_of-lo.ensures.0 c.below_of-hi.ensures.0 c.requires.3 c.step_down.ensures.all;
  few = search rules;
  grown = search rules;
}
