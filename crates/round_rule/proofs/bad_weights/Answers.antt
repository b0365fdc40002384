-- `round_rule::bad_weights` meets its contract. Assumes nothing.
use Rattle.round_rule.proofs.Refusals.{hold_rule, mean_rule, shoalest_rule}
use Rattle.round_rule.proofs.bad_weights.Goals as goal

pub returns-in-Hold : goal.returns-in-Hold
returns-in-Hold c = search hold_rule

pub returns-in-Mean : goal.returns-in-Mean
returns-in-Mean c = search mean_rule

pub returns-in-Shoalest : goal.returns-in-Shoalest
returns-in-Shoalest c = search shoalest_rule
