-- `round_rule::bad_rule` meets its contract. Assumes nothing.
use Rattle.round_rule.proofs.Refusals.{known_rule, unknown_rule}
use Rattle.round_rule.proofs.bad_rule.Goals as goal

pub returns-in-Ok : goal.returns-in-Ok
returns-in-Ok c = search known_rule

pub returns-in-Err : goal.returns-in-Err
returns-in-Err c = search unknown_rule
