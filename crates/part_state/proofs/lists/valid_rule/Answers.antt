-- `part_state::lists::valid_rule` meets its contract. Assumes nothing.
use Rattle.part_state.proofs.ListChecks.{rule_told, rule_unknown}
use Rattle.part_state.proofs.lists.valid_rule.Goals as goal

pub returns-in-Ok : goal.returns-in-Ok
returns-in-Ok c = search rule_told

pub returns-in-Err : goal.returns-in-Err
returns-in-Err c = search rule_unknown
