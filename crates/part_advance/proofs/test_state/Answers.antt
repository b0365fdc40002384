-- `part_advance::test_state` meets its contract. Assumes nothing.
use Rattle.part_advance.proofs.AdvanceLaws.{rest_24, rest_25, rest_26, rest_none}
use Rattle.part_advance.proofs.test_state.Goals as goal

pub returns-then-not-all_taken : goal.returns-then-not-all_taken
returns-then-not-all_taken c = search rest_24

pub returns-then-not-all_written : goal.returns-then-not-all_written
returns-then-not-all_written c = search rest_25

pub returns-then-round-ge-LAST_ROUND : goal.returns-then-round-ge-LAST_ROUND
returns-then-round-ge-LAST_ROUND c = search rest_26

pub returns : goal.returns
returns c = search rest_none
