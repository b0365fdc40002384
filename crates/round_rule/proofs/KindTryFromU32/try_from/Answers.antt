-- `round_rule::KindTryFromU32::try_from` meets its contract. Assumes nothing.
use Rattle.round_rule.proofs.KindLaws.{is_hold, is_mean, is_shoalest, is_unknown}
use Rattle.round_rule.proofs.KindTryFromU32.try_from.Goals as goal

pub returns-in-0 : goal.returns-in-0
returns-in-0 c = search is_hold

pub returns-in-1 : goal.returns-in-1
returns-in-1 c = search is_mean

pub returns-in-2 : goal.returns-in-2
returns-in-2 c = search is_shoalest

pub returns-in-3-to-4294967295 : goal.returns-in-3-to-4294967295
returns-in-3-to-4294967295 c = search is_unknown
