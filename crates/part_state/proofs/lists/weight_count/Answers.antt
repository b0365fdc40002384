-- `part_state::lists::weight_count` meets its contract. Assumes nothing.
use Rattle.part_state.proofs.ListChecks.{weights_hold, weights_mean, weights_shoalest}
use borrow.Author.Rules.{rules}
use Rattle.part_state.proofs.lists.weight_count.Goals as goal

pub returns-in-Hold : goal.returns-in-Hold
returns-in-Hold c = (search weights_hold, search rules)

pub returns-in-Mean : goal.returns-in-Mean
returns-in-Mean c = (search weights_mean, search rules)

pub returns-in-Shoalest : goal.returns-in-Shoalest
returns-in-Shoalest c = (search weights_shoalest, search rules)
