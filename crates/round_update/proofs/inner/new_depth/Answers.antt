-- `round_update::inner::new_depth` meets its contract. Assumes nothing.
use Rattle.round_update.proofs.Chosen.{mean_weighed, holds, means, shoals, held_within, means_within, shoals_within}
use borrow.Author.Rules.{rules}
use Rattle.round_update.proofs.inner.new_depth.Goals as goal

pub mean_of-requires : goal.mean_of-requires
mean_of-requires c = (search rules, search mean_weighed)

pub returns-in-Hold : goal.returns-in-Hold
returns-in-Hold c = (search (holds, c.shared_slice_known-3-1.given), search held_within)

pub returns-in-Mean : goal.returns-in-Mean
returns-in-Mean c = (search means, search means_within)

pub returns-in-Shoalest : goal.returns-in-Shoalest
returns-in-Shoalest c = (search shoals, search shoals_within)
