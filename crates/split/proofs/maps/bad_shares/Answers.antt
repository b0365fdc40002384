-- `split::maps::bad_shares` meets its contract. Assumes nothing.
use borrow.Author.Rules.{rules}
use borrow.Author.Tests.{tests}
use Rattle.vocabulary.proofs.IteratorLaws.{some_ran}
use Rattle.split.proofs.MapLaws.{shares_told}
use Rattle.split.proofs.maps.bad_shares.Goals as goal

pub returns : goal.returns
returns c = shares_told _ _ _ _ c.cell_count-cells.ensures.0 _ c.mark_owners.ensures _ (some_ran c.any.ensures.ran (search rules) (λ x t q k. search (rules, tests)))
