-- `split::maps::valid_owners` meets its contract. Assumes nothing.
use borrow.Author.Rules.{rules}
use borrow.Author.Tests.{tests}
use Rattle.vocabulary.specs.Intervals.{is_up_to}
use Rattle.vocabulary.proofs.IteratorLaws.{every_of_ran}
use Rattle.split.proofs.maps.valid_owners.Goals as goal

pub returns : goal.returns
returns c = every_of_ran (is_up_to c.args.parts) c.all.ensures.ran (search rules) (λ x t q k. search (rules, tests))
