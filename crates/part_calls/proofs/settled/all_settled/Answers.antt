-- `part_calls::settled::all_settled` meets its contract. Assumes nothing.
use Rattle.vocabulary.proofs.IteratorLaws.{every_ran}
use borrow.Author.Rules.{rules}
use borrow.Author.Tests.{tests}
use Rattle.part_calls.proofs.settled.all_settled.Goals as goal

pub returns : goal.returns
returns c = every_ran c.all.ensures.ran (search rules) (λ x t q k. search (rules, tests))
