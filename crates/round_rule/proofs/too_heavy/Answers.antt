-- `round_rule::too_heavy` meets its contract. Assumes nothing.
use Rattle.vocabulary.proofs.IteratorLaws.{some_ran}
use borrow.Author.Rules.{rules}
use borrow.Author.Tests.{tests}
use Rattle.round_rule.specs.Rules.{too_heavy}
use Rattle.round_rule.proofs.too_heavy.Goals as goal

pub returns : goal.returns
unfolding too_heavy
returns c = some_ran c.any.ensures.ran (search rules) (λ x t q k. search (rules, tests))
