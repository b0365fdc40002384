-- `place_search::saturate` meets its contract. Assumes nothing.
use Rattle.place_search.specs.Places.{saturated}
use borrow.Author.Rules.{rules}
use borrow.Author.Tests.{tests}
use Rattle.place_search.proofs.saturate.Goals as goal

pub returns : goal.returns
unfolding saturated
returns c = search (rules, tests)
