-- `walk_frontier::inner::visit_between` meets its contract. Assumes nothing.
use Rattle.walk_frontier.proofs.VisitLaws.{grown_none, between_low, between_high, between_yes}
use borrow.Author.Rules.{rules}
use Rattle.walk_frontier.proofs.inner.visit_between.Goals as goal

pub returns-then-y-lo : goal.returns-then-y-lo
returns-then-y-lo c = record { gathered = search rules; all = search between_low; few = search rules; grown = search grown_none }

pub returns-then-hi-y : goal.returns-then-hi-y
returns-then-hi-y c = record { gathered = search rules; all = search between_high; few = search rules; grown = search grown_none }

pub returns : goal.returns
returns c = record { gathered = search rules; all = search between_yes; few = search rules; grown = search rules }
