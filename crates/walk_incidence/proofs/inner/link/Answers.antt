-- `walk_incidence::inner::link` meets its contract. Assumes nothing.
use Rattle.walk_incidence.proofs.LinkLaws.{link_told}
use borrow.Author.Rules.{rules}
use Rattle.walk_incidence.proofs.inner.link.Goals as goal

pub returns : goal.returns
returns c = (search link_told, search rules)
