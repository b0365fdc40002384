-- `walk_frontier::inner::visit_all` meets its contract. The invariant: the numbers so far were gathered. Assumes nothing.
use Rattle.walk_frontier.proofs.VisitLaws.{toward_start, list_turn}
use borrow.Author.Rules.{rules}
use Rattle.walk_frontier.proofs.inner.visit_all.Goals as goal

pub loop-y-init : goal.loop-y-init
loop-y-init c = (search rules, search rules, toward_start _ _ _)

pub loop-y-preserved : goal.loop-y-preserved
loop-y-preserved c = (search rules, search rules, list_turn _ _ _ _ _ _ _ (search rules) c.loop-y.invariant.2 c.visit-s.ensures.all)
