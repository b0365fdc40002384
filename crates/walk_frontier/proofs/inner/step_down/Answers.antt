-- `walk_frontier::inner::step_down` meets its contract. The invariant: the elements from the cells so far were gathered. Assumes nothing.
use Rattle.walk_frontier.proofs.VisitLaws.{grown_none, grown_both, step_start, step_turn, down_is}
use borrow.Author.Rules.{rules}
use Rattle.walk_frontier.proofs.inner.step_down.Goals as goal

pub loop-j-init : goal.loop-j-init
loop-j-init c = (search rules, search grown_none, search rules, search step_start)

pub loop-j-preserved : goal.loop-j-preserved
loop-j-preserved c = (
  search rules,
  search grown_both,
  search rules,
  step_turn _ _ _ _ _ _ _ _ _ c.loop-j.invariant.3 (down_is _ _ _ _ _ _ _ _ c.requires.1 c.index_at.ensures.0 c.head_of-h.ensures.0) c.visit_chain-s.ensures.all,
)
