-- `walk_frontier::inner::step_up` meets its contract. The invariant: the cells of the elements so far were gathered. Assumes nothing.
use mathlib.Core.Path.{◌∙◌}
use Rattle.walk_frontier.proofs.VisitLaws.{grown_none, grown_both, step_start, step_turn, up_is, up_fits}
use borrow.Author.Rules.{rules}
use Rattle.walk_frontier.proofs.inner.step_up.Goals as goal

pub loop-j-init : goal.loop-j-init
loop-j-init c = (search rules, search grown_none, search rules, search step_start)

pub visit_trail-s-requires : goal.visit_trail-s-requires
visit_trail-s-requires c = (rw c.cells_at-cells.ensures (up_fits _ _ _ _ _ c.requires.0 (search rules) c.index_at.ensures.0), search rules, search rules)

pub loop-j-preserved : goal.loop-j-preserved
loop-j-preserved c = (
  search rules,
  search grown_both,
  search rules,
  step_turn _ _ _ _ _ _ _ _ _ c.loop-j.invariant.3 (c.cells_at-cells.ensures ∙ up_is _ _ _ _ c.index_at.ensures.0) c.visit_trail-s.ensures.all,
)
