-- `walk_frontier::inner::visit_trail` meets its contract. The invariant: what was gathered with what is left of the cells is what is wanted. Assumes nothing.
use mathlib.Core.Path.{ap}
use Rattle.walk_incidence.specs.Trails.{rest}
use Rattle.walk_frontier.proofs.VisitLaws.{grown_none, grown_both, toward_start, toward_done, toward_turn}
use borrow.Author.Rules.{rules}
use Rattle.walk_frontier.proofs.inner.visit_trail.Goals as goal

pub loop-c-init : goal.loop-c-init
loop-c-init c =
    let e = ap rest c.into_iter-c-iterator.ensures.into_iter_gives in
    (tt, tt, search rules, search grown_none, search rules, rw e c.requires.0, rw e (toward_start _ _ _))

pub visit-s-requires : goal.visit-s-requires
visit-s-requires c = let A = rw c.in-Some.ensures.steps at c.loop-c.invariant.5 in (search rules, search rules, A.0.0, A.0.1)

pub loop-c-preserved : goal.loop-c-preserved
loop-c-preserved c = (
  tt,
  tt,
  search rules,
  search grown_both,
  search rules,
  (rw c.in-Some.ensures.steps at c.loop-c.invariant.5).1,
  toward_turn _ _ _ _ _ _ _ _ c.in-Some.ensures.steps c.loop-c.invariant.6 c.visit-s.ensures.all,
)

pub returns : goal.returns
returns c = record { gathered = search rules; all = toward_done _ _ _ _ c.in-None.ensures.steps.0 c.loop-c.invariant.6; few = search rules; grown = search rules }
