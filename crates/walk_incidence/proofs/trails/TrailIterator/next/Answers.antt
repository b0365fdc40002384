-- `walk_incidence::trails::TrailIterator::next` meets its contract. Assumes nothing.
use mathlib.Core.Path.{ap}
use native.Mathlib.Omega.{arith}
use lib.ListN.{length}
use Rattle.walk_incidence.proofs.TrailSteps.{trail_spent, trail_over, trail_next}
use Rattle.walk_incidence.proofs.trails.TrailIterator.next.Goals as goal
use Rattle.walk_incidence.proofs.trails.TrailIterator.next.Goals.{then-self-eq0-via-then-self-eq0, then-self-eq0-via-else-self-eq0+then-self-eq0-2}

pub returns-then-self-eq0-clause-steps : goal.returns-then-self-eq0-clause-steps
returns-then-self-eq0-clause-steps c = elim c.then-self-eq0.branch [
  | then-self-eq0-via-then-self-eq0 w ↦ let e = trail_spent _ _ _ _ w.if-self-eq0.true in (e, e)
  | then-self-eq0-via-else-self-eq0+then-self-eq0-2 w ↦ let e = trail_over _ _ _ _ w.if-self-eq0-2.true in (e, e)
]

pub returns-clause-steps : goal.returns-clause-steps
returns-clause-steps c = trail_next _ _ _ _ _ _ c.if-self-eq0.false c.if-self-eq0-2.false c.get_or-cell.ensures c.get_or.ensures

pub returns-clause-goes : goal.returns-clause-goes
returns-clause-goes c =
    let e = trail_next _ _ _ _ _ _ c.if-self-eq0.false c.if-self-eq0-2.false c.get_or-cell.ensures c.get_or.ensures in
    let l = ap length e in
    record { on = λ f. (tt, tt, omega (arith, l)); keeps = tt; rests = λ f. tt }
