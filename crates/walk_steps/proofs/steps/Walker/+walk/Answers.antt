-- `walk_steps::steps::Walker::walk` meets its contract: by the number of steps, which falls. Assumes nothing.
use native.Mathlib.Omega.{arith}
use lib.ListN.{length-take}
use Rattle.mesh.proofs.WalkLaws.{stencil_parts}
use Rattle.walk_frontier.proofs.VisitLaws.{few}
use Rattle.walk_steps.proofs.WalkLaws.{walk_sides, gathered_as, added_as, notes_room, cells_fit, cells_small, ends_none, ends_more}
use borrow.Author.Rules.{rules}
use Rattle.walk_steps.proofs.steps.Walker.+walk.Goals as goal

pub set_out-met-requires : goal.set_out-met-requires
set_out-met-requires t c = (cells_small _ _ _ _ c.requires.0.ground c.requires.1.each, search rules, search rules)

pub depart-requires : goal.depart-requires
depart-requires t c = (search rules, cells_fit _ _ _ _ c.requires.0.ground c.requires.1.each _ (search rules))

pub returns-then-k-eq0 : goal.returns-then-k-eq0
returns-then-k-eq0 t c =
    ends_none _ _ _ _ _ _ _ _ _ _ _ _ _ _ _ (search rules) c.requires.0.ground c.requires.0.sized.elements_is c.requires.1 c.requires.5 c.if-k-eq0.true c.set_out-met.ensures c.depart.ensures

pub mark_at-mark-requires : goal.mark_at-mark-requires
mark_at-mark-requires t c = (c.requires.3, omega (arith, c.requires.2, (stencil_parts _ _ c.requires.0.ground.stencil).1))

pub shared_ref_as_front-step : goal.shared_ref_as_front-step
shared_ref_as_front-step t c = omega (arith, c.walk-w.ensures.0.count, c.walk-w.ensures.0.room, length-take c.walk-w.result.count c.walk-w.new.space.from)

pub step-n-requires : goal.step-n-requires
step-n-requires t c = (
  c.requires.0,
  c.requires.2,
  walk_sides _ _ _ _ _ _ _ _ _ _ c.requires.0.ground c.requires.1.each c.if-k-eq0.false c.requires.2 c.walk-w.ensures.0,
  gathered_as _ _ _ _ _ c.mark_at-mark.ensures.0 c.walk-w.ensures.0.gathered,
  few _ _ _ _ c.walk-w.ensures.0.gathered,
)

pub arrive-requires : goal.arrive-requires
arrive-requires t c = (
  omega (arith, c.requires.2, (stencil_parts _ _ c.requires.0.ground.stencil).1),
  omega (arith, c.step-n.ensures.grown.more, c.step-n.ensures.gathered.count),
  omega (arith, length-take c.step-n.result c.step-n.new.found),
  notes_room _ _ _ _ _ (search rules) c.step-n.ensures.gathered,
)

pub returns : goal.returns
returns t c =
    ends_more _ _ _ _ _ _ _ _ _ _ _ _ _ _ _ _ _ _ c.requires.0.ground c.requires.1.each c.requires.0.single_is c.requires.2 c.if-k-eq0.false
    c.walk-w.ensures (added_as _ _ _ _ _ _ _ _ c.mark_at-mark.ensures.0 c.step-n.ensures) (search rules) c.arrive.ensures
