-- `walk_reach_table::table::reach_of` meets its contract. Assumes nothing.
use mathlib.Core.Path.{refl}
use native.Mathlib.Omega.{arith}
use Rattle.mesh.proofs.WalkLaws.{stencil_parts}
use Rattle.walk_steps.proofs.WalkLaws.{front, one_cell, walk_fresh}
use Rattle.walk_reach_table.proofs.ReachLaws.{layered_by, emitted_cell, high_small, all_clear, ready_by_rows, ready_by_steps}
use borrow.Author.Rules.{rules}
use Rattle.walk_reach_table.proofs.table.reach_of.Goals as goal

pub walk_near-b-requires : goal.walk_near-b-requires
walk_near-b-requires c = ((c.requires.2.rows _ c.in-Some.is).0, c.requires.0.sized.first_is, c.requires.1, (c.requires.2.rows _ c.in-Some.is).1, search rules)

pub emit-requires : goal.emit-requires
emit-requires c = (
  omega (arith, c.requires.0.sized.first_is, c.walk_near-b.ensures.1.starts),
  high_small _ _ _ _ c.requires.0.ground.turned.mesh c.walk_near-b.ensures.1,
  c.walk_near-b.ensures.0.size,
  c.requires.4,
)

pub returns-in-Some : goal.returns-in-Some
returns-in-Some c =
    emitted_cell _ _ _ _ _ _ _ _ c.requires.0.ground c.requires.1 c.walk_near-b.ensures.0 c.walk_near-b.ensures.1 c.requires.0.sized.first_is _ _ _ _
    (λ u C. ready_by_rows _ _ _ _ _ _ _ _ c.in-Some.is c.requires.2 refl refl
    (all_clear _ _ _ _ _ c.walk_near-b.ensures.0.size c.walk_near-b.ensures.1 C))
    c.emit.ensures

pub overflow_sub-walker : goal.overflow_sub-walker
overflow_sub-walker c = omega (arith, (stencil_parts _ _ c.requires.0.ground.stencil).0)

pub walk-b-requires : goal.walk-b-requires
walk-b-requires c = (
  c.requires.0,
  one_cell _ c.args.space.now.from _ _ c.requires.1 (search rules) refl,
  omega (arith, (stencil_parts _ _ c.requires.0.ground.stencil).0),
  c.requires.3,
  c.requires.2.marks_low,
  c.requires.2.steps c.in-None.is,
)

pub emit-requires-in-None : goal.emit-requires-in-None
emit-requires-in-None c = (
  omega (arith, c.requires.0.sized.first_is, c.walk-b.ensures.1.starts),
  high_small _ _ _ _ c.requires.0.ground.turned.mesh c.walk-b.ensures.1,
  c.walk-b.ensures.0.size,
  c.requires.4,
)

pub returns-in-None : goal.returns-in-None
returns-in-None c =
    emitted_cell _ _ _ _ _ _ _ _ c.requires.0.ground c.requires.1
    (layered_by _ _ _ _ _ _ _ _ _ _ (front c.args.space.now.from _ _ (search rules) refl) c.walk-b.ensures.0) c.walk-b.ensures.1 c.requires.0.sized.first_is _ _ _ _
    (λ u C. ready_by_steps _ _ _ _ _ c.in-None.is (walk_fresh _ _ _ _ _ _ _ _ _ _ (omega (arith, (stencil_parts _ _ c.requires.0.ground.stencil).0)) c.walk-b.ensures.0)
    (all_clear _ _ _ _ _ c.walk-b.ensures.0.size c.walk-b.ensures.1 C))
    c.emit-in-None.ensures
