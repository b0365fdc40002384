-- `part_start_points::trails::put_trail` meets its contract. The invariant: the rest of the cells completes what is written. Assumes nothing.
use mathlib.Core.Path.{ap, ◌∙◌}
use mathlib.Core.List.{map}
use Rattle.walk_incidence.specs.Trails.{rest}
use Rattle.part_start_lists.specs.Starting.{local_in}
use Rattle.part_start_points.proofs.TrailSteps.{put_left_start, put_left_turn, put_left_over, put_left_room}
use borrow.Author.Rules.{rules}
use Rattle.part_start_points.proofs.trails.put_trail.Goals as goal

pub loop-c-init : goal.loop-c-init
loop-c-init c =
    let e = ap rest c.into_iter-c-iterator.ensures.into_iter_gives ∙ c.cells_at-c-items.ensures in
    (tt, tt, rw e (put_left_start _ _ _))

pub put_one-u-requires : goal.put_one-u-requires
put_one-u-requires c =
    let r = put_left_room _ _ _ _ _ _ _ _ _ c.loop-c.invariant.2 c.in-Some.ensures.steps c.requires.0 c.requires.1 in
    (r.0, r.1, search rules)

pub loop-c-preserved : goal.loop-c-preserved
loop-c-preserved c =
    (tt, tt, put_left_turn _ _ _ _ _ _ _ _ _ _ _ _ c.requires.0 c.loop-c.invariant.2 c.in-Some.ensures.steps c.to_local.ensures c.put_one-u.ensures)

pub returns : goal.returns
returns c = put_left_over _ _ _ _ _ _ c.loop-c.invariant.2 (ap (map (local_in c.args.local.now)) c.in-None.ensures.steps.0)
