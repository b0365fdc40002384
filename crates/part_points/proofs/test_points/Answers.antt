-- `part_points::test_points` meets its contract. Assumes nothing.
use mathlib.Core.Path.{ap}
use mathlib.Core.Bool.{not}
use Rattle.part_points.proofs.PointLaws.{fitting, rest_24, rest_29, rest_16, rest_none}
use Rattle.part_points.proofs.test_points.Goals as goal

pub returns-then-not-all_taken : goal.returns-then-not-all_taken
returns-then-not-all_taken c = search rest_24

pub some_outside-requires : goal.some_outside-requires
some_outside-requires c = fitting _ _ _ c.args.s.opened _ c.requires

pub returns-then-some_outside : goal.returns-then-some_outside
returns-then-some_outside c = search rest_29

pub returns-then-room-sizes : goal.returns-then-room-sizes
returns-then-room-sizes c =
    rest_16 _ _ _ c.args.s.opened _ c.all_taken.ensures _ (ap not c.if-not-all_taken.false) _ c.some_outside.ensures c.if-some_outside.false _ c.requires c.if-room-sizes.true

pub returns : goal.returns
returns c =
    rest_none _ _ _ c.args.s.opened _ c.all_taken.ensures _ (ap not c.if-not-all_taken.false) _ c.some_outside.ensures c.if-some_outside.false _ c.requires c.if-room-sizes.false
