-- `part_points::points` meets its contract. Assumes nothing.
use mathlib.Core.Path.{refl, ◌∙◌}
use Rattle.layout.proofs.AnswerLaws.{exit_answer, exit_some}
use Rattle.part_calls.specs.Calls.{points_tests_in, points_number, points_answer, points_out}
use Rattle.part_calls.proofs.OpenedLaws.{told_20}
use Rattle.part_points.proofs.PointLaws.{told_refused, all_read, points_room, told_done}
use Rattle.part_points.proofs.points.Goals as goal

pub returns-in_err-s : goal.returns-in_err-s
unfolding points_tests_in points_number points_answer points_out
returns-in_err-s c = told_20 _ _ _ _ _ _ _ c.from_residual.ensures.1 c.in_err-s.ensures.refused

pub returns-in_err-test_points : goal.returns-in_err-test_points
returns-in_err-test_points c =
    let told = told_refused _ _ _ c.in_ok-s.s.opened c.in_ok-s.ensures.opened _ c.in_err-test_points.ensures (exit_some _ _ refl) in
    (exit_answer _ _ _ c.from_residual-in_err-test_points.ensures.1 refl ∙ told.0, told.1)

pub put_points-requires : goal.put_points-requires
put_points-requires c =
    let number = c.in_ok-test_points.ensures in (
      c.sizes_of-sizes.ensures,
      all_read _ _ _ _ _ number refl,
      points_room _ _ _ _ _ number refl _ c.sizes_of-sizes.ensures,
    )

pub returns : goal.returns
returns c = told_done _ _ _ c.in_ok-s.s.opened c.in_ok-s.ensures.opened _ c.in_ok-test_points.ensures refl _ c.sizes_of-sizes.ensures _ c.put_points.ensures
