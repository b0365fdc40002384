-- `part_points::put_points` meets its contract. The invariant: the points before the k-th are stored. Assumes nothing.
use mathlib.Core.Path.{refl}
use Rattle.vocabulary.proofs.IntervalLaws.{stored_start}
use Rattle.part_points.proofs.PointLaws.{points_turn, points_end}
use borrow.Author.Rules.{rules}
use Rattle.part_points.proofs.put_points.Goals as goal

pub loop-k-init : goal.loop-k-init
loop-k-init c = (refl, search rules, search rules, search rules, search stored_start)

pub loop-k-preserved : goal.loop-k-preserved
loop-k-preserved c = (search rules, search rules, search rules, search rules, search points_turn)

pub returns : goal.returns
returns c = search points_end
