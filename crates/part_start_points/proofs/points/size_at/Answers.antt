-- `part_start_points::points::size_at` meets its contract. Assumes nothing.
use mathlib.Core.Path.{refl, ◌∙◌}
use Rattle.part_start_points.proofs.FoundLaws.{size_told}
use Rattle.part_start_points.proofs.TrailSteps.{trail_length}
use borrow.Author.Rules.{rules}
use Rattle.part_start_points.proofs.points.size_at.Goals as goal

pub returns : goal.returns
returns c = (size_told _ _ _ _ _ _ c.get_or-p.ensures refl (c.trail_length.ensures.0 ∙ trail_length _ _ _ _), search rules)
