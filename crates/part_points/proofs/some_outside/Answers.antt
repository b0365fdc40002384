-- `part_points::some_outside` meets its contract. Assumes nothing.
use native.Mathlib.Omega.{arith}
use Rattle.vocabulary.proofs.IteratorLaws.{some_ran}
use borrow.Author.Rules.{rules}
use borrow.Author.Tests.{tests}
use Rattle.part_points.proofs.PointLaws.{unread_told}
use Rattle.part_points.proofs.some_outside.Goals as goal

pub returns : goal.returns
returns c = some_ran c.any.ensures.ran (omega (arith, c.requires.counts.around_is)) (λ x t q k. search (rules, tests, unread_told _ _ c.requires _ c.point_cells_word-at.ensures))
