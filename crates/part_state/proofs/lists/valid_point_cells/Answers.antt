-- `part_state::lists::valid_point_cells` meets its contract. Assumes nothing.
use mathlib.Core.Path.{refl}
use Rattle.vocabulary.proofs.IteratorLaws.{every_ran}
use borrow.Author.Rules.{rules}
use borrow.Author.Tests.{tests}
use Rattle.part_state.proofs.ListChecks.{points_stop, points_rest}
use Rattle.part_state.proofs.lists.valid_point_cells.Goals as goal

pub returns-then-all : goal.returns-then-all
returns-then-all c =
    points_rest _ _ c.requires.counts _ _ c.point_cells_word-at.ensures refl _ (every_ran c.all.ensures.ran (search rules) (λ x t q k. search (rules, tests))) c.if-all.true
    _ (every_ran c.all-then-all.ensures.ran (search rules) (λ x t q k. search (rules, tests)))

pub returns-else-all : goal.returns-else-all
returns-else-all c =
    points_stop _ _ c.requires.counts _ _ c.point_cells_word-at.ensures refl _ (every_ran c.all.ensures.ran (search rules) (λ x t q k. search (rules, tests))) c.if-all.false
