-- `part_state::lists::valid_exports` meets its contract. Assumes nothing.
use Rattle.vocabulary.proofs.IteratorLaws.{every_ran}
use borrow.Author.Rules.{rules}
use borrow.Author.Tests.{tests}
use native.Mathlib.Omega.{arith}
use Rattle.part_state.proofs.ListChecks.{export_told}
use Rattle.part_state.proofs.lists.valid_exports.Goals as goal

pub returns : goal.returns
returns c = every_ran c.all.ensures.ran (omega (arith, c.requires.counts.sent_is)) (λ x t q k. search (rules, tests, export_told))
