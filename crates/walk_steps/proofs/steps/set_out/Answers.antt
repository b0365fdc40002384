-- `walk_steps::steps::set_out` meets its contract. Assumes nothing.
use Rattle.walk_steps.proofs.NoteLaws.{begin, starts_none, starts_all}
use borrow.Author.Rules.{rules}
use Rattle.walk_steps.proofs.steps.set_out.Goals as goal

pub returns-then-not-single : goal.returns-then-not-single
returns-then-not-single c = (search begin, search starts_none)

pub visit_all-requires : goal.visit_all-requires
visit_all-requires c = (search rules, search begin)

pub returns : goal.returns
returns c = (search rules, search starts_all)
