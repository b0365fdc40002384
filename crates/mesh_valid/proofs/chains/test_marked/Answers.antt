-- `mesh_valid::chains::test_marked` meets its contract. Assumes nothing.
use mathlib.Core.Path.{sym, ◌∙◌}
use Rattle.vocabulary.proofs.TestLaws.{told_here, told_later}
use Rattle.mesh_valid.proofs.ChainLaws.{past_four, marks_left}
use Rattle.mesh_valid.proofs.chains.test_marked.Goals as goal

pub returns-then-bad5 : goal.returns-then-bad5
returns-then-bad5 c = search (past_four, told_here, told_later)

pub bad6-requires : goal.bad6-requires
bad6-requires c = (sym c.bad5.ensures.0 ∙ c.if-bad5.false, marks_left _ _ _ c.args.chains.mesh.sized.n_is (c.bad5.ensures.1 c.if-bad5.false))

pub returns-then-bad6 : goal.returns-then-bad6
returns-then-bad6 c = search (past_four, told_here, told_later)

pub bad7-requires : goal.bad7-requires
bad7-requires c = (sym c.bad5.ensures.0 ∙ c.if-bad5.false, c.bad6.ensures.1 c.if-bad6.false)

pub returns-then-bad7 : goal.returns-then-bad7
returns-then-bad7 c = search (past_four, told_here, told_later) depth 9 fits 4000

pub returns : goal.returns
returns c = search (past_four, told_later) depth 9 fits 4000
