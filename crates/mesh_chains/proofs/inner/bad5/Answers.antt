-- `mesh_chains::inner::bad5` meets its contract. The invariant: no chain of a lower dimension is wrong, and every mark is at most low. Assumes nothing.
use mathlib.Core.Path.{refl}
use mathlib.Core.Bool.{true}
use Rattle.vocabulary.proofs.ListLaws.{not_both}
use Rattle.mesh_chains.proofs.ElementLaws.{points_below, points_few, points_marks, points_right, lower_found, lower_turn, lower_end, lower_marks, next_below, next_few, next_marks}
use borrow.Author.Rules.{rules}
use Rattle.mesh_chains.proofs.inner.bad5.Goals as goal

pub loop-k-init : goal.loop-k-init
loop-k-init c = (search rules, search rules, search rules, search points_below, search points_few, refl, search points_marks, search points_right)

pub returns-then-bad_dimension : goal.returns-then-bad_dimension
returns-then-bad_dimension c = (search lower_found, λ q. absurd (not_both true refl q))

pub loop-k-preserved : goal.loop-k-preserved
loop-k-preserved c = (search rules, search rules, search rules, search next_below, search next_few, search rules, search next_marks, search lower_turn)

pub returns : goal.returns
returns c = (search lower_end, λ q. search lower_marks)
