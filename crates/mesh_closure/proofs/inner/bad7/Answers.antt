-- `mesh_closure::inner::bad7` meets its contract. Assumes nothing.
use Rattle.std.proofs.lemmas.Iterator.{serves_from_Range}
use Rattle.vocabulary.proofs.IteratorLaws.{some_ran}
use Rattle.mesh.specs.Meet.{unlike}
use Rattle.mesh_closure.proofs.ClosureLaws.{low_room, names_cells, low_marked, bare_all}
use borrow.Author.Rules.{rules}
use borrow.Author.Tests.{tests}
use Rattle.mesh_closure.proofs.inner.bad7.Goals as goal

pub rows_after-requires : goal.rows_after-requires
rows_after-requires c = low_room _ _ _ c.args.chains.written c.requires.0 _ _ _ c.args.chains.mesh.sized.d_is c.args.chains.mesh.sized.n_is c.below_of-low.ensures.0

pub stamp_items-requires : goal.stamp_items-requires
stamp_items-requires c =
    names_cells _ _ _ c.args.chains.written c.requires.0 _ _ _ c.args.chains.mesh.sized.d_is c.args.chains.mesh.sized.n_is c.below_of-low.ensures.0 _ c.rows_after.ensures _ _ c.requires.1

pub any-requires-clause-callable : goal.any-requires-clause-callable
any-requires-clause-callable c =
    let marked =
    low_marked _ _ _ c.args.chains.written c.requires.0 _ _ _ c.args.chains.mesh.sized.d_is c.args.chains.mesh.sized.n_is c.below_of-low.ensures.0 _
    c.rows_after.ensures _ _ _ c.requires.1 c.stamp_items.ensures in
    serves_from_Range (λ x q k. search (rules, tests)) (λ x h k. search rules)

pub returns : goal.returns
unfolding unlike
returns c =
    bare_all _ _ _ c.args.chains.written c.requires.0 _ _ _ c.args.chains.mesh.sized.d_is c.args.chains.mesh.sized.n_is c.below_of-low.ensures.0 _
    c.rows_after.ensures _ _ _ c.requires.1 c.stamp_items.ensures
    _ (some_ran c.any.ensures.ran (search rules) (λ x t q k. search (rules, tests)))
