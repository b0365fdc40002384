-- `split_wanted::inner::cell_words` meets its contract. Assumes nothing.
use Rattle.split_wanted.specs.Giving.{cell_words}
use native.Mathlib.Omega.{arith}
use Rattle.split_wanted.proofs.ListedLaws.{no_cells, chose_none, chose_cells, chose_order, other_few}
use Rattle.mesh.proofs.AcceptedLaws.{cells_few, cells_fit}
use borrow.Author.Rules.{rules}
use Rattle.split_wanted.proofs.inner.cell_words.Goals as goal

pub add_class-requires : goal.add_class-requires
unfolding cell_words
add_class-requires c = (search cells_fit, search rules)

pub add_class-requires-in-Halo : goal.add_class-requires-in-Halo
unfolding cell_words
add_class-requires-in-Halo c = (search cells_fit, search rules)

pub add_order-requires : goal.add_order-requires
unfolding cell_words
add_order-requires c = (search cells_fit, search cells_few, search rules)

pub overflow_cast-j : goal.overflow_cast-j
unfolding cell_words
overflow_cast-j c = record { fits = omega (arith, other_few c.args.wanted c.args.i _ c.requires.3 c.in-Imports.is) }

pub add_class-requires-in-Imports : goal.add_class-requires-in-Imports
unfolding cell_words
add_class-requires-in-Imports c = (search cells_fit, search rules)

pub add_class-requires-in-Exports : goal.add_class-requires-in-Exports
unfolding cell_words
add_class-requires-in-Exports c = (search cells_fit, search rules)

pub returns-in-Interior : goal.returns-in-Interior
unfolding cell_words
returns-in-Interior c = search chose_cells

pub returns-in-Halo : goal.returns-in-Halo
unfolding cell_words
returns-in-Halo c = search chose_cells

pub returns-in-Locals : goal.returns-in-Locals
unfolding cell_words
returns-in-Locals c = search chose_order

pub returns-in-Imports : goal.returns-in-Imports
unfolding cell_words
returns-in-Imports c = search chose_cells

pub returns-in-Exports : goal.returns-in-Exports
unfolding cell_words
returns-in-Exports c = search chose_cells

pub returns-in_default : goal.returns-in_default
returns-in_default c =
    let e = c.in_default in chose_none _ _ _ _ _ _ (no_cells _ _ _ _ _ e.not-Interior e.not-Halo e.not-Locals e.not-Imports e.not-Exports)
