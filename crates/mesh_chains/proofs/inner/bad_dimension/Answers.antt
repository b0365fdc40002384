-- `mesh_chains::inner::bad_dimension` meets its contract. The invariant: no chain so far is wrong, and every mark is below e. Assumes nothing.
use mathlib.Core.Path.{refl}
use Rattle.vocabulary.proofs.ScanLaws.{some_start_from}
use Rattle.mesh_chains.proofs.ElementLaws.{few_elements, dimension_in, row_here, marks_found, marks_all, wrong_found, wrong_turn, wrong_none}
use borrow.Author.Rules.{rules}
use Rattle.mesh_chains.proofs.inner.bad_dimension.Goals as goal

pub loop-e-init : goal.loop-e-init
loop-e-init c =
    let W = c.args.chains.written in (
      search rules,
      search rules,
      search rules,
      dimension_in _ _ _ W _ c.requires.0 c.requires.1 _ _ c.requires.2 c.count_of-count.ensures.0,
      few_elements _ _ _ W,
      refl,
      search rules,
      search some_start_from,
    )

pub row-requires : goal.row-requires
row-requires c =
    row_here _ _ _ c.args.chains.written _ c.requires.0 c.requires.1 _ _ c.requires.2 c.count_of-count.ensures.0 _ c.loop-e.invariant.0 (search rules)

pub returns-then-bad_items : goal.returns-then-bad_items
returns-then-bad_items c = (
  wrong_found _ _ _ c.args.chains.written _ c.requires.0 c.requires.1 _ _ c.requires.2 c.count_of-count.ensures.0 _ c.loop-e.invariant.0 (search rules)
      _ c.row.ensures _ _ _ c.loop-e.invariant.6 c.bad_items.ensures c.if-bad_items.true,
  marks_found _ _ _ c.args.chains.written _ c.requires.0 c.requires.1 _ _ c.requires.2 c.count_of-count.ensures.0 _ c.loop-e.invariant.0 (search rules)
      _ c.row.ensures _ _ _ c.loop-e.invariant.6 c.bad_items.ensures,
)

pub loop-e-preserved : goal.loop-e-preserved
loop-e-preserved c =
    let turned =
    wrong_turn _ _ _ c.args.chains.written _ c.requires.0 c.requires.1 _ _ c.requires.2 c.count_of-count.ensures.0 _ c.loop-e.invariant.0 (search rules)
    _ c.row.ensures _ _ _ c.loop-e.invariant.6 c.bad_items.ensures c.loop-e.invariant.7 c.if-bad_items.false in
    (search rules, search rules, search rules, search rules, search rules, search rules, turned.0, turned.1)

pub returns : goal.returns
returns c =
    let W = c.args.chains.written in (
      wrong_none _ _ _ W _ c.requires.0 c.requires.1 _ _ c.requires.2 c.count_of-count.ensures.0 _ c.loop-e.invariant.0 c.loop-e.invariant.7 (search rules) (search rules),
      marks_all _ _ _ W _ c.requires.0 c.requires.1 _ _ c.requires.2 c.count_of-count.ensures.0 _ c.loop-e.invariant.0 _ c.loop-e.invariant.6 (search rules),
    )
