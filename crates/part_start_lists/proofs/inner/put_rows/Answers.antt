-- `part_start_lists::inner::put_rows` meets its contract. The invariant: the reaches of the cells before l are written. Assumes nothing.
use native.Mathlib.Omega.{arith}
use mathlib.Core.Path.{refl}
use Rattle.word_lists.proofs.PutLaws.{many_start, many_end, many_room, many_turn}
use Rattle.part_start_lists.proofs.StartCounts.{row_length, rows_long, rows_each}
use borrow.Author.Rules.{rules}
use Rattle.part_start_lists.proofs.inner.put_rows.Goals as goal

pub loop-l-init : goal.loop-l-init
loop-l-init c = (refl, search rules, search rules, search rules, search many_start)

pub put_row-u-requires : goal.put_row-u-requires
put_row-u-requires c =
    let pre = c.requires in
    let w = many_room _ _ _ (rows_long _ _ _ _ _ _) _ (row_length _ _ _ _ _) _ _ _ _ _ c.loop-l.invariant.1 (omega (
      arith,
      c.loop-l.invariant.0,
      c.loop-l-test.true,
    )) pre.0 pre.1 c.loop-l.invariant.3 c.loop-l.invariant.4 in
    (w.0, w.1, c.loop-l.invariant.1, search rows_each)

pub loop-l-preserved : goal.loop-l-preserved
loop-l-preserved c = (
  search rules,
  search rules,
  search rules,
  search rules,
  many_turn _ _ _ (rows_long _ _ _ _ _ _) _ _ _ _ _ _ _ c.loop-l.invariant.1 (omega (
    arith,
    c.loop-l.invariant.0,
    c.loop-l-test.true,
  )) c.requires.0 c.loop-l.invariant.4 c.put_row-u.ensures,
)

pub returns : goal.returns
returns c = search many_end
