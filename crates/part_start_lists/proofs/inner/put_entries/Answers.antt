-- `part_start_lists::inner::put_entries` meets its contract. Assumes nothing.
use native.Mathlib.Omega.{arith}
use Rattle.word_lists.proofs.PutLaws.{list_count, words_count, many_count, put_four}
use Rattle.part_start_lists.proofs.StartCounts.{rows_long, locals_count}
use Rattle.part_start_lists.proofs.inner.put_entries.Goals as goal

pub put_row_ends-u-requires : goal.put_row_ends-u-requires
put_row_ends-u-requires c =
    let pre = c.requires in
    let t = list_count _ _ _ _ _ _ c.put_list-t.ensures pre.2 in
    (omega (arith, pre.0, t), omega (arith, pre.1, t), omega (arith, pre.1), pre.3, omega (arith, pre.1))

pub put_rows-w-requires : goal.put_rows-w-requires
put_rows-w-requires c =
    let pre = c.requires in
    let t = list_count _ _ _ _ _ _ c.put_list-t.ensures pre.2 in
    let u = words_count _ _ _ _ _ _ c.put_row_ends-u.ensures in
    (omega (arith, pre.0, t, u), omega (arith, pre.1, t, u), omega (arith, pre.1), pre.3)

pub put_locals-requires : goal.put_locals-requires
put_locals-requires c =
    let pre = c.requires in
    let t = list_count _ _ _ _ _ _ c.put_list-t.ensures pre.2 in
    let u = words_count _ _ _ _ _ _ c.put_row_ends-u.ensures in
    let w = many_count _ _ _ (rows_long _ _ _ _ _ _) _ _ _ _ c.put_rows-w.ensures in
    (omega (arith, pre.0, t, u, w), omega (arith, pre.1, t, u, w), pre.4, omega (arith, pre.1))

pub returns : goal.returns
returns c =
    let pre = c.requires in
    let order = c.put_list-t.ensures in
    let ends = c.put_row_ends-u.ensures in
    let rows = c.put_rows-w.ensures in
    let sent = c.put_locals.ensures in
    let t = list_count _ _ _ _ _ _ order pre.2 in
    let u = words_count _ _ _ _ _ _ ends in
    let w = many_count _ _ _ (rows_long _ _ _ _ _ _) _ _ _ _ rows in
    let x = locals_count _ _ _ _ _ _ _ pre.4 sent in
    put_four _ _ _ _ _ _ _ _ _ _ _ _ _ _ (omega (arith, pre.0, t, u, w, x)) order ends rows sent
