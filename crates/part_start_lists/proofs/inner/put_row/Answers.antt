-- `part_start_lists::inner::put_row` meets its contract. The invariant: the entries before t are written. Assumes nothing.
use mathlib.Core.Path.{refl}
use Rattle.word_lists.proofs.PutLaws.{blocks_begin}
use Rattle.part_start_lists.proofs.StartCounts.{row_cell, row_near, row_room, row_turn, row_count, row_end}
use borrow.Author.Rules.{rules}
use Rattle.part_start_lists.proofs.inner.put_row.Goals as goal

pub place_at-q-requires : goal.place_at-q-requires
place_at-q-requires c = (search rules, search row_cell)

pub loop-t-init : goal.loop-t-init
loop-t-init c = (search rules, search rules, search rules, search rules, rw c.get_or-from.ensures (blocks_begin _ _ _ _))

pub put_entry-u-requires : goal.put_entry-u-requires
put_entry-u-requires c =
    let pre = c.requires in (
      row_room _ _ _ _ _ _ _ _ c.place_at-q.ensures.0 refl refl _ _ _ _ _ pre.0 c.loop-t.invariant.3
          c.loop-t.invariant.2 c.loop-t.invariant.0 (search rules),
      search rules,
      search rules,
      row_near _ _ _ _ _ _ _ _ c.place_at-q.ensures.0 refl refl _ pre.3 c.loop-t.invariant.0 (search rules),
    )

pub loop-t-preserved : goal.loop-t-preserved
loop-t-preserved c =
    let pre = c.requires in (
      search rules,
      search rules,
      row_count _ _ _ _ _ _ _ _ _ _ c.put_entry-u.ensures c.loop-t.invariant.2 c.loop-t.invariant.0,
      search rules,
      row_turn _ _ _ _ _ _ _ _ c.place_at-q.ensures.0 refl refl _ _ _ _ _ _ _ _ pre.0
          c.loop-t.invariant.0 (search rules) c.loop-t.invariant.2 c.loop-t.invariant.4 c.put_entry-u.ensures,
    )

pub returns : goal.returns
returns c =
    row_end _ _ _ _ _ _ _ _ c.place_at-q.ensures.0 refl refl _ _ _ _ _ _ c.loop-t.invariant.0
    c.loop-t.invariant.1 (search rules) c.loop-t.invariant.4
