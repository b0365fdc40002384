-- `part_start_lists::inner::put_front` meets its contract. Assumes nothing.
use native.Mathlib.Omega.{arith}
use Rattle.word_lists.proofs.PutLaws.{put_both}
use Rattle.part_start_lists.proofs.StartLists.{head_count}
use Rattle.part_start_lists.proofs.inner.put_front.Goals as goal

pub put_borders-requires : goal.put_borders-requires
put_borders-requires c =
    let pre = c.requires in
    let s = head_count _ _ _ _ _ _ _ _ _ _ c.put_header-s.ensures in
    (omega (arith, pre.0, s), omega (arith, s), pre.7, pre.8)

pub returns : goal.returns
returns c =
    let head = c.put_header-s.ensures in
    put_both _ _ _ _ _ _ _ _ head c.put_borders.ensures (omega (arith, c.requires.0, head_count _ _ _ _ _ _ _ _ _ _ head))
